use Rattle.std.proofs.Common.{rules, ◌≡◌, FitsSigned, pos}
use Rattle.std.proofs.lemmas.Int.{to_z-of_z}
use Rattle.std.specs.Int.{int_div_euclid}
use mir.Syntax.{w128}
use Rattle.utc_routines.proofs.TightestLemmas.{half_of}
use Rattle.utc_routines.proofs.parts.half.Goals as goal

pub returns : goal.returns
returns c =
    let fits : FitsSigned w128 c.args.sum = c.ranges.sum in
    let result_fits : FitsSigned w128 c.div_euclid.result = search rules in
    let quotient : c.div_euclid.result ≡ int_div_euclid c.args.sum (pos 2) = simp to_z-of_z at c.div_euclid.ensures in
    simp to_z-of_z (rw quotient (half_of c.args.sum))
