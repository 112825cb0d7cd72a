use Rattle.std.proofs.Common.{ℤ, List, Some, None, map, ap, ◌∙◌, to_z, of_z, SFits, rules}
use Rattle.std.specs.Prelude.{option_map}
use Rattle.std.proofs.lemmas.Int.{to_z-of_z}
use Rattle.std.specs.Int.{w64}
use Rattle.intersection.specs.Adoption.{ends_of}
use Rattle.intersection.specs.Adopted.{adopted}
use Rattle.intersection.proofs.AdoptionLaws.{adopted_is, found_unique}
use Rattle.intersection.proofs.adopting.Sweep.adopt.Goals as goal

pub returns-in_err-lo-clause-value : goal.returns-in_err-lo-clause-value
returns-in_err-lo-clause-value c =
    let s : List (ℤ × ℤ) = map ends_of c.args.s.now in
    ap (option_map ends_of) c.from_residual.ensures ∙ found_unique s None (adopted s) c.in_err-lo.ensures (adopted_is s)

pub returns-clause-value : goal.returns-clause-value
returns-clause-value c =
    let s : List (ℤ × ℤ) = map ends_of c.args.s.now in
    let lo_fits : SFits w64 c.in_ok-lo.lo = search rules in
    let hi_fits : SFits w64 c.in_ok-hi.hi = search rules in
    ap (λ v. Some (v, to_z w64 (of_z w64 c.in_ok-hi.hi))) (to_z-of_z w64 c.in_ok-lo.lo lo_fits)
    ∙ ap (λ v. Some (c.in_ok-lo.lo, v)) (to_z-of_z w64 c.in_ok-hi.hi hi_fits)
    ∙ found_unique s (Some (c.in_ok-lo.lo, c.in_ok-hi.hi)) (adopted s) (record { least = c.in_ok-lo.ensures; greatest = c.in_ok-hi.ensures }) (adopted_is s)
