use Rattle.std.proofs.Common.{rules, ◌≡◌, Some, FitsSigned, w16, ap, ◌∙◌}
use Rattle.std.proofs.lemmas.Int.{to_z-of_z}
use Rattle.utc_routines.specs.Arithmetic.{difference_kind, kept_tdf}
use Rattle.utc_routines.proofs.LeastLemmas.{subtracts, kept_tdf_fits}
use Rattle.utc_routines.proofs.arithmetic.difference_of.Goals as goal

pub made-requires-clause-tdf : goal.made-requires-clause-tdf
made-requires-clause-tdf c =
    let fits : FitsSigned w16 c.kept_tdf.result = search rules in
    let passed : FitsSigned w16 c.tdf.result = search rules in
    let kinds : difference_kind c.args.a.kind c.args.b.kind ≡ Some c.in-Some.kind = search rules in
    let kept : c.kept_tdf.result ≡ kept_tdf c.in-Some.kind c.args.a.tdf =
    (simp to_z-of_z at c.kept_tdf.ensures) ∙ ap (kept_tdf c.in-Some.kind) c.tdf.ensures.value in
    simp to_z-of_z (rw kept (kept_tdf_fits c.args.a.kind c.args.b.kind c.in-Some.kind c.args.a.tdf kinds c.tdf.ensures.in_range.tdf_fits))

pub returns-clause-ok : goal.returns-clause-ok
returns-clause-ok c =
    rw c.made.ensures (subtracts c.args.a c.args.b _ (search rules) (search rules) (search rules) (search rules))
