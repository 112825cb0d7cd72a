use Rattle.std.proofs.Common.{refl, FitsSigned, to_z-of_z}
use Rattle.std.proofs.lemmas.Result.{err_from_is_err_and}
use mir.Syntax.{w16}
use Rattle.utc_text.specs.Texts.{IsPrintable}
use Rattle.utc_text.specs.declared.fault.PrintFault.TheVariants.{TdfRange, YearRange, NoMemory}
use Rattle.utc_text.proofs.PrintAnswers.{shown, reads_back, only_memory, as_civil, moved}
use Rattle.utc_text.proofs.printing.print_any.Goals as goal

pub returns-in_err-c-clause-tdf : goal.returns-in_err-c-clause-tdf
returns-in_err-c-clause-tdf c =
    let fits16 : FitsSigned w16 c.args.tdf = c.ranges.tdf in
    let p = err_from_is_err_and c.from_residual.result c.from_residual.ensures.1 in
    rw (p.1, p.2) (moved c.in_err-c.field-0.0 TdfRange _ (simp to_z-of_z at c.in_err-c.ensures.tdf))

pub returns-in_err-c-clause-year : goal.returns-in_err-c-clause-year
returns-in_err-c-clause-year c =
    let fits16 : FitsSigned w16 c.args.tdf = c.ranges.tdf in
    let p = err_from_is_err_and c.from_residual.result c.from_residual.ensures.1 in
    rw (p.1, p.2) (moved c.in_err-c.field-0.0 YearRange _ (simp to_z-of_z at c.in_err-c.ensures.year))

pub returns-in_err-c-clause-memory : goal.returns-in_err-c-clause-memory
returns-in_err-c-clause-memory c =
    let p = err_from_is_err_and c.from_residual.result c.from_residual.ensures.1 in
    rw (p.1, p.2) (λ e. absurd (c.in_err-c.ensures.memory (as_civil c.in_err-c.field-0.0 NoMemory e)))

pub returns-clause-text : goal.returns-clause-text
returns-clause-text c =
    let fits16 : FitsSigned w16 c.args.tdf = c.ranges.tdf in
    let value = simp to_z-of_z at c.in_ok-c.ensures.value in
    let printable : IsPrintable c.args.u c.args.tdf = (simp to_z-of_z at c.in_ok-c.ensures.succeeds).0 refl in
    let text = simp (to_z-of_z, c.inaccuracy.ensures.value) at c.print_civil.ensures.text in
    shown c.print_civil.result c.in_ok-c.c c.args.u.time c.args.tdf c.args.u.inaccuracy value.0 printable.tdf_in c.inaccuracy.ensures.in_range.inaccuracy_fits value.1 text

pub returns-clause-reads_back : goal.returns-clause-reads_back
returns-clause-reads_back c =
    let fits16 : FitsSigned w16 c.args.tdf = c.ranges.tdf in
    let value = simp to_z-of_z at c.in_ok-c.ensures.value in
    let printable : IsPrintable c.args.u c.args.tdf = (simp to_z-of_z at c.in_ok-c.ensures.succeeds).0 refl in
    let text = simp (to_z-of_z, c.inaccuracy.ensures.value) at c.print_civil.ensures.text in
    reads_back c.print_civil.result c.in_ok-c.c c.args.u.time c.args.tdf c.args.u.inaccuracy value.0 printable.tdf_in c.inaccuracy.ensures.in_range.inaccuracy_fits value.1 text

pub returns-clause-tdf : goal.returns-clause-tdf
returns-clause-tdf c =
    let fits16 : FitsSigned w16 c.args.tdf = c.ranges.tdf in
    let printable : IsPrintable c.args.u c.args.tdf = (simp to_z-of_z at c.in_ok-c.ensures.succeeds).0 refl in
    (λ e. absurd (only_memory c.print_civil.result TdfRange c.print_civil.ensures.err (λ x. cc) e), λ p. absurd (p.1 printable.tdf_in))

pub returns-clause-year : goal.returns-clause-year
returns-clause-year c =
    let fits16 : FitsSigned w16 c.args.tdf = c.ranges.tdf in
    let printable : IsPrintable c.args.u c.args.tdf = (simp to_z-of_z at c.in_ok-c.ensures.succeeds).0 refl in
    (λ e. absurd (only_memory c.print_civil.result YearRange c.print_civil.ensures.err (λ x. cc) e), λ p. absurd (p.2 printable.year))

pub returns-clause-memory : goal.returns-clause-memory
returns-clause-memory c =
    let fits16 : FitsSigned w16 c.args.tdf = c.ranges.tdf in
    let printable : IsPrintable c.args.u c.args.tdf = (simp to_z-of_z at c.in_ok-c.ensures.succeeds).0 refl in
    λ e. printable
