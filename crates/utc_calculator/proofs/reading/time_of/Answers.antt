use Rattle.std.proofs.Common.{sym, ◌∙◌}
use Rattle.utc_calculator.proofs.Settled.{told_relative, told_absolute}
use Rattle.utc_calculator.proofs.reading.time_of.Goals as goal

pub returns-then-is_relative_form-clause-err : goal.returns-then-is_relative_form-clause-err
returns-then-is_relative_form-clause-err c =
    told_relative c.args.text.now c.in-Err.fault c.in-Err-parse_rel.fault (sym c.is_relative_form.ensures ∙ c.if-is_relative_form.true)
    ((c.parse_abs.ensures.first_wrong c.in-Err.fault).0 c.in-Err.is) ((c.parse_rel.ensures.first_wrong c.in-Err-parse_rel.fault).0 c.in-Err-parse_rel.is)

pub returns-else-is_relative_form-clause-err : goal.returns-else-is_relative_form-clause-err
returns-else-is_relative_form-clause-err c =
    told_absolute c.args.text.now c.in-Err.fault c.in-Err-parse_rel.fault (sym c.is_relative_form.ensures ∙ c.if-is_relative_form.false)
    ((c.parse_abs.ensures.first_wrong c.in-Err.fault).0 c.in-Err.is) ((c.parse_rel.ensures.first_wrong c.in-Err-parse_rel.fault).0 c.in-Err-parse_rel.is)
