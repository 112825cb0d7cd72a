use Rattle.utc_calculator.proofs.Settled.{printed_or_not, refused_before}
use Rattle.utc_calculator.proofs.laws.every_line_is_answered_or_refused.Goals as goal

pub returns-in-Ok : goal.returns-in-Ok
returns-in-Ok c = printed_or_not c.args.line.now c.in-Ok.outcome c.is_written.result c.in-Ok.ensures.ok c.is_written.ensures

pub returns-in_default : goal.returns-in_default
returns-in_default c = refused_before c.args.line.now c.in_default.field-0 c.in_default.ensures.err
