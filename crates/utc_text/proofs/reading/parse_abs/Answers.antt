use Rattle.std.proofs.Common.{sym, ◌∙◌, Err}
use Rattle.utc_text.proofs.ReadLaws.{absolute_only, absolute_found}
use Rattle.utc_text.proofs.AbsoluteFault.{absolute_fault}
use Rattle.utc_text.proofs.OnlyFault.{absolute_only_fault}
use Rattle.utc_text.proofs.reading.parse_abs.Goals as goal

pub returns-clause-spelled : goal.returns-clause-spelled
returns-clause-spelled c u = (λ e. absolute_found c.args.text.now u (sym c.read_absolute.ensures ∙ e), λ s. c.read_absolute.ensures ∙ absolute_only c.args.text.now u s)

pub returns-clause-first_wrong : goal.returns-clause-first_wrong
returns-clause-first_wrong c fault =
    (λ e. absolute_fault c.args.text.now (Err fault) (sym e ∙ c.read_absolute.ensures), absolute_only_fault c.args.text.now c.read_absolute.result c.read_absolute.ensures fault)
