use Rattle.std.proofs.Common.{sym, ap, ◌∙◌}
use Rattle.line_reader.specs.Fields.{Cut}
use Rattle.utc_calculator.proofs.Operands.{has_word}
use Rattle.utc_calculator.proofs.reading.parse.Goals as goal

pub returns-in-None-clause-err : goal.returns-in-None-clause-err
returns-in-None-clause-err c = absurd (has_word c.args.line.now (ap (λ (cut : Cut). cut.left) (sym c.new-fields.ensures) ∙ c.in-None.ensures.next.0))
