use Rattle.wire_show.proofs.Steps.{on_ok}
use Rattle.wire_show.proofs.Tables.{context_from}
use Rattle.wire_show.proofs.lines.FieldLines.context.Goals as goal

pub returns : goal.returns
returns c = on_ok c.repeat.result _ _ c.repeat.ensures (λ last e. context_from e c.args.self.now c.field.new.self c.field-2.new.self c.fields.new.self c.repeat.new.self c.front-count.result c.in_ok-field.ensures c.front-count.ensures c.in_ok-field-2.ensures c.in_ok-fields.ensures last)
