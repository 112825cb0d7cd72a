use Rattle.wire_show.proofs.Steps.{on_ok}
use Rattle.wire_show.proofs.Tables.{bind_from}
use Rattle.wire_show.proofs.lines.FieldLines.bind.Goals as goal

pub returns : goal.returns
returns c = on_ok c.contexts.result _ _ c.contexts.ensures (λ walks e. bind_from e c.args.self.now c.fields.new.self c.field.new.self c.field-2.new.self c.contexts.new.self c.front-count.result c.in_ok-fields.ensures c.front-count.ensures c.in_ok-field.ensures c.in_ok-field-2.ensures (walks e))
