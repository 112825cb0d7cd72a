use Rattle.std.proofs.Common.{◌∙◌}
use Rattle.wire_show.proofs.Steps.{on_ok}
use Rattle.wire_show.proofs.Tables.{ack_from}
use Rattle.wire_show.proofs.lines.FieldLines.ack.Goals as goal

pub returns : goal.returns
returns c = on_ok c.repeat.result _ _ c.repeat.ensures (λ last. ack_from c.args.endian c.args.self.now c.fields.new.self c.field.new.self c.field-2.new.self c.field-3.new.self c.field-4.new.self c.field-5.new.self c.repeat.new.self
    c.from.result c.front-count.result c.gap.result c.in_ok-fields.ensures (c.from.ensures ∙ c.front_number-length.ensures) c.in_ok-field.ensures c.in_ok-field-2.ensures c.gap.ensures c.in_ok-field-3.ensures c.front-count.ensures c.in_ok-field-4.ensures c.in_ok-field-5.ensures last)
