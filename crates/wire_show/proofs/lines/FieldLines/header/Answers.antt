use Rattle.std.proofs.Common.{ap, ◌∙◌}
use Rattle.std.specs.Option.{unwrap_or}
use Rattle.ndr.specs.declared.endian.Endian.TheVariants.{Big}
use Rattle.pdu_fields.specs.Headers.{ptype_at, order_at}
use Rattle.pdu_fields.specs.declared.kind.Ptype.TheVariants as ptype
use Rattle.wire_show.proofs.Tables.{header_from}
use Rattle.wire_show.proofs.lines.FieldLines.header.Goals as goal

pub returns : goal.returns
returns c = λ right. header_from right c.args.self.now c.fields.new.self c.field.new.self c.field-2.new.self c.field-3.new.self c.fields-2.new.self c.unwrap_or-ptype.result c.front-flags.result c.order_of-endian.result
    c.in_ok-fields.ensures c.in_ok-field.ensures c.in_ok-field-2.ensures c.in_ok-field-3.ensures c.in_ok-fields-2.ensures
    (c.unwrap_or-ptype.ensures ∙ ap (λ o. unwrap_or o ptype.Orphaned) (c.from_number.ensures ∙ ap ptype_at c.front.ensures)) c.front-flags.ensures (c.order_of-endian.ensures ∙ ap (λ n. unwrap_or (order_at n) Big) c.front-2.ensures)
