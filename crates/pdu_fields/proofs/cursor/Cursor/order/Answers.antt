use Rattle.dts_base.specs.declared.wire.Field.TheVariants as field
use Rattle.ndr.specs.declared.endian.Endian.TheVariants.{Big}
use Rattle.pdu_fields.specs.Headers.{order_at}
use Rattle.pdu_fields.proofs.Parsed.{found_code}
use Rattle.pdu_fields.proofs.cursor.Cursor.order.Goals as goal

pub returns : goal.returns
returns c =
    let f = c.in_ok-octet.ensures in
    found_code field.DrepOrder order_at Big c.args.self.now c.find_octet.new.self c.in_ok-octet.octet c.order_at.result c.refused-wrong.result c.ok_or.result f.0 f.1 f.2 c.order_at.ensures c.refused-wrong.ensures c.ok_or.ensures.value
