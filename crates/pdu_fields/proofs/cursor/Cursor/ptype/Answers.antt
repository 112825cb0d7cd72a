use Rattle.dts_base.specs.declared.wire.Field.TheVariants as field
use Rattle.pdu_fields.specs.declared.kind.Ptype.TheVariants as ptype
use Rattle.pdu_fields.specs.Headers.{ptype_at}
use Rattle.pdu_fields.proofs.Parsed.{found_code}
use Rattle.pdu_fields.proofs.cursor.Cursor.ptype.Goals as goal

pub returns : goal.returns
returns c =
    let f = c.in_ok-octet.ensures in
    found_code field.Ptype ptype_at ptype.Orphaned c.args.self.now c.find_octet.new.self c.in_ok-octet.octet c.from_number.result c.refused-wrong.result c.ok_or.result f.0 f.1 f.2 c.from_number.ensures c.refused-wrong.ensures c.ok_or.ensures.value
