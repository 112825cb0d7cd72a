use Rattle.wire_show.proofs.Tables.{ntp_shown}
use Rattle.wire_show.proofs.ntp.ntp_text.Goals as goal

pub returns : goal.returns
returns c = ntp_shown c.args.octets.now c.in_ok-end.field-0.items c.new-lines.result c.packet_fields.new.self c.in_ok-check.ensures c.new-lines.ensures c.in_ok-packet_fields.ensures c.in_ok-end.ensures
