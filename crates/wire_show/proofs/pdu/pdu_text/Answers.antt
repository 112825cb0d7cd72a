use Rattle.wire_show.proofs.Tables.{pdu_shown}
use Rattle.wire_show.proofs.pdu.pdu_text.Goals as goal

pub returns : goal.returns
returns c = pdu_shown c.args.octets.now c.in_ok-end.field-0.items c.in_ok-decode.field-0 c.new-lines.result c.header.new.self c.body.new.self c.in_ok-head.head c.in_ok-decode.ensures.found c.new-lines.ensures c.in_ok-head.ensures c.in_ok-body.ensures c.in_ok-end.ensures
