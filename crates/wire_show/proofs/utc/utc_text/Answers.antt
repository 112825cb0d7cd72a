use Rattle.wire_show.proofs.Tables.{utc_shown}
use Rattle.wire_show.proofs.utc.utc_text.Goals as goal

pub returns : goal.returns
returns c = utc_shown c.args.octets.now c.in_ok-end.field-0.items c.new-lines.result c.part.new.self c.part-2.new.self c.part-3.new.self c.in_ok-check.ensures c.new-lines.ensures c.in_ok-part.ensures c.in_ok-part-2.ensures c.in_ok-part-3.ensures c.in_ok-end.ensures
