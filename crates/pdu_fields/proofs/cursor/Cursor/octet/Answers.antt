use Rattle.pdu_fields.specs.Tables.{octet}
use Rattle.pdu_fields.proofs.Parsed.{found_any}
use Rattle.pdu_fields.proofs.cursor.Cursor.octet.Goals as goal

pub returns : goal.returns
returns c = found_any c.args.name octet c.args.self.now c.find_octet.new.self c.find_octet.result c.find_octet.ensures
