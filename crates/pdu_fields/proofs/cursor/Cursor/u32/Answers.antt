use Rattle.std.proofs.Common.{refl}
use Rattle.pdu_fields.specs.Headers.{any}
use Rattle.pdu_fields.specs.Tables.{number}
use Rattle.pdu_fields.proofs.Parsed.{kept}
use Rattle.pdu_fields.proofs.cursor.Cursor.u32.Goals as goal

pub returns : goal.returns
returns c =
    let f = c.in_ok-find_number.ensures.found in
    λ more r parses. kept c.args.name (number c.args.endian 4) any more c.args.self.now c.find_number.new.self c.in_ok-find_number.field-0 r f.0 f.1 f.2 refl parses
