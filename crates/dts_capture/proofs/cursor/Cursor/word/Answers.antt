use Rattle.std.proofs.Common.{sym, refl}
use Rattle.dts_capture.specs.declared.line.LineCause.TheVariants as cause
use Rattle.dts_capture.specs.Kinds.{Word}
use Rattle.dts_capture.proofs.Parsed.{field_read, field_wrong}
use Rattle.dts_capture.proofs.cursor.Cursor.word.Goals as goal

pub returns-in-Ok : goal.returns-in-Ok
returns-in-Ok c = λ more r parses. let h = c.in_ok-field.ensures in field_read Word more c.args.self.now c.advance.new.self c.in_ok-field.field.now h.0 c.from_be_bytes.result r h.1 (c.advance.ensures c.in_ok-field.field.now h.0 h.1) (c.in-Ok.octets, sym c.in-Ok.ensures, c.from_be_bytes.ensures) parses

pub returns-in-Err : goal.returns-in-Err
returns-in-Err c = rw c.wrong.ensures (λ more. field_wrong Word more c.args.self.now c.in_ok-field.field.now c.in_ok-field.ensures.0 cause.Hex c.in_ok-field.ensures.1 c.in_ok-field.ensures.2 (refl, λ w reads. let e = c.in-Err.ensures in let d = reads.1 in cc))
