use Rattle.std.proofs.Common.{inl, inr, sym, ◌∙◌}
use Rattle.dts_capture.specs.Kinds.{Octets}
use Rattle.dts_capture.proofs.Parsed.{field_read}
use Rattle.dts_capture.proofs.FieldSteps.{hex_octets, hex_wrong}
use Rattle.dts_capture.proofs.cursor.Cursor.octets.Goals as goal

pub returns-then-writes_none : goal.returns-then-writes_none
returns-then-writes_none c = λ more r parses. let h = c.in_ok-field.ensures in field_read (Octets c.args.may_be_empty) more c.args.self.now c.advance.new.self c.in_ok-field.field.now h.0 c.from_vec.result r h.1 (c.advance.ensures c.in_ok-field.field.now h.0 h.1) (inl (c.if-writes_none.ensures.0, c.if-writes_none.ensures.1, c.from_vec.ensures.octets ∙ c.new.ensures.items)) parses

pub returns-in-Ok : goal.returns-in-Ok
returns-in-Ok c = λ more r parses. let h = c.in_ok-field.ensures in
    let d = rw (sym c.from_vec-in-Ok.ensures.octets) at c.in-Ok.ensures.ok in
    field_read (Octets c.args.may_be_empty) more c.args.self.now c.advance-in-Ok.new.self c.in_ok-field.field.now h.0 c.from_vec-in-Ok.result r h.1 (c.advance-in-Ok.ensures c.in_ok-field.field.now h.0 h.1) (inr (hex_octets _ _ h.2 d, d)) parses

pub returns-in-Err : goal.returns-in-Err
returns-in-Err c = λ more. hex_wrong c.args.may_be_empty more c.args.self.now c.in_ok-field.field.now c.in_ok-field.ensures.0 c.in-Err.fault _ c.in_ok-field.ensures.1 c.in_ok-field.ensures.2 c.if-writes_none.ensures c.in-Err.ensures.err c.wrong_hex.ensures
