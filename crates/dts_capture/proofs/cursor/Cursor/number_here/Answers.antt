use Rattle.std.proofs.Common.{◌≡◌, sym, arith, pos, to_z, of_z}
use Rattle.std.proofs.lemmas.Int.{ints}
use Rattle.std.specs.Int.{w128}
use Rattle.dts_capture.proofs.Parsed.{field_wrong}
use Rattle.dts_capture.proofs.FieldSteps.{whole_number, wrong_number}
use Rattle.dts_capture.proofs.cursor.Cursor.number_here.Goals as goal

pub returns-in-Ok-clause-read : goal.returns-in-Ok-clause-read
returns-in-Ok-clause-read c =
    let z : to_z w128 (of_z w128 c.in-Ok.number) ≡ c.in-Ok.number = omega (arith, ints, c.in-Ok.ensures.number.1.0, c.in-Ok.ensures.number.1.1) in
    record { field = c.in_ok-field.field.now; rest = c.in_ok-field.ensures.0; here = c.in_ok-field.ensures.1; some = c.in_ok-field.ensures.2; number = rw z (whole_number _ _ _ c.in-Ok.number c.in-Ok.ensures.number.0 (omega (arith, ints, c.in-Ok.ensures.number.1.0)) (omega (arith, ints, c.in-Ok.ensures.number.1.1))) }

pub returns-in-Err-clause-read : goal.returns-in-Err-clause-read
returns-in-Err-clause-read c =
    let low : to_z w128 (of_z w128 c.from.result) ≡ pos c.args.from = omega (arith, ints) in
    let high : to_z w128 (of_z w128 c.from-2.result) ≡ pos c.args.to = omega (arith, ints) in
    let h = c.in-Err.ensures.fault in
    rw c.wrong_number.ensures (λ kind more as_number. field_wrong kind more c.args.self.now c.in_ok-field.field.now c.in_ok-field.ensures.0 _ c.in_ok-field.ensures.1 c.in_ok-field.ensures.2 (as_number _ _ (wrong_number c.args.from c.args.to _ _ (rw (sym low, sym high) h))))
