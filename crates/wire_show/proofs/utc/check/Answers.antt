use Rattle.std.proofs.Common.{◌≡◌, true, false, length, refl, sym, ap, arith, ◌∙◌}
use Rattle.std.specs.Prelude.{nat_lt}
use Rattle.std.proofs.lemmas.Bool.Decides.{nat_tests}
use Rattle.time_wire.specs.Timestamps.{is_stamp}
use Rattle.time_wire.proofs.Timestamps.{stamp_is_right, refused_is_wrong}
use Rattle.wire_show.specs.declared.utc.TheConstants.{UTC_SIZE}
use Rattle.wire_show.proofs.utc.check.Goals as goal

pub returns-in-Ok : goal.returns-in-Ok
returns-in-Ok c =
    let long : nat_lt (length c.args.octets.now) UTC_SIZE ≡ false = grind (arith, nat_tests, c.if-octets-lt-UTC_SIZE.false) in
    let few : nat_lt UTC_SIZE (length c.args.octets.now) ≡ false = grind (arith, nat_tests, c.if-octets-gt-UTC_SIZE.false) in
    let spelled = (c.in-Ok.ensures.spelled c.in-Ok.field-0).0 refl in
    let same = spelled.1 ∙ c.copy_from_slice.ensures.after in
    let right : is_stamp c.args.octets.now ≡ true = ap is_stamp (sym same) ∙ stamp_is_right c.in-Ok.field-0 spelled.0 in
    rw (long, few, right) refl

pub returns-in-Err : goal.returns-in-Err
returns-in-Err c =
    let long : nat_lt (length c.args.octets.now) UTC_SIZE ≡ false = grind (arith, nat_tests, c.if-octets-lt-UTC_SIZE.false) in
    let few : nat_lt UTC_SIZE (length c.args.octets.now) ≡ false = grind (arith, nat_tests, c.if-octets-gt-UTC_SIZE.false) in
    let refused = (c.in-Err.ensures.refused c.in-Err.field-0).0 refl in
    let same = c.copy_from_slice.ensures.after in
    let wrong : is_stamp c.args.octets.now ≡ false =
    ap is_stamp (sym same) ∙ refused_is_wrong c.copy_from_slice.new.self c.in-Err.field-0 refused in
    rw (long, few, wrong, c.refused-in-Err.ensures) refl
