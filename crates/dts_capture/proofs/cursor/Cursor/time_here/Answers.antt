use Rattle.std.proofs.Common.{◌≡◌, arith, pos, to_z}
use Rattle.std.proofs.lemmas.Int.{to_z_pos}
use Rattle.std.specs.Int.{w64}
use Rattle.dts_capture.proofs.cursor.Cursor.time_here.Goals as goal

pub returns : goal.returns
returns c =
    let t : to_z w64 c.in_ok-count.count ≡ pos c.in_ok-count.count = to_z_pos w64 c.in_ok-count.count (omega (arith, c.in_ok-count.ensures.bounds)) in
    record { count = c.in_ok-count.count; has = c.in_ok-count.ensures.read; is = t }
