use Rattle.std.proofs.Common.{◌≡◌, ◌<◌, false, length, arith}
use Rattle.std.specs.Prelude.{◌==◌, slice_index}
use Rattle.std.proofs.lemmas.Bool.Decides.{nat_tests}
use Rattle.std.proofs.lemmas.Grind.{common_steps}
use Rattle.wire_show.proofs.Pairs.{ends_with_nothing, ends_with_feed, ends_with_other}
use Rattle.wire_show.proofs.digits.check_end.Goals as goal

pub returns-then-is_empty : goal.returns-then-is_empty
returns-then-is_empty c =
    let none : length c.args.left.now ≡ 0 = grind (arith, common_steps, c.if-is_empty.ensures, c.if-is_empty.true) in
    ends_with_nothing c.args.at c.args.left.now none

pub returns-then-left-eq-LINE_FEED : goal.returns-then-left-eq-LINE_FEED
returns-then-left-eq-LINE_FEED c =
    let some : 0 < length c.args.left.now = grind (arith, common_steps, c.if-is_empty.ensures, c.if-is_empty.false) in
    ends_with_feed c.args.at c.args.left.now some c.requires.short c.if-left-eq-LINE_FEED.true

pub returns : goal.returns
returns c =
    let some : 0 < length c.args.left.now = grind (arith, common_steps, c.if-is_empty.ensures, c.if-is_empty.false) in
    let other : (slice_index c.args.left.now 0 == 10) ≡ false = grind (arith, nat_tests, c.if-left-eq-LINE_FEED.false) in
    rw c.refused_at.ensures (ends_with_other c.args.at c.args.left.now some c.requires.short other)
