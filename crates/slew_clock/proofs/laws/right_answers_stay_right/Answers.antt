use Rattle.std.proofs.Common.{arith}
use Rattle.std.proofs.lemmas.Int.{ints, by_lt_z}
use Rattle.slew_clock.proofs.ReadingLaws.{carried_contains}
use Rattle.slew_clock.proofs.laws.right_answers_stay_right.Goals as goal

pub returns : goal.returns
returns c = record {
  right = λ lo hi asked then got after before from to. (omega (arith, ints, from, before), omega (arith, ints, to, after));
  met = λ lo hi asked got ordered later right.
      by_lt_z asked lo
      (λ before. (lo, omega (arith, ints, before), right.0, omega (arith, ints), ordered))
      (λ after. (asked, omega (arith, ints), later, after, right.1));
  holds = carried_contains;
}
