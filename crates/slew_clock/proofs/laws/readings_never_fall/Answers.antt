use Rattle.slew_clock.proofs.ClockLaws.{sound_at, since_at, line_since}
use Rattle.slew_clock.proofs.laws.readings_never_fall.Goals as goal

pub returns : goal.returns
returns c = record {
  step = λ r records i j earlier later h order at_i at_j. (since_at r records i j earlier later h order at_i at_j).step;
  value = λ r records i j o p earlier later h order at_i at_j same from after before.
      line_since r earlier later o p (sound_at r records i earlier h at_i) (since_at r records i j earlier later h order at_i at_j) same after before;
}
