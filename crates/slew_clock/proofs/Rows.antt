-- Worked rows, computed.
use Rattle.std.proofs.Common.{◌≡◌, ℕ, ℤ, pos, Option, Some, None, refl}
use Rattle.std.specs.Prelude.{neg_ℤ}
use Rattle.slew_clock.specs.declared.record.Anchor.{Anchor}
use Rattle.slew_clock.specs.declared.record.ClockRecord.{ClockRecord}
use Rattle.slew_clock.specs.Elapsed.{carried}
use Rattle.slew_clock.specs.Line.{line}
use Rattle.slew_clock.specs.Reading.{interval_of, inaccuracy_of}
use Rattle.slew_clock.specs.Started.{started}
use Rattle.slew_clock.specs.UsualRates.{usual_rates}
use Rattle.slew_clock.specs.Change.{changed_record, renewed_record}

-- what a reading of a record shows
shown : ClockRecord → ℕ → ℤ × Option ℕ
shown rec osc = (line usual_rates rec osc, inaccuracy_of usual_rates rec osc)

anchor : ℕ → ℤ → ℤ → Option Anchor
anchor osc lo hi = Some (record { osc = osc; lo = lo; hi = hi })

-- ---- readings of the first record, which is within 1,000 units of a second at oscillator reading 0
first : ClockRecord
first = record { number = 0; step = 0; born = 0; anchor = anchor 0 (pos 999000) (pos 1001000); a = record { from = 0; value = pos 1000000; x = pos 0 }; b = record { from = 0; x = pos 0 } }

reading_after_a_second : shown first 10000000 ≡ (pos 11000000, Some 2001)
unfolding shown first anchor line interval_of inaccuracy_of
reading_after_a_second = refl

-- none can have passed, or one unit
reading_at_once : shown first 0 ≡ (pos 1000000, Some 1001)
unfolding shown first anchor line interval_of inaccuracy_of
reading_at_once = refl

-- past its end the line stands still
reading_past_the_end : shown first 50000000 ≡ (pos 41000000, Some 10006001)
unfolding shown first anchor line interval_of inaccuracy_of
reading_past_the_end = refl

reading_without_an_anchor : shown (started 0 (pos 1000000) None) 5 ≡ (pos 1000005, None)
unfolding shown line interval_of inaccuracy_of
reading_without_an_anchor = refl

-- ---- an answer carried from its asking and its coming, and a step to it
answer_carried : carried usual_rates (pos 20000000000) (pos 20000002000) 10000000 10000000 10000000 ≡ (pos 20000000000, pos 20000002001)
answer_carried = refl

before_the_step : ClockRecord
before_the_step = record { number = 0; step = 0; born = 0; anchor = anchor 0 (pos 29999999000) (pos 30000001000); a = record { from = 0; value = pos 30000000000; x = pos 0 }; b = record { from = 0; x = pos 0 } }

after_the_step : ClockRecord
after_the_step = record { number = 1; step = 1; born = 10000000; anchor = anchor 10000000 (pos 20000000000) (pos 20000002001); a = record { from = 10000000; value = pos 20000001000; x = pos 0 }; b = record { from = 10000000; x = pos 0 } }

far_off : changed_record usual_rates before_the_step 10000000 (pos 20000000000, pos 20000002001) ≡ after_the_step
unfolding before_the_step after_the_step anchor line
far_off = refl

reading_after_the_step : shown after_the_step 10000000 ≡ (pos 20000001000, Some 1002)
unfolding shown after_the_step anchor line interval_of inaccuracy_of
reading_after_the_step = refl

-- ---- a clock that is a tenth of a second ahead, and is slewed back over its renewals
ahead : (number born a_from : ℕ) (value x : ℤ) (b_from : ℕ) (y : ℤ) → ClockRecord
ahead number born a_from value x b_from y = record { number = number; step = 0; born = born; anchor = anchor 0 (pos 999000) (pos 1001000); a = record { from = a_from; value = value; x = x }; b = record { from = b_from; x = y } }

first_renewal : renewed_record usual_rates (ahead 0 0 0 (pos 2000000) (pos 0) 0 (pos 0)) 0 ≡ Some (ahead 1 0 0 (pos 2000000) (pos 0) 40000000 (neg_ℤ (pos 400000)))
unfolding ahead anchor line interval_of
first_renewal = refl

second_renewal : renewed_record usual_rates (ahead 1 0 0 (pos 2000000) (pos 0) 40000000 (neg_ℤ (pos 400000))) 40000000 ≡ Some (ahead 2 40000000 40000000 (pos 42000000) (neg_ℤ (pos 400000)) 80000000 (neg_ℤ (pos 400000)))
unfolding ahead anchor line interval_of
second_renewal = refl

third_renewal : renewed_record usual_rates (ahead 2 40000000 40000000 (pos 42000000) (neg_ℤ (pos 400000)) 80000000 (neg_ℤ (pos 400000))) 80000000 ≡ Some (ahead 3 80000000 80000000 (pos 81600000) (neg_ℤ (pos 400000)) 120000000 (neg_ℤ (pos 200000)))
unfolding ahead anchor line interval_of
third_renewal = refl

reading_while_slewed : shown (ahead 3 80000000 80000000 (pos 81600000) (neg_ℤ (pos 400000)) 120000000 (neg_ℤ (pos 200000))) 100000000 ≡ (pos 101400000, Some 411001)
unfolding shown ahead anchor line interval_of inaccuracy_of
reading_while_slewed = refl

fourth_renewal : renewed_record usual_rates (ahead 3 80000000 80000000 (pos 81600000) (neg_ℤ (pos 400000)) 120000000 (neg_ℤ (pos 200000))) 120000000 ≡ Some (ahead 4 120000000 120000000 (pos 121200000) (neg_ℤ (pos 200000)) 160000000 (pos 0))
unfolding ahead anchor line interval_of
fourth_renewal = refl

-- past its end the line is renewed where it stood, and none is renewed before its second part
renewal_past_the_end : renewed_record usual_rates first 50000000 ≡ Some (record { number = 1; step = 0; born = 50000000; anchor = anchor 0 (pos 999000) (pos 1001000); a = record { from = 50000000; value = pos 41000000; x = pos 0 }; b = record { from = 50000000; x = pos 400000 } })
unfolding first anchor line interval_of
renewal_past_the_end = refl

renewal_too_early : renewed_record usual_rates (ahead 1 0 0 (pos 2000000) (pos 0) 40000000 (neg_ℤ (pos 400000))) 39999999 ≡ None
unfolding ahead anchor line interval_of
renewal_too_early = refl
