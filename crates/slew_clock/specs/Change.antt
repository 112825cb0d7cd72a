-- The three changes of a record, at an oscillator reading: it is anchored to another interval, it steps to one, or its line is renewed.
use Rattle.std.specs.Prelude.{ℕ, ◌+◌, nat_lt, ◌||◌, Bool, if◌then◌else◌, ℤ, pos, neg_ℤ, ◌+ℤ◌, ◌-ℤ◌, ◌≤ℤ◌, unsigned_abs, Option, Some, None, is_none, option_map, unwrap_or}
use Rattle.std.specs.Int.{int_max, int_min}
use Rattle.slew_clock.specs.declared.limits.TheConstants.{GREATEST_ANCHOR}
use Rattle.slew_clock.specs.declared.rates.Rates.{Rates}
use Rattle.slew_clock.specs.declared.record.ClockRecord.{ClockRecord}
use Rattle.slew_clock.specs.Record.{end_of, greatest_slew}
use Rattle.slew_clock.specs.Line.{floor_of, line}
use Rattle.slew_clock.specs.Reading.{interval_of}

-- an interval that a record may be anchored to
abbrev pub IsInRange : ℤ × ℤ → Type 0
IsInRange i = (pos 0 ≤ℤ i.0) × (i.1 ≤ℤ GREATEST_ANCHOR)

-- another anchor: the line stays as it was
abbrev pub anchored_record : ClockRecord → ℕ → ℤ × ℤ → ClockRecord
anchored_record rec osc i = record rec {
  number = rec.number + 1;
  born = osc;
  anchor = Some (record { osc = osc; lo = i.0; hi = i.1 });
}

-- the middle of an interval, rounded down
abbrev pub middle_of : ℤ × ℤ → ℤ
middle_of i = floor_of (i.0 +ℤ i.1) 2

-- a step: the line begins at the middle of the interval, with no slew
abbrev pub stepped_record : ClockRecord → ℕ → ℤ × ℤ → ClockRecord
stepped_record rec osc i = record {
  number = rec.number + 1;
  step = rec.step + 1;
  born = osc;
  anchor = Some (record { osc = osc; lo = i.0; hi = i.1 });
  a = record { from = osc; value = middle_of i; x = pos 0 };
  b = record { from = osc; x = pos 0 };
}

-- whether the middle of an interval differs from the line by more than the tolerance
abbrev pub is_far : Rates → ClockRecord → ℕ → ℤ × ℤ → Bool
is_far r rec osc i = nat_lt r.tolerance (unsigned_abs (middle_of i -ℤ line r rec osc))

-- a step where there is no anchor yet or the interval's middle is too far; else another anchor
abbrev pub changed_record : Rates → ClockRecord → ℕ → ℤ × ℤ → ClockRecord
changed_record r rec osc i =
    if is_none rec.anchor || is_far r rec osc i then stepped_record rec osc i
    else anchored_record rec osc i

-- a number, or the nearer of -n and n
abbrev pub held_to : ℕ → ℤ → ℤ
held_to n z = int_max (neg_ℤ (pos n)) (int_min z (pos n))

-- the slew that leads this value to the middle of the interval at an oscillator reading, as far as is allowed; none without an anchor
abbrev pub slew_to_middle : Rates → ClockRecord → ℕ → ℤ → ℤ
slew_to_middle r rec o value = unwrap_or (option_map (λ i. held_to (greatest_slew r) (middle_of i -ℤ value)) (interval_of r rec o)) (pos 0)

-- renewed before its end: the second part is the first one now, and a new one begins at the old end
abbrev pub prolonged_record : Rates → ClockRecord → ℕ → ClockRecord
prolonged_record r rec osc = record rec {
  number = rec.number + 1;
  born = osc;
  a = record { from = rec.b.from; value = line r rec rec.b.from; x = rec.b.x };
  b = record { from = end_of r rec; x = slew_to_middle r rec (end_of r rec) (line r rec (end_of r rec)) };
}

-- renewed at its end or past it: both parts begin there, with the value at the end
abbrev pub resumed_record : Rates → ClockRecord → ℕ → ClockRecord
resumed_record r rec osc = record rec {
  number = rec.number + 1;
  born = osc;
  a = record { from = osc; value = line r rec (end_of r rec); x = pos 0 };
  b = record { from = osc; x = slew_to_middle r rec osc (line r rec (end_of r rec)) };
}

-- a renewal, which there is none of before the second part begins
abbrev pub renewed_record : Rates → ClockRecord → ℕ → Option ClockRecord
renewed_record r rec osc =
    if nat_lt osc rec.b.from then None
    else Some (if nat_lt osc (end_of r rec) then prolonged_record r rec osc else resumed_record r rec osc)
