-- The line of a record: the clock's value at each oscillator reading from the beginning of its first part.
use Rattle.std.specs.Prelude.{ℕ, ◌-◌, nat_lt, nat_le, if◌then◌else◌, ℤ, pos, ◌+ℤ◌, ◌*ℤ◌}
use Rattle.std.specs.Int.{int_div_euclid}
use Rattle.slew_clock.specs.declared.rates.Rates.{Rates}
use Rattle.slew_clock.specs.declared.record.ClockRecord.{ClockRecord}
use Rattle.slew_clock.specs.Record.{end_of}

-- z divided by n, rounded towards the lesser
abbrev pub floor_of : ℤ → ℕ → ℤ
floor_of z n = int_div_euclid z (pos n)

-- how far the clock goes where the oscillator goes on by e units: e, and the part of the slew x that falls to them
abbrev pub advance : Rates → ℤ → ℕ → ℤ
advance r x e = pos e +ℤ floor_of (x *ℤ pos e) r.lease

-- the first part of the line
abbrev pub first_part : Rates → ClockRecord → ℕ → ℤ
first_part r rec o = rec.a.value +ℤ advance r rec.a.x (o - rec.a.from)

-- the second part of the line, which begins where the first one ends
abbrev pub second_part : Rates → ClockRecord → ℕ → ℤ
second_part r rec o = first_part r rec rec.b.from +ℤ advance r rec.b.x (o - rec.b.from)

-- the first part before the second one begins; then the second part; past the end the value at the end
unfoldable pub line : Rates → ClockRecord → ℕ → ℤ
line r rec o =
    if nat_lt o rec.b.from then first_part r rec o
    else if nat_le o (end_of r rec) then second_part r rec o
    else second_part r rec (end_of r rec)
