-- Day numbers and civil counts.
use Rattle.std.proofs.Common.{◌≡◌, ℕ, ◌/◌, ◌%◌, ◌<◌, ◌≤◌, refl, arith, ℤ, pos, negsuc, neg_ℤ, ◌+ℤ◌, ◌*ℤ◌, ◌≤ℤ◌, unsigned_abs}
use Rattle.std.proofs.lemmas.Int.{by_lt_z}
use Rattle.jiff_core.specs.declared.civil.date.Date.{Date}
use Rattle.jiff_core.specs.Calendar.{day_count, days_from_civil, IsCivilDate}
use Rattle.jiff_core.specs.Date.{epoch_day, IsYmd}
use Rattle.jiff_core.proofs.SignedLemmas.{signed_arith}
use Rattle.jiff_core.proofs.CalendarLemmas.{days_from_civil-day_count, day_count-epoch, day_count-end, day_count-day_of_year, day_count-lt_year}
use Rattle.jiff_core.proofs.MarchLemmas.{day_count-early}
use Rattle.jiff_core.proofs.DateLemmas.{civil, epoch_day_injective}
use Rattle.utc_text.specs.declared.calendar.Civil.{Civil}
use Rattle.utc_text.specs.Civil.{IsCivil, IsInYears, IsWrittenDay, IsWrittenYear, civil_count, day_number, time_of_day}

pub epoch_day-1970 : (d : Date) → IsYmd (pos 1970) (pos 1) (pos 1) d → epoch_day d ≡ pos 0
epoch_day-1970 d h =
    let m : d.month ≡ 1 = cc in
    let n : d.day ≡ 1 = cc in
    rw (h.0, m, n) (omega (arith, signed_arith, days_from_civil-day_count (pos 1970) 1 1, day_count-epoch))

day_count-1582 : day_count (pos 1582) 1 1 ≡ 4_230_239
day_count-1582 = day_count-early (pos 1582) 11581 1 1 refl (omega arith) (omega arith) (omega arith)

pub day_number-1582 : day_number (pos 1582) 1 1 ≡ negsuc 286
day_number-1582 = omega (arith, signed_arith, days_from_civil-day_count (pos 1582) 1 1, day_count-1582)

pub day_number-10000 : day_number (pos 10_000) 1 1 ≡ pos 3_074_324
day_number-10000 = omega (arith, signed_arith, days_from_civil-day_count (pos 10_000) 1 1, day_count-end)

-- a day of those years is in one of them
pub year-written : (d : Date) → IsWrittenDay (day_number d.year d.month d.day) → IsWrittenYear d.year
year-written d h = (
  by_lt_z d.year (pos 1582) (λ lt. absurd (omega (arith, signed_arith, days_from_civil-day_count d.year d.month d.day, days_from_civil-day_count (pos 1582) 1 1, day_count-lt_year d.year d.month d.day (pos 1582) 1 1 (civil d) (omega arith) lt, h.0))) (λ ge. ge),
  d.year_in.1,
)

-- the parts of a count are its civil time
pub civil_from : (d : Date) (count day : ℤ) (units : ℕ) (c : Civil) → IsWrittenYear d.year
    → day_number d.year d.month d.day ≡ day → count ≡ day *ℤ pos 864_000_000_000 +ℤ pos units → units < 864_000_000_000
    → c.year ≡ d.year → c.month ≡ d.month → c.day ≡ d.day → c.hour ≡ units / 10_000_000 / 3600 → c.minute ≡ units / 10_000_000 / 60 % 60 → c.second ≡ units / 10_000_000 % 60 → c.units ≡ units % 10_000_000 → IsCivil c × (civil_count c ≡ count)
civil_from d count day units c written number split fits y m n h i s u =
    let whole : time_of_day c ≡ units = omega arith in (
      record {
        year = rw y written;
        month = rw m d.month_in;
        day = rw (y, m, n) d.day_in;
        hour = omega arith;
        minute = omega arith;
        second = omega arith;
        units = omega arith;
      },
      rw (y, m, n) (omega (arith, signed_arith, number, split, whole)),
    )

pub abs_within : (z : ℤ) (n : ℕ) → neg_ℤ (pos n) ≤ℤ z → z ≤ℤ pos n → unsigned_abs z ≤ n
abs_within (pos a) n low high = omega (arith, signed_arith)
abs_within (negsuc a) n low high = omega (arith, signed_arith)

day_count-year : (y : ℤ) (m d : ℕ) → 1 ≤ d → day_count y 1 1 ≤ day_count y m d
day_count-year y m d h = omega (arith, day_count-day_of_year y m d h)

-- a civil time of those years has a count of them
pub in_years : (c : Civil) → IsCivil c → IsInYears (civil_count c)
in_years c h =
    let date : IsCivilDate c.year c.month c.day =
    ((omega (arith, signed_arith, h.year), omega (arith, signed_arith, h.year)), h.month, h.day) in
    let first : IsCivilDate (pos 1582) 1 1 =
    ((omega (arith, signed_arith), omega (arith, signed_arith)), (omega arith, omega arith), (omega arith, omega arith)) in
    let from : day_count (pos 1582) 1 1 ≤ day_count c.year c.month c.day =
    by_lt_z (pos 1582) c.year (λ lt. omega (arith, day_count-lt_year (pos 1582) 1 1 c.year c.month c.day first h.day.0 lt)) (λ ge. let same : c.year ≡ pos 1582 = omega (arith, signed_arith, ge, h.year) in rw same (day_count-year (pos 1582) c.month c.day h.day.0)) in
    let to = day_count-lt_year c.year c.month c.day (pos 10_000) 1 1 date (omega arith) (omega (arith, signed_arith, h.year)) in
    let clock : time_of_day c < 864_000_000_000 = omega (arith, h.hour, h.minute, h.second, h.units) in (
      omega (arith, signed_arith, from, days_from_civil-day_count c.year c.month c.day, days_from_civil-day_count (pos 1582) 1 1),
      omega (arith, signed_arith, to, clock, days_from_civil-day_count c.year c.month c.day, days_from_civil-day_count (pos 10_000) 1 1),
    )

date_in : (c : Civil) → IsCivil c → Date
date_in c h = record {
  year = c.year;
  month = c.month;
  day = c.day;
  year_in = (omega (arith, signed_arith, h.year), omega (arith, signed_arith, h.year));
  month_in = h.month;
  day_in = h.day;
}

abbrev made : ℤ → ℕ → ℕ → ℕ → ℕ → ℕ → ℕ → Civil
made year month day hour minute second units = record {
  year = year;
  month = month;
  day = day;
  hour = hour;
  minute = minute;
  second = second;
  units = units;
}

same_parts : (a b : Civil) → a.year ≡ b.year → a.month ≡ b.month → a.day ≡ b.day → a.hour ≡ b.hour → a.minute ≡ b.minute
    → a.second ≡ b.second → a.units ≡ b.units → a ≡ b
same_parts a b y m d h n s u =
    let whole : made a.year a.month a.day a.hour a.minute a.second a.units ≡ made b.year b.month b.day b.hour b.minute b.second b.units = rw (y, m, d, h, n, s, u) refl in whole

-- and is the only one with its count
pub same_civil : (a b : Civil) → IsCivil a → IsCivil b → civil_count a ≡ civil_count b → a ≡ b
unfolding date_in
same_civil a b h k e =
    let clock : time_of_day a < 864_000_000_000 = omega (arith, h.hour, h.minute, h.second, h.units) in
    let clock' : time_of_day b < 864_000_000_000 = omega (arith, k.hour, k.minute, k.second, k.units) in
    let day : days_from_civil a.year a.month a.day ≡ days_from_civil b.year b.month b.day =
    omega (arith, signed_arith, e, clock, clock') in
    let same = epoch_day_injective (date_in a h) (date_in b k) day in
    let units : time_of_day a ≡ time_of_day b = omega (arith, signed_arith, e, day) in
    same_parts a b same.0 same.1 same.2 (omega (arith, units, h.minute, h.second, h.units, k.minute, k.second, k.units)) (omega (arith, units, h.minute, h.second, h.units, k.minute, k.second, k.units)) (omega (arith, units, h.minute, h.second, h.units, k.minute, k.second, k.units)) (omega (arith, units, h.minute, h.second, h.units, k.minute, k.second, k.units))
