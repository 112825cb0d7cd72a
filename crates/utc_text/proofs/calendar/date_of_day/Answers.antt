use Rattle.std.proofs.Common.{◌≡◌, arith, ◌-ℤ◌, pos, to_z, of_z, w64}
use Rattle.std.proofs.lemmas.Result.{IfOk-at_ok}
use Rattle.jiff_core.specs.Date.{epoch_day}
use Rattle.jiff_core.specs.declared.civil.date.Date.{Date}
use Rattle.jiff_core.proofs.SignedLemmas.{signed_arith}
use Rattle.jiff.proofs.SpanFacts.{date_add-days, can_add-days}
use Rattle.jiff.specs.Words.{date_add}
use Rattle.utc_text.specs.Civil.{day_number}
use Rattle.utc_text.proofs.CivilLemmas.{day_number-1582, day_number-10000, epoch_day-1970, year-written, abs_within}
use Rattle.utc_text.proofs.calendar.date_of_day.Goals as goal

pub overflow_sub-day : goal.overflow_sub-day
overflow_sub-day c = omega (arith, signed_arith, day_number-1582, day_number-10000)

pub days-requires : goal.days-requires
days-requires c = abs_within (to_z w64 (of_z w64 (to_z w64 (of_z w64 c.args.day) -ℤ pos 141427))) 7304484 (omega (arith, signed_arith, day_number-1582, day_number-10000)) (omega (arith, signed_arith, day_number-1582, day_number-10000))

pub unwrap-requires : goal.unwrap-requires
unwrap-requires c =
    (c.checked_add.ensures.succeeds).1 ((can_add-days c.date.result _ c.days.result c.days.ensures).1 (omega (arith, signed_arith, epoch_day-1970 c.date.result c.date.ensures, day_number-1582, day_number-10000)))

pub returns-clause-day : goal.returns-clause-day
returns-clause-day c =
    let at : epoch_day c.unwrap.result ≡ date_add c.date.result c.days.result = IfOk-at_ok (λ (d : Date). epoch_day d ≡ date_add c.date.result c.days.result) c.unwrap.ensures c.checked_add.ensures.value in
    omega (arith, signed_arith, at, date_add-days c.date.result _ c.days.result c.days.ensures, epoch_day-1970 c.date.result c.date.ensures, day_number-1582, day_number-10000)

pub returns-clause-year : goal.returns-clause-year
returns-clause-year c =
    let at : epoch_day c.unwrap.result ≡ date_add c.date.result c.days.result = IfOk-at_ok (λ (d : Date). epoch_day d ≡ date_add c.date.result c.days.result) c.unwrap.ensures c.checked_add.ensures.value in
    let day : day_number c.unwrap.result.year c.unwrap.result.month c.unwrap.result.day ≡ c.args.day = omega (arith, signed_arith, at, date_add-days c.date.result _ c.days.result c.days.ensures, epoch_day-1970 c.date.result c.date.ensures, day_number-1582, day_number-10000) in
    year-written c.unwrap.result (rw day c.requires)
