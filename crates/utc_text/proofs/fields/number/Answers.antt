use Rattle.std.proofs.Common.{◌≡◌, get_or, take, arith}
use Rattle.std.proofs.lemmas.List.{length-take, take_all}
use Rattle.std.proofs.lemmas.Int.Digits.{digits_value_more, digits_value-lt}
use Rattle.std.specs.Str.Parse.{digits_value}
use Rattle.utc_text.proofs.DigitLemmas.{AllDigits-at, AllDigits-take, digit_octet, number_below}
use Rattle.utc_text.proofs.fields.number.Goals as goal

pub overflow_mul-number : goal.overflow_mul-number
overflow_mul-number c =
    let below = number_below (take c.loop-digit.digit-index c.args.digits.now) 9 (AllDigits-take c.loop-digit.digit-index c.args.digits.now c.requires.all) (omega (arith, length-take c.loop-digit.digit-index c.args.digits.now)) in
    omega (arith, below, c.loop-digit.invariant)

pub overflow_sub-digit : goal.overflow_sub-digit
overflow_sub-digit c = (digit_octet (get_or c.args.digits.now c.loop-digit.digit-index 0) (AllDigits-at c.args.digits.now c.loop-digit.digit-index c.requires.all (omega arith))).0

pub overflow_add-number : goal.overflow_add-number
overflow_add-number c =
    let below = number_below (take c.loop-digit.digit-index c.args.digits.now) 9 (AllDigits-take c.loop-digit.digit-index c.args.digits.now c.requires.all) (omega (arith, length-take c.loop-digit.digit-index c.args.digits.now)) in
    omega (arith, below, c.loop-digit.invariant, c.from.ensures, digit_octet (get_or c.args.digits.now c.loop-digit.digit-index 0) (AllDigits-at c.args.digits.now c.loop-digit.digit-index c.requires.all (omega arith)))

pub loop-digit-preserved : goal.loop-digit-preserved
loop-digit-preserved c =
    let octet = digit_octet (get_or c.args.digits.now c.loop-digit.digit-index 0) (AllDigits-at c.args.digits.now c.loop-digit.digit-index c.requires.all (omega arith)) in
    let more = digits_value_more 10 c.args.digits.now c.loop-digit.digit-index (omega arith) in
    omega (arith, octet, more, c.loop-digit.invariant, c.from.ensures)

pub returns-clause-bound : goal.returns-clause-bound
returns-clause-bound c =
    let all = take_all c.loop-digit.digit-index c.args.digits.now (omega arith) in
    let value : c.loop-digit.number ≡ digits_value 10 c.args.digits.now = rw all at c.loop-digit.invariant in
    omega (arith, value, digits_value-lt 10 c.args.digits.now c.requires.all)
