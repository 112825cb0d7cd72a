use Rattle.std.proofs.Common.{◌<◌, ◌^◌, sym, ◌∙◌, arith}
use Rattle.std.proofs.lemmas.Fmt.{decimal_injective}
use Rattle.dts_base.proofs.Decimals.{cut_missing, cut_before}
use Rattle.dts_base.proofs.address.octet_before.Goals as goal

pub returns-in_err-number : goal.returns-in_err-number
returns-in_err-number c = rw c.from_residual.ensures
    (λ n rest h. cut_missing c.args.mark c.args.text.now _ c.requires c.split_once.ensures.cases c.in_err-number.was n rest (omega arith))

pub returns-in_err-number-2 : goal.returns-in_err-number-2
returns-in_err-number-2 c = rw c.from_residual-in_err-number-2.ensures
    (λ n rest h e. c.in_err-number-2.ensures n (omega arith) (cut_before c.args.mark c.args.text.now _ _ c.requires c.split_once.ensures.cases c.in_ok-number.was n rest (omega arith) e))

pub returns-then-number-gt-MAX_OCTET : goal.returns-then-number-gt-MAX_OCTET
returns-then-number-gt-MAX_OCTET c = λ n rest h e.
    let small : c.in_ok-number-2.number < 2 ^ 64 = omega arith in
    let below : n < 2 ^ 64 = omega arith in
    let before = cut_before c.args.mark c.args.text.now _ _ c.requires c.split_once.ensures.cases c.in_ok-number.was n rest below e in
    let same = decimal_injective c.in_ok-number-2.number n small below (sym c.in_ok-number-2.ensures ∙ before) in
    omega arith
