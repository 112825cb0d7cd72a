use Rattle.std.proofs.Common.{◌∷◌, ap, sym, ◌∙◌, arith}
use Rattle.dts_base.proofs.SliceFacts.{rest_from}
use Rattle.line_reader.proofs.Decimals.{plain_whole, behind_first, minus_whole}
use Rattle.line_reader.proofs.number.is_whole.Goals as goal

pub returns-then-first-ne45 : goal.returns-then-first-ne45
returns-then-first-ne45 c = plain_whole c.args.field.now c.is_decimal.result (λ e. c.if-first-ne45.true (c.first.ensures ∙ e)) c.is_decimal.ensures

pub returns-then-first-ne48 : goal.returns-then-first-ne48
returns-then-first-ne48 c = minus_whole c.args.field.now _ c.is_decimal-then-first-ne48.result
    (behind_first c.args.field.now 45 (λ e. omega (arith, e)) (sym c.first.ensures ∙ c.if-first-ne45.false) ∙ ap (λ o. 45 ∷ o) (sym (rest_from 1 c.args.field.now)))
    (λ e. c.if-first-ne48.true (c.first-2.ensures ∙ e)) c.is_decimal-then-first-ne48.ensures
