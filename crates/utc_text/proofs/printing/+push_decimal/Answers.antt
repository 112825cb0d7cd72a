use Rattle.std.proofs.Common.{arith}
use Rattle.utc_text.proofs.PrintLemmas.{pushed_decimal, pushed_digit}
use Rattle.utc_text.proofs.printing.+push_decimal.Goals as goal
use Rattle.utc_text.proofs.printing.+push_decimal.Goals.{then-number-ge10+in_ok-push_decimal, else-number-ge10}

pub returns : goal.returns
returns t c = elim c.if-number-ge10.branch [
  | then-number-ge10+in_ok-push_decimal w ↦ rw (c.in_ok-push.ensures.items, w.out-is, w.in_ok-push_decimal.ensures) (pushed_decimal c.args.out.now.items c.args.number w.if-number-ge10.true (omega arith))
  | else-number-ge10 w ↦ rw (c.in_ok-push.ensures.items, w.out-is) (pushed_digit c.args.out.now.items c.args.number w.if-number-ge10.false)
]
