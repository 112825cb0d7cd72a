use Rattle.utc_text.proofs.PrintLemmas.{pushed_digits}
use Rattle.utc_text.proofs.printing.+push_digits.Goals as goal

pub returns : goal.returns
returns t c = rw (c.in_ok-push.ensures.items, c.in_ok-push_digits.ensures) (pushed_digits c.args.out.now.items c.args.width c.args.number c.if-width-eq0.false)
