use Rattle.std.proofs.Common.{◌+◌, ap, Some}
use Rattle.slew_clock.specs.declared.record.Anchor.{Anchor}
use Rattle.slew_clock.specs.declared.record.ClockRecord.{ClockRecord}
use Rattle.slew_clock.specs.Clock.IsNext.{anchored}
use Rattle.slew_clock.proofs.change.anchored.Goals as goal

pub returns-clause-next : goal.returns-clause-next
returns-clause-next c =
    let rec : ClockRecord = c.args.rec.now in
    anchored c.args.osc (c.args.i.lo, c.args.i.hi) c.requires.born
    (ap (λ (a : Anchor). record rec { number = rec.number + 1; born = c.args.osc; anchor = Some a }) c.in_ok-anchor.ensures.anchor)
