use Rattle.event_drill.proofs.Counting.{one_counted}
use Rattle.event_drill.proofs.counts.CountsActionTaker.take.Goals as goal

pub returns : goal.returns
returns c = λ before is. one_counted c.args.self.now c.count.new.self before c.args.action c.count.ensures is
