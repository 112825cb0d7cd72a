use Rattle.wire_show.proofs.Steps.{times_more}
use Rattle.wire_show.proofs.lines.FieldLines.repeat.Goals as goal

pub loop-done-preserved : goal.loop-done-preserved
loop-done-preserved c = times_more c.args.fields.now c.args.count c.loop-done._done c.loop-done.self c.fields.new.self _ c.loop-done-test.true c.in_ok-fields.ensures c.loop-done.invariant
