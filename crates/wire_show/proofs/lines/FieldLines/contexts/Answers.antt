use Rattle.pdu_fields.specs.Bodies.{context_part}
use Rattle.wire_show.proofs.Steps.{none_walked, one_walked, all_walked}
use Rattle.wire_show.proofs.lines.FieldLines.contexts.Goals as goal

pub loop-done-init : goal.loop-done-init
loop-done-init c = λ e. none_walked (context_part e) c.args.count c.args.self.now

pub loop-done-preserved : goal.loop-done-preserved
loop-done-preserved c = λ e. one_walked (context_part e) c.args.count c.loop-done._done c.args.self.now c.loop-done.self c.context.new.self c.loop-done-test.true (c.loop-done.invariant e) (c.in_ok-context.ensures e)

pub returns : goal.returns
returns c = λ e. all_walked (context_part e) c.args.count c.loop-done._done c.args.self.now c.loop-done.self c.loop-done-test.false (c.loop-done.invariant e)
