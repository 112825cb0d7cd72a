use Rattle.std.proofs.Common.{refl}
use Rattle.dts_capture.specs.declared.event.Event.TheVariants as event
use Rattle.capture_replay.proofs.Giving.{are_also}
use Rattle.capture_replay.proofs.Stepping.{back_ok, query_step}
use Rattle.capture_replay.proofs.node.Node.take_query.Goals as goal

pub returns-in-Some-clause-step : goal.returns-in-Some-clause-step
returns-in-Some-clause-step g c =
    back_ok g.T.ActionTaker.took c.args.taker.now c.take.new.self c.args.self.now (event.Query c.args.osc c.args.tag) c.in-Some.back c.take.result
    refl c.requires.osc refl refl c.in-Some.ensures c.take.ensures

pub returns-clause-step : goal.returns-clause-step
returns-clause-step g c =
    are_also g.T.ActionTaker.took c.args.taker.now c.take_query.new.taker _ _
    (λ actions. query_step c.args.self.now c.take_query.new.self c.args.osc c.args.tag actions c.requires.osc c.in_default.ensures)
    c.in_ok-take_query.ensures.step
