use Rattle.std.proofs.Common.{[], refl, sym, ◌∙◌, arith}
use Rattle.dts_capture.specs.declared.event.Event.TheVariants as event
use Rattle.capture_replay.specs.Standing.{IsStep}
use Rattle.capture_replay.proofs.Giving.{one, nothing}
use Rattle.capture_replay.proofs.Stepping.{sound_node, born_node, if_ok, back_step, tick_renews, tick_passes}
use Rattle.capture_replay.proofs.node.Node.take_tick.Goals as goal

pub returns-in-Some-clause-step : goal.returns-in-Some-clause-step
returns-in-Some-clause-step g c = if_ok c.take.result _ _ c.take.ensures (λ _ taken. λ word.
    let node = c.args.self.now in
    one g.T.ActionTaker.took c.args.taker.now c.take.new.self c.in-Some.back _ (IsStep node node (event.Tick c.args.osc word)) taken c.in-Some.ensures.1
    (back_step node (event.Tick c.args.osc word) refl c.requires.osc c.in-Some.ensures.0 refl refl))

pub renewed-requires-clause-sound : goal.renewed-requires-clause-sound
renewed-requires-clause-sound g c = sound_node c.args.self.now c.requires.stands.0 c.requires.stands.1

pub renewed-requires-clause-born : goal.renewed-requires-clause-born
renewed-requires-clause-born g c = omega (arith, born_node c.args.self.now c.requires.stands.0 c.requires.stands.1, c.in_default.ensures)

pub returns-in_default-renewed-clause-step : goal.returns-in_default-renewed-clause-step
returns-in_default-renewed-clause-step g c = λ word. record {
  actions = [];
  are = tick_passes c.args.self.now c.args.osc word c.requires.osc c.in_default.ensures (sym c.renewed.ensures.renewed ∙ c.in_default-renewed.is);
  taken = nothing g.T.ActionTaker.took c.args.taker.now;
}

pub returns-clause-step : goal.returns-clause-step
returns-clause-step g c = λ word.
    let node = c.args.self.now in
    one g.T.ActionTaker.took c.args.taker.now c.take-2.new.self _ _ (IsStep node (record node { sync_osc = c.args.osc; current = c.in-Some-renewed.rec }) (event.Tick c.args.osc word))
    c.in_ok-take.ensures refl
    (tick_renews node c.args.osc word c.in-Some-renewed.rec c.requires.osc c.in_default.ensures (sym c.renewed.ensures.renewed ∙ c.in-Some-renewed.is))
