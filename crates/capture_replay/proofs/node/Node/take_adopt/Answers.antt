use Rattle.std.proofs.Common.{refl, sym, subst, arith}
use Rattle.dts_capture.specs.declared.event.Event.TheVariants as event
use Rattle.capture_replay.specs.declared.node.Node.{Node}
use Rattle.capture_replay.specs.Rounds.{outcome_kept}
use Rattle.capture_replay.specs.Standing.{IsStep, concluded}
use Rattle.capture_replay.proofs.Adopting.{adoptable, adopt_step}
use Rattle.capture_replay.proofs.RoundBounds.{answers_few, answers_carriable}
use Rattle.capture_replay.proofs.Stepping.{sound_node, born_node, back_ok}
use Rattle.capture_replay.proofs.node.Node.take_adopt.Goals as goal

pub returns-in-Some-clause-step : goal.returns-in-Some-clause-step
returns-in-Some-clause-step g c =
    back_ok g.T.ActionTaker.took c.args.taker.now c.take.new.self c.args.self.now (event.Adopt c.args.osc c.args.required) c.in-Some.back c.take.result
    refl c.requires.osc refl refl c.in-Some.ensures c.take.ensures

pub outcome-requires-clause-carriable : goal.outcome-requires-clause-carriable
outcome-requires-clause-carriable g c =
    let s = c.requires.stands.1 in
    answers_carriable c.args.self.now.round c.requires.stands.0 c.args.osc s.sync.round s.range (omega (arith, s.sync.last, c.in_default.ensures))

pub outcome-requires-clause-few : goal.outcome-requires-clause-few
outcome-requires-clause-few g c = answers_few c.args.self.now.round c.requires.stands.0 c.requires.stands.1.sync.round

pub conclude-requires-clause-sound : goal.conclude-requires-clause-sound
conclude-requires-clause-sound g c = sound_node c.args.self.now c.requires.stands.0 c.requires.stands.1

pub conclude-requires-clause-born : goal.conclude-requires-clause-born
conclude-requires-clause-born g c = omega (arith, born_node c.args.self.now c.requires.stands.0 c.requires.stands.1, c.in_default.ensures)

pub conclude-requires-clause-adoptable : goal.conclude-requires-clause-adoptable
conclude-requires-clause-adoptable g c =
    adoptable c.args.self.now c.requires.stands.0 c.args.osc c.args.required c.in_ok-outcome.outcome c.requires.stands.1 c.requires.osc c.in_ok-outcome.ensures

pub conclude-requires-clause-carriable : goal.conclude-requires-clause-carriable
conclude-requires-clause-carriable g c =
    let s = c.requires.stands.1 in
    answers_carriable c.args.self.now.round c.requires.stands.0 c.args.osc s.sync.round s.range (omega (arith, s.sync.last, c.in_default.ensures))

pub returns-clause-step : goal.returns-clause-step
returns-clause-step g c =
    let node = c.args.self.now in
    let actions = concluded node c.args.osc (outcome_kept c.in_ok-outcome.outcome) in record {
      actions = actions;
      are = subst (λ (n : Node). IsStep node (record { rates = n.rates; current = n.current; sync_osc = c.args.osc; lane_osc = n.lane_osc; round = c.clear.new.self }) (event.Adopt c.args.osc c.args.required) actions)
          (sym c.in_ok-conclude.ensures.state)
          (adopt_step node c.clear.new.self c.args.osc c.args.required c.in_ok-outcome.outcome actions c.requires.osc c.in_default.ensures c.clear.ensures.asked c.clear.ensures.answers
          c.in_ok-outcome.ensures refl);
      taken = c.in_ok-conclude.ensures.actions;
    }
