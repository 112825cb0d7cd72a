use Rattle.std.proofs.Common.{[], refl, sym, ◌∙◌}
use Rattle.dts_capture.specs.declared.event.Event.TheVariants as event
use Rattle.capture_replay.specs.declared.round.DirectRound.{DirectRound}
use Rattle.capture_replay.specs.Rounds.{IsRoundStep}
use Rattle.capture_replay.proofs.Giving.{one_ok, nothing}
use Rattle.capture_replay.proofs.RoundLaws.{answers_nothing, answers_one}
use Rattle.capture_replay.proofs.round.DirectRound.take_source.Goals as goal

pub returns-in_default-clause-step : goal.returns-in_default-clause-step
returns-in_default-clause-step g c =
    let round = c.args.self.now in
    one_ok g.T.ActionTaker.took c.args.taker.now c.take.new.self c.take.result _ _ (IsRoundStep round round (event.Source c.args.osc c.args.tag c.args.interval)) c.take.ensures c.note.ensures
    (answers_nothing round c.args.osc c.args.tag c.args.interval (sym c.open_since.ensures ∙ c.in_default.is))

pub returns-clause-step : goal.returns-clause-step
returns-clause-step g c =
    let new : DirectRound = record { asked = c.args.self.now.asked; answers = c.push.new.self } in record {
      actions = [];
      are = answers_one c.args.self.now new c.args.osc c.args.tag c.in-Some.asked c.args.interval (sym c.open_since.ensures ∙ c.in-Some.is) refl c.in_ok-push.ensures.items;
      taken = nothing g.T.ActionTaker.took c.args.taker.now;
    }
