use Rattle.std.proofs.Common.{[], refl, sym, ◌∙◌}
use Rattle.dts_capture.specs.declared.event.Event.TheVariants as event
use Rattle.capture_replay.specs.declared.round.DirectRound.{DirectRound}
use Rattle.capture_replay.specs.Rounds.{IsRoundStep}
use Rattle.capture_replay.proofs.Giving.{one_ok, nothing}
use Rattle.capture_replay.proofs.RoundLaws.{asks_again, asks_too_many, asks}
use Rattle.capture_replay.proofs.round.DirectRound.take_query.Goals as goal

pub returns-then-is_asked-clause-step : goal.returns-then-is_asked-clause-step
returns-then-is_asked-clause-step g c =
    let round = c.args.self.now in
    one_ok g.T.ActionTaker.took c.args.taker.now c.take.new.self c.take.result _ _ (IsRoundStep round round (event.Query c.args.osc c.args.tag)) c.take.ensures c.note.ensures
    (asks_again round c.args.osc c.args.tag (sym c.is_asked.ensures ∙ c.if-is_asked.true))

pub returns-then-is_full-clause-step : goal.returns-then-is_full-clause-step
returns-then-is_full-clause-step g c =
    let round = c.args.self.now in
    one_ok g.T.ActionTaker.took c.args.taker.now c.take-then-is_full.new.self c.take-then-is_full.result _ _ (IsRoundStep round round (event.Query c.args.osc c.args.tag))
    c.take-then-is_full.ensures c.note-then-is_full.ensures
    (asks_too_many round c.args.osc c.args.tag (sym c.is_asked.ensures ∙ c.if-is_asked.false) (sym c.is_full.ensures ∙ c.if-is_full.true))

pub returns-clause-step : goal.returns-clause-step
returns-clause-step g c =
    let new : DirectRound = record { asked = c.push.new.self; answers = c.args.self.now.answers } in record {
      actions = [];
      are = asks c.args.self.now new c.args.osc c.args.tag (sym c.is_asked.ensures ∙ c.if-is_asked.false) (sym c.is_full.ensures ∙ c.if-is_full.false) c.in_ok-push.ensures.items refl;
      taken = nothing g.T.ActionTaker.took c.args.taker.now;
    }
