use Rattle.std.proofs.Common.{◌≡◌, length, map, rules, sym, ap, ◌∙◌}
use Rattle.std.specs.Prelude.{option_map}
use Rattle.intersection.specs.Adoption.{ends_of}
use Rattle.clerk.specs.Outcome.{agreed}
use Rattle.capture_replay.specs.Rounds.{outcome_kept}
use Rattle.capture_replay.proofs.Adopting.{short_round, full_round}
use Rattle.capture_replay.proofs.round.DirectRound.outcome.Goals.{in-Some, in-None}
use Rattle.capture_replay.proofs.round.DirectRound.outcome.Goals as goal

pub returns-then-n-required : goal.returns-then-n-required
returns-then-n-required c =
    let n : c.len-n.result ≡ length c.args.self.now.answers.items = search rules in
    short_round c.args.self.now c.args.rates.now c.args.required c.args.osc c.len-n.result n c.if-n-required.true

pub returns : goal.returns
returns c =
    let n : c.len-n.result ≡ length c.args.self.now.answers.items = search rules in
    let carried = ap (map ends_of) c.deref.ensures.value ∙ c.in_ok-carried.ensures in
    let all = full_round c.args.self.now c.args.rates.now c.args.required c.args.osc c.len-n.result c.deref.result.now c.in_ok-interval.field-0 n
    c.if-n-required.false carried c.in_ok-interval.ensures.value in
    elim c.match-branch-3.branch [
      | in-Some w ↦ ap outcome_kept w.result-is ∙ ap (λ o. agreed c.len-n.result (option_map ends_of o)) (sym w.in-Some.is) ∙ all
      | in-None w ↦ ap outcome_kept w.result-is ∙ ap (λ o. agreed c.len-n.result (option_map ends_of o)) (sym w.in-None.is) ∙ all
    ]
