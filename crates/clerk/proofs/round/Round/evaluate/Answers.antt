use Rattle.std.proofs.Common.{◌∙◌, ap, sym, true, false, option_map}
use Rattle.intersection.specs.Adoption.{ends_of}
use Rattle.clerk.specs.Outcome.{Waiting, unanswered}
use Rattle.clerk.proofs.Outcomes.{by_waiting}
use Rattle.clerk.proofs.round.Round.evaluate.Goals as goal

pub returns-then-waits-clause-outcome : goal.returns-then-waits-clause-outcome
returns-then-waits-clause-outcome c =
    ap (λ n. Waiting n c.self.inside.deadline) c.unanswered.ensures
    ∙ ap (λ v. Waiting (unanswered c.args.self.now.queries) v.deadline) c.self.view_is
    ∙ sym (by_waiting c.args.r.now c.args.self.now (option_map ends_of c.args.own) c.args.osc true (sym c.if-waits.true ∙ c.waits.ensures))

pub returns-clause-outcome : goal.returns-clause-outcome
returns-clause-outcome c =
    c.conclude.ensures.outcome
    ∙ sym (by_waiting c.args.r.now c.args.self.now (option_map ends_of c.args.own) c.args.osc false (sym c.if-waits.false ∙ c.waits.ensures))
