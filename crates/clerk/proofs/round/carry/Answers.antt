use Rattle.std.proofs.Common.{◌∙◌, ap, sym, arith, Option, None, Some, ℤ, ◌+◌, take, map, option_map}
use Rattle.std.proofs.lemmas.List.{append-nil}
use Rattle.intersection.specs.Adoption.{ends_of}
use Rattle.clerk.specs.declared.query.Query.{Query}
use Rattle.clerk.specs.Outcome.{answer_at, answers_at}
use Rattle.clerk.proofs.Carrying.{given_more, put_more}
use Rattle.clerk.proofs.round.carry.Goals.{in-Some, in_default}
use Rattle.clerk.proofs.round.carry.Goals as goal

pub loop-query-preserved : goal.loop-query-preserved
loop-query-preserved c =
    let gives : Query → Option (ℤ × ℤ) = λ q. answer_at c.args.r.now c.args.osc q.state in
    let queries = c.args.queries.now in
    let k = c.loop-query.query-index in
    let so = c.loop-query.invariant in
    let before = answers_at c.args.r.now c.args.osc (take k queries) in
    let next = c.query-item.result in
    elim c.match-answer_at.branch [
      | in-Some w ↦ (
        omega (arith, w.n-is, so.0),
        ap (λ n. map ends_of (take n c.match-answer_at.to)) w.n-is
            ∙ ap (λ t. map ends_of (take (c.loop-query.n + 1) t)) w.to-is
            ∙ put_more c.loop-query.to c.loop-query.n w.in-Some.interval before (omega (arith, so.0, so.2, c.requires.room, c.loop-query-test.true)) so.1
            ∙ sym (given_more gives queries k next (Some (ends_of w.in-Some.interval)) c.loop-query-test.true
            (ap gives (sym c.query-item.is) ∙ sym c.answer_at.ensures ∙ ap (option_map ends_of) w.in-Some.is)),
        c.match-answer_at.auto.to ∙ so.2,
      )
      | in_default w ↦ (
        omega (arith, w.n-is, so.0),
        ap (λ n. map ends_of (take n c.match-answer_at.to)) w.n-is
            ∙ ap (λ t. map ends_of (take c.loop-query.n t)) w.to-is
            ∙ so.1
            ∙ sym (append-nil before)
            ∙ sym (given_more gives queries k next None c.loop-query-test.true
            (ap gives (sym c.query-item.is) ∙ sym c.answer_at.ensures ∙ ap (option_map ends_of) w.in_default.is)),
        c.match-answer_at.auto.to ∙ so.2,
      )
    ]
