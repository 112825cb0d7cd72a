use Rattle.std.proofs.Common.{◌≡◌, ◌∙◌, ap, sym, subst, arith, map, take, length, option_map}
use Rattle.intersection.specs.Adoption.{ends_of}
use Rattle.intersection.specs.Adopted.{adopted}
use Rattle.clerk.specs.Outcome.{Short, agreed, with_own, concluded, answers_at}
use Rattle.clerk.specs.Told.{told}
use Rattle.clerk.proofs.Carrying.{taken_length}
use Rattle.clerk.proofs.Outcomes.{too_few, enough}
use Rattle.clerk.proofs.round.Round.conclude.Goals.{in-Some, in-None}
use Rattle.clerk.proofs.round.Round.conclude.Goals as goal

pub returns-then-answered-self-clause-outcome : goal.returns-then-answered-self-clause-outcome
returns-then-answered-self-clause-outcome c =
    let own = option_map ends_of c.args.own in
    let answers = answers_at c.args.r.now c.args.osc c.self.inside.queries.items in
    let carried : map ends_of (take c.carry-answered.result c.carry-answered.new.to) ≡ answers =
    c.carry-answered.ensures.answers ∙ ap (answers_at c.args.r.now c.args.osc) c.deref.ensures.value in
    let same : length answers ≡ c.carry-answered.result =
    taken_length c.carry-answered.new.to c.carry-answered.result answers (omega (arith, c.carry-answered.ensures.count, ap length c.deref.ensures.value, c.carry-answered.ensures.room, c.self.invariant.0))
    carried in
    let required = c.self.inside.required in
    subst (λ v. Short c.carry-answered.result required ≡ concluded v.required (answers_at c.args.r.now c.args.osc v.queries) own) c.self.view_is
    (ap (λ n. Short n required) (sym same) ∙ sym (too_few required answers own (omega (arith, same, c.if-answered-self.true))))

pub returns-clause-outcome : goal.returns-clause-outcome
returns-clause-outcome c =
    let own = option_map ends_of c.args.own in
    let answers = answers_at c.args.r.now c.args.osc c.self.inside.queries.items in
    let required = c.self.inside.required in
    let n = c.join-n.result in
    let all = with_own answers own in
    let carried : map ends_of (take c.carry-answered.result c.carry-answered.new.to) ≡ answers =
    c.carry-answered.ensures.answers ∙ ap (answers_at c.args.r.now c.args.osc) c.deref.ensures.value in
    let same : length answers ≡ c.carry-answered.result =
    taken_length c.carry-answered.new.to c.carry-answered.result answers (omega (arith, c.carry-answered.ensures.count, ap length c.deref.ensures.value, c.carry-answered.ensures.room, c.self.invariant.0))
    carried in
    let are : map ends_of (take n c.join-n.new.to) ≡ all =
    c.join-n.ensures.intervals ∙ ap (λ a. with_own a own) carried in
    let many : length all ≡ n =
    taken_length c.join-n.new.to n all
    (omega (arith, c.carry-answered.ensures.count, ap length c.deref.ensures.value, c.carry-answered.ensures.room, c.join-n.ensures.count, c.join-n.ensures.room, c.self.invariant.0)) are in
    let agrees : agreed n (option_map ends_of c.adopt.result) ≡ concluded required answers own =
    ap (agreed n) (c.adopt.ensures.value ∙ ap adopted are)
    ∙ ap (λ m. agreed m (adopted all)) (sym many)
    ∙ sym (enough required answers own (omega (arith, same, c.if-answered-self.false))) in
    let gives : told c.match-adopt.result ≡ concluded required answers own =
    elim c.match-adopt.branch [
      | in-Some w ↦ ap told w.result-is ∙ ap (λ o. agreed n (option_map ends_of o)) (sym w.in-Some.is) ∙ agrees
      | in-None w ↦ ap told w.result-is ∙ ap (λ o. agreed n (option_map ends_of o)) (sym w.in-None.is) ∙ agrees
    ] in
    subst (λ v. told c.match-adopt.result ≡ concluded v.required (answers_at c.args.r.now c.args.osc v.queries) own) c.self.view_is gives
