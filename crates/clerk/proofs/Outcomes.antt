-- What comes of a round, case by case.
use Rattle.std.proofs.Common.{◌≡◌, ◌∙◌, ap, sym, Bool, ℕ, ℤ, ◌<◌, ◌≤◌, ◌&&◌, cond, nat_lt, List, length, Option}
use Rattle.std.proofs.lemmas.Bool.{lt-ltb, le-ltb}
use Rattle.std.proofs.Math.Bool.{and-false}
use Rattle.slew_clock.specs.declared.rates.Rates.{Rates}
use Rattle.intersection.specs.Adopted.{adopted}
use Rattle.clerk.specs.Outcome.{Opened, Waiting, Short, agreed, with_own, concluded, outcome, answers_at, waits, unanswered}

pub by_waiting : (r : Rates) (round : Opened) (own : Option (ℤ × ℤ)) (osc : ℕ) (b : Bool) → b ≡ waits round osc
    → outcome r round own osc ≡ cond b (Waiting (unanswered round.queries) round.deadline) (concluded round.required (answers_at r osc round.queries) own)
unfolding outcome
by_waiting r round own osc b is =
    ap (λ b. cond b (Waiting (unanswered round.queries) round.deadline) (concluded round.required (answers_at r osc round.queries) own)) (sym is)

pub ends_late : (r : Rates) (round : Opened) (own : Option (ℤ × ℤ)) (osc : ℕ) → round.deadline ≤ osc
    → outcome r round own osc ≡ concluded round.required (answers_at r osc round.queries) own
unfolding outcome
ends_late r round own osc late =
    let few = unanswered round.queries in
    let rest = concluded round.required (answers_at r osc round.queries) own in
    ap (λ b. cond (b && nat_lt 0 few) (Waiting few round.deadline) rest) (le-ltb osc round.deadline late)

pub ends_answered : (r : Rates) (round : Opened) (own : Option (ℤ × ℤ)) (osc : ℕ) → unanswered round.queries ≡ 0
    → outcome r round own osc ≡ concluded round.required (answers_at r osc round.queries) own
unfolding outcome
ends_answered r round own osc none =
    let few = unanswered round.queries in
    let rest = concluded round.required (answers_at r osc round.queries) own in
    ap (λ n. cond (nat_lt osc round.deadline && nat_lt 0 n) (Waiting few round.deadline) rest) none
    ∙ ap (λ b. cond b (Waiting few round.deadline) rest) (and-false (nat_lt osc round.deadline))

pub too_few : (required : ℕ) (answers : List (ℤ × ℤ)) (own : Option (ℤ × ℤ)) → length answers < required
    → concluded required answers own ≡ Short (length answers) required
unfolding concluded
too_few required answers own few =
    let all = with_own answers own in
    ap (λ b. cond b (Short (length answers) required) (agreed (length all) (adopted all))) (lt-ltb (length answers) required few)

pub enough : (required : ℕ) (answers : List (ℤ × ℤ)) (own : Option (ℤ × ℤ)) → required ≤ length answers
    → concluded required answers own ≡ agreed (length (with_own answers own)) (adopted (with_own answers own))
unfolding concluded
enough required answers own many =
    let all = with_own answers own in
    ap (λ b. cond b (Short (length answers) required) (agreed (length all) (adopted all))) (le-ltb (length answers) required many)
