-- What comes of a direct round, by the number of its answers.
use Rattle.std.proofs.Common.{◌≡◌, ◌∙◌, ap, ℕ, cond, List, map, length}
use Rattle.std.specs.Prelude.{nat_lt, ℤ}
use Rattle.std.proofs.lemmas.List.{append-nil, length-map}
use Rattle.slew_clock.specs.declared.rates.Rates.{Rates}
use Rattle.intersection.specs.Adopted.{adopted}
use Rattle.clerk.specs.Outcome.{Outcome, Short, agreed, concluded}
use Rattle.sync_rules.specs.Rounds.{Answer, carried_to, outcome}

pub by_count : (rates : Rates) (answers : List Answer) (required osc : ℕ) → outcome rates answers required osc
    ≡ cond (nat_lt (length answers) required) (Short (length answers) required) (agreed (length answers) (adopted (map (carried_to rates osc) answers)))
unfolding outcome concluded
by_count rates answers required osc =
    let carried = map (carried_to rates osc) answers in
    let so : ℕ → List (ℤ × ℤ) → ℕ → Outcome = λ n all m. cond (nat_lt n required) (Short n required) (agreed m (adopted all)) in
    ap (λ all. so (length carried) all (length all)) (append-nil carried)
    ∙ ap (λ n. so n carried n) (length-map answers (carried_to rates osc))
