-- Worked rows, computed.
use Rattle.std.proofs.lemmas.Int.{ints}
use Rattle.std.proofs.Common.{◌≡◌, arith, refl, ℕ, pos, List, [], ◌∷◌, Some, None}
use Rattle.slew_clock.specs.UsualRates.{usual_rates}
use Rattle.clerk.specs.declared.query.Query.{Query}
use Rattle.clerk.specs.declared.query.QueryState.TheVariants as state
use Rattle.clerk.specs.Outcome.{Opened, Waiting, Short, Split, Adopted, concluded, outcome}
use Rattle.clerk.specs.Queries.{pending, state_of, with_state}

-- a peer that was asked at 1000 and answered at 3000
answered : ℕ → Query
answered peer = record {
  peer = peer;
  state = state.Answered 1000 3000 (record { lo = pos 4999999000; hi = pos 5000001000; ordered = omega (arith, ints) });
}

asked : ℕ → Query
asked peer = record { peer = peer; state = state.Asked 1000 }

gone : ℕ → Query
gone peer = record { peer = peer; state = state.Gone }

-- a round with a deadline of 5 s that requires one answer
one_required : List Query → Opened
one_required queries = record { number = 1; opened = 0; latest = 3000; deadline = 50000000; required = 1; queries = queries }

low_end_goes_on_from_receipt_and_high_end_from_asking : outcome usual_rates (one_required (answered 0 ∷ [])) None 3000
    ≡ Adopted 1 (pos 4999999000, pos 5000003002)
unfolding outcome concluded one_required answered
low_end_goes_on_from_receipt_and_high_end_from_asking = refl

own_interval_is_counted_in : outcome usual_rates (one_required (answered 0 ∷ [])) (Some (pos 5000001998, pos 5000004002)) 3000
    ≡ Adopted 2 (pos 5000001998, pos 5000003002)
unfolding outcome concluded one_required answered
own_interval_is_counted_in = refl

own_interval_is_no_answer : outcome usual_rates (one_required (gone 0 ∷ [])) (Some (pos 5000001998, pos 5000004002)) 3000 ≡ Short 0 1
unfolding outcome concluded one_required gone
own_interval_is_no_answer = refl

open_queries_are_waited_for : outcome usual_rates (one_required (answered 0 ∷ asked 1 ∷ gone 2 ∷ pending 3 ∷ [])) None 49999999 ≡ Waiting 2 50000000
unfolding outcome concluded one_required answered asked gone
open_queries_are_waited_for = refl

until_the_deadline : outcome usual_rates (one_required (answered 0 ∷ asked 1 ∷ [])) None 50000000 ≡ Adopted 1 (pos 5049990999, pos 5050005001)
unfolding outcome concluded one_required answered asked
until_the_deadline = refl

queries_that_are_gone_are_not_waited_for : outcome usual_rates (one_required (gone 0 ∷ gone 1 ∷ [])) None 0 ≡ Short 0 1
unfolding outcome concluded one_required gone
queries_that_are_gone_are_not_waited_for = refl

answers_that_do_not_agree_are_split : concluded 2 ((pos 0, pos 10) ∷ (pos 20, pos 30) ∷ []) None ≡ Split 2
unfolding concluded
answers_that_do_not_agree_are_split = refl

own_interval_may_split_them : concluded 1 ((pos 0, pos 10) ∷ []) (Some (pos 20, pos 30)) ≡ Split 2
unfolding concluded
own_interval_may_split_them = refl

nothing_required_of_nobody_is_split : concluded 0 [] None ≡ Split 0
unfolding concluded
nothing_required_of_nobody_is_split = refl

query_stands_so_from_now_on : state_of (with_state (one_required (pending 0 ∷ pending 1 ∷ [])) 1 state.Gone) 1 ≡ Some state.Gone
unfolding one_required
query_stands_so_from_now_on = refl

others_stand_as_before : state_of (with_state (one_required (pending 0 ∷ pending 1 ∷ [])) 1 state.Gone) 0 ≡ Some state.Pending
unfolding one_required
others_stand_as_before = refl

stranger_stands_nowhere : state_of (one_required (pending 0 ∷ [])) 1 ≡ None
unfolding one_required
stranger_stands_nowhere = refl
