-- Worked histories at the limits of adoptions, steps and tags, by computation over the definitions.
use Rattle.std.proofs.Common.{◌≡◌, ℕ, ℤ, suc, zero, pos, List, [], ◌∷◌, ◌++◌, Some, None, refl, arith}
use Rattle.std.proofs.lemmas.Int.{ints}
use Rattle.slew_clock.specs.Line.{line}
use Rattle.slew_clock.specs.Reading.{interval_of, inaccuracy_of}
use Rattle.dts_capture.specs.declared.action.Action.{Action}
use Rattle.dts_capture.specs.declared.action.Action.TheVariants as action
use Rattle.dts_capture.specs.declared.action.FalseSource.TheVariants as source
use Rattle.dts_capture.specs.declared.action.NoteKind.TheVariants as note
use Rattle.dts_capture.specs.declared.event.Event.{Event}
use Rattle.dts_capture.specs.declared.event.Event.TheVariants as event
use Rattle.sync_rules.specs.History.{History, Begun, current_record}
use Rattle.sync_rules.specs.Live.{live_osc}
use Rattle.clerk.specs.Outcome.{concluded}
use Rattle.sync_rules.specs.Rounds.{queries_of, answers_of, outcome}
use Rattle.sync_rules.specs.Rules.{actions_of, noted, extended}
use Rattle.sync_rules.proofs.Rows.{usual}

-- ---- the tolerance: 6,000,000,000 units from a clock at 10,000,000,000
near : History
near = Begun usual (record { osc = 0; value = pos 10000000000; first = Some (record { lo = pos 9999999000; hi = pos 10000001000; ordered = omega (arith, ints) }) })

-- one tag is asked, and answered with one point
pointed : ℤ → List Event
pointed p = event.Query 0 1 ∷ event.Source 0 1 (record { lo = p; hi = p; ordered = omega (arith, ints) }) ∷ []

adopt : Event
adopt = event.Adopt 0 1

-- the record of a step to [p, q] at the oscillator reading 0, to this value
stepped : (number step : ℕ) → (p q value : ℤ) → Action
stepped number step p q value = action.Publish (record {
  number = number;
  step = step;
  born = 0;
  anchor = Some (record { osc = 0; lo = p; hi = q });
  a = record { from = 0; value = value; x = pos 0 };
  b = record { from = 0; x = pos 0 };
})

adoption_above_within_the_tolerance_anchors : actions_of (extended near (pointed (pos 16000000000))) adopt
    ≡ noted adopt (note.Adopted 1 (pos 16000000000) (pos 16000000001)) ∷ stepped 1 0 (pos 16000000000) (pos 16000000001) (pos 10000000000) ∷ []
unfolding actions_of current_record live_osc line interval_of inaccuracy_of queries_of answers_of outcome concluded near pointed adopt stepped
adoption_above_within_the_tolerance_anchors = refl

adoption_above_past_the_tolerance_steps : actions_of (extended near (pointed (pos 16000000001))) adopt
    ≡ noted adopt (note.Adopted 1 (pos 16000000001) (pos 16000000002)) ∷ noted adopt (note.Step 1 (pos 10000000000) (pos 16000000001))
    ∷ stepped 1 1 (pos 16000000001) (pos 16000000002) (pos 16000000001) ∷ []
unfolding actions_of current_record live_osc line interval_of inaccuracy_of queries_of answers_of outcome concluded near pointed adopt stepped
adoption_above_past_the_tolerance_steps = refl

adoption_below_within_the_tolerance_anchors : actions_of (extended near (pointed (pos 4000000000))) adopt
    ≡ noted adopt (note.Adopted 1 (pos 4000000000) (pos 4000000001)) ∷ stepped 1 0 (pos 4000000000) (pos 4000000001) (pos 10000000000) ∷ []
unfolding actions_of current_record live_osc line interval_of inaccuracy_of queries_of answers_of outcome concluded near pointed adopt stepped
adoption_below_within_the_tolerance_anchors = refl

adoption_below_past_the_tolerance_steps : actions_of (extended near (pointed (pos 3999999999))) adopt
    ≡ noted adopt (note.Adopted 1 (pos 3999999999) (pos 4000000000)) ∷ noted adopt (note.Step 1 (pos 10000000000) (pos 3999999999))
    ∷ stepped 1 1 (pos 3999999999) (pos 4000000000) (pos 3999999999) ∷ []
unfolding actions_of current_record live_osc line interval_of inaccuracy_of queries_of answers_of outcome concluded near pointed adopt stepped
adoption_below_past_the_tolerance_steps = refl

-- a renewal leads to the new anchor, as far as the greatest slew
tick_slews_to_the_new_anchor : actions_of (extended near (pointed (pos 16000000000) ++ adopt ∷ [])) (event.Tick 0 1) ≡ action.Publish (record {
  number = 2;
  step = 0;
  born = 0;
  anchor = Some (record { osc = 0; lo = pos 16000000000; hi = pos 16000000001 });
  a = record { from = 0; value = pos 10000000000; x = pos 0 };
  b = record { from = 40000000; x = pos 400000 };
}) ∷ []
unfolding actions_of current_record live_osc line interval_of inaccuracy_of queries_of answers_of outcome concluded near pointed adopt
tick_slews_to_the_new_anchor = refl

second_step_has_the_next_number : actions_of (extended near (pointed (pos 16000000001) ++ adopt ∷ pointed (pos 0))) adopt
    ≡ noted adopt (note.Adopted 1 (pos 0) (pos 1)) ∷ noted adopt (note.Step 2 (pos 16000000001) (pos 0)) ∷ stepped 2 2 (pos 0) (pos 1) (pos 0) ∷ []
unfolding actions_of current_record live_osc line interval_of inaccuracy_of queries_of answers_of outcome concluded near pointed adopt stepped
second_step_has_the_next_number = refl

-- no read is served from before the record that is current
read_below_a_new_record_is_regressed : actions_of (extended near (event.Query 0 1 ∷ event.Source 9 1 (record { lo = pos 0; hi = pos 0; ordered = omega (arith, ints) }) ∷ event.Adopt 9 1 ∷ [])) (event.Read 8)
    ≡ noted (event.Read 8) (note.Regressed 9) ∷ []
unfolding actions_of current_record live_osc line interval_of inaccuracy_of queries_of answers_of outcome concluded near
read_below_a_new_record_is_regressed = refl

-- ---- rounds
unknown : History
unknown = Begun usual (record { osc = 0; value = pos 1000000; first = None })

asked : List Event
asked = event.Query 0 1 ∷ event.Query 0 2 ∷ event.Query 0 3 ∷ []

answered : ℕ → Event
answered tag = event.Source 0 tag (record { lo = pos 0; hi = pos 10; ordered = omega (arith, ints) })

apart_from : ℕ → ℤ → Event
apart_from tag lo = event.Source 0 tag (record { lo = lo; hi = lo; ordered = omega (arith, ints) })

as_many_as_required_are_enough : actions_of (extended unknown (asked ++ answered 1 ∷ answered 2 ∷ [])) (event.Adopt 0 2)
    ≡ noted adopt (note.Adopted 2 (pos 0) (pos 11)) ∷ noted adopt (note.Step 1 (pos 1000000) (pos 5)) ∷ stepped 1 1 (pos 0) (pos 11) (pos 5) ∷ []
unfolding actions_of current_record live_osc line interval_of inaccuracy_of queries_of answers_of outcome concluded unknown asked answered adopt stepped
as_many_as_required_are_enough = refl

source_that_touches_is_not_false : actions_of (extended unknown (asked ++ answered 1 ∷ answered 2 ∷ apart_from 3 (pos 11) ∷ [])) adopt
    ≡ noted adopt (note.Adopted 3 (pos 0) (pos 11)) ∷ noted adopt (note.Step 1 (pos 1000000) (pos 5)) ∷ stepped 1 1 (pos 0) (pos 11) (pos 5) ∷ []
unfolding actions_of current_record live_osc line interval_of inaccuracy_of queries_of answers_of outcome concluded unknown asked answered apart_from adopt stepped
source_that_touches_is_not_false = refl

source_past_the_end_is_false : actions_of (extended unknown (asked ++ answered 1 ∷ answered 2 ∷ apart_from 3 (pos 12) ∷ [])) adopt
    ≡ noted adopt (note.Adopted 3 (pos 0) (pos 11)) ∷ noted adopt (note.False (source.Tag 3)) ∷ noted adopt (note.Step 1 (pos 1000000) (pos 5))
    ∷ stepped 1 1 (pos 0) (pos 11) (pos 5) ∷ []
unfolding actions_of current_record live_osc line interval_of inaccuracy_of queries_of answers_of outcome concluded unknown asked answered apart_from adopt stepped
source_past_the_end_is_false = refl

false_sources_are_named_in_the_order_of_their_answers :
    actions_of (extended unknown (asked ++ event.Query 0 4 ∷ event.Query 0 5 ∷ apart_from 4 (pos 20) ∷ answered 1 ∷ answered 2 ∷ apart_from 3 (pos 30) ∷ answered 5 ∷ [])) adopt
    ≡ noted adopt (note.Adopted 5 (pos 0) (pos 11)) ∷ noted adopt (note.False (source.Tag 4)) ∷ noted adopt (note.False (source.Tag 3))
    ∷ noted adopt (note.Step 1 (pos 1000000) (pos 5)) ∷ stepped 1 1 (pos 0) (pos 11) (pos 5) ∷ []
unfolding actions_of current_record live_osc line interval_of inaccuracy_of queries_of answers_of outcome concluded unknown asked answered apart_from adopt stepped
false_sources_are_named_in_the_order_of_their_answers = refl

-- the low end goes on from when the answer came, and the high end from when it was asked for
answers_are_carried_on : actions_of (extended unknown (event.Query 0 1 ∷ event.Source 1000000 1 (record { lo = pos 0; hi = pos 10; ordered = omega (arith, ints) }) ∷ [])) (event.Adopt 2000000 1)
    ≡ noted (event.Adopt 2000000 1) (note.Adopted 1 (pos 999899) (pos 2000211)) ∷ noted (event.Adopt 2000000 1) (note.Step 1 (pos 3000000) (pos 1500055))
    ∷ action.Publish (record {
      number = 1;
      step = 1;
      born = 2000000;
      anchor = Some (record { osc = 2000000; lo = pos 999899; hi = pos 2000211 });
      a = record { from = 2000000; value = pos 1500055; x = pos 0 };
      b = record { from = 2000000; x = pos 0 };
    }) ∷ []
unfolding actions_of current_record live_osc line interval_of inaccuracy_of queries_of answers_of outcome concluded unknown
answers_are_carried_on = refl

regressed_source_answers_nothing : actions_of (extended unknown (event.Query 5 1 ∷ event.Source 4 1 (record { lo = pos 0; hi = pos 10; ordered = omega (arith, ints) }) ∷ [])) (event.Adopt 5 1)
    ≡ noted (event.Adopt 5 1) (note.Short 0 1) ∷ []
unfolding actions_of current_record live_osc line interval_of inaccuracy_of queries_of answers_of outcome concluded unknown
regressed_source_answers_nothing = refl

regressed_tick_renews_nothing : actions_of (extended unknown (event.Tick 5 1 ∷ [])) (event.Tick 4 1) ≡ noted (event.Tick 4 1) (note.Regressed 5) ∷ []
unfolding actions_of current_record live_osc line interval_of inaccuracy_of queries_of answers_of outcome concluded unknown
regressed_tick_renews_nothing = refl

-- ---- so many tags are asked, the last of them first
asked_down : ℕ → List Event
asked_down zero = []
asked_down (suc n) = event.Query 0 (suc n) ∷ asked_down n

tag_64_is_asked : actions_of (extended unknown (asked_down 63)) (event.Query 0 64) ≡ []
unfolding actions_of current_record live_osc line interval_of inaccuracy_of queries_of answers_of outcome concluded unknown asked_down
tag_64_is_asked = refl

tag_65_is_one_too_many : actions_of (extended unknown (asked_down 64)) (event.Query 0 65) ≡ noted (event.Query 0 65) note.TagsFull ∷ []
unfolding actions_of current_record live_osc line interval_of inaccuracy_of queries_of answers_of outcome concluded unknown asked_down
tag_65_is_one_too_many = refl

repeated_tag_of_a_full_round_is_repeated : actions_of (extended unknown (asked_down 64)) (event.Query 0 64) ≡ noted (event.Query 0 64) (note.RepeatedTag 64) ∷ []
unfolding actions_of current_record live_osc line interval_of inaccuracy_of queries_of answers_of outcome concluded unknown asked_down
repeated_tag_of_a_full_round_is_repeated = refl

adoption_makes_room : actions_of (extended unknown (asked_down 64 ++ adopt ∷ [])) (event.Query 0 65) ≡ []
unfolding actions_of current_record live_osc line interval_of inaccuracy_of queries_of answers_of outcome concluded unknown asked_down adopt
adoption_makes_room = refl
