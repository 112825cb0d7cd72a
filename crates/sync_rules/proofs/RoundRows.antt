-- Worked histories of ticks and direct rounds, by computation over the definitions.
use Rattle.std.proofs.Common.{◌≡◌, ℕ, pos, negsuc, List, [], ◌∷◌, ◌++◌, Some, None, refl, arith}
use Rattle.std.proofs.lemmas.Int.{ints}
use Rattle.slew_clock.specs.Line.{line}
use Rattle.slew_clock.specs.Reading.{interval_of, inaccuracy_of}
use Rattle.dts_base.specs.declared.interval.Interval.{Interval}
use Rattle.dts_capture.specs.declared.event.Event.{Event}
use Rattle.dts_capture.specs.declared.event.Event.TheVariants as event
use Rattle.dts_capture.specs.declared.action.Action.TheVariants as action
use Rattle.dts_capture.specs.declared.action.NoteKind.TheVariants as note
use Rattle.dts_capture.specs.declared.action.FalseSource.TheVariants as source
use Rattle.sync_rules.specs.History.{History, Begun, current_record}
use Rattle.sync_rules.specs.Live.{live_osc}
use Rattle.clerk.specs.Outcome.{concluded}
use Rattle.sync_rules.specs.Rounds.{queries_of, answers_of, outcome}
use Rattle.sync_rules.specs.Rules.{actions_of, noted, extended}
use Rattle.sync_rules.proofs.Rows.{usual}

-- ---- intervals that are asked of tags
narrow : Interval
narrow = record { lo = pos 0; hi = pos 10; ordered = omega (arith, ints) }

other : Interval
other = record { lo = pos 20; hi = pos 30; ordered = omega (arith, ints) }

-- ---- a clock that is slewed from tick to tick
slewing : History
slewing = Begun usual (record { osc = 0; value = pos 2000000; first = Some (record { lo = pos 999000; hi = pos 1001000; ordered = omega (arith, ints) }) })

abbrev tick : ℕ → Event
tick osc = event.Tick osc 1

first_tick_renews : actions_of slewing (tick 0) ≡ action.Publish (record {
  number = 1;
  step = 0;
  born = 0;
  anchor = Some (record { osc = 0; lo = pos 999000; hi = pos 1001000 });
  a = record { from = 0; value = pos 2000000; x = pos 0 };
  b = record { from = 40000000; x = negsuc 399999 };
}) ∷ []
unfolding actions_of current_record live_osc line interval_of inaccuracy_of queries_of answers_of outcome concluded slewing
first_tick_renews = refl

second_tick_renews : actions_of (extended slewing (tick 0 ∷ [])) (tick 40000000) ≡ action.Publish (record {
  number = 2;
  step = 0;
  born = 40000000;
  anchor = Some (record { osc = 0; lo = pos 999000; hi = pos 1001000 });
  a = record { from = 40000000; value = pos 42000000; x = negsuc 399999 };
  b = record { from = 80000000; x = negsuc 399999 };
}) ∷ []
unfolding actions_of current_record live_osc line interval_of inaccuracy_of queries_of answers_of outcome concluded slewing
second_tick_renews = refl

third_tick_leaves_less_to_slew : actions_of (extended slewing (tick 0 ∷ tick 40000000 ∷ [])) (tick 80000000) ≡ action.Publish (record {
  number = 3;
  step = 0;
  born = 80000000;
  anchor = Some (record { osc = 0; lo = pos 999000; hi = pos 1001000 });
  a = record { from = 80000000; value = pos 81600000; x = negsuc 399999 };
  b = record { from = 120000000; x = negsuc 199999 };
}) ∷ []
unfolding actions_of current_record live_osc line interval_of inaccuracy_of queries_of answers_of outcome concluded slewing
third_tick_leaves_less_to_slew = refl

reading_while_slewing : actions_of (extended slewing (tick 0 ∷ tick 40000000 ∷ tick 80000000 ∷ [])) (event.Read 100000000)
    ≡ noted (event.Read 100000000) (note.Reading (pos 101400000) (Some 411001) 0 3) ∷ []
unfolding actions_of current_record live_osc line interval_of inaccuracy_of queries_of answers_of outcome concluded slewing
reading_while_slewing = refl

last_tick_ends_the_slew : actions_of (extended slewing (tick 0 ∷ tick 40000000 ∷ tick 80000000 ∷ event.Read 100000000 ∷ [])) (tick 120000000) ≡ action.Publish (record {
  number = 4;
  step = 0;
  born = 120000000;
  anchor = Some (record { osc = 0; lo = pos 999000; hi = pos 1001000 });
  a = record { from = 120000000; value = pos 121200000; x = negsuc 199999 };
  b = record { from = 160000000; x = pos 0 };
}) ∷ []
unfolding actions_of current_record live_osc line interval_of inaccuracy_of queries_of answers_of outcome concluded slewing
last_tick_ends_the_slew = refl

tick_before_the_second_part_gives_nothing : actions_of (extended slewing (tick 0 ∷ [])) (tick 39999999) ≡ []
unfolding actions_of current_record live_osc line interval_of inaccuracy_of queries_of answers_of outcome concluded slewing
tick_before_the_second_part_gives_nothing = refl

-- ---- a step to a far interval
far : History
far = Begun usual (record { osc = 0; value = pos 30000000000; first = Some (record { lo = pos 29999999000; hi = pos 30000001000; ordered = omega (arith, ints) }) })

asked_far : List Event
asked_far = event.Query 10000000 7 ∷ event.Source 10000000 7 (record { lo = pos 20000000000; hi = pos 20000002000; ordered = omega (arith, ints) }) ∷ []

adoption_steps_to_a_far_interval : actions_of (extended far asked_far) (event.Adopt 10000000 1) ≡
    noted (event.Adopt 10000000 1) (note.Adopted 1 (pos 20000000000) (pos 20000002001))
    ∷ noted (event.Adopt 10000000 1) (note.Step 1 (pos 30010000000) (pos 20000001000))
    ∷ action.Publish (record {
      number = 1;
      step = 1;
      born = 10000000;
      anchor = Some (record { osc = 10000000; lo = pos 20000000000; hi = pos 20000002001 });
      a = record { from = 10000000; value = pos 20000001000; x = pos 0 };
      b = record { from = 10000000; x = pos 0 };
    }) ∷ []
unfolding actions_of current_record live_osc line interval_of inaccuracy_of queries_of answers_of outcome concluded far asked_far
adoption_steps_to_a_far_interval = refl

reading_after_the_step : actions_of (extended far (asked_far ++ event.Adopt 10000000 1 ∷ [])) (event.Read 10000000)
    ≡ noted (event.Read 10000000) (note.Reading (pos 20000001000) (Some 1002) 1 1) ∷ []
unfolding actions_of current_record live_osc line interval_of inaccuracy_of queries_of answers_of outcome concluded far asked_far
reading_after_the_step = refl

-- ---- rounds without an adoption
unknown : History
unknown = Begun usual (record { osc = 0; value = pos 1000000; first = None })

asked : List Event
asked = event.Query 0 1 ∷ event.Query 0 2 ∷ event.Query 0 3 ∷ event.Query 0 4 ∷ []

halves_are_split : actions_of (extended unknown (asked ++ event.Source 0 1 narrow ∷ event.Source 0 2 narrow ∷ event.Source 0 3 other ∷ event.Source 0 4 other ∷ [])) (event.Adopt 0 1)
    ≡ noted (event.Adopt 0 1) (note.Split 4) ∷ []
unfolding actions_of current_record live_osc line interval_of inaccuracy_of queries_of answers_of outcome concluded unknown asked narrow other
halves_are_split = refl

too_few_are_short : actions_of (extended unknown (asked ++ event.Source 0 1 narrow ∷ event.Source 0 2 narrow ∷ [])) (event.Adopt 0 3)
    ≡ noted (event.Adopt 0 3) (note.Short 2 3) ∷ []
unfolding actions_of current_record live_osc line interval_of inaccuracy_of queries_of answers_of outcome concluded unknown asked narrow other
too_few_are_short = refl

adoption_forgets_all_tags : actions_of (extended unknown (asked ++ event.Source 0 1 narrow ∷ event.Source 0 2 narrow ∷ event.Adopt 0 3 ∷ [])) (event.Adopt 0 1)
    ≡ noted (event.Adopt 0 1) (note.Short 0 1) ∷ []
unfolding actions_of current_record live_osc line interval_of inaccuracy_of queries_of answers_of outcome concluded unknown asked narrow other
adoption_forgets_all_tags = refl

false_source_is_named : actions_of (extended unknown (asked ++ event.Source 0 1 narrow ∷ event.Source 0 3 other ∷ event.Source 0 2 narrow ∷ [])) (event.Adopt 0 2) ≡
    noted (event.Adopt 0 2) (note.Adopted 3 (pos 0) (pos 11))
    ∷ noted (event.Adopt 0 2) (note.False (source.Tag 3))
    ∷ noted (event.Adopt 0 2) (note.Step 1 (pos 1000000) (pos 5))
    ∷ action.Publish (record {
      number = 1;
      step = 1;
      born = 0;
      anchor = Some (record { osc = 0; lo = pos 0; hi = pos 11 });
      a = record { from = 0; value = pos 5; x = pos 0 };
      b = record { from = 0; x = pos 0 };
    }) ∷ []
unfolding actions_of current_record live_osc line interval_of inaccuracy_of queries_of answers_of outcome concluded unknown asked narrow other
false_source_is_named = refl

-- ---- tags
tag_is_repeated : actions_of (extended unknown asked) (event.Query 0 3) ≡ noted (event.Query 0 3) (note.RepeatedTag 3) ∷ []
unfolding actions_of current_record live_osc line interval_of inaccuracy_of queries_of answers_of outcome concluded unknown asked narrow other
tag_is_repeated = refl

answered_tag_is_repeated : actions_of (extended unknown (asked ++ event.Source 0 3 other ∷ [])) (event.Query 0 3) ≡ noted (event.Query 0 3) (note.RepeatedTag 3) ∷ []
unfolding actions_of current_record live_osc line interval_of inaccuracy_of queries_of answers_of outcome concluded unknown asked narrow other
answered_tag_is_repeated = refl

unasked_tag_is_unknown : actions_of (extended unknown asked) (event.Source 0 5 other) ≡ noted (event.Source 0 5 other) (note.UnknownTag 5) ∷ []
unfolding actions_of current_record live_osc line interval_of inaccuracy_of queries_of answers_of outcome concluded unknown asked narrow other
unasked_tag_is_unknown = refl

second_answer_is_unknown : actions_of (extended unknown (asked ++ event.Source 0 3 other ∷ [])) (event.Source 0 3 narrow) ≡ noted (event.Source 0 3 narrow) (note.UnknownTag 3) ∷ []
unfolding actions_of current_record live_osc line interval_of inaccuracy_of queries_of answers_of outcome concluded unknown asked narrow other
second_answer_is_unknown = refl

regressed_adoption_forgets_nothing : actions_of (extended unknown (event.Query 5 1 ∷ event.Adopt 4 1 ∷ [])) (event.Query 5 1) ≡ noted (event.Query 5 1) (note.RepeatedTag 1) ∷ []
unfolding actions_of current_record live_osc line interval_of inaccuracy_of queries_of answers_of outcome concluded unknown asked narrow other
regressed_adoption_forgets_nothing = refl

regressed_query_asks_nothing : actions_of (extended unknown (event.Query 5 1 ∷ event.Query 4 2 ∷ [])) (event.Source 5 2 other) ≡ noted (event.Source 5 2 other) (note.UnknownTag 2) ∷ []
unfolding actions_of current_record live_osc line interval_of inaccuracy_of queries_of answers_of outcome concluded unknown asked narrow other
regressed_query_asks_nothing = refl

regressed_stream_is_closed : actions_of (extended unknown (tick 5 ∷ [])) (event.Stream 4 3 (7 ∷ [])) ≡ noted (event.Stream 4 3 (7 ∷ [])) (note.Regressed 5) ∷ action.Close 4 3 ∷ []
unfolding actions_of current_record live_osc line interval_of inaccuracy_of queries_of answers_of outcome concluded unknown asked narrow other
regressed_stream_is_closed = refl
