-- Worked drills, by computation over the definitions.
use Rattle.std.proofs.Common.{◌≡◌, ℕ, [], ◌∷◌, refl}
use Rattle.dts_capture.specs.declared.event.Event.TheVariants as event
use Rattle.slew_clock.specs.Line.{line}
use Rattle.slew_clock.specs.Reading.{interval_of, inaccuracy_of}
use Rattle.sync_rules.specs.History.{current_record}
use Rattle.sync_rules.specs.Live.{live_osc}
use Rattle.clerk.specs.Outcome.{concluded}
use Rattle.sync_rules.specs.Rounds.{queries_of, answers_of, outcome}
use Rattle.sync_rules.specs.Rules.{actions_of}
use Rattle.event_drill.specs.declared.counts.Counts.{Counts}
use Rattle.event_drill.specs.declared.maker.Maker.{Maker}
use Rattle.event_drill.specs.Around.{interval_around}
use Rattle.event_drill.specs.Draws.{next_word, drawn_below, drawn, last_below}
use Rattle.event_drill.specs.Made.{seeded, advanced, reads, queries, sources, adopts, made, made_events, made_history}
use Rattle.event_drill.specs.Summary.{counts_of, actions_in}

-- ---- draws
seed_1_goes_on_by_834774 : (advanced (seeded 1)).osc ≡ 834774
unfolding next_word drawn_below
seed_1_goes_on_by_834774 = refl

seed_1_then_draws_1 : last_below (drawn (advanced (seeded 1))) 8 ≡ 1
unfolding next_word drawn_below
seed_1_then_draws_1 = refl

-- ---- events
seed_1_makes_a_tick_and_reads : made_events 3 (seeded 1)
    ≡ event.Tick 834774 9396908728118811419 ∷ event.Read 1175970 ∷ event.Read 1387004 ∷ []
unfolding next_word drawn_below made
seed_1_makes_a_tick_and_reads = refl

-- a source tells the right time, up to its error
right_source_is_made : made_events 2 (seeded 30272) ≡ event.Query 1382159 0 ∷ event.Source 1933516 0 (interval_around 1001933516 73862) ∷ []
unfolding next_word drawn_below made
right_source_is_made = refl

-- or a false one
false_source_is_made : made_events 2 (seeded 64273) ≡ event.Query 456523 0 ∷ event.Source 1672196 0 (interval_around 11001672196 27210) ∷ []
unfolding next_word drawn_below made
false_source_is_made = refl

-- ---- limits of a round
abbrev round : ℕ → ℕ → Maker
round asked answered = record { word = 0; osc = 7; next_tag = 40; asked = asked; answered = answered }

tag_32_is_asked : queries (round 31 0)
    ≡ record { event = event.Query 7 40; next = record { word = 0; osc = 7; next_tag = 41; asked = 32; answered = 0 } }
tag_32_is_asked = refl

tag_33_is_a_read : queries (round 32 5) ≡ reads (round 32 5)
tag_33_is_a_read = refl

answered_tags_are_no_more_open : sources (round 32 32) ≡ reads (round 32 32)
answered_tags_are_no_more_open = refl

oldest_open_tag_is_answered : (sources (round 5 2)).event ≡ event.Source 7 37 (interval_around 11000000007 52807)
unfolding next_word drawn_below
oldest_open_tag_is_answered = refl

three_answers_end_a_round : adopts (round 5 3)
    ≡ record { event = event.Adopt 7 3; next = record { word = 0; osc = 7; next_tag = 40; asked = 0; answered = 0 } }
three_answers_end_a_round = refl

two_answers_do_not : adopts (round 5 2) ≡ sources (round 5 2)
two_answers_do_not = refl

-- ---- summaries
abbrev counts : (records steps readings adopted false_sources : ℕ) → Counts
counts records steps readings adopted false_sources = record {
  records = records;
  steps = steps;
  readings = readings;
  unspecified = 0;
  adopted = adopted;
  split = 0;
  short = 0;
  false_sources = false_sources;
}

abbrev summary : ℕ → ℕ → Counts
summary seed events = counts_of (actions_in (made_history seed events))

no_event_has_one_record : summary 1 0 ≡ counts 1 0 0 0 0
no_event_has_one_record = refl

one_tick_has_two : summary 1 1 ≡ counts 2 0 0 0 0
unfolding next_word drawn_below made actions_of current_record live_osc line interval_of inaccuracy_of queries_of answers_of outcome concluded
one_tick_has_two = refl

eight_events_have_five_readings : summary 1 8 ≡ counts 2 0 5 0 0
unfolding next_word drawn_below made actions_of current_record live_osc line interval_of inaccuracy_of queries_of answers_of outcome concluded
eight_events_have_five_readings = refl

-- one of three answers is false
false_source_is_named : summary 30272 7 ≡ counts 2 0 0 1 1
unfolding next_word drawn_below made actions_of current_record live_osc line interval_of inaccuracy_of queries_of answers_of outcome concluded
false_source_is_named = refl

-- two of three are, and the clock steps to them
two_false_sources_step_the_clock : summary 64273 9 ≡ counts 2 1 2 1 1
unfolding next_word drawn_below made actions_of current_record live_osc line interval_of inaccuracy_of queries_of answers_of outcome concluded
two_false_sources_step_the_clock = refl
