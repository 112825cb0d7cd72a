-- Worked histories, by computation over the definitions.
use Rattle.std.proofs.Common.{◌≡◌, pos, [], ◌∷◌, Some, None, refl, arith}
use Rattle.std.proofs.lemmas.Int.{ints}
use Rattle.slew_clock.specs.UsualRates.{usual_rates}
use Rattle.slew_clock.specs.Line.{line}
use Rattle.slew_clock.specs.Reading.{interval_of, inaccuracy_of}
use Rattle.dts_capture.specs.declared.event.Event.TheVariants as event
use Rattle.dts_capture.specs.declared.action.NoteKind.TheVariants as note
use Rattle.sync_rules.specs.History.{History, Begun, Settings, current_record}
use Rattle.sync_rules.specs.Live.{live_osc}
use Rattle.sync_rules.specs.Rules.{actions_of, noted, extended}

abbrev pub usual : Settings
usual = record { rates = usual_rates }

-- a clock that starts at 0 with a first interval
known : History
known = Begun usual (record { osc = 0; value = pos 1000000; first = Some (record { lo = pos 999000; hi = pos 1001000; ordered = omega (arith, ints) }) })

-- and one without
unknown : History
unknown = Begun usual (record { osc = 0; value = pos 1000000; first = None })

late : History
late = Begun usual (record { osc = 100; value = pos 1000000; first = None })

reading_after_a_second : actions_of known (event.Read 10000000) ≡ noted (event.Read 10000000) (note.Reading (pos 11000000) (Some 2001) 0 0) ∷ []
unfolding actions_of current_record live_osc line interval_of inaccuracy_of known
reading_after_a_second = refl

reading_at_the_start : actions_of known (event.Read 0) ≡ noted (event.Read 0) (note.Reading (pos 1000000) (Some 1001) 0 0) ∷ []
unfolding actions_of current_record live_osc line interval_of inaccuracy_of known
reading_at_the_start = refl

reading_past_the_end_stands_still : actions_of known (event.Read 50000000) ≡ noted (event.Read 50000000) (note.Reading (pos 41000000) (Some 10006001) 0 0) ∷ []
unfolding actions_of current_record live_osc line interval_of inaccuracy_of known
reading_past_the_end_stands_still = refl

unknown_start_is_unspecified : actions_of unknown (event.Read 5) ≡ noted (event.Read 5) (note.Reading (pos 1000005) None 0 0) ∷ []
unfolding actions_of current_record live_osc line interval_of inaccuracy_of unknown
unknown_start_is_unspecified = refl

read_before_the_start_is_regressed : actions_of late (event.Read 99) ≡ noted (event.Read 99) (note.Regressed 100) ∷ []
unfolding actions_of current_record live_osc line interval_of inaccuracy_of late
read_before_the_start_is_regressed = refl

read_at_the_start_is_live : actions_of late (event.Read 100) ≡ noted (event.Read 100) (note.Reading (pos 1000000) None 0 0) ∷ []
unfolding actions_of current_record live_osc line interval_of inaccuracy_of late
read_at_the_start_is_live = refl

read_below_an_earlier_one_is_regressed : actions_of (extended late (event.Read 300 ∷ event.Read 200 ∷ [])) (event.Read 299) ≡ noted (event.Read 299) (note.Regressed 300) ∷ []
unfolding actions_of current_record live_osc line interval_of inaccuracy_of late
read_below_an_earlier_one_is_regressed = refl
