-- The capture that a drill makes from a number: its start, and its events.
use Rattle.std.specs.Prelude.{ℕ, suc, zero, ◌+◌, ◌-◌, nat_lt, nat_le, ◌==◌, Bool, if◌then◌else◌, pos, List, [], ◌∷◌, length, get_or, Some}
use Rattle.slew_clock.specs.UsualRates.{usual_rates}
use Rattle.dts_capture.specs.declared.event.Event.{Event}
use Rattle.dts_capture.specs.declared.event.Event.TheVariants as event
use Rattle.sync_rules.specs.History.{History, Start}
use Rattle.capture_replay.specs.Written.{history_of}
use Rattle.event_drill.specs.declared.limits.TheConstants.{OSC_STEPS, MOST_ASKED, LEAST_ANSWERED, START_VALUE, START_ERROR, LEAST_ERROR, ERRORS, FALSE_ONE_OF, FALSE_BY}
use Rattle.event_drill.specs.declared.kind.Kind.{Kind}
use Rattle.event_drill.specs.declared.kind.Kind.TheVariants as kind
use Rattle.event_drill.specs.declared.kind.TheConstants.{KINDS}
use Rattle.event_drill.specs.declared.maker.Maker.{Maker}
use Rattle.event_drill.specs.Draws.{drawn, last_below}
use Rattle.event_drill.specs.Around.{interval_around}

-- an event, and the maker behind it
pub record Made : Type 0 where
  pub event : Event
  pub next : Maker

-- the maker of a seed, which is the word of its first draw
abbrev pub seeded : ℕ → Maker
seeded seed = record { word = seed; osc = 0; next_tag = 0; asked = 0; answered = 0 }

-- what a source tells at an oscillator reading: true time, or a time that is too late
abbrev pub time_told : ℕ → Bool → ℕ
time_told osc is_false = START_VALUE + osc + (if is_false then FALSE_BY else 0)

-- a read of the clock
abbrev pub reads : Maker → Made
reads m = record { event = event.Read m.osc; next = m }

-- the next tag is asked, and a read stands in its place where as many are asked as may be
abbrev pub queries : Maker → Made
queries m =
    if nat_lt m.asked MOST_ASKED
    then record { event = event.Query m.osc m.next_tag; next = record m { next_tag = m.next_tag + 1; asked = m.asked + 1 } }
    else reads m

-- the oldest open tag: tags are answered in the order in which they were asked
abbrev pub oldest_open : Maker → ℕ
oldest_open m = m.next_tag - (m.asked - m.answered)

-- the oldest open tag is answered, by two draws, and a read stands in its place where none is open
abbrev pub sources : Maker → Made
sources m =
    let reaching = drawn m in
    let telling = drawn reaching in
    if nat_lt m.answered m.asked
    then record {
      event = event.Source m.osc (oldest_open m)
          (interval_around (time_told m.osc (last_below telling FALSE_ONE_OF == 0)) (LEAST_ERROR + last_below reaching ERRORS));
      next = record telling { answered = m.answered + 1 };
    }
    else reads m

-- a round with enough answers ends, and all tags are forgotten; else as for a source
abbrev pub adopts : Maker → Made
adopts m =
    if nat_le LEAST_ANSWERED m.answered
    then record { event = event.Adopt m.osc LEAST_ANSWERED; next = record m { asked = 0; answered = 0 } }
    else sources m

abbrev pub made_as : Kind → Maker → Made
made_as kind.Tick m = record { event = event.Tick m.osc m.word; next = m }
made_as kind.Read m = reads m
made_as kind.Query m = queries m
made_as kind.Source m = sources m
made_as kind.Adopt m = adopts m

-- the oscillator goes on by a draw
abbrev pub advanced : Maker → Maker
advanced m = let d = drawn m in record d { osc = m.osc + last_below d OSC_STEPS }

-- the kind that the last draw takes
abbrev pub kind_taken : Maker → Kind
kind_taken m = get_or KINDS (last_below m (length KINDS)) kind.Tick

-- the oscillator goes on, a kind is drawn, and an event of it is made
unfoldable pub made : Maker → Made
made m = let now = drawn (advanced m) in made_as (kind_taken now) now

-- so many events, one after the other
abbrev pub made_events : ℕ → Maker → List Event
made_events zero m = []
made_events (suc n) m = (made m).event ∷ made_events n (made m).next

-- the start: the clock is right, and its first interval is known
abbrev pub first : Start
first = record { osc = 0; value = pos START_VALUE; first = Some (interval_around START_VALUE START_ERROR) }

-- the history of the capture that is made of a seed, with so many events
abbrev pub made_history : ℕ → ℕ → History
made_history seed events = history_of usual_rates first (made_events events (seeded seed))
