-- Captures as they are written: the printed text of a start and of events.
use Rattle.std.specs.Prelude.{◌≡◌, ◌<◌, true, ℕ, List, ◌∷◌, All, length, map, None}
use Rattle.slew_clock.specs.declared.rates.Rates.{Rates}
use Rattle.line_reader.specs.declared.limits.TheConstants.{MAX_LINES}
use Rattle.line_reader.specs.Lines.{joined}
use Rattle.dts_capture.specs.declared.event.Event.{Event}
use Rattle.dts_capture.specs.declared.line.Line.{Line}
use Rattle.dts_capture.specs.declared.line.Line.TheVariants as line
use Rattle.dts_capture.specs.Printing.{line_text}
use Rattle.dts_capture.specs.Ranges.{IsLineInRange}
use Rattle.sync_rules.specs.History.{History, Begun, Start}
use Rattle.sync_rules.specs.Rules.{extended}
use Rattle.capture_replay.specs.Capture.{is_built}

abbrev pub start_line : Start → Line
start_line start = line.Start start.osc start.value start.first

abbrev pub event_line : Event → Line
event_line event = line.Event None event

-- the start and the events can be written: their numbers are in the ranges of the grammar, and there are not too many
pub record IsWritable (begin : Start) (after : List Event) : Type 0 where
  pub start : IsLineInRange None (start_line begin)
  pub events : All (λ e. (is_built e ≡ true) × IsLineInRange None (event_line e)) after
  pub few : length after < MAX_LINES

-- their capture: the start line, and a line for each event, each with a line feed
abbrev pub written : Start → List Event → List ℕ
written start events = joined (line_text (start_line start) ∷ map (λ e. line_text (event_line e)) events)

-- the history that they make at these rates
abbrev pub history_of : Rates → Start → List Event → History
history_of rates start events = extended (Begun (record { rates = rates }) start) events
