-- Laws on the made capture from the other side.
use Rattle.std.specs.Prelude.{◌≡◌, ℕ, ◌+◌, ◌≤◌, All, List, [], ◌∷◌, length, take, flat_map}
use Rattle.slew_clock.specs.UsualRates.{usual_rates}
use Rattle.line_filter.specs.Filters.{IsValid}
use Rattle.dts_capture.specs.Log.{log_text}
use Rattle.dts_capture.specs.declared.action.Action.{Action}
use Rattle.dts_capture.specs.declared.action.Action.TheVariants as action
use Rattle.dts_capture.specs.declared.action.NoteKind.{NoteKind}
use Rattle.dts_capture.specs.declared.action.NoteKind.TheVariants as note
use Rattle.dts_capture.specs.declared.event.Event.{Event}
use Rattle.sync_rules.specs.History.{History, event_osc, log_of}
use Rattle.capture_replay.specs.Capture.{capture, unstarted}
use Rattle.capture_replay.specs.Written.{IsWritable, written}
use Rattle.event_drill.specs.declared.limits.TheConstants.{MAX_EVENTS}
use Rattle.event_drill.specs.Made.{seeded, first, made_events, made_history}
use Rattle.event_drill.specs.Summary.{actions_in}

-- So many events are made as are asked for, and fewer of a seed are the beginning of more.
pub record AreOneList : Type 0 where
  pub many : (seed n : ℕ) → length (made_events n (seeded seed)) ≡ n
  pub same : (seed n more : ℕ) → take n (made_events (n + more) (seeded seed)) ≡ made_events n (seeded seed)

-- no event has an oscillator reading below that of the one before it, or below this one
abbrev pub NeverFalls : ℕ → List Event → Type 0
NeverFalls osc [] = Unit {0}
NeverFalls osc (e ∷ events) = (osc ≤ event_osc e) × NeverFalls (event_osc e) events

-- The oscillator of a drill never goes back.
abbrev pub OscillatorGoesOn : Type 0
OscillatorGoesOn = (seed n : ℕ) → NeverFalls 0 (made_events n (seeded seed))

-- the capture of a seed, with so many events, as its printed lines
abbrev pub made_capture : ℕ → ℕ → List ℕ
made_capture seed n = written first (made_events n (seeded seed))

-- Its numbers are in the ranges of captures, so it is a valid one, and its log is that of the history that is counted.
pub record IsValidCapture (seed n : ℕ) : Type 0 where
  pub writable : IsWritable first (made_events n (seeded seed))
  pub valid : IsValid capture (unstarted usual_rates) (made_capture seed n) (log_of (made_history seed n))

abbrev pub AreValidCaptures : Type 0
AreValidCaptures = (seed n : ℕ) → n ≤ MAX_EVENTS → IsValidCapture seed n

-- The log is the lines of the actions that are counted, one for each.
abbrev pub IsCountedByLines : Type 0
IsCountedByLines = (history : History) → log_of history ≡ flat_map log_text (actions_in history)

-- a summary counts the line of this note, and of this action
abbrev pub IsCountedNote : NoteKind → Type 0
IsCountedNote (note.Reading value inaccuracy step number) = Unit {0}
IsCountedNote (note.Adopted n lo hi) = Unit {0}
IsCountedNote (note.False source) = Unit {0}
IsCountedNote (note.Step step old new) = Unit {0}
IsCountedNote (note.Short answered required) = Unit {0}
IsCountedNote (note.Split n) = Unit {0}
IsCountedNote _ = ⊥

abbrev pub IsCounted : Action → Type 0
IsCounted (action.Publish rec) = Unit {0}
IsCounted (action.Log n) = IsCountedNote n.kind
IsCounted _ = ⊥

-- The log of a drill has no line but those that are counted: no event is regressed, no tag is asked twice, and none is answered
-- that is not open.
abbrev pub HasNoOtherLine : Type 0
HasNoOtherLine = (seed n : ℕ) → n ≤ MAX_EVENTS → All IsCounted (actions_in (made_history seed n))
