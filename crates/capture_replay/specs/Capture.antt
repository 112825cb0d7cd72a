-- What a replay of a capture takes and refuses, and the log that it writes.
use Rattle.std.specs.Prelude.{◌≡◌, ◌⊎◌, ℕ, ◌+◌, Bool, true, false, List, [], ◌∷◌, ◌++◌, Option, Some, None, codes}
use Rattle.slew_clock.specs.declared.rates.Rates.{Rates}
use Rattle.line_reader.specs.declared.limits.TheConstants.{MAX_LINE}
use Rattle.line_reader.specs.Fields.{fields_of}
use Rattle.line_filter.specs.Filters.{Rules}
use Rattle.dts_capture.specs.declared.event.Event.{Event}
use Rattle.dts_capture.specs.declared.event.Event.TheVariants as event
use Rattle.dts_capture.specs.declared.line.Line.{Line}
use Rattle.dts_capture.specs.declared.line.Line.TheVariants as line
use Rattle.dts_capture.specs.declared.line.LineCause.{LineCause}
use Rattle.dts_capture.specs.declared.line.LineCause.TheVariants as cause
use Rattle.dts_capture.specs.Grammar.{Fault}
use Rattle.dts_capture.specs.Spelling.{is_blank, Spells, IsWrongAt}
use Rattle.sync_rules.specs.History.{History, Begun, Settings, current_record, log_of}
use Rattle.sync_rules.specs.Rules.{followed_by}
use Rattle.capture_replay.specs.declared.fault.CaptureFault.{CaptureFault}

-- how far a replay has come: the settings of its node, and the history that its lines make, from the start line on
pub record Replayed : Type 0 where
  pub settings : Settings
  pub history : Option History

-- no line was taken yet
abbrev pub unstarted : Rates → Replayed
unstarted rates = record { settings = record { rates = rates }; history = None }

-- the number of the current record, which `at K` has to name
abbrev pub current_number : Option History → Option ℕ
current_number None = None
current_number (Some history) = Some (current_record history).number

-- the log of the history so far, and nothing before the start
abbrev pub log_so_far : Option History → List ℕ
log_so_far None = []
log_so_far (Some history) = log_of history

-- the first word of the line is `start`
abbrev pub SaysStart : List ℕ → Type 0
SaysStart text = (rest : List (List ℕ)) × (fields_of text ≡ codes "start" ∷ rest)

-- the first line that is not blank says no start, or a later one does
abbrev pub IsMisplaced : Option History → List ℕ → Type 0
IsMisplaced None text = (is_blank text ≡ false) × (SaysStart text → ⊥)
IsMisplaced (Some history) text = SaysStart text

-- the events that are replayed so far: ticks, reads of the clock, and those of direct rounds
abbrev pub is_built : Event → Bool
is_built (event.Tick osc word) = true
is_built (event.Read osc) = true
is_built (event.Query osc tag) = true
is_built (event.Source osc tag interval) = true
is_built (event.Adopt osc required) = true
is_built _ = false

-- What a line makes of a history: a blank one leaves it, a start line begins it, and an event follows on it.
abbrev pub Continues : Settings → Option History → Line → Option History → Type 0
Continues settings history line.Blank next = next ≡ history
Continues settings history (line.Start osc value first) next =
    (history ≡ None) × (next ≡ Some (Begun settings (record { osc = osc; value = value; first = first })))
Continues settings history (line.Event at event) next =
    (before : History) × (history ≡ Some before) × (is_built event ≡ true) × (next ≡ Some (followed_by before event))

-- the line is in its place, and makes the history go on; the text is what it adds to the log
pub record Takes (state : Replayed) (text : List ℕ) (next : Replayed) (out : List ℕ) : Type 0 where
  pub placed : IsMisplaced state.history text → ⊥
  pub says : Line
  pub spells : Spells (current_number state.history) text says
  pub settings : next.settings ≡ state.settings
  pub continues : Continues state.settings state.history says next.history
  pub log : log_so_far next.history ≡ log_so_far state.history ++ out

-- an event that is not replayed so far
abbrev pub IsUnbuilt : Line → Type 0
IsUnbuilt (line.Event at event) = is_built event ≡ false
IsUnbuilt _ = ⊥

-- a fault of the whole line stands at its first column
abbrev pub at_first : LineCause → CaptureFault
at_first why = record { column = 1; cause = why }

abbrev pub IsFaultAt : Fault → CaptureFault → Type 0
IsFaultAt place fault = fault ≡ record { column = place.column; cause = place.why }

-- The line is out of its place, or else it has this first wrong field, or else it is of an event that is not replayed.
abbrev pub Refuses : Replayed → List ℕ → CaptureFault → Type 0
Refuses state text fault = (IsMisplaced state.history text × (fault ≡ at_first cause.Start))
    ⊎ ((IsMisplaced state.history text → ⊥) × (((place : Fault) × IsWrongAt (current_number state.history) text place × IsFaultAt place fault)
    ⊎ ((says : Line) × Spells (current_number state.history) text says × IsUnbuilt says × (fault ≡ at_first cause.Word))))

-- no line said the start
abbrev pub RefusesEnd : Replayed → CaptureFault → Type 0
RefusesEnd state fault = (state.history ≡ None) × (fault ≡ at_first cause.Start)

-- the rules of a capture
abbrev pub capture : Rules Replayed CaptureFault
capture = record {
  Takes = Takes;
  Refuses = Refuses;
  RefusesEnd = RefusesEnd;
  too_many = at_first cause.Lines;
  too_long = record { column = MAX_LINE + 1; cause = cause.Long };
}
