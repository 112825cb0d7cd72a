-- The history of a node: what happened to it, and the actions that it gave.
use Rattle.std.specs.Prelude.{◌≡◌, ◌⊎◌, ℕ, ℤ, ◌+◌, ◌%◌, nat_lt, if◌then◌else◌, List, [], ◌∷◌, ◌++◌, flat_map, Option}
use Rattle.dts_base.specs.declared.interval.Interval.{Interval}
use Rattle.slew_clock.specs.declared.rates.Rates.{Rates}
use Rattle.slew_clock.specs.declared.record.ClockRecord.{ClockRecord}
use Rattle.slew_clock.specs.Started.{started}
use Rattle.dts_capture.specs.declared.event.Event.{Event}
use Rattle.dts_capture.specs.declared.event.Event.TheVariants as event
use Rattle.dts_capture.specs.declared.action.Action.{Action}
use Rattle.dts_capture.specs.declared.action.Action.TheVariants as action
use Rattle.dts_capture.specs.Grammar.{first_connection}
use Rattle.dts_capture.specs.Log.{log_text}

-- how a node is set: the rates of its clock
pub record Settings : Type 0 where
  pub rates : Rates

-- how a node starts: at this oscillator reading, with this value of its clock, and this first interval where one is known
pub record Start : Type 0 where
  pub osc : ℕ
  pub value : ℤ
  pub first : Option Interval

-- A history is the start of a node with its settings, and then positions, the newest on the outside:
-- each an event with the actions that it gave.
pub data History : Type 0 where
  Begun : Settings → Start → History
  Then : History → Event → List Action → History

abbrev pub settings_of : History → Settings
settings_of (Begun settings start) = settings
settings_of (Then before event actions) = settings_of before

abbrev pub start_of : History → Start
start_of (Begun settings start) = start
start_of (Then before event actions) = start_of before

abbrev pub lanes : ℕ
lanes = 4

-- the part of a node that a position belongs to: the sync part, or a lane that serves programs
pub data Part : Type 0 where
  Sync : Part
  Lane : ℕ → Part

-- peers below this number are servers; the others are connections that clients made, which have four lanes
abbrev pub peer_part : ℕ → Part
peer_part peer = if nat_lt peer first_connection then Sync else Lane (peer % lanes)

abbrev pub event_part : Event → Part
event_part (event.Tick osc word) = Sync
event_part (event.Stream osc peer bytes) = peer_part peer
event_part (event.Gram osc peer bytes) = peer_part peer
event_part (event.Lost osc peer) = peer_part peer
event_part (event.Unsent osc peer) = peer_part peer
event_part (event.Read osc) = Lane 0
event_part (event.Ask osc conn bytes) = Lane (conn % lanes)
event_part (event.Query osc tag) = Sync
event_part (event.Source osc tag interval) = Sync
event_part (event.Adopt osc required) = Sync

abbrev pub event_osc : Event → ℕ
event_osc (event.Tick osc word) = osc
event_osc (event.Stream osc peer bytes) = osc
event_osc (event.Gram osc peer bytes) = osc
event_osc (event.Lost osc peer) = osc
event_osc (event.Unsent osc peer) = osc
event_osc (event.Read osc) = osc
event_osc (event.Ask osc conn bytes) = osc
event_osc (event.Query osc tag) = osc
event_osc (event.Source osc tag interval) = osc
event_osc (event.Adopt osc required) = osc

-- the record that is published at the start
abbrev pub first_record : Start → ClockRecord
first_record start = started start.osc start.value start.first

-- A history up to a position stands for that position: its number, its part, its oscillator reading and the actions that it gave.
-- The start is position 0, and of the sync part.
abbrev pub number_of : History → ℕ
number_of (Begun settings start) = 0
number_of (Then before event actions) = number_of before + 1

abbrev pub part_of : History → Part
part_of (Begun settings start) = Sync
part_of (Then before event actions) = event_part event

abbrev pub osc_of : History → ℕ
osc_of (Begun settings start) = start.osc
osc_of (Then before event actions) = event_osc event

abbrev pub given_at : History → List Action
given_at (Begun settings start) = action.Publish (first_record start) ∷ []
given_at (Then before event actions) = actions

-- the position is one of the history
abbrev pub IsPositionOf : History → History → Type 0
IsPositionOf position (Begun settings start) = position ≡ Begun settings start
IsPositionOf position (Then before event actions) = (position ≡ Then before event actions) ⊎ IsPositionOf position before

-- the position comes before the last one of the history
abbrev pub ComesBefore : History → History → Type 0
ComesBefore position (Begun settings start) = ⊥
ComesBefore position (Then before event actions) = IsPositionOf position before

-- the record that was published last among these actions, or else the one before
abbrev pub published : ClockRecord → List Action → ClockRecord
published rec [] = rec
published rec (action.Publish next ∷ actions) = published next actions
published rec (_ ∷ actions) = published rec actions

-- the current record: the one that was published last
unfoldable pub current_record : History → ClockRecord
current_record (Begun settings start) = first_record start
current_record (Then before event actions) = published (current_record before) actions

-- the log: the texts of the actions of all positions, in order
unfoldable pub log_of : History → List ℕ
log_of (Begun settings start) = flat_map log_text (given_at (Begun settings start))
log_of (Then before event actions) = log_of before ++ flat_map log_text actions
