-- The sync part of a node with peers, and the law that serving is apart from it.
use Rattle.std.specs.Prelude.{◌≡◌, ℕ, ◌≤◌, Bool, true, false, if◌then◌else◌, List, [], ◌∷◌, ◌++◌, length, map, filter, Option}
use Rattle.roster.specs.declared.limits.TheConstants.{MAX_SERVERS}
use Rattle.roster.specs.RosterData.{RosterData}
use Rattle.dts_capture.specs.declared.event.Event.{Event}
use Rattle.dts_capture.specs.declared.event.Event.TheVariants as event
use Rattle.dts_capture.specs.declared.action.Action.{Action}
use Rattle.dts_capture.specs.declared.line.Line.TheVariants as line
use Rattle.dts_capture.specs.Grammar.{first_connection}
use Rattle.dts_capture.specs.Ranges.{IsLineInRange}
use Rattle.sync_rules.specs.History.{Part, Sync, Lane, Start, event_part, current_record}
use Rattle.node_rules.specs.History.{NodeHistory, Began, Next, bare}
use Rattle.node_rules.specs.Rules.{extended}

-- the event is of the sync part
abbrev pub is_sync_part : Part → Bool
is_sync_part Sync = true
is_sync_part (Lane k) = false

abbrev pub is_sync : Event → Bool
is_sync e = is_sync_part (event_part e)

-- the positions of the sync part behind the start, in their order: each event with the actions that it gave
abbrev pub sync_given : NodeHistory → List (Event × List Action)
sync_given (Began roster start) = []
sync_given (Next before e findings actions) = if is_sync e then sync_given before ++ (e, actions) ∷ [] else sync_given before

abbrev pub event_given : Event × List Action → Event
event_given given = given.0

-- the number of each server of the roster is below those of connections
abbrev pub IsBelowConnections : RosterData → Type 0
IsBelowConnections roster = length roster.entries ≤ first_connection

-- clients ask over connections alone
abbrev pub IsOverConnection : Event → Type 0
IsOverConnection (event.Ask osc conn octets) = first_connection ≤ conn
IsOverConnection _ = Unit {0}

abbrev pub AskOverConnections : List Event → Type 0
AskOverConnections [] = Unit {0}
AskOverConnections (e ∷ events) = IsOverConnection e × AskOverConnections events

-- Serving changes nothing of the sync part: its positions have the actions that they would have if no event of a lane ever came, and
-- the clock has the same record.
pub record ServesApart : Type 0 where
  pub given : (roster : RosterData) (start : Start) (events : List Event) → IsBelowConnections roster → AskOverConnections events
      → sync_given (extended (Began roster start) events) ≡ sync_given (extended (Began roster start) (filter is_sync events))
  pub clock : (roster : RosterData) (start : Start) (events : List Event) → IsBelowConnections roster → AskOverConnections events
      → current_record (bare (extended (Began roster start) events))
      ≡ current_record (bare (extended (Began roster start) (filter is_sync events)))

-- ---- laws from the other side
-- Each event of the sync part has its position, in their order, and no other event has one.
abbrev pub GivesEachEvent : Type 0
GivesEachEvent = (roster : RosterData) (start : Start) (events : List Event)
    → map event_given (sync_given (extended (Began roster start) events)) ≡ filter is_sync events

-- What is asked of rosters and events above is so of each roster that a node has, and of each event that a line can say.
pub record AsksWhatIsSo : Type 0 where
  pub rosters : (roster : RosterData) → length roster.entries ≤ MAX_SERVERS → IsBelowConnections roster
  pub events : (current at : Option ℕ) (e : Event) → IsLineInRange current (line.Event at e) → IsOverConnection e
