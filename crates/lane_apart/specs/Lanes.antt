-- What a lane sees of a history, and what it gives.
use Rattle.std.specs.Prelude.{ℕ, ◌≤◌, Bool, if◌then◌else◌, List, [], ◌∷◌, length}
use Rattle.slew_clock.specs.declared.record.ClockRecord.{ClockRecord}
use Rattle.roster.specs.declared.limits.TheConstants.{MAX_SERVERS}
use Rattle.dts_capture.specs.declared.event.Event.{Event}
use Rattle.dts_capture.specs.declared.event.Event.TheVariants as event
use Rattle.dts_capture.specs.declared.action.Action.{Action}
use Rattle.dts_capture.specs.Grammar.{first_connection}
use Rattle.sync_rules.specs.History.{Lane, event_part, current_record}
use Rattle.sync_rules.specs.Live.{same_part}
use Rattle.node_rules.specs.History.{NodeHistory, Began, Next, roster_of, bare}
use Rattle.node_rules.specs.Rules.{IsRuled}

-- the event is of this lane
abbrev pub is_of_lane : ℕ → Event → Bool
is_of_lane k e = same_part (Lane k) (event_part e)

-- a position as its lane sees it: its event, and the record that was current before it
pub record Seen : Type 0 where
  pub seen : Event
  pub shown : ClockRecord

-- what a lane sees of a history: its own positions, the newest first
abbrev pub seen_by : ℕ → NodeHistory → List Seen
seen_by k (Began roster start) = []
seen_by k (Next before e findings actions) =
    if is_of_lane k e then record { seen = e; shown = current_record (bare before) } ∷ seen_by k before else seen_by k before

-- what a lane gives: the actions of each of these positions, in the same order
abbrev pub given_by : ℕ → NodeHistory → List (List Action)
given_by k (Began roster start) = []
given_by k (Next before e findings actions) = if is_of_lane k e then actions ∷ given_by k before else given_by k before

-- ---- histories that can be
-- an ask is of a connection that a client made, as the grammar of captures has it
abbrev pub IsOfClient : Event → Type 0
IsOfClient (event.Ask osc conn octets) = first_connection ≤ conn
IsOfClient _ = Unit {0}

-- and so is each ask of a history
abbrev pub AreOfClients : NodeHistory → Type 0
AreOfClients (Began roster start) = Unit {0}
AreOfClients (Next before e findings actions) = IsOfClient e × AreOfClients before

-- the rules give the history, its roster has no more servers than rosters have, and each ask is of a client
pub record CanBe (history : NodeHistory) : Type 0 where
  pub ruled : IsRuled history
  pub servers : length (roster_of history).entries ≤ MAX_SERVERS
  pub asks : AreOfClients history
