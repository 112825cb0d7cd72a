-- Which history the state of a node stands for.
use Rattle.std.specs.Prelude.{◌≡◌, ℕ, List}
use Rattle.dts_capture.specs.declared.action.Action.{Action}
use Rattle.dts_capture.specs.declared.event.Event.{Event}
use Rattle.dts_capture.specs.declared.event.Event.TheVariants as event
use Rattle.sync_rules.specs.History.{History, Sync, Lane, current_record}
use Rattle.sync_rules.specs.Live.{live_osc}
use Rattle.sync_rules.specs.Ranges.{IsInRange}
use Rattle.clerk.specs.Outcome.{Outcome}
use Rattle.sync_rules.specs.Rules.{IsRuled, rates_of, actions_of, followed_by, outcome_actions}
use Rattle.capture_replay.specs.declared.node.Node.{Node}
use Rattle.capture_replay.specs.Rounds.{RoundStands, answers_kept}

-- the sync part of the state is what the rules select from the history
pub record SyncStands (node : Node) (history : History) : Type 0 where
  pub rates : node.rates ≡ rates_of history
  pub current : node.current ≡ current_record history
  pub last : node.sync_osc ≡ live_osc Sync history
  pub round : RoundStands node.round history

-- the oscillator reading of a lane's last live read is that of the history
abbrev pub LaneStands : ℕ → ℕ → History → Type 0
LaneStands lane last history = last ≡ live_osc (Lane lane) history

-- the state of a node stands for a history that the rules give, with its numbers in their ranges: both parts of it
pub record StandsFor (node : Node) (history : History) : Type 0 where
  pub sync : SyncStands node history
  pub lane : LaneStands 0 node.lane_osc history
  pub ruled : IsRuled history
  pub range : IsInRange history

-- an event took the node from one state to another and gave these actions, as the rules have it of every history that it stands for
pub record IsStep (old new : Node) (event : Event) (actions : List Action) : Type 0 where
  pub gives : (history : History) → StandsFor old history → actions_of history event ≡ actions
  pub stands : (history : History) → StandsFor old history → StandsFor new (followed_by history event)

-- the node stands for what it stood for
abbrev pub IsKept : Node → Node → Type 0
IsKept old new = (history : History) → StandsFor old history → StandsFor new history

-- what an outcome gives, whatever was required
abbrev pub concluded : Node → ℕ → Outcome → List Action
concluded node osc o = outcome_actions (event.Adopt osc 0) node.rates node.current (answers_kept node.round) o
