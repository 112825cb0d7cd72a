-- How far a drill has come.
use Rattle.std.specs.Prelude.{◌≡◌, ℕ, ◌+◌, ◌*◌, ◌≤◌, length}
use Rattle.dts_capture.specs.Grammar.{most_tags}
use Rattle.sync_rules.specs.History.{History}
use Rattle.capture_replay.specs.Standing.{StandsFor}
use Rattle.event_drill.specs.declared.running.Run.{Run}
use Rattle.event_drill.specs.Progress.{HasMade}
use Rattle.event_drill.specs.Summary.{counts_of, actions_in}

-- the most actions that an event gives: an adoption names each answer as false, and there are three more
abbrev pub most_actions : ℕ
most_actions = most_tags + 3

-- so many events were made and taken, and they make this history
pub record RunStands (run : Run) (events : ℕ) (history : History) : Type 0 where
  pub node : StandsFor run.node history
  pub number : run.node.current.number ≤ events
  pub made : HasMade events run.maker
  pub counts : run.counts ≡ counts_of (actions_in history)
  pub few : length (actions_in history) ≤ events * most_actions + 1
