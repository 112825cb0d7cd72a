-- What the steps of a replay share.
use Rattle.std.specs.Prelude.{◌≡◌, ◌≤◌, ℕ, Option, Some, None}
use Rattle.sync_rules.specs.History.{History}
use Rattle.capture_replay.specs.declared.node.Node.{Node}
use Rattle.capture_replay.specs.declared.filter.Replay.{Replay}
use Rattle.capture_replay.specs.Standing.{StandsFor}
use Rattle.capture_replay.specs.Capture.{Replayed}

-- there is a node from the start on
abbrev pub NodeStands : Option Node → Option History → Type 0
NodeStands None None = Unit {0}
NodeStands (Some node) (Some history) = StandsFor node history
NodeStands None (Some history) = ⊥
NodeStands (Some node) None = ⊥

-- the number of the newest record, and 0 before the start
abbrev pub latest : Option Node → ℕ
latest None = 0
latest (Some node) = node.current.number

-- the replay has come so far with so many lines, of which each made one record at most
pub record StandsAt (replay : Replay) (lines : ℕ) (state : Replayed) : Type 0 where
  pub rates : replay.rates ≡ state.settings.rates
  pub node : NodeStands replay.node state.history
  pub number : latest replay.node ≤ lines

-- the number of the current record, from the start on
abbrev pub number_at : Option Node → Option ℕ
number_at None = None
number_at (Some node) = Some node.current.number
