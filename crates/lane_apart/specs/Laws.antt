-- The law: a lane depends on the roster, on its own positions and on the record that was current at each of them, and on nothing else.
-- And from the other side: which histories there are, and that it depends on no less.
use Rattle.std.specs.Prelude.{◌≡◌, ◌≢◌, ◌≤◌, ℕ, List, map, length}
use Rattle.std.specs.List.{AllByRecursion}
use Rattle.roster.specs.declared.limits.TheConstants.{MAX_SERVERS}
use Rattle.roster.specs.RosterData.{RosterData}
use Rattle.dts_capture.specs.declared.event.Event.{Event}
use Rattle.sync_rules.specs.History.{Start}
use Rattle.node_rules.specs.History.{NodeHistory, Began, roster_of}
use Rattle.node_rules.specs.Rules.{extended}
use Rattle.lane_apart.specs.Lanes.{seen_by, given_by, IsOfClient, CanBe}

-- Two histories of one roster give the same in a lane where the lane sees the same in both, whatever came to the rest of the node:
-- the same events of its own, and the same record at each. A history stands for its last position too, so this is said of each position.
abbrev pub LanesAreApart : Type 0
LanesAreApart = (k : ℕ) (one other : NodeHistory) → CanBe one → CanBe other → roster_of one ≡ roster_of other
    → seen_by k one ≡ seen_by k other → given_by k one ≡ given_by k other

-- Any events make a history that can be, behind any start of a node with no more servers than rosters have, as long as each ask is
-- of a client.
abbrev pub EventsMakeHistories : Type 0
EventsMakeHistories = (roster : RosterData) (start : Start) (events : List Event) → length roster.entries ≤ MAX_SERVERS
    → AllByRecursion IsOfClient events → CanBe (extended (Began roster start) events)

-- two histories that can be
pub record Histories : Type 0 where
  pub one : NodeHistory
  pub other : NodeHistory
  pub one_can : CanBe one
  pub other_can : CanBe other

-- A lane sees the same in two histories, and another lane does not. And of two histories a lane gives not the same where they differ
-- in the roster alone, in an event of its own alone, or in the record alone.
pub record DependsOnNoLess : Type 0 where
  pub others : (h : Histories) × (roster_of h.one ≡ roster_of h.other) × (seen_by 0 h.one ≡ seen_by 0 h.other)
      × (seen_by 1 h.one ≢ seen_by 1 h.other)
  pub rosters : (h : Histories) × (seen_by 0 h.one ≡ seen_by 0 h.other) × (given_by 0 h.one ≢ given_by 0 h.other)
  pub events : (h : Histories) × (roster_of h.one ≡ roster_of h.other)
      × (map (λ s. s.shown) (seen_by 0 h.one) ≡ map (λ s. s.shown) (seen_by 0 h.other)) × (given_by 0 h.one ≢ given_by 0 h.other)
  pub records : (h : Histories) × (roster_of h.one ≡ roster_of h.other)
      × (map (λ s. s.seen) (seen_by 0 h.one) ≡ map (λ s. s.seen) (seen_by 0 h.other)) × (given_by 0 h.one ≢ given_by 0 h.other)
