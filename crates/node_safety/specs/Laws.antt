-- Laws on the definitions from the other side: each list of events has a history of the rules; honest worlds exist, also where a round
-- adopts an interval; and one false interval of two is too many.
use Rattle.std.specs.Prelude.{◌≡◌, ℕ, ℤ, ◌*◌, nat_le, Bool, true, List, [], ◌∷◌, Contains}
use Rattle.std.specs.List.{AllPass}
use Rattle.clerk.specs.Outcome.{Adopted}
use Rattle.roster.specs.RosterData.{RosterData}
use Rattle.dts_capture.specs.declared.event.Event.{Event}
use Rattle.dts_capture.specs.declared.event.Event.TheVariants as event
use Rattle.sync_rules.specs.History.{History, Start, start_of, IsPositionOf as IsPositionAlone}
use Rattle.sync_rules.specs.Rules.{followed_by as followed_alone}
use Rattle.sync_rules.specs.Ranges.{StartsInRange, IsEventInRange, IsInRange}
use Rattle.sync_rules.specs.World.{World, time_at, KeepsDrift, IsRightFirst, HasHonestRound, exact_world}
use Rattle.sync_rules.specs.Safety.{Shown, Gives, ContainsTime}
use Rattle.node_rules.specs.History.{Finding, RoundEnded, NodeHistory, Began, bare, Found, found_in}
use Rattle.node_rules.specs.Rules.{IsRuled, followed_by, extended}
use Rattle.node_safety.specs.World.{false_count, interval_count, is_honest, IsHonest}

abbrev pub AreInRange : List Event → Type 0
AreInRange [] = Unit {0}
AreInRange (event ∷ events) = IsEventInRange event × AreInRange events

-- whatever happens to a node, the rules give its history; and its numbers are in their ranges where those of the start and of the
-- events are
pub record EventsHaveHistories : Type 0 where
  pub ruled : (roster : RosterData) (start : Start) (events : List Event) → IsRuled (extended (Began roster start) events)
  pub in_range : (roster : RosterData) (start : Start) (events : List Event) → StartsInRange start → AreInRange events
      → IsInRange (bare (extended (Began roster start) events))

-- a read gives a node with peers what it gives one alone: one reading, that of the current record, or none where it is regressed
abbrev pub ReadsAreAsAlone : Type 0
ReadsAreAsAlone = (before : NodeHistory) (osc : ℕ)
    → bare (followed_by before (event.Read osc)) ≡ followed_alone (bare before) (event.Read osc)

-- the world of an exact oscillator is honest, where the first interval is right and fewer than half of the intervals of each round that
-- adopts are false in it
abbrev pub ExactWorldsAreHonest : Type 0
ExactWorldsAreHonest = (history : NodeHistory) (begins : ℤ) → IsRightFirst (start_of (bare history)) begins
    → ((position : History) → IsPositionAlone position (bare history) → HasHonestRound (exact_world (bare history) begins) position)
    → AllPass (is_honest (exact_world (bare history) begins)) (found_in history) → IsHonest history (exact_world (bare history) begins)

-- the round adopted an interval
abbrev pub IsAdoptingEnd : Finding → Type 0
IsAdoptingEnd (RoundEnded (Adopted n i) answers own) = Unit {0}
IsAdoptingEnd _ = ⊥

-- there is a history with a round that adopts an interval, and an honest world of it
pub record AdoptsHonestly : Type 0 where
  pub history : NodeHistory
  pub world : World
  pub ruled : IsRuled history
  pub in_range : IsInRange (bare history)
  pub honest : IsHonest history world
  pub found : Found
  pub is : Contains (found_in history) found
  pub adopts : IsAdoptingEnd found.finding

-- a round that adopts has no more false intervals than right ones
abbrev pub is_half_honest_end : World → ℤ → Finding → Bool
is_half_honest_end world time (RoundEnded (Adopted n i) answers own) =
    nat_le (2 * false_count world time answers own) (interval_count answers own)
is_half_honest_end world time _ = true

-- where half of the intervals may be false, a reading may lack true time: there is a history, and a world that is honest but for that
pub record HalfIsTooMany : Type 0 where
  pub history : NodeHistory
  pub world : World
  pub shown : Shown
  pub ruled : IsRuled history
  pub in_range : IsInRange (bare history)
  pub drift : KeepsDrift (bare history) world
  pub first : IsRightFirst (start_of (bare history)) (world.time 0)
  pub half : AllPass (λ f. is_half_honest_end world (world.time f.at.position) f.finding) (found_in history)
  pub reads : Gives (bare history) shown
  pub lacks : ContainsTime shown (time_at world (bare history)) → ⊥
