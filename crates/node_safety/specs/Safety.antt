-- Safe histories of a node with peers: readings contain true time, and go back only across a step that the log names; what the log names
-- as false was false; and records change within their ranges.
use Rattle.std.specs.Prelude.{◌≡◌, ℕ, ℤ, ◌≤ℤ◌, Contains, List, [], false}
use Rattle.slew_clock.specs.declared.record.ClockRecord.{ClockRecord}
use Rattle.slew_clock.specs.Record.{IsSound}
use Rattle.slew_clock.specs.Change.{IsInRange}
use Rattle.clerk.specs.Outcome.{Adopted}
use Rattle.dts_capture.specs.declared.event.Event.{Event}
use Rattle.dts_capture.specs.declared.action.Action.{Action}
use Rattle.dts_capture.specs.declared.action.Action.TheVariants as action
use Rattle.dts_capture.specs.declared.action.FalseSource.TheVariants as source
use Rattle.dts_capture.specs.declared.action.NoteKind.{NoteKind}
use Rattle.dts_capture.specs.declared.action.NoteKind.TheVariants as note
use Rattle.sync_rules.specs.History.{History, Lane, event_part, IsPositionOf as IsPositionAlone, ComesBefore}
use Rattle.sync_rules.specs.Rounds.{Answer}
use Rattle.sync_rules.specs.Rules.{rates_of}
use Rattle.sync_rules.specs.World.{World, is_right, time_at}
use Rattle.sync_rules.specs.Safety.{Shown, Gives, OfOneLane, ContainsTime, FollowsOn, NamesFalse, GaveFalse}
use Rattle.node_rules.specs.History.{Finding, RoundEnded, NodeHistory, bare, findings_at}
use Rattle.node_rules.specs.Rules.{followed_by, actions_at}
use Rattle.node_safety.specs.World.{IsPositionOf, IsHonest}

pub record IsSafe (history : NodeHistory) : Type 0 where
  -- in every honest world each reading contains true time
  pub contains : (world : World) → IsHonest history world → (position : History) (shown : Shown) → IsPositionAlone position (bare history)
      → Gives position shown → ContainsTime shown (time_at world position)
  -- in every history the readings of a lane never go back but across a step that the log names
  pub follows_on : (p q : History) (earlier later : Shown) → IsPositionAlone q (bare history) → ComesBefore p q → OfOneLane p q
      → Gives p earlier → Gives q later → FollowsOn q earlier later

-- ---- what is named as false
-- the note names this server as a false source, or the node itself
abbrev pub IsFalseServer : NoteKind → ℕ → Type 0
IsFalseServer (note.False (source.Peer named)) peer = named ≡ peer
IsFalseServer _ peer = ⊥

abbrev pub IsFalseOwn : NoteKind → Type 0
IsFalseOwn (note.False source.Own) = Unit {0}
IsFalseOwn _ = ⊥

abbrev pub LogsFalseServer : Action → ℕ → Type 0
LogsFalseServer (action.Log n) peer = IsFalseServer n.kind peer
LogsFalseServer _ peer = ⊥

abbrev pub LogsFalseOwn : Action → Type 0
LogsFalseOwn (action.Log n) = IsFalseOwn n.kind
LogsFalseOwn _ = ⊥

-- the answers that a round adopted from
abbrev pub adopted_from : Finding → List Answer
adopted_from (RoundEnded (Adopted n i) answers own) = answers
adopted_from _ = []

-- the server gave an answer that a round of the position adopted from, and that was false
abbrev pub ServerGaveFalse : World → NodeHistory → ℕ → Type 0
ServerGaveFalse world position peer =
    (f : Finding) × Contains (findings_at position) f × (a : Answer) × Contains (adopted_from f) a
    × (a.tag ≡ peer) × (is_right world a ≡ false)

-- In every honest world each source that the log names as false gave a false interval: a server, or a tag of a direct round. And the node
-- itself is never named.
pub record NamesOnlyFalse (history : NodeHistory) : Type 0 where
  pub servers : (world : World) → IsHonest history world → (position : NodeHistory) (a : Action) (peer : ℕ) → IsPositionOf position history
      → Contains (actions_at position) a → LogsFalseServer a peer → ServerGaveFalse world position peer
  pub tags : (world : World) → IsHonest history world → (position : NodeHistory) (tag : ℕ) → IsPositionOf position history
      → NamesFalse (bare position) tag → GaveFalse world (bare position) tag
  pub own : (world : World) → IsHonest history world → (position : NodeHistory) (a : Action) → IsPositionOf position history
      → Contains (actions_at position) a → LogsFalseOwn a → ⊥

-- ---- ranges
-- the note tells of this adopted interval
abbrev pub IsAdoption : NoteKind → ℤ × ℤ → Type 0
IsAdoption (note.Adopted n lo hi) i = (lo, hi) ≡ i
IsAdoption _ i = ⊥

abbrev pub LogsAdoption : Action → ℤ × ℤ → Type 0
LogsAdoption (action.Log n) i = IsAdoption n.kind i
LogsAdoption _ i = ⊥

-- Each record that is published is one that readings can be taken from, and each interval that is adopted is one that a record may be
-- anchored to: so no change of the clock is out of its range.
pub record ChangesAreInRange (history : NodeHistory) : Type 0 where
  pub records : (position : NodeHistory) (rec : ClockRecord) → IsPositionOf position history
      → Contains (actions_at position) (action.Publish rec) → IsSound (rates_of (bare history)) rec
  pub adopted : (position : NodeHistory) (a : Action) (i : ℤ × ℤ) → IsPositionOf position history
      → Contains (actions_at position) a → LogsAdoption a i → IsInRange i × (i.0 ≤ℤ i.1)

-- An event of a lane publishes no record, whatever clients send.
abbrev pub ServingPublishesNothing : Type 0
ServingPublishesNothing = (before : NodeHistory) (e : Event) (lane : ℕ) → event_part e ≡ Lane lane
    → (rec : ClockRecord) → Contains (actions_at (followed_by before e)) (action.Publish rec) → ⊥
