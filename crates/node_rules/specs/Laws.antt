-- Laws on the definitions from the other side.
use Rattle.std.specs.Prelude.{◌≡◌, ℕ, false, is_some, List, [], ◌∷◌, Ok, Err}
use Rattle.utc_value.specs.Stamp.{Stamp, IsInRange}
use Rattle.utc_value.specs.Octets.{octets_of}
use Rattle.time_provider.specs.declared.fault.ProviderFault.TheVariants as failure
use Rattle.time_provider.specs.Past.{Answer, answer_of}
use Rattle.roster.specs.RosterData.{RosterData}
use Rattle.dts_capture.specs.declared.event.Event.{Event}
use Rattle.dts_capture.specs.declared.event.Event.TheVariants as event
use Rattle.dts_capture.specs.declared.action.NoteKind.{NoteKind}
use Rattle.sync_rules.specs.History.{Start, Lane, event_part, current_record}
use Rattle.sync_rules.specs.Live.{is_live}
use Rattle.sync_rules.specs.Rules.{extended as extended_alone}
use Rattle.node_rules.specs.History.{NodeHistory, Began, roster_of, bare, found_in}
use Rattle.node_rules.specs.Sessions.{session_of}
use Rattle.node_rules.specs.Rounds.{is_unanswered, answer_from}
use Rattle.node_rules.specs.Asking.{kind_of, is_ntp}
use Rattle.node_rules.specs.Providers.{provider_of, near_at}
use Rattle.node_rules.specs.Taking.{notes, refuses}
use Rattle.node_rules.specs.Using.{stamp_in}
use Rattle.node_rules.specs.Rules.{followed_by, extended}

-- The timestamp that is read of octets is the one that they spell.
abbrev pub ReadsStamps : Type 0
ReadsStamps = (s : Stamp) → IsInRange s → stamp_in (octets_of s) ≡ s

-- An event of a lane leaves the clock's record as it was.
abbrev pub ServingLeavesTheClock : Type 0
ServingLeavesTheClock = (before : NodeHistory) (e : Event) (lane : ℕ) → event_part e ≡ Lane lane
    → current_record (bare (followed_by before e)) ≡ current_record (bare before)

-- Of the clock and of the queries all is as before: the record, which sources are unanswered, and what was answered.
pub record LeavesClockAndQueries (before after : NodeHistory) : Type 0 where
  pub clock : current_record (bare after) ≡ current_record (bare before)
  pub unanswered : (peer : ℕ) → is_unanswered (found_in after) peer ≡ is_unanswered (found_in before) peer
  pub answered : (peer : ℕ) → answer_from (found_in after) peer ≡ answer_from (found_in before) peer

-- what the octets of a datagram are to the query of NTP that its peer was asked
abbrev pub answer_of_datagram : NodeHistory → ℕ → ℕ → List ℕ → Answer
answer_of_datagram before osc peer octets =
    answer_of (provider_of (roster_of before) (found_in before)) peer osc octets (near_at before osc)

-- they answer none: there is none, they are no packet, or a test of the packet fails
abbrev pub IsNoAnswer : Answer → Type 0
IsNoAnswer (Err (failure.Range lo hi)) = ⊥
IsNoAnswer (Err f) = Unit {0}
IsNoAnswer (Ok told) = ⊥

-- So it is behind a regressed event, whatever it is; behind what a server sent and is refused, where that stands in its piece; behind a
-- note alone; behind a datagram that is no answer; behind octets where there is no session with their peer; and behind a datagram of a peer
-- that is no server of NTP.
pub record WhatIsWrongChangesNothing : Type 0 where
  pub regressed : (before : NodeHistory) (e : Event) → is_live (bare before) e ≡ false
      → LeavesClockAndQueries before (followed_by before e)
  pub refused : (e : Event) (peer : ℕ) (history : NodeHistory) (why : NoteKind)
      → LeavesClockAndQueries history (refuses e peer history why)
  pub noted : (e : Event) (history : NodeHistory) (kind : NoteKind) → LeavesClockAndQueries history (notes e history kind)
  pub packet : (before : NodeHistory) (osc peer : ℕ) (octets : List ℕ) → IsNoAnswer (answer_of_datagram before osc peer octets)
      → LeavesClockAndQueries before (followed_by before (event.Gram osc peer octets))
  pub stray_octets : (before : NodeHistory) (osc peer : ℕ) (octets : List ℕ) → is_some (session_of peer (found_in before)) ≡ false
      → LeavesClockAndQueries before (followed_by before (event.Stream osc peer octets))
  pub stray_datagram : (before : NodeHistory) (osc peer : ℕ) (octets : List ℕ) → is_ntp (kind_of (roster_of before) peer) ≡ false
      → LeavesClockAndQueries before (followed_by before (event.Gram osc peer octets))

-- the event has no peer: a tick, a read, or one of a direct round
abbrev pub HasNoPeer : Event → Type 0
HasNoPeer (event.Tick osc word) = Unit {0}
HasNoPeer (event.Read osc) = Unit {0}
HasNoPeer (event.Query osc tag) = Unit {0}
HasNoPeer (event.Source osc tag interval) = Unit {0}
HasNoPeer (event.Adopt osc required) = Unit {0}
HasNoPeer _ = ⊥

abbrev pub HaveNoPeer : List Event → Type 0
HaveNoPeer [] = Unit {0}
HaveNoPeer (event ∷ events) = HasNoPeer event × HaveNoPeer events

-- A node without servers, to which nothing comes from a peer, does what the rules of a node alone say.
abbrev pub FollowsRulesAlone : Type 0
FollowsRulesAlone = (roster : RosterData) (start : Start) (events : List Event) → roster.entries ≡ [] → HaveNoPeer events
    → bare (extended (Began roster start) events) ≡ extended_alone (bare (Began roster start)) events
