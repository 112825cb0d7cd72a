-- The history of a node with peers: what happened to it, what its rules found in that, and the actions that it gave.
use Rattle.std.specs.Prelude.{ℕ, ◌+◌, ℤ, List, [], ◌++◌, map, reverse, Option, Result}
use Rattle.pdu_fields.specs.declared.pdu.Pdu.{Pdu}
use Rattle.rpc_session.specs.declared.fault.SessionFault.{SessionFault}
use Rattle.rpc_session.specs.declared.client.ClientOut.{ClientOut}
use Rattle.rpc_session.specs.declared.server.Out.{Out}
use Rattle.time_provider.specs.Past.{Answer}
use Rattle.roster.specs.RosterData.{RosterData}
use Rattle.roster.specs.Rates.{rates_of}
use Rattle.dts_capture.specs.declared.event.Event.{Event}
use Rattle.dts_capture.specs.declared.action.Action.{Action}
use Rattle.sync_rules.specs.History.{History, Begun, Then, Start, number_of, event_osc}
use Rattle.clerk.specs.Outcome.{Outcome}
use Rattle.sync_rules.specs.Rounds.{Moment, Answer as RoundAnswer}

-- What the rules find in an event and no action shows. A peer is a server of the roster, by its number, or a connection that a client made.
pub data Finding : Type 0 where
  -- a round opened: its number, its deadline, its sources in order, and the word of the tick, which queries of NTP carry
  RoundOpened : ℕ → ℕ → List ℕ → ℕ → Finding
  -- the round ended: what came of it, its answers, and the node's own interval where it has one
  RoundEnded : Outcome → List RoundAnswer → Option (ℤ × ℤ) → Finding
  -- a session with a server began: the call identifier of its bind
  SessionBegan : ℕ → ℕ → Finding
  -- a request for an operation was sent to a server, with this stub
  RequestSent : ℕ → ℕ → List ℕ → Finding
  -- a PDU of a server was taken, and was this to its session
  PduTaken : ℕ → Pdu → Result ClientOut SessionFault → Finding
  -- a packet of a server of NTP was taken, and was this to its query
  PacketTaken : ℕ → Answer → Finding
  -- the query of a server was asked; it was answered with an interval from one time to another; it is gone
  QueryAsked : ℕ → Finding
  QueryAnswered : ℕ → ℤ → ℤ → Finding
  QueryGone : ℕ → Finding
  -- octets came from a peer over its session or connection
  OctetsCame : ℕ → List ℕ → Finding
  -- something that a peer sent was refused
  PeerRefused : ℕ → Finding
  -- the session or the connection of a peer ended
  PeerEnded : ℕ → Finding
  -- a client asked something over this connection
  AskCame : ℕ → Finding
  -- a connection opened
  ConnectionOpened : ℕ → Finding
  -- a PDU of a client was taken, and this was answered
  PduServed : ℕ → Pdu → Result (List Out) SessionFault → Finding

-- A history is the start of a node with its roster, and then positions, the newest on the outside: each an event with what the rules found
-- in it and the actions that it gave, in their order.
pub data NodeHistory : Type 0 where
  Began : RosterData → Start → NodeHistory
  Next : NodeHistory → Event → List Finding → List Action → NodeHistory

abbrev pub roster_of : NodeHistory → RosterData
roster_of (Began roster start) = roster
roster_of (Next before event findings actions) = roster_of before

-- The history without its findings: what is said of a history without peers is said of it too. So its parts, its live positions, its
-- current record, its direct rounds and its log are those.
abbrev pub bare : NodeHistory → History
bare (Began roster start) = Begun (record { rates = rates_of roster.settings }) start
bare (Next before event findings actions) = Then (bare before) event actions

-- the last position has given this too
abbrev pub gives : NodeHistory → List Finding → List Action → NodeHistory
gives (Began roster start) more given = Began roster start
gives (Next before event findings actions) more given = Next before event (findings ++ more) (actions ++ given)

-- the findings of the last position
abbrev pub findings_at : NodeHistory → List Finding
findings_at (Began roster start) = []
findings_at (Next before event findings actions) = findings

-- a finding, and when it was made
pub record Found : Type 0 where
  pub at : Moment
  pub finding : Finding

abbrev pub found_at : Moment → Finding → Found
found_at at finding = record { at = at; finding = finding }

-- all findings, the newest first
abbrev pub found_in : NodeHistory → List Found
found_in (Began roster start) = []
found_in (Next before event findings actions) =
    reverse (map (found_at (record { position = number_of (bare before) + 1; osc = event_osc event })) findings) ++ found_in before
