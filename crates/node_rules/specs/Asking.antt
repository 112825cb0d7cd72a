-- How a round opens: its sources are asked, each in its way.
use Rattle.std.specs.Prelude.{ℕ, ◌+◌, ◌-◌, ◌^◌, Bool, true, false, nat_lt, if◌then◌else◌, List, [], ◌∷◌, length, map, fold, slice_get, Option, Some, None, option_map}
use Rattle.dts_base.specs.declared.wire.State.{State}
use Rattle.dts_base.specs.declared.wire.State.TheVariants as state
use Rattle.ndr.specs.declared.endian.Endian.TheVariants.{Little}
use Rattle.pdu_fields.specs.declared.pdu.Pdu.{Pdu}
use Rattle.rpc_pdu.specs.Spelling.{spelling}
use Rattle.rpc_session.specs.declared.fault.RequestFault.{RequestFault}
use Rattle.rpc_session.specs.Client.{ClientHistory, client_state, request_refused, request_sent, bind_of}
use Rattle.time_wire.specs.Layouts.{get_time}
use Rattle.time_wire.specs.Spelling.{spelling as stub_of}
use Rattle.ntp_packet.specs.Packets.{octets_of}
use Rattle.time_provider.specs.Past.{Waiting, query_of, query_packet}
use Rattle.roster.specs.declared.entry.ServerKind.{ServerKind}
use Rattle.roster.specs.declared.entry.ServerKind.TheVariants as kind
use Rattle.roster.specs.RosterData.{RosterData}
use Rattle.roster.specs.Rosters.{is_kind}
use Rattle.server_roles.specs.declared.answers.TheConstants.{GET_TIME}
use Rattle.dts_capture.specs.declared.event.Event.{Event}
use Rattle.dts_capture.specs.declared.action.Action.{Action}
use Rattle.dts_capture.specs.declared.action.Action.TheVariants as action
use Rattle.dts_capture.specs.declared.action.NoteKind.TheVariants as note
use Rattle.sync_rules.specs.History.{event_osc}
use Rattle.sync_rules.specs.Rules.{noted}
use Rattle.node_rules.specs.History.{RoundOpened, SessionBegan, RequestSent, QueryAsked, QueryGone, NodeHistory, roster_of, gives, found_in}
use Rattle.node_rules.specs.Sessions.{calls_to, session_of}
use Rattle.node_rules.specs.Rounds.{next_number}
use Rattle.node_rules.specs.Providers.{provider_of}

-- the greatest call identifier
abbrev pub greatest_call : ℕ
greatest_call = 2 ^ 32 - 1

-- the PDUs are sent to a peer, each in a piece of its own
abbrev pub sends : Event → ℕ → List Pdu → List Action
sends event peer pdus = map (λ p. action.Send (event_osc event) peer (spelling p)) pdus

-- ---- a local or global server
-- the stub that asks for the time, with the node's epoch
abbrev pub time_request : RosterData → List ℕ
time_request roster = stub_of get_time Little (record { epoch = roster.settings.epoch })

-- the calls to a server are spent: its query is gone
abbrev pub spent : Event → ℕ → NodeHistory → NodeHistory
spent event peer history = gives history (QueryGone peer ∷ []) (noted event note.CallsSpent ∷ [])

abbrev pub asked_unless : Option RequestFault → Event → ℕ → ClientHistory → NodeHistory → NodeHistory
asked_unless (Some refused) event peer session history = spent event peer history
asked_unless None event peer session history = let stub = time_request (roster_of history) in
    gives history (RequestSent peer GET_TIME stub ∷ QueryAsked peer ∷ [])
    (sends event peer (request_sent session GET_TIME stub))

-- the time is asked over a session with an accepted context
abbrev pub asks_over : ClientHistory → Event → ℕ → NodeHistory → NodeHistory
asks_over session event peer history = asked_unless (request_refused session (time_request (roster_of history))) event peer session history

-- a session begins: its bind has the next call identifier
abbrev pub begins_session : Event → ℕ → NodeHistory → NodeHistory
begins_session event peer history = let first = calls_to peer (found_in history) + 1 in
    if nat_lt greatest_call first then spent event peer history
    else gives history (SessionBegan peer first ∷ []) (sends event peer (bind_of first ∷ []))

abbrev pub is_bound : State → Bool
is_bound state.Bound = true
is_bound _ = false

-- a server is asked over its session where that is bound, and else over a new one
abbrev pub asks_server : Event → ℕ → NodeHistory → Option ClientHistory → NodeHistory
asks_server event peer history None = begins_session event peer history
asks_server event peer history (Some session) =
    if is_bound (client_state session) then asks_over session event peer history else begins_session event peer history

-- ---- a server of NTP is sent the packet of its query
abbrev pub asks_ntp : Event → ℕ → NodeHistory → Option Waiting → NodeHistory
asks_ntp event peer history None = history
asks_ntp event peer history (Some query) =
    gives history (QueryAsked peer ∷ []) (action.Send (event_osc event) peer (octets_of (query_packet query.origin)) ∷ [])

-- ---- any source
-- the kind of a server, where there is one of this number
abbrev pub kind_of : RosterData → ℕ → Option ServerKind
kind_of roster peer = option_map (λ entry. entry.kind) (slice_get roster.entries peer)

abbrev pub is_ntp : Option ServerKind → Bool
is_ntp (Some of) = is_kind kind.Ntp of
is_ntp None = false

abbrev pub asks_source : Event → NodeHistory → ℕ → NodeHistory
asks_source event history peer = let found = found_in history in
    if is_ntp (kind_of (roster_of history) peer) then asks_ntp event peer history (query_of (provider_of (roster_of history) found) peer)
    else asks_server event peer history (session_of peer found)

-- a round opens: it is noted, and its sources are asked in order
abbrev pub opens_round : Event → ℕ → List ℕ → NodeHistory → NodeHistory
opens_round event word sources history =
    let number = next_number (found_in history) in let deadline = event_osc event + (roster_of history).settings.timeout in
    fold (asks_source event)
    (gives history (RoundOpened number deadline sources word ∷ []) (noted event (note.Round number (length sources)) ∷ []))
    sources
