-- The rules of a node with peers: what each event gives after a history.
use Rattle.std.specs.Prelude.{◌≡◌, ℕ, Bool, not, nat_lt, ◌||◌, ◌&&◌, if◌then◌else◌, List, [], ◌∷◌, Option, Some, None, is_some, is_none}
use Rattle.slew_clock.specs.Change.{renewed_record}
use Rattle.dts_capture.specs.declared.event.Event.{Event}
use Rattle.dts_capture.specs.declared.event.Event.TheVariants as event
use Rattle.dts_capture.specs.declared.action.Action.{Action}
use Rattle.dts_capture.specs.declared.action.NoteKind.{NoteKind}
use Rattle.dts_capture.specs.declared.action.NoteKind.TheVariants as note
use Rattle.dts_capture.specs.Grammar.{first_connection}
use Rattle.sync_rules.specs.History.{current_record, event_osc, given_at}
use Rattle.sync_rules.specs.Live.{is_live}
use Rattle.sync_rules.specs.Rules.{rates_of, live_actions, regressed_actions}
use Rattle.node_rules.specs.History.{Finding, PeerEnded, Found, NodeHistory, Began, Next, roster_of, bare, gives, found_in}
use Rattle.node_rules.specs.Sessions.{session_of}
use Rattle.node_rules.specs.Rounds.{open_round, next_sources, is_due}
use Rattle.node_rules.specs.Connections.{connection_of}
use Rattle.node_rules.specs.Asking.{opens_round}
use Rattle.node_rules.specs.Ending.{evaluates}
use Rattle.node_rules.specs.Taking.{notes, stream_comes, gram_comes, server_goes}
use Rattle.node_rules.specs.Serving.{reads, ask_comes, client_goes}

-- ---- a tick
-- a round opens where none is open and one is due, and is evaluated once
abbrev pub may_open : Event → NodeHistory → Bool
may_open event history = is_none (open_round (found_in history)) && is_due history (event_osc event)

abbrev pub opens_if_due : Event → ℕ → NodeHistory → NodeHistory
opens_if_due event word history =
    if may_open event history then
    evaluates event (opens_round event word (next_sources (roster_of history) (found_in history)) history) else history

-- the clock is renewed where that is due; else an open round is evaluated, and then another one may open
abbrev pub tick_comes : Event → ℕ → NodeHistory → NodeHistory
tick_comes event word history =
    let renewed = renewed_record (rates_of (bare history)) (current_record (bare history)) (event_osc event) in
    if is_some renewed then gives history [] (live_actions (bare history) event)
    else opens_if_due event word (evaluates event history)

-- ---- a live event, after what came before
abbrev pub is_client : ℕ → Bool
is_client peer = not (nat_lt peer first_connection)

-- octets come over a stream, or as a datagram. Those of a client are stray: it asks.
abbrev pub peer_sends : Event → ℕ → NodeHistory → NodeHistory → NodeHistory
peer_sends event peer history taken = if is_client peer then notes event history note.Stray else taken

-- a peer goes: a server, or a client
abbrev pub peer_goes : Event → ℕ → NodeHistory → NoteKind → NodeHistory
peer_goes event peer history kind = if is_client peer then client_goes event peer history kind else server_goes event peer history kind

abbrev pub live_event : NodeHistory → Event → NodeHistory
live_event before (event.Tick osc word) = tick_comes (event.Tick osc word) word (Next before (event.Tick osc word) [] [])
live_event before (event.Stream osc peer octets) =
    let e = event.Stream osc peer octets in let now = Next before e [] [] in peer_sends e peer now (stream_comes e peer octets now)
live_event before (event.Gram osc peer octets) =
    let e = event.Gram osc peer octets in let now = Next before e [] [] in peer_sends e peer now (gram_comes e peer octets now)
live_event before (event.Lost osc peer) = peer_goes (event.Lost osc peer) peer (Next before (event.Lost osc peer) [] []) note.Lost
live_event before (event.Unsent osc peer) = peer_goes (event.Unsent osc peer) peer (Next before (event.Unsent osc peer) [] []) note.Unsent
live_event before (event.Ask osc conn octets) =
    ask_comes (event.Ask osc conn octets) conn octets (Next before (event.Ask osc conn octets) [] [])
live_event before (event.Read osc) = reads (event.Read osc) (Next before (event.Read osc) [] [])
live_event before direct = Next before direct [] (live_actions (bare before) direct)

-- ---- a regressed event
-- the peer whose session or connection a regressed event ends
abbrev pub ended_by : Event → Option ℕ
ended_by (event.Stream osc peer octets) = Some peer
ended_by (event.Lost osc peer) = Some peer
ended_by (event.Unsent osc peer) = Some peer
ended_by (event.Ask osc conn octets) = Some conn
ended_by _ = None

-- it ends, where there is one
abbrev pub ends_peer : List Found → Option ℕ → List Finding
ends_peer found None = []
ends_peer found (Some peer) = if is_some (session_of peer found) || is_some (connection_of peer found) then PeerEnded peer ∷ [] else []

-- nothing else happens but that it is noted, and its peer closed
abbrev pub regressed_event : NodeHistory → Event → NodeHistory
regressed_event before event = Next before event (ends_peer (found_in before) (ended_by event)) (regressed_actions (bare before) event)

-- ---- any event
-- the history with an event on top, with what the rules find and give
unfoldable pub followed_by : NodeHistory → Event → NodeHistory
followed_by before event = if is_live (bare before) event then live_event before event else regressed_event before event

-- the actions of an event after a history
abbrev pub actions_at : NodeHistory → List Action
actions_at (Began roster start) = given_at (bare (Began roster start))
actions_at (Next before event findings actions) = actions

unfoldable pub node_actions : NodeHistory → Event → List Action
node_actions before event = actions_at (followed_by before event)

-- the history with these events after it, the first of them first
abbrev pub extended : NodeHistory → List Event → NodeHistory
extended history [] = history
extended history (event ∷ events) = extended (followed_by history event) events

-- each position has the findings and the actions that the rules give
abbrev pub IsRuled : NodeHistory → Type 0
IsRuled (Began roster start) = Unit {0}
IsRuled (Next before event findings actions) = (Next before event findings actions ≡ followed_by before event) × IsRuled before
