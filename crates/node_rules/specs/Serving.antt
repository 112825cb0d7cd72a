-- How a lane serves: each event of it gives a reading, and the PDUs of a connection are answered one behind the other.
use Rattle.std.specs.Prelude.{ℕ, ◌%◌, Bool, false, nat_le, if◌then◌else◌, List, [], ◌∷◌, ◌++◌, length, fold, Option, Some, None, is_some, Result, Ok, Err}
use Rattle.dts_base.specs.declared.wire.Refused.{Refused}
use Rattle.ndr.specs.declared.endian.Endian.TheVariants.{Little}
use Rattle.pdu_fields.specs.declared.pdu.Pdu.{Pdu}
use Rattle.rpc_feed.specs.Pieces.{Pieces}
use Rattle.rpc_session.specs.declared.fault.SessionFault.{SessionFault}
use Rattle.rpc_session.specs.declared.fault.SessionFault.TheVariants as fault
use Rattle.rpc_session.specs.declared.server.Out.{Out}
use Rattle.rpc_session.specs.declared.server.Out.TheVariants as out
use Rattle.rpc_session.specs.declared.server.CallHead.{CallHead}
use Rattle.rpc_session.specs.Server.{ServerHistory, Received, answered as session_answer, fault_pdu, response_sent}
use Rattle.slew_clock.specs.Line.{line}
use Rattle.slew_clock.specs.Reading.{inaccuracy_of}
use Rattle.server_roles.specs.declared.answers.Answer.{Answer}
use Rattle.server_roles.specs.declared.answers.Answer.TheVariants as answer
use Rattle.server_roles.specs.Answering.{Shown, answered}
use Rattle.dts_capture.specs.declared.event.Event.{Event}
use Rattle.dts_capture.specs.declared.action.Action.{Action}
use Rattle.dts_capture.specs.declared.action.Action.TheVariants as action
use Rattle.dts_capture.specs.declared.action.NoteKind.{NoteKind}
use Rattle.dts_capture.specs.declared.action.NoteKind.TheVariants as note
use Rattle.sync_rules.specs.History.{lanes, event_osc, current_record}
use Rattle.sync_rules.specs.Rules.{rates_of, noted, reading_of}
use Rattle.node_rules.specs.History.{OctetsCame, PeerRefused, PeerEnded, AskCame, ConnectionOpened, PduServed, NodeHistory, roster_of, bare, gives, found_in}
use Rattle.node_rules.specs.Sessions.{arrived_from}
use Rattle.node_rules.specs.Connections.{connection_of, open_in, counts_in}
use Rattle.node_rules.specs.Asking.{sends}
use Rattle.node_rules.specs.Taking.{notes}

-- the most connections that are open in a lane
abbrev pub most_connections : ℕ
most_connections = 16

-- the statuses of the faults to a call whose stub is refused, and to a client that finds its lane full
abbrev pub wrong_stub : ℕ
wrong_stub = 0x1c01000b

abbrev pub lane_full : ℕ
lane_full = 0x1c010014

-- what the current record shows at the event's oscillator reading
abbrev pub shown_at : Event → NodeHistory → Shown
shown_at event history =
    let rates = rates_of (bare history) in let rec = current_record (bare history) in let osc = event_osc event in
    record { value = line rates rec osc; inaccuracy = inaccuracy_of rates rec osc; step = rec.step; number = rec.number }

-- ---- a call
-- what goes back for a call, but for one that wants no answer
abbrev pub unless_maybe : Bool → List Action → List Action
unless_maybe maybe actions = if maybe then [] else actions

-- a call is answered by a response, or its stub is refused and it is answered by a fault
abbrev pub responds : Event → ℕ → ServerHistory → CallHead → NodeHistory → Answer → NodeHistory
responds event conn session call history (answer.Stub stub) =
    gives history [] (unless_maybe call.maybe (sends event conn (response_sent session call.call_id call.context call.endian stub)))
responds event conn session call history (answer.Wrong refused) =
    gives history (PeerRefused conn ∷ [])
    (noted event (note.Refused refused) ∷ unless_maybe call.maybe (sends event conn (fault_pdu call wrong_stub ∷ [])))

-- what the session gives out is sent, or is a call that is answered over the reading
abbrev pub gives_out : Event → ℕ → ServerHistory → NodeHistory → Out → NodeHistory
gives_out event conn session history (out.Send p) = gives history [] (sends event conn (p ∷ []))
gives_out event conn session history (out.Call call_id context opnum stub endian maybe) =
    let lane = conn % lanes in
    responds event conn session
    (record { call_id = call_id; context = context; opnum = opnum; maybe = maybe; endian = endian })
    history
    (answered (roster_of history) (counts_in lane (found_in history)) (shown_at event history) opnum stub endian)

-- ---- a PDU
-- what a client sent is refused: its connection ends
abbrev pub drops : Event → ℕ → NodeHistory → NoteKind → NodeHistory
drops event conn history kind =
    gives history (PeerRefused conn ∷ PeerEnded conn ∷ []) (noted event kind ∷ action.Close (event_osc event) conn ∷ [])

abbrev pub fault_note : SessionFault → NoteKind
fault_note (fault.Unexpected ptype state) = note.Unexpected ptype state
fault_note (fault.UnknownCall call_id) = note.UnknownCall call_id
fault_note (fault.Fragments have limit) = note.Fragments have limit
fault_note (fault.Rejected outcome reason) = note.Rejected outcome reason
fault_note (fault.Nak reason) = note.Nak reason
fault_note (fault.Fault status) = note.Fault status
fault_note fault.NoMemory = note.Stray

abbrev pub serves_answer : Event → ℕ → ServerHistory → NodeHistory → Result (List Out) SessionFault → NodeHistory
serves_answer event conn session history (Ok outs) = fold (gives_out event conn session) history outs
serves_answer event conn session history (Err f) = drops event conn history (fault_note f)

-- a PDU is taken over the connection, and passed over where that has ended
abbrev pub serves_over : Event → ℕ → Pdu → NodeHistory → Option ServerHistory → NodeHistory
serves_over event conn p history None = history
serves_over event conn p history (Some session) = let given = session_answer session p in
    serves_answer event conn (Received session p given) (gives history (PduServed conn p given ∷ []) []) given

abbrev pub serves : Event → ℕ → NodeHistory → Pdu → NodeHistory
serves event conn history p = serves_over event conn p history (connection_of conn (found_in history))

-- octets that are no PDU are refused, as long as the connection has not ended
abbrev pub drops_rest : Event → ℕ → NodeHistory → Result (List ℕ) Refused → NodeHistory
drops_rest event conn history (Ok rest) = history
drops_rest event conn history (Err refused) =
    if is_some (connection_of conn (found_in history)) then drops event conn history (note.Refused refused) else history

abbrev pub serves_arrived : Event → ℕ → NodeHistory → Pieces → NodeHistory
serves_arrived event conn history arrived = drops_rest event conn (fold (serves event conn) history arrived.pdus) arrived.left

-- octets came over an open connection
abbrev pub serves_octets : Event → ℕ → List ℕ → NodeHistory → NodeHistory
serves_octets event conn octets history = let heard = gives history (OctetsCame conn octets ∷ []) [] in
    serves_arrived event conn heard (arrived_from conn (found_in heard))

-- ---- an ask
-- the fault to a client that finds its lane full, which answers no call
abbrev pub full_fault : Pdu
full_fault = fault_pdu (record { call_id = 0; context = 0; opnum = 0; maybe = false; endian = Little }) lane_full

-- a client finds its lane full
abbrev pub is_busy : Event → ℕ → NodeHistory → NodeHistory
is_busy event conn history =
    gives history [] (noted event note.Busy ∷ sends event conn (full_fault ∷ []) ++ action.Close (event_osc event) conn ∷ [])

-- the connection opens with its first ask, while fewer are open in its lane than may be
abbrev pub serves_ask : Event → ℕ → List ℕ → NodeHistory → NodeHistory
serves_ask event conn octets history = let found = found_in history in
    if is_some (connection_of conn found) then serves_octets event conn octets history
    else if nat_le most_connections (length (open_in (conn % lanes) found)) then is_busy event conn history
    else serves_octets event conn octets (gives history (ConnectionOpened conn ∷ []) [])

-- ---- any event of a lane
-- the reading is noted first
abbrev pub reads : Event → NodeHistory → NodeHistory
reads event history = notes event history (reading_of (bare history) (event_osc event))

abbrev pub ask_comes : Event → ℕ → List ℕ → NodeHistory → NodeHistory
ask_comes event conn octets history = serves_ask event conn octets (gives (reads event history) (AskCame conn ∷ []) [])

-- a connection is lost, or a piece was not sent over it
abbrev pub client_goes : Event → ℕ → NodeHistory → NoteKind → NodeHistory
client_goes event conn history kind = gives (reads event history) (PeerEnded conn ∷ []) (noted event kind ∷ [])
