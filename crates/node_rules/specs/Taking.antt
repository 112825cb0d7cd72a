-- What comes from a server: the PDUs of its session one behind the other, a packet of NTP, or the end of its connection.
use Rattle.std.specs.Prelude.{ℕ, Bool, true, false, if◌then◌else◌, List, [], ◌∷◌, ◌++◌, fold, Option, Some, None, is_some, Result, Ok, Err}
use Rattle.std.specs.List.{list_any}
use Rattle.dts_base.specs.declared.wire.Refused.{Refused}
use Rattle.ndr.specs.Stubs.{Value, read_stub}
use Rattle.pdu_fields.specs.declared.pdu.Pdu.{Pdu}
use Rattle.rpc_feed.specs.Pieces.{Pieces}
use Rattle.rpc_session.specs.declared.fault.SessionFault.{SessionFault}
use Rattle.rpc_session.specs.declared.fault.SessionFault.TheVariants as fault
use Rattle.rpc_session.specs.declared.client.ClientOut.{ClientOut}
use Rattle.rpc_session.specs.declared.client.ClientOut.TheVariants as out
use Rattle.rpc_session.specs.Client.{ClientHistory, Took, taken}
use Rattle.time_wire.specs.Layouts.{time_reply}
use Rattle.ntp_packet.specs.declared.judging.Judged.{Judged}
use Rattle.ntp_packet.specs.declared.judging.Judged.TheVariants as judged
use Rattle.time_provider.specs.declared.fault.ProviderFault.TheVariants as failure
use Rattle.time_provider.specs.Past.{Answer, answer_of}
use Rattle.dts_capture.specs.declared.event.Event.{Event}
use Rattle.dts_capture.specs.declared.action.Action.TheVariants as action
use Rattle.dts_capture.specs.declared.action.NoteKind.{NoteKind}
use Rattle.dts_capture.specs.declared.action.NoteKind.TheVariants as note
use Rattle.sync_rules.specs.History.{event_osc}
use Rattle.sync_rules.specs.Rules.{noted}
use Rattle.node_rules.specs.History.{Finding, PduTaken, PacketTaken, QueryAnswered, QueryGone, OctetsCame, PeerRefused, PeerEnded, NodeHistory, roster_of, gives, findings_at, found_in}
use Rattle.node_rules.specs.Sessions.{session_of, arrived_from}
use Rattle.node_rules.specs.Rounds.{is_unanswered}
use Rattle.node_rules.specs.Providers.{provider_of, near_at}
use Rattle.node_rules.specs.Using.{Use, Unused, Used, use_of_fields}
use Rattle.node_rules.specs.Asking.{asks_over, kind_of, is_ntp}
use Rattle.node_rules.specs.Ending.{evaluates}

-- a note is given
abbrev pub notes : Event → NodeHistory → NoteKind → NodeHistory
notes event history kind = gives history [] (noted event kind ∷ [])

-- the query of a server is gone, where it was unanswered
abbrev pub gone : NodeHistory → ℕ → List Finding
gone history peer = if is_unanswered (found_in history) peer then QueryGone peer ∷ [] else []

-- a server is left: its session ends, and its query is gone
abbrev pub leaves : Event → ℕ → NodeHistory → NoteKind → NodeHistory
leaves event peer history kind =
    gives history (gone history peer ++ PeerEnded peer ∷ []) (noted event kind ∷ action.Close (event_osc event) peer ∷ [])

-- what a peer sent is refused: its session ends, and its query stays as it was
abbrev pub refuses : Event → ℕ → NodeHistory → NoteKind → NodeHistory
refuses event peer history kind =
    gives history (PeerRefused peer ∷ PeerEnded peer ∷ []) (noted event kind ∷ action.Close (event_osc event) peer ∷ [])

-- ---- a reply
-- a reply is used, or it is noted why not and the query is gone
abbrev pub uses : Event → ℕ → NodeHistory → Use → NodeHistory
uses event peer history (Unused why) = gives history (QueryGone peer ∷ []) (noted event why ∷ [])
uses event peer history (Used lo hi) = gives history (QueryAnswered peer lo hi ∷ []) []

abbrev pub reads_reply : Event → ℕ → NodeHistory → Result (List Value) Refused → NodeHistory
reads_reply event peer history (Err refused) = refuses event peer history (note.Refused refused)
reads_reply event peer history (Ok fields) = uses event peer history (use_of_fields (roster_of history).settings.epoch fields)

-- ---- a PDU
-- what follows on what a PDU was to the session
abbrev pub follows : Event → ℕ → ClientHistory → NodeHistory → Result ClientOut SessionFault → NodeHistory
follows event peer session history (Ok out.Bound) = asks_over session event peer history
follows event peer session history (Ok out.Partial) = history
follows event peer session history (Ok (out.Reply call_id stub endian)) =
    reads_reply event peer history (read_stub time_reply.fields endian stub)
follows event peer session history (Ok out.Shutdown) = leaves event peer history note.Shutdown
follows event peer session history (Err (fault.Rejected outcome reason)) = leaves event peer history (note.Rejected outcome reason)
follows event peer session history (Err (fault.Nak reason)) = leaves event peer history (note.Nak reason)
follows event peer session history (Err (fault.Fault status)) = gives history (gone history peer) (noted event (note.Fault status) ∷ [])
follows event peer session history (Err (fault.UnknownCall call_id)) = notes event history (note.UnknownCall call_id)
follows event peer session history (Err (fault.Unexpected ptype state)) = refuses event peer history (note.Unexpected ptype state)
follows event peer session history (Err (fault.Fragments have limit)) = refuses event peer history (note.Fragments have limit)
follows event peer session history (Err fault.NoMemory) = history

-- a PDU is taken over the session, and passed over where that has ended
abbrev pub takes_over : Event → ℕ → Pdu → NodeHistory → Option ClientHistory → NodeHistory
takes_over event peer p history None = history
takes_over event peer p history (Some session) = let answer = taken session p in
    follows event peer (Took session p answer) (gives history (PduTaken peer p answer ∷ []) []) answer

abbrev pub takes : Event → ℕ → NodeHistory → Pdu → NodeHistory
takes event peer history p = takes_over event peer p history (session_of peer (found_in history))

-- octets that are no PDU are refused, as long as the session has not ended
abbrev pub refuses_rest : Event → ℕ → NodeHistory → Result (List ℕ) Refused → NodeHistory
refuses_rest event peer history (Ok rest) = history
refuses_rest event peer history (Err refused) =
    if is_some (session_of peer (found_in history)) then refuses event peer history (note.Refused refused) else history

abbrev pub takes_arrived : Event → ℕ → NodeHistory → Pieces → NodeHistory
takes_arrived event peer history arrived = refuses_rest event peer (fold (takes event peer) history arrived.pdus) arrived.left

abbrev pub is_refusal : Finding → Bool
is_refusal (PeerRefused peer) = true
is_refusal _ = false

-- a round is evaluated behind a piece in which nothing was refused
abbrev pub evaluates_unless_refused : Event → NodeHistory → NodeHistory
evaluates_unless_refused event history = if list_any is_refusal (findings_at history) then history else evaluates event history

-- octets came over the session of a server
abbrev pub hears : Event → ℕ → List ℕ → NodeHistory → NodeHistory
hears event peer octets history = let heard = gives history (OctetsCame peer octets ∷ []) [] in
    evaluates_unless_refused event (takes_arrived event peer heard (arrived_from peer (found_in heard)))

abbrev pub stream_comes : Event → ℕ → List ℕ → NodeHistory → NodeHistory
stream_comes event peer octets history =
    if is_some (session_of peer (found_in history)) then hears event peer octets history else notes event history note.Stray

-- ---- a packet of NTP
abbrev pub judged_note : Judged → NoteKind
judged_note (judged.Mode found) = note.Mode found
judged_note (judged.Kiss code) = note.Kiss code
judged_note (judged.Stratum found) = note.Stratum found
judged_note judged.Unsynchronised = note.Unsynchronised
judged_note judged.Origin = note.Origin
judged_note judged.ZeroStamp = note.ZeroStamp
judged_note judged.Order = note.Order
judged_note judged.Distance = note.Distance

-- a packet gives an answer, or its query is gone, or it is noted why it does not count
abbrev pub weighs : Event → ℕ → NodeHistory → Answer → NodeHistory
weighs event peer history (Ok told) = evaluates event (gives history (QueryAnswered peer told.lo told.hi ∷ []) [])
weighs event peer history (Err (failure.Range lo hi)) =
    evaluates event (gives history (QueryGone peer ∷ []) (noted event note.UnusedRange ∷ []))
weighs event peer history (Err failure.NoQuery) = notes event history note.NoQuery
weighs event peer history (Err (failure.Wrong refused)) = notes event history (note.Refused refused)
weighs event peer history (Err (failure.Judged failed)) = notes event history (judged_note failed)

abbrev pub gram_comes : Event → ℕ → List ℕ → NodeHistory → NodeHistory
gram_comes event peer octets history = let roster = roster_of history in let osc = event_osc event in
    if is_ntp (kind_of roster peer) then
    (let answer = answer_of (provider_of roster (found_in history)) peer osc octets (near_at history osc) in
    weighs event peer (gives history (PacketTaken peer answer ∷ []) []) answer)
    else notes event history note.Stray

-- ---- a server is lost, or a piece was not sent to it
abbrev pub server_goes : Event → ℕ → NodeHistory → NoteKind → NodeHistory
server_goes event peer history kind =
    if is_some (kind_of (roster_of history) peer) then
    evaluates event (gives history (gone history peer ++ PeerEnded peer ∷ []) (noted event kind ∷ []))
    else notes event history note.Stray
