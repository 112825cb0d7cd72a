-- What comes from a server is taken alike.
use Rattle.std.proofs.Common.{◌≡◌, ℕ, Bool, List, [], ◌∷◌, ◌++◌, Option, Some, None, Result, Ok, Err, ap₂, subst}
use Rattle.std.specs.Prelude.{ℤ, if◌then◌else◌, is_some, fold, option_map, unwrap_or}
use Rattle.std.specs.List.{list_any}
use Rattle.dts_base.specs.declared.wire.Refused.{Refused}
use Rattle.ndr.specs.Stubs.{Value, read_stub}
use Rattle.pdu_fields.specs.declared.pdu.Pdu.{Pdu}
use Rattle.rpc_feed.specs.Pieces.{Pieces}
use Rattle.rpc_session.specs.declared.fault.SessionFault.{SessionFault}
use Rattle.rpc_session.specs.declared.fault.SessionFault.TheVariants as fault
use Rattle.rpc_session.specs.declared.client.ClientOut.{ClientOut}
use Rattle.rpc_session.specs.declared.client.ClientOut.TheVariants as out
use Rattle.rpc_session.specs.Client.{ClientHistory, Took, taken}
use Rattle.slew_clock.specs.Line.{line}
use Rattle.slew_clock.specs.Reading.{interval_of}
use Rattle.slew_clock.specs.Change.{middle_of}
use Rattle.time_wire.specs.Layouts.{time_reply}
use Rattle.time_provider.specs.declared.fault.ProviderFault.TheVariants as failure
use Rattle.time_provider.specs.Past.{Answer, Waiting, answer_to, answer_of}
use Rattle.roster.specs.RosterData.{RosterData}
use Rattle.dts_capture.specs.declared.event.Event.{Event}
use Rattle.dts_capture.specs.declared.action.Action.{Action}
use Rattle.dts_capture.specs.declared.action.Action.TheVariants as action
use Rattle.dts_capture.specs.declared.action.NoteKind.{NoteKind}
use Rattle.dts_capture.specs.declared.action.NoteKind.TheVariants as note
use Rattle.sync_rules.specs.History.{event_osc}
use Rattle.sync_rules.specs.Rules.{noted}
use Rattle.node_rules.specs.History.{Finding, PduTaken, PacketTaken, QueryAnswered, QueryGone, OctetsCame, PeerEnded, NodeHistory, roster_of, gives, findings_at, found_in}
use Rattle.node_rules.specs.Sessions.{session_of, arrived_from}
use Rattle.node_rules.specs.Rounds.{is_unanswered}
use Rattle.node_rules.specs.Providers.{provider_of, near_at}
use Rattle.node_rules.specs.Using.{Use, Unused, Used, use_of_fields}
use Rattle.node_rules.specs.Asking.{kind_of, is_ntp}
use Rattle.node_rules.specs.Ending.{evaluates}
use Rattle.node_rules.specs.Taking.{notes, gone, leaves, refuses, uses, reads_reply, follows, takes_over, takes, refuses_rest, takes_arrived, is_refusal, evaluates_unless_refused, hears, stream_comes, judged_note, weighs, gram_comes, server_goes}
use Rattle.sync_apart.proofs.Lookups.{IsOfServer, arrived_plain}
use Rattle.sync_apart.proofs.Steps.{InStep, same_roster, same_clock, same_rates, looks, giving_same, giving_from, either_way}
use Rattle.sync_apart.proofs.Ending.{same_unanswered, evaluating}
use Rattle.sync_apart.proofs.Asking.{same_session, same_query, asking_over}

pub noting : {e : Event} {h k : NodeHistory} → InStep e h k → (kind : NoteKind) → InStep e (notes e h kind) (notes e k kind)
noting {e} {h} {k} same kind = giving_same e h k _ _ same

-- a query is gone, and this is found and given more
with_gone : {e : Event} {h k : NodeHistory} → InStep e h k → (peer : ℕ) (more : List Finding) (given : List Action)
    → InStep e (gives h (gone h peer ++ more) given) (gives k (gone k peer ++ more) given)
with_gone {e} {h} {k} same peer more given =
    giving_from e h k (λ (b : Bool). (if b then QueryGone peer ∷ [] else []) ++ more) (λ (b : Bool). given)
    (is_unanswered (found_in h) peer) (is_unanswered (found_in k) peer) (same_unanswered same peer) same

leaving : {e : Event} {h k : NodeHistory} → InStep e h k → (peer : ℕ) (kind : NoteKind)
    → InStep e (leaves e peer h kind) (leaves e peer k kind)
leaving {e} same peer kind = with_gone same peer (PeerEnded peer ∷ []) (noted e kind ∷ action.Close (event_osc e) peer ∷ [])

refusing : {e : Event} {h k : NodeHistory} → InStep e h k → (peer : ℕ) (kind : NoteKind)
    → InStep e (refuses e peer h kind) (refuses e peer k kind)
refusing {e} {h} {k} same peer kind = giving_same e h k _ _ same

-- ---- a reply
using_it : {e : Event} {h k : NodeHistory} → InStep e h k → (peer : ℕ) (use_of_it : Use)
    → InStep e (uses e peer h use_of_it) (uses e peer k use_of_it)
using_it {e} {h} {k} same peer (Unused why) = giving_same e h k _ _ same
using_it {e} {h} {k} same peer (Used lo hi) = giving_same e h k _ _ same

reading_reply : {e : Event} {h k : NodeHistory} → InStep e h k → (peer : ℕ) (fields : Result (List Value) Refused)
    → InStep e (reads_reply e peer h fields) (reads_reply e peer k fields)
reading_reply same peer (Err refused) = refusing same peer (note.Refused refused)
reading_reply {e} {h} {k} same peer (Ok fields) =
    subst (λ (r : RosterData). InStep e (reads_reply e peer h (Ok fields)) (uses e peer k (use_of_fields r.settings.epoch fields)))
    (same_roster same)
    (using_it same peer (use_of_fields (roster_of h).settings.epoch fields))

-- ---- a PDU
following : {e : Event} {h k : NodeHistory} → InStep e h k
    → (peer : ℕ) (session : ClientHistory) (answer : Result ClientOut SessionFault)
    → InStep e (follows e peer session h answer) (follows e peer session k answer)
following same peer session (Ok out.Bound) = asking_over same peer session
following same peer session (Ok out.Partial) = same
following same peer session (Ok (out.Reply call_id stub endian)) = reading_reply same peer (read_stub time_reply.fields endian stub)
following same peer session (Ok out.Shutdown) = leaving same peer note.Shutdown
following same peer session (Err (fault.Rejected outcome reason)) = leaving same peer (note.Rejected outcome reason)
following same peer session (Err (fault.Nak reason)) = leaving same peer (note.Nak reason)
following {e} {h} {k} same peer session (Err (fault.Fault status)) =
    giving_from e h k (λ (b : Bool). if b then QueryGone peer ∷ [] else []) (λ (b : Bool). noted e (note.Fault status) ∷ [])
    (is_unanswered (found_in h) peer) (is_unanswered (found_in k) peer) (same_unanswered same peer) same
following same peer session (Err (fault.UnknownCall call_id)) = noting same (note.UnknownCall call_id)
following same peer session (Err (fault.Unexpected ptype state)) = refusing same peer (note.Unexpected ptype state)
following same peer session (Err (fault.Fragments have limit)) = refusing same peer (note.Fragments have limit)
following same peer session (Err fault.NoMemory) = same

taking_over : {e : Event} {h k : NodeHistory} → InStep e h k → (peer : ℕ) (p : Pdu) (session : Option ClientHistory)
    → InStep e (takes_over e peer p h session) (takes_over e peer p k session)
taking_over same peer p None = same
taking_over {e} {h} {k} same peer p (Some session) =
    let answer = taken session p in
    following (giving_same e h k (PduTaken peer p answer ∷ []) [] same) peer (Took session p answer) answer

taking : {e : Event} {h k : NodeHistory} → InStep e h k → (peer : ℕ) → IsOfServer peer → (p : Pdu)
    → InStep e (takes e peer h p) (takes e peer k p)
taking {e} {h} {k} same peer server p =
    subst (λ session. InStep e (takes e peer h p) (takes_over e peer p k session)) (same_session same peer server)
    (taking_over same peer p (session_of peer (found_in h)))

taking_all : {e : Event} (h k : NodeHistory) → InStep e h k → (peer : ℕ) → IsOfServer peer → (pdus : List Pdu)
    → InStep e (fold (takes e peer) h pdus) (fold (takes e peer) k pdus)
taking_all h k same peer server [] = same
taking_all {e} h k same peer server (p ∷ pdus) =
    taking_all (takes e peer h p) (takes e peer k p) (taking same peer server p) peer server pdus

refusing_rest : {e : Event} {h k : NodeHistory} → InStep e h k → (peer : ℕ) → IsOfServer peer → (left : Result (List ℕ) Refused)
    → InStep e (refuses_rest e peer h left) (refuses_rest e peer k left)
refusing_rest same peer server (Ok rest) = same
refusing_rest {e} {h} {k} same peer server (Err refused) =
    subst (λ session. InStep e (refuses_rest e peer h (Err refused))
    (if is_some session then refuses e peer k (note.Refused refused) else k))
    (same_session same peer server)
    (either_way (is_some (session_of peer (found_in h))) (refusing same peer (note.Refused refused)) same)

taking_arrived : {e : Event} {h k : NodeHistory} → InStep e h k → (peer : ℕ) → IsOfServer peer → (arrived : Pieces)
    → InStep e (takes_arrived e peer h arrived) (takes_arrived e peer k arrived)
taking_arrived {e} {h} {k} same peer server arrived = refusing_rest (taking_all h k same peer server arrived.pdus) peer server arrived.left

evaluating_unless_refused : {e : Event} {h k : NodeHistory} → InStep e h k
    → InStep e (evaluates_unless_refused e h) (evaluates_unless_refused e k)
evaluating_unless_refused {e} {h} {k} same =
    subst (λ b. InStep e (evaluates_unless_refused e h) (if b then k else evaluates e k)) same.refused
    (either_way (list_any is_refusal (findings_at h)) same (evaluating same))

hearing : {e : Event} {h k : NodeHistory} → InStep e h k → (peer : ℕ) → IsOfServer peer → (octets : List ℕ)
    → InStep e (hears e peer octets h) (hears e peer octets k)
hearing {e} {h} {k} same peer server octets =
    let first : NodeHistory = gives h (OctetsCame peer octets ∷ []) [] in
    let second : NodeHistory = gives k (OctetsCame peer octets ∷ []) [] in
    let heard : InStep e first second = giving_same e h k (OctetsCame peer octets ∷ []) [] same in
    evaluating_unless_refused
    (subst (λ arrived. InStep e (takes_arrived e peer first (arrived_from peer (found_in first))) (takes_arrived e peer second arrived))
    (looks (arrived_from peer) (arrived_plain peer server) heard)
    (taking_arrived heard peer server (arrived_from peer (found_in first))))

pub streaming : {e : Event} {h k : NodeHistory} → InStep e h k → (peer : ℕ) → IsOfServer peer → (octets : List ℕ)
    → InStep e (stream_comes e peer octets h) (stream_comes e peer octets k)
streaming {e} {h} {k} same peer server octets =
    subst (λ session. InStep e (stream_comes e peer octets h) (if is_some session then hears e peer octets k else notes e k note.Stray))
    (same_session same peer server)
    (either_way (is_some (session_of peer (found_in h))) (hearing same peer server octets) (noting same note.Stray))

-- ---- a packet of NTP
weighing : {e : Event} {h k : NodeHistory} → InStep e h k → (peer : ℕ) (answer : Answer)
    → InStep e (weighs e peer h answer) (weighs e peer k answer)
weighing {e} {h} {k} same peer (Ok told) = evaluating (giving_same e h k (QueryAnswered peer told.lo told.hi ∷ []) [] same)
weighing {e} {h} {k} same peer (Err (failure.Range lo hi)) =
    evaluating (giving_same e h k (QueryGone peer ∷ []) (noted e note.UnusedRange ∷ []) same)
weighing same peer (Err failure.NoQuery) = noting same note.NoQuery
weighing same peer (Err (failure.Wrong refused)) = noting same (note.Refused refused)
weighing same peer (Err (failure.Judged failed)) = noting same (judged_note failed)

near_alike : {e : Event} {h k : NodeHistory} → InStep e h k → (osc : ℕ) → near_at h osc ≡ near_at k osc
near_alike same osc =
    let rates = same_rates same in
    let clock = same_clock same in
    λ i. unwrap_or (option_map middle_of (interval_of (rates i) (clock i) osc)) (line (rates i) (clock i) osc)

answer_alike : {e : Event} {h k : NodeHistory} → InStep e h k → (peer : ℕ) → IsOfServer peer → (osc : ℕ) (octets : List ℕ)
    → answer_of (provider_of (roster_of h) (found_in h)) peer osc octets (near_at h osc)
    ≡ answer_of (provider_of (roster_of k) (found_in k)) peer osc octets (near_at k osc)
answer_alike same peer server osc octets =
    ap₂ (λ (query : Option Waiting) (near : ℤ). answer_to query osc octets near) (same_query same peer server) (near_alike same osc)

abbrev answer_at : Event → ℕ → List ℕ → NodeHistory → Answer
answer_at e peer octets history =
    answer_of (provider_of (roster_of history) (found_in history)) peer (event_osc e) octets (near_at history (event_osc e))

abbrev weighed : Event → ℕ → NodeHistory → Answer → NodeHistory
weighed e peer history answer = weighs e peer (gives history (PacketTaken peer answer ∷ []) []) answer

pub packing : {e : Event} {h k : NodeHistory} → InStep e h k → (peer : ℕ) → IsOfServer peer → (octets : List ℕ)
    → InStep e (gram_comes e peer octets h) (gram_comes e peer octets k)
packing {e} {h} {k} same peer server octets =
    subst (λ (r : RosterData). InStep e (gram_comes e peer octets h)
    (if is_ntp (kind_of r peer) then weighed e peer k (answer_at e peer octets k) else notes e k note.Stray))
    (same_roster same)
    (either_way (is_ntp (kind_of (roster_of h) peer))
    (subst (λ answer. InStep e (weighed e peer h (answer_at e peer octets h)) (weighed e peer k answer))
    (answer_alike same peer server (event_osc e) octets)
    (weighing (giving_same e h k (PacketTaken peer (answer_at e peer octets h) ∷ []) [] same) peer (answer_at e peer octets h)))
    (noting same note.Stray))

-- ---- a server is lost
pub parting : {e : Event} {h k : NodeHistory} → InStep e h k → (peer : ℕ) (kind : NoteKind)
    → InStep e (server_goes e peer h kind) (server_goes e peer k kind)
parting {e} {h} {k} same peer kind =
    subst (λ (r : RosterData). InStep e (server_goes e peer h kind)
    (if is_some (kind_of r peer) then evaluates e (gives k (gone k peer ++ PeerEnded peer ∷ []) (noted e kind ∷ []))
    else notes e k note.Stray))
    (same_roster same)
    (either_way (is_some (kind_of (roster_of h) peer)) (evaluating (with_gone same peer (PeerEnded peer ∷ []) (noted e kind ∷ [])))
    (noting same note.Stray))
