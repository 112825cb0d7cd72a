-- Each position of the rules comes about so.
use Rattle.std.proofs.Common.{◌≡◌, ℕ, ℤ, Bool, true, false, List, [], ◌∷◌, ◌++◌, Option, Some, None, Ok, Err, refl, ap, ◌∙◌, ◌+◌, ◌%◌, pos}
use Rattle.std.specs.Prelude.{Result, ◌&&◌, not, fold, is_some, nat_lt, nat_le, if◌then◌else◌, int_lt, ◌-ℤ◌, ◌+ℤ◌, ◌||◌, ◌==◌, length}
use Rattle.std.specs.Int.{int_max}
use Rattle.std.specs.List.{list_all, list_any}
use Rattle.std.proofs.lemmas.List.Folds.{list_all-append}
use Rattle.dts_base.specs.declared.wire.Refused.{Refused}
use Rattle.slew_clock.specs.declared.record.ClockRecord.{ClockRecord}
use Rattle.slew_clock.specs.Change.{renewed_record}
use Rattle.ndr.specs.Stubs.{Value, a_number, some_octets}
use Rattle.ndr.specs.Stubs.{read_stub}
use Rattle.pdu_fields.specs.declared.pdu.Pdu.{Pdu}
use Rattle.rpc_session.specs.declared.fault.RequestFault.{RequestFault}
use Rattle.rpc_session.specs.declared.fault.SessionFault.{SessionFault}
use Rattle.rpc_session.specs.declared.fault.SessionFault.TheVariants as fault
use Rattle.rpc_session.specs.declared.client.ClientOut.{ClientOut}
use Rattle.rpc_session.specs.declared.client.ClientOut.TheVariants as out
use Rattle.rpc_session.specs.declared.server.Out.{Out}
use Rattle.rpc_session.specs.declared.server.Out.TheVariants as server_out
use Rattle.rpc_session.specs.declared.server.CallHead.{CallHead}
use Rattle.rpc_session.specs.Client.{ClientHistory, Took, taken, client_state, request_refused, request_sent}
use Rattle.rpc_session.specs.Server.{ServerHistory, Received, answered as session_answer, response_sent}
use Rattle.utc_value.specs.Stamp.{Stamp}
use Rattle.time_wire.specs.Layouts.{time_reply}
use Rattle.ntp_packet.specs.declared.codec.Packet.{Packet}
use Rattle.ntp_packet.specs.Packets.{reading}
use Rattle.ntp_packet.specs.Eras.{interval_of}
use Rattle.ntp_packet.specs.declared.judging.Judged.{Judged}
use Rattle.ntp_packet.specs.declared.judging.Judged.TheVariants as judged
use Rattle.time_provider.specs.declared.fault.ProviderFault.TheVariants as failure
use Rattle.time_provider.specs.Past.{Answer, Waiting, is_time, query_of, told_by, judged_by, read_by, answer_to, answer_of}
use Rattle.server_roles.specs.declared.answers.Answer.{Answer as Stubbed}
use Rattle.server_roles.specs.declared.answers.Answer.TheVariants as answer
use Rattle.server_roles.specs.declared.answers.TheConstants.{GET_TIME}
use Rattle.clerk.specs.Outcome.{Outcome, Waiting as Waits, Short, Split, Adopted}
use Rattle.dts_capture.specs.declared.event.Event.{Event}
use Rattle.dts_capture.specs.declared.event.Event.TheVariants as event
use Rattle.dts_capture.specs.declared.action.Action.{Action}
use Rattle.dts_capture.specs.declared.action.Action.TheVariants as action
use Rattle.dts_capture.specs.declared.action.NoteKind.{NoteKind}
use Rattle.dts_capture.specs.declared.action.NoteKind.TheVariants as note
use Rattle.dts_capture.specs.Grammar.{first_connection}
use Rattle.sync_rules.specs.History.{Sync, Lane, lanes, event_part, event_osc, current_record}
use Rattle.sync_rules.specs.Live.{is_live}
use Rattle.sync_rules.specs.Rules.{rates_of, noted, publication, closes}
use Rattle.sync_rules.proofs.Choices.{both}
use Rattle.node_rules.specs.History.{Finding, QueryGone, PduTaken, PacketTaken, OctetsCame, PeerEnded, PeerRefused, AskCame, ConnectionOpened, PduServed, NodeHistory, Next, roster_of, bare, gives, findings_at, found_in}
use Rattle.node_rules.specs.Sessions.{session_of, calls_to, arrived_from}
use Rattle.node_rules.specs.Rounds.{Round, open_round, is_unanswered, outcome_of, next_sources}
use Rattle.node_rules.specs.Providers.{provider_of, near_at}
use Rattle.node_rules.specs.Connections.{connection_of, open_in}
use Rattle.node_rules.specs.Using.{Use, Unused, Used, use_between, use_of_moment, use_of, use_of_fields, is_relative, stamp_in}
use Rattle.node_rules.specs.Asking.{greatest_call, sends, time_request, spent, asked_unless, asks_over, begins_session, is_bound, asks_server, asks_ntp, kind_of, is_ntp, asks_source, opens_round}
use Rattle.node_rules.specs.Ending.{concludes, evaluates_open, evaluates}
use Rattle.node_rules.specs.Taking.{notes, gone, leaves, refuses, uses, reads_reply, follows, takes_over, takes, refuses_rest, takes_arrived, is_refusal, hears, stream_comes, judged_note, weighs, gram_comes, server_goes}
use Rattle.node_rules.specs.Serving.{most_connections, unless_maybe, responds, gives_out, drops, fault_note, serves_answer, serves_over, serves, drops_rest, serves_octets, serves_ask, reads, ask_comes, client_goes}
use Rattle.node_rules.specs.Rules.{may_open, opens_if_due, tick_comes, live_event, ends_peer, ended_by, regressed_event, followed_by}
use Rattle.node_safety.proofs.Courses.{both_true, is_plain, is_plain_kind, is_plain_action, IsLiveSync, IsLiveLane, Course, starts, moves}
use Rattle.node_safety.proofs.Courses.Move.{plain, asked, answered, renewed, ended, direct, read}

-- ---- what counts for nothing
sends_are_plain : (e : Event) (peer : ℕ) (pdus : List Pdu) → list_all is_plain_action (sends e peer pdus) ≡ true
sends_are_plain e peer [] = refl
sends_are_plain e peer (p ∷ pdus) = sends_are_plain e peer pdus

unless_are_plain : (maybe : Bool) (given : List Action) → list_all is_plain_action given ≡ true
    → list_all is_plain_action (unless_maybe maybe given) ≡ true
unless_are_plain true given h = refl
unless_are_plain false given h = h

one_is_plain : (kind : NoteKind) (rest : List Action) → is_plain_kind kind ≡ true → list_all is_plain_action rest ≡ true
    → (is_plain_kind kind && list_all is_plain_action rest) ≡ true
one_is_plain kind rest h k = rw (h, k) refl

both_plain : (first rest : List Action) → list_all is_plain_action first ≡ true → list_all is_plain_action rest ≡ true
    → list_all is_plain_action (first ++ rest) ≡ true
both_plain first rest h k = list_all-append is_plain_action first rest ∙ ap (λ b. b && list_all is_plain_action rest) h ∙ k

-- a step that is no more than plain
plainly : {b : NodeHistory} {e : Event} (h : NodeHistory) (findings : List Finding) (given : List Action) → Course b e h
    → list_all is_plain findings ≡ true → list_all is_plain_action given ≡ true → Course b e (gives h findings given)
plainly h findings given course f g = moves h findings given course (plain f g)

noting : {b : NodeHistory} {e : Event} (h : NodeHistory) (kind : NoteKind) → Course b e h → is_plain_kind kind ≡ true
    → Course b e (notes e h kind)
noting {b} {e} h kind course is = plainly h [] (noted e kind ∷ []) course refl (one_is_plain kind [] is refl)

folds : {b : NodeHistory} {e : Event} {A : Type 0} (f : NodeHistory → A → NodeHistory)
    → ((h : NodeHistory) (x : A) → Course b e h → Course b e (f h x))
    → (h : NodeHistory) (xs : List A) → Course b e h → Course b e (fold f h xs)
folds f each h [] course = course
folds f each h (x ∷ xs) course = folds f each (f h x) xs (each h x course)

-- ---- the end of a round
concluding : {b : NodeHistory} {e : Event} (at : IsLiveSync b e) (round : Round) (h : NodeHistory) (o : Outcome)
    → outcome_of h round (event_osc e) ≡ o
    → Course b e h → Course b e (concludes e round h o)
concluding at round h (Waits unanswered deadline) is course = course
concluding at round h (Short a r) is course = moves h _ _ course (ended round (Short a r) at is refl refl)
concluding at round h (Split n) is course = moves h _ _ course (ended round (Split n) at is refl refl)
concluding at round h (Adopted n i) is course = moves h _ _ course (ended round (Adopted n i) at is refl refl)

evaluating_open : {b : NodeHistory} {e : Event} (at : IsLiveSync b e) (h : NodeHistory) (round : Option Round) → Course b e h
    → Course b e (evaluates_open e h round)
evaluating_open at h None course = course
evaluating_open {b} {e} at h (Some round) course = concluding at round h (outcome_of h round (event_osc e)) refl course

evaluating : {b : NodeHistory} {e : Event} (at : IsLiveSync b e) (h : NodeHistory) → Course b e h → Course b e (evaluates e h)
evaluating at h course = evaluating_open at h (open_round (found_in h)) course

-- ---- asking
spending : {b : NodeHistory} {e : Event} (peer : ℕ) (h : NodeHistory) → Course b e h → Course b e (spent e peer h)
spending peer h course = plainly h _ _ course refl refl

asking_unless : {b : NodeHistory} {e : Event} (at : IsLiveSync b e) (refused : Option RequestFault) (peer : ℕ) (session : ClientHistory)
    (h : NodeHistory)
    → Course b e h → Course b e (asked_unless refused e peer session h)
asking_unless at (Some refused) peer session h course = spending peer h course
asking_unless {b} {e} at None peer session h course =
    moves h _ _ course (asked at refl (sends_are_plain e peer (request_sent session GET_TIME (time_request (roster_of h)))))

asking_over : {b : NodeHistory} {e : Event} (at : IsLiveSync b e) (session : ClientHistory) (peer : ℕ) (h : NodeHistory)
    → Course b e h → Course b e (asks_over session e peer h)
asking_over at session peer h course = asking_unless at (request_refused session (time_request (roster_of h))) peer session h course

beginning : {b : NodeHistory} {e : Event} (peer : ℕ) (h : NodeHistory) → Course b e h → Course b e (begins_session e peer h)
beginning {b} {e} peer h course =
    both (nat_lt greatest_call (calls_to peer (found_in h) + 1)) _ _ (Course b e) (λ _. spending peer h course)
    (λ _. plainly h _ _ course refl refl)

asking_server : {b : NodeHistory} {e : Event} (at : IsLiveSync b e) (peer : ℕ) (h : NodeHistory) (session : Option ClientHistory)
    → Course b e h → Course b e (asks_server e peer h session)
asking_server at peer h None course = beginning peer h course
asking_server {b} {e} at peer h (Some session) course =
    both (is_bound (client_state session)) _ _ (Course b e) (λ _. asking_over at session peer h course) (λ _. beginning peer h course)

asking_ntp : {b : NodeHistory} {e : Event} (at : IsLiveSync b e) (peer : ℕ) (h : NodeHistory) (query : Option Waiting)
    → Course b e h → Course b e (asks_ntp e peer h query)
asking_ntp at peer h None course = course
asking_ntp at peer h (Some query) course = moves h _ _ course (asked at refl refl)

asking_source : {b : NodeHistory} {e : Event} (at : IsLiveSync b e) (h : NodeHistory) (peer : ℕ) → Course b e h
    → Course b e (asks_source e h peer)
asking_source {b} {e} at h peer course =
    both (is_ntp (kind_of (roster_of h) peer)) _ _ (Course b e)
    (λ _. asking_ntp at peer h (query_of (provider_of (roster_of h) (found_in h)) peer) course)
    (λ _. asking_server at peer h (session_of peer (found_in h)) course)

opening : {b : NodeHistory} {e : Event} (at : IsLiveSync b e) (word : ℕ) (sources : List ℕ) (h : NodeHistory) → Course b e h
    → Course b e (opens_round e word sources h)
opening {b} {e} at word sources h course = folds (asks_source e) (asking_source at) _ sources (plainly h _ _ course refl refl)

-- ---- what comes from a server
gone_is_plain : (h : NodeHistory) (peer : ℕ) (rest : List Finding) → list_all is_plain rest ≡ true
    → list_all is_plain (gone h peer ++ rest) ≡ true
gone_is_plain h peer rest k =
    both (is_unanswered (found_in h) peer) (QueryGone peer ∷ []) [] (λ fs. list_all is_plain (fs ++ rest) ≡ true) (λ _. k) (λ _. k)

gone_alone : (h : NodeHistory) (peer : ℕ) → list_all is_plain (gone h peer) ≡ true
gone_alone h peer =
    both (is_unanswered (found_in h) peer) (QueryGone peer ∷ []) [] (λ fs. list_all is_plain fs ≡ true) (λ _. refl) (λ _. refl)

leaving : {b : NodeHistory} {e : Event} (peer : ℕ) (h : NodeHistory) (kind : NoteKind) → Course b e h → is_plain_kind kind ≡ true
    → Course b e (leaves e peer h kind)
leaving {b} {e} peer h kind course is =
    plainly h _ _ course (gone_is_plain h peer (PeerEnded peer ∷ []) refl)
    (one_is_plain kind (action.Close (event_osc e) peer ∷ []) is refl)

refusing : {b : NodeHistory} {e : Event} (peer : ℕ) (h : NodeHistory) (kind : NoteKind) → Course b e h → is_plain_kind kind ≡ true
    → Course b e (refuses e peer h kind)
refusing {b} {e} peer h kind course is = plainly h _ _ course refl (one_is_plain kind (action.Close (event_osc e) peer ∷ []) is refl)

-- what a reply is used for: its ends are times of the clock
abbrev IsUse : Use → Type 0
IsUse (Unused why) = is_plain_kind why ≡ true
IsUse (Used lo hi) = (is_time lo ≡ true) × (is_time hi ≡ true)

use_between_is : (lo hi : ℤ) → IsUse (use_between lo hi)
use_between_is lo hi =
    both (is_time lo && is_time hi) (Used lo hi) (Unused note.UnusedRange) IsUse (λ h. both_true (is_time lo) (is_time hi) h) (λ _. refl)

use_of_moment_is : (time : ℤ) (inaccuracy : Option ℕ) → IsUse (use_of_moment time inaccuracy)
use_of_moment_is time None = refl
use_of_moment_is time (Some i) = use_between_is (time -ℤ pos i) (time +ℤ pos i)

use_of_is : (own theirs status : ℕ) (s : Stamp) → IsUse (use_of own theirs status s)
use_of_is own theirs status s =
    both (not (own == theirs)) (Unused (note.Epoch own theirs)) _ IsUse (λ _. refl)
    (λ _. both (not (status == 0)) (Unused (note.UnusedStatus status)) _ IsUse (λ _. refl)
    (λ _. both (is_relative s.kind) (Unused note.UnusedKind) _ IsUse (λ _. refl) (λ _. use_of_moment_is s.time s.inaccuracy)))

use_of_fields_is : (own : ℕ) (fields : List Value) → IsUse (use_of_fields own fields)
use_of_fields_is own (a_number version ∷ a_number theirs ∷ some_octets utc ∷ a_number status ∷ []) =
    use_of_is own theirs status (stamp_in utc)
use_of_fields_is own _ = refl

using_it : {b : NodeHistory} {e : Event} (at : IsLiveSync b e) (peer : ℕ) (h : NodeHistory) (u : Use) → IsUse u → Course b e h
    → Course b e (uses e peer h u)
using_it at peer h (Unused why) is course = plainly h _ _ course refl (one_is_plain why [] is refl)
using_it at peer h (Used lo hi) is course = moves h _ _ course (answered peer lo hi at is.0 is.1 refl refl)

reading_reply : {b : NodeHistory} {e : Event} (at : IsLiveSync b e) (peer : ℕ) (h : NodeHistory) (fields : Result (List Value) Refused)
    → Course b e h → Course b e (reads_reply e peer h fields)
reading_reply at peer h (Err refused) course = refusing peer h (note.Refused refused) course refl
reading_reply at peer h (Ok fields) course = using_it at peer h _ (use_of_fields_is (roster_of h).settings.epoch fields) course

following : {b : NodeHistory} {e : Event} (at : IsLiveSync b e) (peer : ℕ) (session : ClientHistory) (h : NodeHistory)
    (told : Result ClientOut SessionFault)
    → Course b e h → Course b e (follows e peer session h told)
following at peer session h (Ok out.Bound) course = asking_over at session peer h course
following at peer session h (Ok out.Partial) course = course
following at peer session h (Ok (out.Reply call_id stub endian)) course =
    reading_reply at peer h (read_stub time_reply.fields endian stub) course
following at peer session h (Ok out.Shutdown) course = leaving peer h note.Shutdown course refl
following at peer session h (Err (fault.Rejected outcome reason)) course = leaving peer h (note.Rejected outcome reason) course refl
following at peer session h (Err (fault.Nak reason)) course = leaving peer h (note.Nak reason) course refl
following at peer session h (Err (fault.Fault status)) course = plainly h _ _ course (gone_alone h peer) refl
following at peer session h (Err (fault.UnknownCall call_id)) course = noting h (note.UnknownCall call_id) course refl
following at peer session h (Err (fault.Unexpected ptype state)) course = refusing peer h (note.Unexpected ptype state) course refl
following at peer session h (Err (fault.Fragments have limit)) course = refusing peer h (note.Fragments have limit) course refl
following at peer session h (Err fault.NoMemory) course = course

taking_over : {b : NodeHistory} {e : Event} (at : IsLiveSync b e) (peer : ℕ) (p : Pdu) (h : NodeHistory) (session : Option ClientHistory)
    → Course b e h → Course b e (takes_over e peer p h session)
taking_over at peer p h None course = course
taking_over at peer p h (Some session) course =
    following at peer (Took session p (taken session p)) _ (taken session p)
    (plainly h (PduTaken peer p (taken session p) ∷ []) [] course refl refl)

taking : {b : NodeHistory} {e : Event} (at : IsLiveSync b e) (peer : ℕ) (h : NodeHistory) (p : Pdu) → Course b e h
    → Course b e (takes e peer h p)
taking at peer h p course = taking_over at peer p h (session_of peer (found_in h)) course

refusing_rest : {b : NodeHistory} {e : Event} (peer : ℕ) (h : NodeHistory) (left : Result (List ℕ) Refused) → Course b e h
    → Course b e (refuses_rest e peer h left)
refusing_rest peer h (Ok rest) course = course
refusing_rest {b} {e} peer h (Err refused) course =
    both (is_some (session_of peer (found_in h))) _ _ (Course b e) (λ _. refusing peer h (note.Refused refused) course refl) (λ _. course)

hearing : {b : NodeHistory} {e : Event} (at : IsLiveSync b e) (peer : ℕ) (octets : List ℕ) (h : NodeHistory) → Course b e h
    → Course b e (hears e peer octets h)
hearing {b} {e} at peer octets h course =
    let heard = gives h (OctetsCame peer octets ∷ []) [] in
    let arrived = arrived_from peer (found_in heard) in
    let after = takes_arrived e peer heard arrived in
    let so : Course b e after = refusing_rest peer _ arrived.left
    (folds (takes e peer) (taking at peer) heard arrived.pdus (plainly h (OctetsCame peer octets ∷ []) [] course refl refl)) in
    both (list_any_refusal after) after (evaluates e after) (Course b e) (λ _. so) (λ _. evaluating at after so)
  where
    list_any_refusal : NodeHistory → Bool
    list_any_refusal x = list_any is_refusal (findings_at x)

hearing_stream : {b : NodeHistory} {e : Event} (at : IsLiveSync b e) (peer : ℕ) (octets : List ℕ) (h : NodeHistory) → Course b e h
    → Course b e (stream_comes e peer octets h)
hearing_stream {b} {e} at peer octets h course =
    both (is_some (session_of peer (found_in h))) _ _ (Course b e) (λ _. hearing at peer octets h course)
    (λ _. noting h note.Stray course refl)

-- ---- a packet of NTP
abbrev IsTold : Answer → Type 0
IsTold (Ok told) = (is_time told.lo ≡ true) × (is_time told.hi ≡ true)
IsTold (Err f) = Unit {0}

greater_is_time : (x y : ℤ) → is_time x ≡ true → is_time y ≡ true → is_time (int_max x y) ≡ true
greater_is_time x y h k = both (int_lt y x) x y (λ z. is_time z ≡ true) (λ _. h) (λ _. k)

told_is : (query : Waiting) (osc : ℕ) (ends : ℤ × ℤ) → IsTold (told_by query osc ends)
told_is query osc ends =
    both (is_time ends.0 && is_time ends.1) _ _ IsTold
    (λ h. let times = both_true (is_time ends.0) (is_time ends.1) h in (times.0, greater_is_time ends.0 ends.1 times.0 times.1)) (λ _. tt)

judged_is : (query : Waiting) (osc : ℕ) (near : ℤ) (p : Packet) (failed : Option Judged) → IsTold (judged_by query osc near p failed)
judged_is query osc near p (Some failed) = tt
judged_is query osc near p None = told_is query osc (interval_of p near)

read_is : (query : Waiting) (osc : ℕ) (near : ℤ) (p : Result Packet Refused) → IsTold (read_by query osc near p)
read_is query osc near (Err refused) = tt
read_is query osc near (Ok p) = judged_is query osc near p _

answer_is : (query : Option Waiting) (osc : ℕ) (octets : List ℕ) (near : ℤ) → IsTold (answer_to query osc octets near)
answer_is None osc octets near = tt
answer_is (Some query) osc octets near = read_is query osc near (reading octets)

judged_is_plain : (failed : Judged) → is_plain_kind (judged_note failed) ≡ true
judged_is_plain (judged.Mode found) = refl
judged_is_plain (judged.Kiss code) = refl
judged_is_plain (judged.Stratum found) = refl
judged_is_plain _ = refl

weighing : {b : NodeHistory} {e : Event} (at : IsLiveSync b e) (peer : ℕ) (h : NodeHistory) (told : Answer) → IsTold told → Course b e h
    → Course b e (weighs e peer h told)
weighing at peer h (Ok told) is course = evaluating at _ (moves h _ _ course (answered peer told.lo told.hi at is.0 is.1 refl refl))
weighing at peer h (Err (failure.Range lo hi)) is course = evaluating at _ (plainly h _ _ course refl refl)
weighing at peer h (Err failure.NoQuery) is course = noting h note.NoQuery course refl
weighing at peer h (Err (failure.Wrong refused)) is course = noting h (note.Refused refused) course refl
weighing at peer h (Err (failure.Judged failed)) is course = noting h (judged_note failed) course (judged_is_plain failed)

hearing_gram : {b : NodeHistory} {e : Event} (at : IsLiveSync b e) (peer : ℕ) (octets : List ℕ) (h : NodeHistory) → Course b e h
    → Course b e (gram_comes e peer octets h)
hearing_gram {b} {e} at peer octets h course =
    let past = provider_of (roster_of h) (found_in h) in
    let told = answer_of past peer (event_osc e) octets (near_at h (event_osc e)) in
    both (is_ntp (kind_of (roster_of h) peer)) _ _ (Course b e)
    (λ _. weighing at peer _ told (answer_is (query_of past peer) (event_osc e) octets (near_at h (event_osc e)))
    (plainly h (PacketTaken peer told ∷ []) [] course refl refl))
    (λ _. noting h note.Stray course refl)

server_going : {b : NodeHistory} {e : Event} (at : IsLiveSync b e) (peer : ℕ) (h : NodeHistory) (kind : NoteKind) → is_plain_kind kind
    ≡ true → Course b e h
    → Course b e (server_goes e peer h kind)
server_going {b} {e} at peer h kind is course =
    both (is_some (kind_of (roster_of h) peer)) _ _ (Course b e)
    (λ _. evaluating at _ (plainly h _ _ course (gone_is_plain h peer (PeerEnded peer ∷ []) refl) (one_is_plain kind [] is refl)))
    (λ _. noting h note.Stray course refl)

-- ---- serving
responding : {b : NodeHistory} {e : Event} (conn : ℕ) (session : ServerHistory) (call : CallHead) (h : NodeHistory) (a : Stubbed)
    → Course b e h → Course b e (responds e conn session call h a)
responding {b} {e} conn session call h (answer.Stub stub) course =
    plainly h [] _ course refl
    (unless_are_plain call.maybe _ (sends_are_plain e conn (response_sent session call.call_id call.context call.endian stub)))
responding {b} {e} conn session call h (answer.Wrong refused) course =
    plainly h (PeerRefused conn ∷ []) _ course refl (unless_are_plain call.maybe _ refl)

giving_out : {b : NodeHistory} {e : Event} (conn : ℕ) (session : ServerHistory) (h : NodeHistory) (o : Out) → Course b e h
    → Course b e (gives_out e conn session h o)
giving_out conn session h (server_out.Send p) course = plainly h [] _ course refl refl
giving_out conn session h (server_out.Call call_id context opnum stub endian maybe) course =
    responding conn session (record { call_id = call_id; context = context; opnum = opnum; maybe = maybe; endian = endian }) h _ course

dropping : {b : NodeHistory} {e : Event} (conn : ℕ) (h : NodeHistory) (kind : NoteKind) → is_plain_kind kind ≡ true → Course b e h
    → Course b e (drops e conn h kind)
dropping {b} {e} conn h kind is course = plainly h _ _ course refl (one_is_plain kind (action.Close (event_osc e) conn ∷ []) is refl)

fault_is_plain : (f : SessionFault) → is_plain_kind (fault_note f) ≡ true
fault_is_plain (fault.Unexpected ptype state) = refl
fault_is_plain _ = refl

answering : {b : NodeHistory} {e : Event} (conn : ℕ) (session : ServerHistory) (h : NodeHistory) (given : Result (List Out) SessionFault)
    → Course b e h → Course b e (serves_answer e conn session h given)
answering {b} {e} conn session h (Ok outs) course = folds (gives_out e conn session) (giving_out conn session) h outs course
answering conn session h (Err f) course = dropping conn h (fault_note f) (fault_is_plain f) course

serving_over : {b : NodeHistory} {e : Event} (conn : ℕ) (p : Pdu) (h : NodeHistory) (session : Option ServerHistory)
    → Course b e h → Course b e (serves_over e conn p h session)
serving_over conn p h None course = course
serving_over conn p h (Some session) course =
    answering conn (Received session p (session_answer session p)) _ (session_answer session p)
    (plainly h (PduServed conn p (session_answer session p) ∷ []) [] course refl refl)

serving : {b : NodeHistory} {e : Event} (conn : ℕ) (h : NodeHistory) (p : Pdu) → Course b e h → Course b e (serves e conn h p)
serving conn h p course = serving_over conn p h (connection_of conn (found_in h)) course

dropping_rest : {b : NodeHistory} {e : Event} (conn : ℕ) (h : NodeHistory) (left : Result (List ℕ) Refused) → Course b e h
    → Course b e (drops_rest e conn h left)
dropping_rest conn h (Ok rest) course = course
dropping_rest {b} {e} conn h (Err refused) course =
    both (is_some (connection_of conn (found_in h))) _ _ (Course b e) (λ _. dropping conn h (note.Refused refused) refl course)
    (λ _. course)

serving_octets : {b : NodeHistory} {e : Event} (conn : ℕ) (octets : List ℕ) (h : NodeHistory) → Course b e h
    → Course b e (serves_octets e conn octets h)
serving_octets {b} {e} conn octets h course =
    let heard = gives h (OctetsCame conn octets ∷ []) [] in
    let arrived = arrived_from conn (found_in heard) in
    dropping_rest conn _ arrived.left
    (folds (serves e conn) (serving conn) heard arrived.pdus (plainly h (OctetsCame conn octets ∷ []) [] course refl refl))

serving_ask : {b : NodeHistory} {e : Event} (conn : ℕ) (octets : List ℕ) (h : NodeHistory) → Course b e h
    → Course b e (serves_ask e conn octets h)
serving_ask {b} {e} conn octets h course =
    both (is_some (connection_of conn (found_in h))) _ _ (Course b e) (λ _. serving_octets conn octets h course)
    (λ _. both (nat_le most_connections (length (open_in (conn % lanes) (found_in h)))) _ _ (Course b e)
    (λ _. plainly h [] _ course refl refl)
    (λ _. serving_octets conn octets _ (plainly h (ConnectionOpened conn ∷ []) [] course refl refl)))

reading_first : {b : NodeHistory} {e : Event} → IsLiveLane b e → Course b e (reads e (Next b e [] []))
unfolding current_record
reading_first {b} {e} at = moves (Next b e [] []) [] _ starts (read at refl refl)

asking_it : {b : NodeHistory} {e : Event} → IsLiveLane b e → (conn : ℕ) (octets : List ℕ)
    → Course b e (ask_comes e conn octets (Next b e [] []))
asking_it {b} {e} at conn octets =
    serving_ask conn octets _ (plainly (reads e (Next b e [] [])) (AskCame conn ∷ []) [] (reading_first at) refl refl)

client_going : {b : NodeHistory} {e : Event} → IsLiveLane b e → (conn : ℕ) (kind : NoteKind) → is_plain_kind kind ≡ true
    → Course b e (client_goes e conn (Next b e [] []) kind)
client_going {b} {e} at conn kind is =
    plainly (reads e (Next b e [] [])) (PeerEnded conn ∷ []) _ (reading_first at) refl (one_is_plain kind [] is refl)

-- ---- any event
opening_if_due : {b : NodeHistory} {e : Event} (at : IsLiveSync b e) (word : ℕ) (h : NodeHistory) → Course b e h
    → Course b e (opens_if_due e word h)
opening_if_due {b} {e} at word h course =
    both (may_open e h) _ _ (Course b e) (λ _. evaluating at _ (opening at word (next_sources (roster_of h) (found_in h)) h course))
    (λ _. course)

ticking : (b : NodeHistory) (osc word : ℕ) → let e =
    event.Tick osc word in (at : IsLiveSync b e) → Course b e (tick_comes e word (Next b e [] []))
ticking b osc word at =
    let h = Next b (event.Tick osc word) [] [] in
    renewing (renewed_record (rates_of (bare h)) (current_record (bare h)) osc) refl
  where
    renewing : (next : Option ClockRecord)
        → renewed_record (rates_of (bare (Next b (event.Tick osc word) [] [])))
        (current_record (bare (Next b (event.Tick osc word) [] []))) osc ≡ next
        → Course b (event.Tick osc word) (if is_some next then gives (Next b (event.Tick osc word) [] []) [] (publication next)
        else opens_if_due (event.Tick osc word) word (evaluates (event.Tick osc word) (Next b (event.Tick osc word) [] [])))
    renewing None is = opening_if_due at word _ (evaluating at _ starts)
    renewing (Some rec) is = moves _ [] _ starts (renewed rec at is refl refl)

-- what a peer does is what a server does, or what a client does in its lane
by_peer : (b : NodeHistory) (e : Event) (is_server : Bool) (k : ℕ) (x y : NodeHistory) → is_live (bare b) e ≡ true → event_part e
    ≡ (if is_server then Sync else Lane k)
    → (IsLiveLane b e → Course b e x) → (IsLiveSync b e → Course b e y) → Course b e (if not is_server then x else y)
by_peer b e true k x y live part client server = server (record { live = live; sync = part })
by_peer b e false k x y live part client server = client (record { live = live; lane = k; is = part })

pub live_course : (b : NodeHistory) (e : Event) → is_live (bare b) e ≡ true → Course b e (live_event b e)
live_course b (event.Tick osc word) live = ticking b osc word (record { live = live; sync = refl })
live_course b (event.Stream osc peer octets) live =
    by_peer b (event.Stream osc peer octets) (nat_lt peer first_connection) (peer % lanes) _ _ live refl
    (λ _. noting _ note.Stray starts refl)
    (λ at. hearing_stream at peer octets _ starts)
live_course b (event.Gram osc peer octets) live =
    by_peer b (event.Gram osc peer octets) (nat_lt peer first_connection) (peer % lanes) _ _ live refl
    (λ _. noting _ note.Stray starts refl)
    (λ at. hearing_gram at peer octets _ starts)
live_course b (event.Lost osc peer) live =
    by_peer b (event.Lost osc peer) (nat_lt peer first_connection) (peer % lanes) _ _ live refl
    (λ at. client_going at peer note.Lost refl)
    (λ at. server_going at peer _ note.Lost refl starts)
live_course b (event.Unsent osc peer) live =
    by_peer b (event.Unsent osc peer) (nat_lt peer first_connection) (peer % lanes) _ _ live refl
    (λ at. client_going at peer note.Unsent refl)
    (λ at. server_going at peer _ note.Unsent refl starts)
live_course b (event.Ask osc conn octets) live = asking_it (record { live = live; lane = conn % lanes; is = refl }) conn octets
live_course b (event.Read osc) live = reading_first (record { live = live; lane = 0; is = refl })
live_course b (event.Query osc tag) live = moves _ [] _ starts (direct (record { live = live; sync = refl }) tt refl refl refl)
live_course b (event.Source osc tag i) live = moves _ [] _ starts (direct (record { live = live; sync = refl }) tt refl refl refl)
live_course b (event.Adopt osc required) live = moves _ [] _ starts (direct (record { live = live; sync = refl }) tt refl refl refl)

closing_is_plain : (e : Event) → list_all is_plain_action (closes e) ≡ true
closing_is_plain (event.Tick osc word) = refl
closing_is_plain _ = refl

ending_is_plain : (b : NodeHistory) (ended_one : Option ℕ) → list_all is_plain (ends_peer (found_in b) ended_one) ≡ true
ending_is_plain b None = refl
ending_is_plain b (Some peer) =
    both (is_some (session_of peer (found_in b)) || is_some (connection_of peer (found_in b))) (PeerEnded peer ∷ []) []
    (λ fs. list_all is_plain fs ≡ true) (λ _. refl) (λ _. refl)

regressed_course : (b : NodeHistory) (e : Event) → Course b e (regressed_event b e)
regressed_course b e = plainly (Next b e [] []) _ _ starts (ending_is_plain b (ended_by e)) (closing_is_plain e)

-- each position of the rules
pub course : (b : NodeHistory) (e : Event) → Course b e (followed_by b e)
unfolding followed_by
course b e = both (is_live (bare b) e) _ _ (Course b e) (λ live. live_course b e live) (λ _. regressed_course b e)
