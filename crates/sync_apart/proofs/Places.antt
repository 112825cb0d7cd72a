-- An event has one position: what the rules find and give for it is found and given there.
use Rattle.std.proofs.Common.{◌≡◌, ℕ, ◌+◌, Bool, true, false, List, [], ◌∷◌, ◌++◌, Option, Some, None, Result, Ok, Err, refl, sym, ap, ◌∙◌, append_assoc, append-nil}
use Rattle.std.specs.Prelude.{◌%◌, nat_le, nat_lt, length, if◌then◌else◌, is_some, fold, map, filter}
use Rattle.std.specs.List.{list_any}
use Rattle.std.proofs.lemmas.List.{map-append}
use Rattle.dts_base.specs.declared.wire.Refused.{Refused}
use Rattle.slew_clock.specs.Change.{renewed_record}
use Rattle.ndr.specs.Stubs.{Value, read_stub}
use Rattle.pdu_fields.specs.declared.pdu.Pdu.{Pdu}
use Rattle.rpc_session.specs.declared.fault.RequestFault.{RequestFault}
use Rattle.rpc_session.specs.declared.fault.SessionFault.{SessionFault}
use Rattle.rpc_session.specs.declared.fault.SessionFault.TheVariants as fault
use Rattle.rpc_session.specs.declared.client.ClientOut.{ClientOut}
use Rattle.rpc_session.specs.declared.client.ClientOut.TheVariants as out
use Rattle.rpc_session.specs.declared.server.Out.{Out}
use Rattle.rpc_session.specs.declared.server.Out.TheVariants as served
use Rattle.rpc_session.specs.declared.server.CallHead.{CallHead}
use Rattle.rpc_session.specs.Server.{ServerHistory, Received, answered as session_answer}
use Rattle.server_roles.specs.declared.answers.Answer.{Answer as ServerAnswer}
use Rattle.server_roles.specs.declared.answers.Answer.TheVariants as answer
use Rattle.rpc_session.specs.Client.{ClientHistory, Took, taken, client_state, request_refused}
use Rattle.time_wire.specs.Layouts.{time_reply}
use Rattle.time_provider.specs.declared.fault.ProviderFault.TheVariants as failure
use Rattle.time_provider.specs.Past.{Answer, Waiting, query_of}
use Rattle.clerk.specs.Outcome.{Outcome, Waiting as Awaiting, Short, Split, Adopted}
use Rattle.dts_capture.specs.declared.event.Event.{Event}
use Rattle.dts_capture.specs.declared.event.Event.TheVariants as event
use Rattle.dts_capture.specs.declared.action.Action.{Action}
use Rattle.dts_capture.specs.declared.action.NoteKind.{NoteKind}
use Rattle.dts_capture.specs.declared.action.NoteKind.TheVariants as note
use Rattle.sync_rules.specs.History.{lanes, event_osc}
use Rattle.sync_rules.specs.Live.{is_live}
use Rattle.sync_rules.specs.Rules.{rates_of, regressed_actions}
use Rattle.node_rules.specs.History.{Finding, PduTaken, OctetsCame, AskCame, ConnectionOpened, PduServed, NodeHistory, Began, Next, roster_of, bare, gives, findings_at, found_in}
use Rattle.node_rules.specs.Sessions.{calls_to, session_of, arrived_from}
use Rattle.node_rules.specs.Rounds.{Round, open_round, outcome_of, next_sources}
use Rattle.node_rules.specs.Providers.{provider_of}
use Rattle.node_rules.specs.Using.{Use, Unused, Used, use_of_fields}
use Rattle.node_rules.specs.Asking.{time_request, asked_unless, asks_over, greatest_call, begins_session, is_bound, asks_server, asks_ntp, kind_of, is_ntp, asks_source, opens_round}
use Rattle.node_rules.specs.Ending.{concludes, evaluates_open, evaluates}
use Rattle.node_rules.specs.Taking.{uses, reads_reply, follows, takes_over, takes, refuses_rest, is_refusal, hears, stream_comes, weighs, gram_comes, server_goes}
use Rattle.node_rules.specs.Connections.{connection_of, open_in}
use Rattle.node_rules.specs.Serving.{most_connections, responds, gives_out, serves_answer, serves_over, serves, drops_rest, serves_octets, serves_ask, reads, ask_comes, client_goes}
use Rattle.node_rules.specs.Rules.{may_open, opens_if_due, tick_comes, is_client, live_event, ended_by, ends_peer, actions_at, followed_by, extended}
use Rattle.node_rules.proofs.Serving.{record_of}
use Rattle.sync_apart.specs.Apart.{is_sync, sync_given, event_given, GivesEachEvent}

-- the last event, where there is one
abbrev pub last_event : NodeHistory → Option Event
last_event (Began roster start) = None
last_event (Next before e findings actions) = Some e

-- what the sync part gave before it
abbrev pub given_before : NodeHistory → List (Event × List Action)
given_before (Began roster start) = []
given_before (Next before e findings actions) = sync_given before

pub event_stays : (history : NodeHistory) (findings : List Finding) (given : List Action)
    → last_event (gives history findings given) ≡ last_event history
event_stays (Began roster start) findings given = refl
event_stays (Next before e found actions) findings given = refl

earlier_stays : (history : NodeHistory) (findings : List Finding) (given : List Action)
    → given_before (gives history findings given) ≡ given_before history
earlier_stays (Began roster start) findings given = refl
earlier_stays (Next before e found actions) findings given = refl

-- both are as they were
record SamePlace (before after : NodeHistory) : Type 0 where
  last : last_event after ≡ last_event before
  earlier : given_before after ≡ given_before before

stays : (history : NodeHistory) → SamePlace history history
stays history = record { last = refl; earlier = refl }

then_stays : {x y z : NodeHistory} → SamePlace x y → SamePlace y z → SamePlace x z
then_stays first second = record { last = second.last ∙ first.last; earlier = second.earlier ∙ first.earlier }

giving : (history : NodeHistory) (findings : List Finding) (given : List Action) → SamePlace history (gives history findings given)
giving history findings given = record { last = event_stays history findings given; earlier = earlier_stays history findings given }

folds : {A : Type 0} (f : NodeHistory → A → NodeHistory) → ((history : NodeHistory) (x : A) → SamePlace history (f history x))
    → (history : NodeHistory) (xs : List A) → SamePlace history (fold f history xs)
folds f each history [] = stays history
folds f each history (x ∷ xs) = then_stays (each history x) (folds f each (f history x) xs)

either : (b : Bool) {history x y : NodeHistory} → SamePlace history x → SamePlace history y → SamePlace history (if b then x else y)
either true first second = first
either false first second = second

-- ---- the end of a round
concluding : (e : Event) (round : Round) (history : NodeHistory) (outcome : Outcome)
    → SamePlace history (concludes e round history outcome)
concluding e round history (Awaiting unanswered deadline) = stays history
concluding e round history (Short answered required) = giving history _ _
concluding e round history (Split n) = giving history _ _
concluding e round history (Adopted n i) = giving history _ _

evaluating_open : (e : Event) (history : NodeHistory) (round : Option Round) → SamePlace history (evaluates_open e history round)
evaluating_open e history None = stays history
evaluating_open e history (Some round) = concluding e round history (outcome_of history round (event_osc e))

evaluating : (e : Event) (history : NodeHistory) → SamePlace history (evaluates e history)
evaluating e history = evaluating_open e history (open_round (found_in history))

-- ---- asking
asking_unless : (refused : Option RequestFault) (e : Event) (peer : ℕ) (session : ClientHistory) (history : NodeHistory)
    → SamePlace history (asked_unless refused e peer session history)
asking_unless (Some refused) e peer session history = giving history _ _
asking_unless None e peer session history = giving history _ _

asking_over : (session : ClientHistory) (e : Event) (peer : ℕ) (history : NodeHistory)
    → SamePlace history (asks_over session e peer history)
asking_over session e peer history = asking_unless (request_refused session (time_request (roster_of history))) e peer session history

beginning_session : (e : Event) (peer : ℕ) (history : NodeHistory) → SamePlace history (begins_session e peer history)
beginning_session e peer history =
    either (nat_lt greatest_call (calls_to peer (found_in history) + 1)) (giving history _ _) (giving history _ _)

asking_server : (e : Event) (peer : ℕ) (history : NodeHistory) (session : Option ClientHistory)
    → SamePlace history (asks_server e peer history session)
asking_server e peer history None = beginning_session e peer history
asking_server e peer history (Some session) =
    either (is_bound (client_state session)) (asking_over session e peer history) (beginning_session e peer history)

asking_ntp : (e : Event) (peer : ℕ) (history : NodeHistory) (query : Option Waiting) → SamePlace history (asks_ntp e peer history query)
asking_ntp e peer history None = stays history
asking_ntp e peer history (Some query) = giving history _ _

asking_source : (e : Event) (history : NodeHistory) (peer : ℕ) → SamePlace history (asks_source e history peer)
asking_source e history peer =
    either (is_ntp (kind_of (roster_of history) peer))
    (asking_ntp e peer history (query_of (provider_of (roster_of history) (found_in history)) peer))
    (asking_server e peer history (session_of peer (found_in history)))

opening : (e : Event) (word : ℕ) (sources : List ℕ) (history : NodeHistory) → SamePlace history (opens_round e word sources history)
opening e word sources history = then_stays (giving history _ _) (folds (asks_source e) (asking_source e) _ sources)

-- ---- taking
using_it : (e : Event) (peer : ℕ) (history : NodeHistory) (use_of_it : Use) → SamePlace history (uses e peer history use_of_it)
using_it e peer history (Unused why) = giving history _ _
using_it e peer history (Used lo hi) = giving history _ _

reading_reply : (e : Event) (peer : ℕ) (history : NodeHistory) (fields : Result (List Value) Refused)
    → SamePlace history (reads_reply e peer history fields)
reading_reply e peer history (Err refused) = giving history _ _
reading_reply e peer history (Ok fields) = using_it e peer history (use_of_fields (roster_of history).settings.epoch fields)

following : (e : Event) (peer : ℕ) (session : ClientHistory) (history : NodeHistory) (answer : Result ClientOut SessionFault)
    → SamePlace history (follows e peer session history answer)
following e peer session history (Ok out.Bound) = asking_over session e peer history
following e peer session history (Ok out.Partial) = stays history
following e peer session history (Ok (out.Reply call_id stub endian)) =
    reading_reply e peer history (read_stub time_reply.fields endian stub)
following e peer session history (Ok out.Shutdown) = giving history _ _
following e peer session history (Err (fault.Rejected outcome reason)) = giving history _ _
following e peer session history (Err (fault.Nak reason)) = giving history _ _
following e peer session history (Err (fault.Fault status)) = giving history _ _
following e peer session history (Err (fault.UnknownCall call_id)) = giving history _ _
following e peer session history (Err (fault.Unexpected ptype state)) = giving history _ _
following e peer session history (Err (fault.Fragments have limit)) = giving history _ _
following e peer session history (Err fault.NoMemory) = stays history

taking_over : (e : Event) (peer : ℕ) (p : Pdu) (history : NodeHistory) (session : Option ClientHistory)
    → SamePlace history (takes_over e peer p history session)
taking_over e peer p history None = stays history
taking_over e peer p history (Some session) =
    then_stays (giving history (PduTaken peer p (taken session p) ∷ []) [])
    (following e peer (Took session p (taken session p)) (gives history (PduTaken peer p (taken session p) ∷ []) []) (taken session p))

taking : (e : Event) (peer : ℕ) (history : NodeHistory) (p : Pdu) → SamePlace history (takes e peer history p)
taking e peer history p = taking_over e peer p history (session_of peer (found_in history))

refusing_rest : (e : Event) (peer : ℕ) (history : NodeHistory) (left : Result (List ℕ) Refused)
    → SamePlace history (refuses_rest e peer history left)
refusing_rest e peer history (Ok rest) = stays history
refusing_rest e peer history (Err refused) = either (is_some (session_of peer (found_in history))) (giving history _ _) (stays history)

hearing : (e : Event) (peer : ℕ) (octets : List ℕ) (history : NodeHistory) → SamePlace history (hears e peer octets history)
hearing e peer octets history =
    let heard : NodeHistory = gives history (OctetsCame peer octets ∷ []) [] in
    let arrived = arrived_from peer (found_in heard) in
    let taken_all : NodeHistory = fold (takes e peer) heard arrived.pdus in
    let rest : NodeHistory = refuses_rest e peer taken_all arrived.left in
    then_stays (giving history (OctetsCame peer octets ∷ []) [])
    (then_stays (folds (takes e peer) (taking e peer) heard arrived.pdus)
    (then_stays (refusing_rest e peer taken_all arrived.left)
    (either (list_any is_refusal (findings_at rest)) (stays rest) (evaluating e rest))))

streaming : (e : Event) (peer : ℕ) (octets : List ℕ) (history : NodeHistory) → SamePlace history (stream_comes e peer octets history)
streaming e peer octets history =
    either (is_some (session_of peer (found_in history))) (hearing e peer octets history) (giving history _ _)

weighing : (e : Event) (peer : ℕ) (history : NodeHistory) (answer : Answer) → SamePlace history (weighs e peer history answer)
weighing e peer history (Ok told) = then_stays (giving history _ _) (evaluating e _)
weighing e peer history (Err (failure.Range lo hi)) = then_stays (giving history _ _) (evaluating e _)
weighing e peer history (Err failure.NoQuery) = giving history _ _
weighing e peer history (Err (failure.Wrong refused)) = giving history _ _
weighing e peer history (Err (failure.Judged failed)) = giving history _ _

packing : (e : Event) (peer : ℕ) (octets : List ℕ) (history : NodeHistory) → SamePlace history (gram_comes e peer octets history)
packing e peer octets history =
    either (is_ntp (kind_of (roster_of history) peer))
    (then_stays (giving history _ _) (weighing e peer _ _))
    (giving history _ _)

parting : (e : Event) (peer : ℕ) (history : NodeHistory) (kind : NoteKind) → SamePlace history (server_goes e peer history kind)
parting e peer history kind =
    either (is_some (kind_of (roster_of history) peer)) (then_stays (giving history _ _) (evaluating e _)) (giving history _ _)

-- ---- a tick
opening_if_due : (e : Event) (word : ℕ) (history : NodeHistory) → SamePlace history (opens_if_due e word history)
opening_if_due e word history =
    either (may_open e history)
    (then_stays (opening e word (next_sources (roster_of history) (found_in history)) history) (evaluating e _))
    (stays history)

ticking : (e : Event) (word : ℕ) (history : NodeHistory) → SamePlace history (tick_comes e word history)
ticking e word history =
    either (is_some (renewed_record (rates_of (bare history)) (record_of history) (event_osc e))) (giving history _ _)
    (then_stays (evaluating e history) (opening_if_due e word (evaluates e history)))

-- ---- serving
responding : (e : Event) (conn : ℕ) (session : ServerHistory) (call : CallHead) (history : NodeHistory) (a : ServerAnswer)
    → SamePlace history (responds e conn session call history a)
responding e conn session call history (answer.Stub stub) = giving history _ _
responding e conn session call history (answer.Wrong refused) = giving history _ _

giving_out : (e : Event) (conn : ℕ) (session : ServerHistory) (history : NodeHistory) (o : Out)
    → SamePlace history (gives_out e conn session history o)
giving_out e conn session history (served.Send p) = giving history _ _
giving_out e conn session history (served.Call call_id context opnum stub endian maybe) =
    responding e conn session (record { call_id = call_id; context = context; opnum = opnum; maybe = maybe; endian = endian }) history _

answering : (e : Event) (conn : ℕ) (session : ServerHistory) (history : NodeHistory) (given : Result (List Out) SessionFault)
    → SamePlace history (serves_answer e conn session history given)
answering e conn session history (Ok outs) = folds (gives_out e conn session) (giving_out e conn session) history outs
answering e conn session history (Err failed) = giving history _ _

serving_over : (e : Event) (conn : ℕ) (p : Pdu) (history : NodeHistory) (session : Option ServerHistory)
    → SamePlace history (serves_over e conn p history session)
serving_over e conn p history None = stays history
serving_over e conn p history (Some session) =
    then_stays (giving history (PduServed conn p (session_answer session p) ∷ []) [])
    (answering e conn (Received session p (session_answer session p)) _ (session_answer session p))

serving : (e : Event) (conn : ℕ) (history : NodeHistory) (p : Pdu) → SamePlace history (serves e conn history p)
serving e conn history p = serving_over e conn p history (connection_of conn (found_in history))

dropping_rest : (e : Event) (conn : ℕ) (history : NodeHistory) (left : Result (List ℕ) Refused)
    → SamePlace history (drops_rest e conn history left)
dropping_rest e conn history (Ok rest) = stays history
dropping_rest e conn history (Err refused) = either (is_some (connection_of conn (found_in history))) (giving history _ _) (stays history)

serving_octets : (e : Event) (conn : ℕ) (octets : List ℕ) (history : NodeHistory)
    → SamePlace history (serves_octets e conn octets history)
serving_octets e conn octets history =
    let heard : NodeHistory = gives history (OctetsCame conn octets ∷ []) [] in
    let arrived = arrived_from conn (found_in heard) in
    then_stays (giving history (OctetsCame conn octets ∷ []) [])
    (then_stays (folds (serves e conn) (serving e conn) heard arrived.pdus)
    (dropping_rest e conn (fold (serves e conn) heard arrived.pdus) arrived.left))

serving_ask : (e : Event) (conn : ℕ) (octets : List ℕ) (history : NodeHistory) → SamePlace history (serves_ask e conn octets history)
serving_ask e conn octets history =
    either (is_some (connection_of conn (found_in history))) (serving_octets e conn octets history)
    (either (nat_le most_connections (length (open_in (conn % lanes) (found_in history)))) (giving history _ _)
    (then_stays (giving history (ConnectionOpened conn ∷ []) [])
    (serving_octets e conn octets (gives history (ConnectionOpened conn ∷ []) []))))

asking : (e : Event) (conn : ℕ) (octets : List ℕ) (history : NodeHistory) → SamePlace history (ask_comes e conn octets history)
asking e conn octets history =
    then_stays (giving history _ _)
    (then_stays (giving (reads e history) (AskCame conn ∷ []) [])
    (serving_ask e conn octets (gives (reads e history) (AskCame conn ∷ []) [])))

going : (e : Event) (conn : ℕ) (history : NodeHistory) (kind : NoteKind) → SamePlace history (client_goes e conn history kind)
going e conn history kind = then_stays (giving history _ _) (giving (reads e history) _ _)

-- ---- any event
live_place : (before : NodeHistory) (e : Event) → SamePlace (Next before e [] []) (live_event before e)
live_place before (event.Tick osc word) = ticking (event.Tick osc word) word (Next before (event.Tick osc word) [] [])
live_place before (event.Stream osc peer octets) =
    let now : NodeHistory = Next before (event.Stream osc peer octets) [] [] in
    either (is_client peer) (giving now _ _) (streaming (event.Stream osc peer octets) peer octets now)
live_place before (event.Gram osc peer octets) =
    let now : NodeHistory = Next before (event.Gram osc peer octets) [] [] in
    either (is_client peer) (giving now _ _) (packing (event.Gram osc peer octets) peer octets now)
live_place before (event.Lost osc peer) =
    let now : NodeHistory = Next before (event.Lost osc peer) [] [] in
    either (is_client peer) (going (event.Lost osc peer) peer now note.Lost) (parting (event.Lost osc peer) peer now note.Lost)
live_place before (event.Unsent osc peer) =
    let now : NodeHistory = Next before (event.Unsent osc peer) [] [] in
    either (is_client peer) (going (event.Unsent osc peer) peer now note.Unsent) (parting (event.Unsent osc peer) peer now note.Unsent)
live_place before (event.Ask osc conn octets) =
    asking (event.Ask osc conn octets) conn octets (Next before (event.Ask osc conn octets) [] [])
live_place before (event.Read osc) = giving (Next before (event.Read osc) [] []) _ _
live_place before (event.Query osc tag) = giving (Next before (event.Query osc tag) [] []) _ _
live_place before (event.Source osc tag i) = giving (Next before (event.Source osc tag i) [] []) _ _
live_place before (event.Adopt osc required) = giving (Next before (event.Adopt osc required) [] []) _ _

followed_place : (before : NodeHistory) (e : Event) → SamePlace (Next before e [] []) (followed_by before e)
unfolding followed_by
followed_place before e =
    either (is_live (bare before) e) (live_place before e)
    (giving (Next before e [] []) (ends_peer (found_in before) (ended_by e)) (regressed_actions (bare before) e))

-- the sync part's positions behind an event: one more, where it is of the sync part
given_with : (history : NodeHistory) (e : Event) → last_event history ≡ Some e → sync_given history
    ≡ (if is_sync e then given_before history ++ (e, actions_at history) ∷ [] else given_before history)
given_with (Began roster start) e is = cc
given_with (Next before last findings actions) e is =
    let same : last ≡ e = cc in
    ap (λ x. if is_sync x then sync_given before ++ (x, actions) ∷ [] else sync_given before) same

pub given_next : (before : NodeHistory) (e : Event) → sync_given (followed_by before e)
    ≡ (if is_sync e then sync_given before ++ (e, actions_at (followed_by before e)) ∷ [] else sync_given before)
given_next before e =
    let place = followed_place before e in
    given_with (followed_by before e) e place.last
    ∙ ap (λ given. if is_sync e then given ++ (e, actions_at (followed_by before e)) ∷ [] else given) place.earlier

-- ---- all events
each_event : (events : List Event) (history : NodeHistory)
    → map event_given (sync_given (extended history events)) ≡ map event_given (sync_given history) ++ filter is_sync events
each_event [] history = sym (append-nil (map event_given (sync_given history)))
each_event (e ∷ events) history =
    each_event events (followed_by history e)
    ∙ ap (λ given. map event_given given ++ filter is_sync events) (given_next history e)
    ∙ one_more (is_sync e) (actions_at (followed_by history e))
  where
    one_more : (b : Bool) (actions : List Action)
        → map event_given (if b then sync_given history ++ (e, actions) ∷ [] else sync_given history) ++ filter is_sync events
        ≡ map event_given (sync_given history) ++ (if b then e ∷ filter is_sync events else filter is_sync events)
    one_more true actions =
        ap (λ given. given ++ filter is_sync events) (map-append event_given (sync_given history) ((e, actions) ∷ []))
        ∙ append_assoc (map event_given (sync_given history)) (e ∷ []) (filter is_sync events)
    one_more false actions = refl

pub gives_each_event : GivesEachEvent
gives_each_event roster start events = each_event events (Began roster start)
