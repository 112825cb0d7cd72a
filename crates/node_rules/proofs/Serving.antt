-- Serving leaves the clock's record as it was.
use Rattle.std.proofs.Common.{◌≡◌, ℕ, List, [], ◌∷◌, ◌%◌, not, Some, None, Ok, Err, true, false, Bool, refl, ◌∙◌, subst}
use Rattle.std.specs.Prelude.{Option, Result, is_some, nat_le, nat_lt, if◌then◌else◌, fold, length}
use Rattle.dts_base.specs.declared.wire.Refused.{Refused}
use Rattle.slew_clock.specs.declared.record.ClockRecord.{ClockRecord}
use Rattle.pdu_fields.specs.declared.pdu.Pdu.{Pdu}
use Rattle.rpc_feed.specs.Pieces.{Pieces}
use Rattle.rpc_session.specs.declared.fault.SessionFault.{SessionFault}
use Rattle.rpc_session.specs.declared.server.Out.{Out}
use Rattle.rpc_session.specs.declared.server.Out.TheVariants as out
use Rattle.rpc_session.specs.declared.server.CallHead.{CallHead}
use Rattle.rpc_session.specs.Server.{ServerHistory, Received, answered as session_answer, response_sent}
use Rattle.server_roles.specs.declared.answers.Answer.{Answer}
use Rattle.server_roles.specs.declared.answers.Answer.TheVariants as answer
use Rattle.dts_capture.specs.declared.event.Event.{Event}
use Rattle.dts_capture.specs.declared.event.Event.TheVariants as event
use Rattle.dts_capture.specs.declared.action.Action.{Action}
use Rattle.dts_capture.specs.declared.action.NoteKind.{NoteKind}
use Rattle.dts_capture.specs.declared.action.NoteKind.TheVariants as note
use Rattle.dts_capture.specs.Grammar.{first_connection}
use Rattle.sync_rules.specs.History.{Part, Sync, Lane, lanes, event_part, event_osc, published, current_record}
use Rattle.sync_rules.specs.Live.{is_live}
use Rattle.sync_rules.specs.Rules.{noted, reading_of, closes}
use Rattle.sync_rules.proofs.Changes.{published-append}
use Rattle.node_rules.specs.History.{Finding, OctetsCame, AskCame, ConnectionOpened, NodeHistory, Began, Next, bare, gives, found_in}
use Rattle.node_rules.specs.Sessions.{arrived_from}
use Rattle.node_rules.specs.Connections.{connection_of, open_in}
use Rattle.node_rules.specs.Asking.{sends}
use Rattle.node_rules.specs.Taking.{notes}
use Rattle.node_rules.specs.Serving.{most_connections, unless_maybe, responds, gives_out, serves_answer, serves_over, serves, drops_rest, serves_arrived, serves_octets, serves_ask, reads, ask_comes, client_goes}
use Rattle.node_rules.specs.Rules.{followed_by, live_event, regressed_event}
use Rattle.node_rules.specs.Laws.{ServingLeavesTheClock}

-- the record of a history
abbrev pub record_of : NodeHistory → ClockRecord
record_of history = current_record (bare history)

-- actions that publish nothing
abbrev pub IsQuiet : List Action → Type 0
IsQuiet actions = (rec : ClockRecord) → published rec actions ≡ rec

quiet_sends : (e : Event) (peer : ℕ) (pdus : List Pdu) → IsQuiet (sends e peer pdus)
quiet_sends e peer [] rec = refl
quiet_sends e peer (p ∷ pdus) rec = quiet_sends e peer pdus rec

-- what publishes nothing leaves the record
pub leaves : (history : NodeHistory) (findings : List Finding) (given : List Action) → IsQuiet given → record_of (gives history findings given) ≡ record_of history
unfolding current_record
leaves (Began roster start) findings given quiet = refl
leaves (Next before e found actions) findings given quiet =
    published-append (current_record (bare before)) actions given ∙ quiet (published (current_record (bare before)) actions)

-- a fold of steps that leave it does
folds : {A : Type 0} (f : NodeHistory → A → NodeHistory) → ((history : NodeHistory) (x : A) → record_of (f history x) ≡ record_of history)
    → (history : NodeHistory) (xs : List A) → record_of (fold f history xs) ≡ record_of history
folds f each history [] = refl
folds f each history (x ∷ xs) = folds f each (f history x) xs ∙ each history x

unless : (maybe : Bool) (actions : List Action) → IsQuiet actions → IsQuiet (unless_maybe maybe actions)
unless true actions quiet rec = refl
unless false actions quiet rec = quiet rec

responding : (e : Event) (conn : ℕ) (session : ServerHistory) (call : CallHead) (history : NodeHistory) (a : Answer)
    → record_of (responds e conn session call history a) ≡ record_of history
responding e conn session call history (answer.Stub stub) =
    leaves history [] (unless_maybe call.maybe (sends e conn (response_sent session call.call_id call.context call.endian stub)))
    (unless call.maybe _ (quiet_sends e conn (response_sent session call.call_id call.context call.endian stub)))
responding e conn session call history (answer.Wrong refused) = leaves history _ _ (λ rec. unless call.maybe _ (λ other. refl) rec)

giving_out : (e : Event) (conn : ℕ) (session : ServerHistory) (history : NodeHistory) (o : Out)
    → record_of (gives_out e conn session history o) ≡ record_of history
giving_out e conn session history (out.Send p) = leaves history [] (sends e conn (p ∷ [])) (λ rec. refl)
giving_out e conn session history (out.Call call_id context opnum stub endian maybe) =
    responding e conn session (record { call_id = call_id; context = context; opnum = opnum; maybe = maybe; endian = endian }) history _

answering : (e : Event) (conn : ℕ) (session : ServerHistory) (history : NodeHistory) (given : Result (List Out) SessionFault)
    → record_of (serves_answer e conn session history given) ≡ record_of history
answering e conn session history (Ok outs) = folds (gives_out e conn session) (giving_out e conn session) history outs
answering e conn session history (Err fault) = leaves history _ _ (λ rec. refl)

serving_over : (e : Event) (conn : ℕ) (p : Pdu) (history : NodeHistory) (session : Option ServerHistory)
    → record_of (serves_over e conn p history session) ≡ record_of history
serving_over e conn p history None = refl
serving_over e conn p history (Some session) =
    answering e conn (Received session p (session_answer session p)) _ (session_answer session p) ∙ leaves history _ [] (λ rec. refl)

serving : (e : Event) (conn : ℕ) (history : NodeHistory) (p : Pdu) → record_of (serves e conn history p) ≡ record_of history
serving e conn history p = serving_over e conn p history (connection_of conn (found_in history))

either : (b : Bool) (x y : NodeHistory) (rec : ClockRecord) → record_of x ≡ rec → record_of y ≡ rec → record_of (if b then x else y) ≡ rec
either true x y rec first second = first
either false x y rec first second = second

dropping_rest : (e : Event) (conn : ℕ) (history : NodeHistory) (left : Result (List ℕ) Refused) → record_of (drops_rest e conn history left) ≡ record_of history
dropping_rest e conn history (Ok rest) = refl
dropping_rest e conn history (Err refused) = either (is_some (connection_of conn (found_in history))) _ _ _ (leaves history _ _ (λ rec. refl)) refl

serving_arrived : (e : Event) (conn : ℕ) (history : NodeHistory) (arrived : Pieces) → record_of (serves_arrived e conn history arrived) ≡ record_of history
serving_arrived e conn history arrived =
    dropping_rest e conn (fold (serves e conn) history arrived.pdus) arrived.left ∙ folds (serves e conn) (serving e conn) history arrived.pdus

serving_octets : (e : Event) (conn : ℕ) (octets : List ℕ) (history : NodeHistory) → record_of (serves_octets e conn octets history) ≡ record_of history
serving_octets e conn octets history = let heard = gives history (OctetsCame conn octets ∷ []) [] in
    serving_arrived e conn heard (arrived_from conn (found_in heard)) ∙ leaves history (OctetsCame conn octets ∷ []) [] (λ rec. refl)

serving_ask : (e : Event) (conn : ℕ) (octets : List ℕ) (history : NodeHistory) → record_of (serves_ask e conn octets history) ≡ record_of history
serving_ask e conn octets history =
    let opened = gives history (ConnectionOpened conn ∷ []) [] in
    either (is_some (connection_of conn (found_in history))) _ _ _ (serving_octets e conn octets history)
    (either (nat_le most_connections (length (open_in (conn % lanes) (found_in history)))) _ _ _ (leaves history [] _ (λ rec. refl))
    (serving_octets e conn octets opened ∙ leaves history (ConnectionOpened conn ∷ []) [] (λ rec. refl)))

pub noting : (e : Event) (history : NodeHistory) (kind : NoteKind) → record_of (notes e history kind) ≡ record_of history
noting e history kind = leaves history [] (noted e kind ∷ []) (λ rec. refl)

reading : (e : Event) (history : NodeHistory) → record_of (reads e history) ≡ record_of history
reading e history = noting e history (reading_of (bare history) (event_osc e))

asking : (e : Event) (conn : ℕ) (octets : List ℕ) (history : NodeHistory) → record_of (ask_comes e conn octets history) ≡ record_of history
asking e conn octets history =
    serving_ask e conn octets (gives (reads e history) (AskCame conn ∷ []) [])
    ∙ leaves (reads e history) (AskCame conn ∷ []) [] (λ rec. refl)
    ∙ reading e history

going : (e : Event) (conn : ℕ) (history : NodeHistory) (kind : NoteKind) → record_of (client_goes e conn history kind) ≡ record_of history
going e conn history kind = leaves (reads e history) _ _ (λ rec. refl) ∙ reading e history

-- ---- an event of a lane
abbrev IsSync : Part → Type 0
IsSync Sync = Unit {0}
IsSync (Lane k) = ⊥

never : (lane : ℕ) → Sync ≡ Lane lane → ⊥
never lane is = subst IsSync is tt

-- what a peer of a lane does is what a client does
of_client : (is_server : Bool) (k lane : ℕ) → (if is_server then Sync else Lane k) ≡ Lane lane → (x y : NodeHistory) (rec : ClockRecord)
    → record_of x ≡ rec → record_of (if not is_server then x else y) ≡ rec
of_client true k lane is x y rec same = absurd (never lane is)
of_client false k lane is x y rec same = same

live_lane : (before : NodeHistory) (e : Event) (lane : ℕ) → event_part e ≡ Lane lane → record_of (live_event before e) ≡ record_of before
unfolding current_record
live_lane before (event.Read osc) lane is = reading (event.Read osc) (Next before (event.Read osc) [] [])
live_lane before (event.Ask osc conn octets) lane is = asking (event.Ask osc conn octets) conn octets (Next before (event.Ask osc conn octets) [] [])
live_lane before (event.Stream osc peer octets) lane is =
    of_client (nat_lt peer first_connection) (peer % lanes) lane is _ _ _ (noting (event.Stream osc peer octets) (Next before (event.Stream osc peer octets) [] []) note.Stray)
live_lane before (event.Gram osc peer octets) lane is =
    of_client (nat_lt peer first_connection) (peer % lanes) lane is _ _ _ (noting (event.Gram osc peer octets) (Next before (event.Gram osc peer octets) [] []) note.Stray)
live_lane before (event.Lost osc peer) lane is =
    of_client (nat_lt peer first_connection) (peer % lanes) lane is _ _ _ (going (event.Lost osc peer) peer (Next before (event.Lost osc peer) [] []) note.Lost)
live_lane before (event.Unsent osc peer) lane is =
    of_client (nat_lt peer first_connection) (peer % lanes) lane is _ _ _ (going (event.Unsent osc peer) peer (Next before (event.Unsent osc peer) [] []) note.Unsent)
live_lane before (event.Tick osc word) lane is = absurd (never lane is)
live_lane before (event.Query osc tag) lane is = absurd (never lane is)
live_lane before (event.Source osc tag i) lane is = absurd (never lane is)
live_lane before (event.Adopt osc required) lane is = absurd (never lane is)

-- a regressed event of any part
closing : (e : Event) → IsQuiet (closes e)
closing (event.Stream osc peer octets) rec = refl
closing (event.Ask osc conn octets) rec = refl
closing (event.Tick osc word) rec = refl
closing (event.Gram osc peer octets) rec = refl
closing (event.Lost osc peer) rec = refl
closing (event.Unsent osc peer) rec = refl
closing (event.Read osc) rec = refl
closing (event.Query osc tag) rec = refl
closing (event.Source osc tag i) rec = refl
closing (event.Adopt osc required) rec = refl

pub regressing : (before : NodeHistory) (e : Event) → record_of (regressed_event before e) ≡ record_of before
unfolding current_record
regressing before e = closing e (current_record (bare before))

pub serving_leaves_the_clock : ServingLeavesTheClock
unfolding followed_by
serving_leaves_the_clock before e lane is =
    either (is_live (bare before) e) (live_event before e) (regressed_event before e) (record_of before)
    (live_lane before e lane is) (regressing before e)
