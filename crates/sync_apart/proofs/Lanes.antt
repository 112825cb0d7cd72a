-- An event of a lane leaves all that the sync part knows, and has no position of it.
use Rattle.std.proofs.Common.{◌≡◌, ℕ, ◌≤◌, ◌%◌, Bool, true, false, not, List, [], ◌∷◌, ◌++◌, Option, Some, None, Result, Ok, Err, refl, sym, ap, ◌∙◌, subst, arith}
use Rattle.std.specs.Prelude.{◌&&◌, nat_le, nat_lt, if◌then◌else◌, is_some, fold, length, map}
use Rattle.std.proofs.lemmas.Bool.Decides.{nat_tests}
use Rattle.dts_base.specs.declared.wire.Refused.{Refused}
use Rattle.pdu_fields.specs.declared.pdu.Pdu.{Pdu}
use Rattle.rpc_session.specs.declared.fault.SessionFault.{SessionFault}
use Rattle.rpc_session.specs.declared.server.Out.{Out}
use Rattle.rpc_session.specs.declared.server.Out.TheVariants as out
use Rattle.rpc_session.specs.declared.server.CallHead.{CallHead}
use Rattle.rpc_session.specs.Server.{ServerHistory, Received, answered as session_answer, response_sent}
use Rattle.server_roles.specs.declared.answers.Answer.{Answer}
use Rattle.server_roles.specs.declared.answers.Answer.TheVariants as answer
use Rattle.dts_capture.specs.declared.event.Event.{Event}
use Rattle.dts_capture.specs.declared.event.Event.TheVariants as event
use Rattle.dts_capture.specs.declared.action.Action.{Action}
use Rattle.dts_capture.specs.declared.action.NoteKind.{NoteKind}
use Rattle.dts_capture.specs.declared.action.NoteKind.TheVariants as note
use Rattle.dts_capture.specs.Grammar.{first_connection}
use Rattle.sync_rules.specs.History.{Part, Sync, Lane, lanes, event_part, event_osc, current_record}
use Rattle.sync_rules.specs.Live.{live_osc, same_part, is_live}
use Rattle.sync_rules.specs.Rounds.{Moment, Query, Answer as RoundAnswer, queries_of, answers_of, moment_of, asked_after, answered_after}
use Rattle.sync_rules.specs.Rules.{noted, reading_of, closes, regressed_actions}
use Rattle.node_rules.specs.History.{Finding, OctetsCame, PeerEnded, AskCame, ConnectionOpened, PduServed, NodeHistory, Began, Next, bare, gives, Found, found_in}
use Rattle.node_rules.specs.Sessions.{arrived_from}
use Rattle.node_rules.specs.Connections.{connection_of, open_in}
use Rattle.node_rules.specs.Asking.{sends}
use Rattle.node_rules.specs.Taking.{notes}
use Rattle.node_rules.specs.Serving.{most_connections, unless_maybe, responds, gives_out, drops, fault_note, serves_answer, serves_over, serves, drops_rest, serves_octets, serves_ask, reads, ask_comes, client_goes}
use Rattle.node_rules.specs.Rules.{is_client, live_event, ended_by, ends_peer, regressed_event, actions_at, followed_by}
use Rattle.node_rules.proofs.Serving.{record_of, IsQuiet}
use Rattle.sync_apart.specs.Apart.{is_sync_part, is_sync, sync_given, IsBelowConnections, IsOverConnection}
use Rattle.sync_apart.proofs.Places.{given_next}
use Rattle.sync_apart.proofs.Plain.{is_of_connection, plain, AreOfConnections, connections_stay_out}
use Rattle.sync_apart.proofs.Lookups.{plain_answer}
use Rattle.sync_apart.proofs.Direct.{plain_query}
use Rattle.sync_apart.proofs.Steps.{Known, known_of, AreAlike, known_more}

-- findings of connections, and actions that publish nothing, leave what the sync part knows
leaves : (history : NodeHistory) (findings : List Finding) (given : List Action) → AreOfConnections findings → IsQuiet given
    → known_of (gives history findings given) ≡ known_of history
leaves (Began roster start) findings given are quiet = refl
leaves (Next before e found actions) findings given are quiet =
    let history : NodeHistory = Next before e found actions in
    known_more before e found findings actions given
    ∙ (λ i. record (known_of history) {
      clock = quiet (record_of history) i;
      found = connections_stay_out (event_osc e) findings (plain (found_in history)) are i;
    })

quiet_sends : (e : Event) (peer : ℕ) (pdus : List Pdu) → IsQuiet (sends e peer pdus)
quiet_sends e peer [] rec = refl
quiet_sends e peer (p ∷ pdus) rec = quiet_sends e peer pdus rec

unless : (maybe : Bool) (actions : List Action) → IsQuiet actions → IsQuiet (unless_maybe maybe actions)
unless true actions quiet rec = refl
unless false actions quiet rec = quiet rec

-- actions alone
gives_quietly : (history : NodeHistory) (given : List Action) → IsQuiet given → known_of (gives history [] given) ≡ known_of history
gives_quietly history given quiet = leaves history [] given tt quiet

-- a finding alone
finds : (history : NodeHistory) (finding : Finding) → is_of_connection finding ≡ true
    → known_of (gives history (finding ∷ []) []) ≡ known_of history
finds history finding is = leaves history (finding ∷ []) [] (is, tt) (λ rec. refl)

folds : {A : Type 0} (f : NodeHistory → A → NodeHistory) → ((history : NodeHistory) (x : A) → known_of (f history x) ≡ known_of history)
    → (history : NodeHistory) (xs : List A) → known_of (fold f history xs) ≡ known_of history
folds f each history [] = refl
folds f each history (x ∷ xs) = folds f each (f history x) xs ∙ each history x

either : (b : Bool) (x y : NodeHistory) (known : Known) → known_of x ≡ known → known_of y ≡ known → known_of (if b then x else y) ≡ known
either true x y known first second = first
either false x y known first second = second

-- ---- a call
responding : (e : Event) (conn : ℕ) → is_client conn ≡ true
    → (session : ServerHistory) (call : CallHead) (history : NodeHistory) (a : Answer)
    → known_of (responds e conn session call history a) ≡ known_of history
responding e conn client session call history (answer.Stub stub) =
    gives_quietly history (unless_maybe call.maybe (sends e conn (response_sent session call.call_id call.context call.endian stub)))
    (unless call.maybe _ (quiet_sends e conn (response_sent session call.call_id call.context call.endian stub)))
responding e conn client session call history (answer.Wrong refused) =
    leaves history _ _ (client, tt) (λ rec. unless call.maybe _ (λ other. refl) rec)

giving_out : (e : Event) (conn : ℕ) → is_client conn ≡ true → (session : ServerHistory) (history : NodeHistory) (o : Out)
    → known_of (gives_out e conn session history o) ≡ known_of history
giving_out e conn client session history (out.Send p) = gives_quietly history (sends e conn (p ∷ [])) (λ rec. refl)
giving_out e conn client session history (out.Call call_id context opnum stub endian maybe) =
    responding e conn client session
    (record { call_id = call_id; context = context; opnum = opnum; maybe = maybe; endian = endian }) history _

-- ---- a PDU
dropping : (e : Event) (conn : ℕ) → is_client conn ≡ true → (history : NodeHistory) (kind : NoteKind)
    → known_of (drops e conn history kind) ≡ known_of history
dropping e conn client history kind = leaves history _ _ (client, (client, tt)) (λ rec. refl)

answering : (e : Event) (conn : ℕ) → is_client conn ≡ true → (session : ServerHistory) (history : NodeHistory)
    → (given : Result (List Out) SessionFault) → known_of (serves_answer e conn session history given) ≡ known_of history
answering e conn client session history (Ok outs) = folds (gives_out e conn session) (giving_out e conn client session) history outs
answering e conn client session history (Err fault) = dropping e conn client history (fault_note fault)

serving_over : (e : Event) (conn : ℕ) → is_client conn ≡ true → (p : Pdu) (history : NodeHistory) (session : Option ServerHistory)
    → known_of (serves_over e conn p history session) ≡ known_of history
serving_over e conn client p history None = refl
serving_over e conn client p history (Some session) =
    answering e conn client (Received session p (session_answer session p)) _ (session_answer session p)
    ∙ finds history (PduServed conn p (session_answer session p)) client

serving : (e : Event) (conn : ℕ) → is_client conn ≡ true → (history : NodeHistory) (p : Pdu)
    → known_of (serves e conn history p) ≡ known_of history
serving e conn client history p = serving_over e conn client p history (connection_of conn (found_in history))

dropping_rest : (e : Event) (conn : ℕ) → is_client conn ≡ true → (history : NodeHistory) (left : Result (List ℕ) Refused)
    → known_of (drops_rest e conn history left) ≡ known_of history
dropping_rest e conn client history (Ok rest) = refl
dropping_rest e conn client history (Err refused) =
    either (is_some (connection_of conn (found_in history))) _ _ _ (dropping e conn client history (note.Refused refused)) refl

serving_octets : (e : Event) (conn : ℕ) → is_client conn ≡ true → (octets : List ℕ) (history : NodeHistory)
    → known_of (serves_octets e conn octets history) ≡ known_of history
serving_octets e conn client octets history =
    let heard : NodeHistory = gives history (OctetsCame conn octets ∷ []) [] in
    let arrived = arrived_from conn (found_in heard) in
    dropping_rest e conn client (fold (serves e conn) heard arrived.pdus) arrived.left
    ∙ folds (serves e conn) (serving e conn client) heard arrived.pdus
    ∙ finds history (OctetsCame conn octets) client

-- ---- an ask
serving_ask : (e : Event) (conn : ℕ) → is_client conn ≡ true → (octets : List ℕ) (history : NodeHistory)
    → known_of (serves_ask e conn octets history) ≡ known_of history
serving_ask e conn client octets history =
    let opened : NodeHistory = gives history (ConnectionOpened conn ∷ []) [] in
    either (is_some (connection_of conn (found_in history))) _ _ _ (serving_octets e conn client octets history)
    (either (nat_le most_connections (length (open_in (conn % lanes) (found_in history)))) _ _ _ (gives_quietly history _ (λ rec. refl))
    (serving_octets e conn client octets opened ∙ finds history (ConnectionOpened conn) client))

noting : (e : Event) (history : NodeHistory) (kind : NoteKind) → known_of (notes e history kind) ≡ known_of history
noting e history kind = gives_quietly history (noted e kind ∷ []) (λ rec. refl)

reading : (e : Event) (history : NodeHistory) → known_of (reads e history) ≡ known_of history
reading e history = noting e history (reading_of (bare history) (event_osc e))

asking : (e : Event) (conn : ℕ) → is_client conn ≡ true → (octets : List ℕ) (history : NodeHistory)
    → known_of (ask_comes e conn octets history) ≡ known_of history
asking e conn client octets history =
    serving_ask e conn client octets (gives (reads e history) (AskCame conn ∷ []) [])
    ∙ finds (reads e history) (AskCame conn) client
    ∙ reading e history

going : (e : Event) (conn : ℕ) → is_client conn ≡ true → (history : NodeHistory) (kind : NoteKind)
    → known_of (client_goes e conn history kind) ≡ known_of history
going e conn client history kind = leaves (reads e history) _ _ (client, tt) (λ rec. refl) ∙ reading e history

-- ---- an event of a lane
-- its peer is a client
client_of : (peer lane : ℕ) → is_sync_part (if nat_lt peer first_connection then Sync else Lane lane) ≡ false → is_client peer ≡ true
client_of peer lane is = of_part (nat_lt peer first_connection) is
  where
    of_part : (b : Bool) → is_sync_part (if b then Sync else Lane lane) ≡ false → not b ≡ true
    of_part true is = cc
    of_part false is = refl

not_below : (m n : ℕ) → n ≤ m → nat_lt m n ≡ false
not_below m n h = grind (arith, nat_tests, h)

over_connection : (conn : ℕ) → first_connection ≤ conn → is_client conn ≡ true
over_connection conn is = ap not (not_below conn first_connection is)

of_client : (peer : ℕ) → is_client peer ≡ true → (x y : NodeHistory) (known : Known) → known_of x ≡ known
    → known_of (if is_client peer then x else y) ≡ known
of_client peer client x y known left = subst (λ (c : Bool). known_of (if c then x else y) ≡ known) (sym client) left

-- an event begins with nothing found or given
abbrev begun : NodeHistory → Event → NodeHistory
begun before e = Next before e [] []

live_leaves : (before : NodeHistory) (e : Event) → is_sync e ≡ false → IsOverConnection e
    → known_of (live_event before e) ≡ known_of (begun before e)
live_leaves before (event.Read osc) lane over = reading (event.Read osc) (begun before (event.Read osc))
live_leaves before (event.Ask osc conn octets) lane over =
    asking (event.Ask osc conn octets) conn (over_connection conn over) octets (begun before (event.Ask osc conn octets))
live_leaves before (event.Stream osc peer octets) lane over =
    let e : Event = event.Stream osc peer octets in
    of_client peer (client_of peer (peer % lanes) lane) _ _ _ (noting e (begun before e) note.Stray)
live_leaves before (event.Gram osc peer octets) lane over =
    let e : Event = event.Gram osc peer octets in
    of_client peer (client_of peer (peer % lanes) lane) _ _ _ (noting e (begun before e) note.Stray)
live_leaves before (event.Lost osc peer) lane over =
    let client = client_of peer (peer % lanes) lane in
    of_client peer client _ _ _ (going (event.Lost osc peer) peer client (begun before (event.Lost osc peer)) note.Lost)
live_leaves before (event.Unsent osc peer) lane over =
    let client = client_of peer (peer % lanes) lane in
    of_client peer client _ _ _ (going (event.Unsent osc peer) peer client (begun before (event.Unsent osc peer)) note.Unsent)
live_leaves before (event.Tick osc word) lane over = absurd (cc)
live_leaves before (event.Query osc tag) lane over = absurd (cc)
live_leaves before (event.Source osc tag i) lane over = absurd (cc)
live_leaves before (event.Adopt osc required) lane over = absurd (cc)

-- ---- a regressed one
closing : (e : Event) → IsQuiet (closes e)
closing (event.Stream osc peer octets) rec = refl
closing (event.Ask osc conn octets) rec = refl
closing _ rec = refl

abbrev EndsClient : Option ℕ → Type 0
EndsClient None = Unit {0}
EndsClient (Some peer) = is_client peer ≡ true

ends_client : (e : Event) → is_sync e ≡ false → IsOverConnection e → EndsClient (ended_by e)
ends_client (event.Stream osc peer octets) lane over = client_of peer (peer % lanes) lane
ends_client (event.Lost osc peer) lane over = client_of peer (peer % lanes) lane
ends_client (event.Unsent osc peer) lane over = client_of peer (peer % lanes) lane
ends_client (event.Ask osc conn octets) lane over = over_connection conn over
ends_client _ lane over = tt

ended_of_connections : (found : List Found) (ended : Option ℕ) → EndsClient ended → AreOfConnections (ends_peer found ended)
ended_of_connections found None client = tt
ended_of_connections found (Some peer) client = where_ended _
  where
    where_ended : (b : Bool) → AreOfConnections (if b then PeerEnded peer ∷ [] else [])
    where_ended true = (client, tt)
    where_ended false = tt

regressed_leaves : (before : NodeHistory) (e : Event) → is_sync e ≡ false → IsOverConnection e
    → known_of (regressed_event before e) ≡ known_of (begun before e)
regressed_leaves before e lane over =
    leaves (begun before e) (ends_peer (found_in before) (ended_by e)) (regressed_actions (bare before) e)
    (ended_of_connections (found_in before) (ended_by e) (ends_client e lane over)) (closing e)

-- ---- any event of a lane
asks_nothing : (e : Event) → is_sync e ≡ false → (queries : List Query) (now : Moment) → asked_after queries now e ≡ queries
asks_nothing (event.Query osc tag) lane queries now = cc
asks_nothing (event.Adopt osc required) lane queries now = cc
asks_nothing _ lane queries now = refl

answers_nothing : (e : Event) → is_sync e ≡ false → (queries : List Query) (answers : List RoundAnswer) (now : Moment)
    → answered_after queries answers now e ≡ answers
answers_nothing (event.Source osc tag i) lane queries answers now = cc
answers_nothing (event.Adopt osc required) lane queries answers now = cc
answers_nothing _ lane queries answers now = refl

one_of : {A : Type 0} (b : Bool) (x y : A) → x ≡ y → (if b then x else y) ≡ y
one_of true x y same = same
one_of false x y same = refl

no_sync : (p : Part) → is_sync_part p ≡ false → same_part Sync p ≡ false
no_sync Sync is = cc
no_sync (Lane k) is = refl

-- its beginning is nothing to the sync part
lane_begins : (before : NodeHistory) (e : Event) → is_sync e ≡ false → known_of (begun before e) ≡ known_of before
unfolding current_record live_osc queries_of answers_of
lane_begins before e lane =
    let last = live_osc Sync (bare before) in
    let now = moment_of (bare before) e in
    let queries = queries_of (bare before) in
    let answers = answers_of (bare before) in
    let live = ap (λ (b : Bool). if b && nat_le last (event_osc e) then event_osc e else last) (no_sync (event_part e) lane) in
    let asked = ap (map plain_query) (one_of (is_live (bare before) e) _ _ (asks_nothing e lane queries now)) in
    let answered = ap (map plain_answer) (one_of (is_live (bare before) e) _ _ (answers_nothing e lane queries answers now)) in
    λ i. record (known_of before) { live = live i; queries = asked i; answers = answered i }

lane_leaves : (before : NodeHistory) (e : Event) → is_sync e ≡ false → IsOverConnection e
    → known_of (followed_by before e) ≡ known_of before
unfolding followed_by
lane_leaves before e lane over =
    either (is_live (bare before) e) _ _ _ (live_leaves before e lane over) (regressed_leaves before e lane over)
    ∙ lane_begins before e lane

pub serving_alike : (e : Event) (h k : NodeHistory) → is_sync e ≡ false → IsOverConnection e → AreAlike h k
    → AreAlike (followed_by h e) k
serving_alike e h k lane over same =
    let known = lane_leaves h e lane over in
    record {
      known = known ∙ same.known;
      given = given_next h e
          ∙ ap (λ (b : Bool). if b then sync_given h ++ (e, actions_at (followed_by h e)) ∷ [] else sync_given h) lane
          ∙ same.given;
      below = subst IsBelowConnections (sym (ap (λ (s : Known). s.roster) known)) same.below;
    }
