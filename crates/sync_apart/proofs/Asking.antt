-- Sources are asked alike.
use Rattle.std.proofs.Common.{◌≡◌, ℕ, ◌+◌, List, [], ◌∷◌, Option, Some, None, ap, ◌∙◌, subst}
use Rattle.std.specs.Prelude.{nat_lt, if◌then◌else◌, length, fold}
use Rattle.rpc_session.specs.declared.fault.RequestFault.{RequestFault}
use Rattle.rpc_session.specs.Client.{ClientHistory, client_state, request_refused, request_sent, bind_of}
use Rattle.time_provider.specs.Past.{Waiting, query_of}
use Rattle.roster.specs.RosterData.{RosterData}
use Rattle.server_roles.specs.declared.answers.TheConstants.{GET_TIME}
use Rattle.dts_capture.specs.declared.event.Event.{Event}
use Rattle.dts_capture.specs.declared.action.NoteKind.TheVariants as note
use Rattle.sync_rules.specs.History.{event_osc}
use Rattle.sync_rules.specs.Rules.{noted}
use Rattle.node_rules.specs.History.{RoundOpened, SessionBegan, RequestSent, QueryAsked, NodeHistory, roster_of, gives, Found, found_in}
use Rattle.node_rules.specs.Sessions.{calls_to, session_of}
use Rattle.node_rules.specs.Rounds.{next_number}
use Rattle.node_rules.specs.Providers.{provider_of}
use Rattle.node_rules.specs.Asking.{sends, time_request, spent, asked_unless, asks_over, greatest_call, begins_session, is_bound, asks_server, asks_ntp, kind_of, is_ntp, asks_source, opens_round}
use Rattle.sync_apart.proofs.Lookups.{IsOfServer, session_plain, calls_plain, query_plain, next_plain}
use Rattle.sync_apart.proofs.Steps.{InStep, same_roster, looks, giving_same, giving_from, either_way}

pub same_session : {e : Event} {h k : NodeHistory} → InStep e h k → (peer : ℕ) → IsOfServer peer
    → session_of peer (found_in h) ≡ session_of peer (found_in k)
same_session same peer server = looks (session_of peer) (session_plain peer server) same

spending : {e : Event} {h k : NodeHistory} → InStep e h k → (peer : ℕ) → InStep e (spent e peer h) (spent e peer k)
spending {e} {h} {k} same peer = giving_same e h k _ _ same

asking_unless : {e : Event} {h k : NodeHistory} → InStep e h k → (peer : ℕ) (session : ClientHistory) (refused : Option RequestFault)
    → InStep e (asked_unless refused e peer session h) (asked_unless refused e peer session k)
asking_unless same peer session (Some refused) = spending same peer
asking_unless {e} {h} {k} same peer session None =
    giving_from e h k
    (λ (r : RosterData). RequestSent peer GET_TIME (time_request r) ∷ QueryAsked peer ∷ [])
    (λ (r : RosterData). sends e peer (request_sent session GET_TIME (time_request r)))
    (roster_of h) (roster_of k) (same_roster same) same

pub asking_over : {e : Event} {h k : NodeHistory} → InStep e h k → (peer : ℕ) (session : ClientHistory)
    → InStep e (asks_over session e peer h) (asks_over session e peer k)
asking_over {e} {h} {k} same peer session =
    subst (λ (r : RosterData). InStep e (asks_over session e peer h)
    (asked_unless (request_refused session (time_request r)) e peer session k)) (same_roster same)
    (asking_unless same peer session (request_refused session (time_request (roster_of h))))

beginning_session : {e : Event} {h k : NodeHistory} → InStep e h k → (peer : ℕ)
    → InStep e (begins_session e peer h) (begins_session e peer k)
beginning_session {e} {h} {k} same peer =
    subst (λ n. InStep e (begins_session e peer h)
    (if nat_lt greatest_call (n + 1) then spent e peer k
    else gives k (SessionBegan peer (n + 1) ∷ []) (sends e peer (bind_of (n + 1) ∷ []))))
    (looks (calls_to peer) (calls_plain peer) same)
    (either_way (nat_lt greatest_call (calls_to peer (found_in h) + 1)) (spending same peer) (giving_same e h k _ _ same))

asking_server : {e : Event} {h k : NodeHistory} → InStep e h k → (peer : ℕ) (session : Option ClientHistory)
    → InStep e (asks_server e peer h session) (asks_server e peer k session)
asking_server same peer None = beginning_session same peer
asking_server same peer (Some session) =
    either_way (is_bound (client_state session)) (asking_over same peer session) (beginning_session same peer)

asking_ntp : {e : Event} {h k : NodeHistory} → InStep e h k → (peer : ℕ) (query : Option Waiting)
    → InStep e (asks_ntp e peer h query) (asks_ntp e peer k query)
asking_ntp same peer None = same
asking_ntp {e} {h} {k} same peer (Some query) = giving_same e h k _ _ same

pub same_query : {e : Event} {h k : NodeHistory} → InStep e h k → (peer : ℕ) → IsOfServer peer
    → query_of (provider_of (roster_of h) (found_in h)) peer ≡ query_of (provider_of (roster_of k) (found_in k)) peer
same_query {e} {h} {k} same peer server =
    looks (λ (found : List Found). query_of (provider_of (roster_of h) found) peer) (query_plain (roster_of h) peer server) same
    ∙ ap (λ (r : RosterData). query_of (provider_of r (found_in k)) peer) (same_roster same)

asking_source : {e : Event} {h k : NodeHistory} → InStep e h k → (peer : ℕ) → IsOfServer peer
    → InStep e (asks_source e h peer) (asks_source e k peer)
asking_source {e} {h} {k} same peer server =
    subst (λ (r : RosterData). InStep e (asks_source e h peer)
    (if is_ntp (kind_of r peer) then asks_ntp e peer k (query_of (provider_of (roster_of k) (found_in k)) peer)
    else asks_server e peer k (session_of peer (found_in k)))) (same_roster same)
    (either_way (is_ntp (kind_of (roster_of h) peer))
    (subst (λ query. InStep e (asks_ntp e peer h (query_of (provider_of (roster_of h) (found_in h)) peer)) (asks_ntp e peer k query))
    (same_query same peer server)
    (asking_ntp same peer (query_of (provider_of (roster_of h) (found_in h)) peer)))
    (subst (λ session. InStep e (asks_server e peer h (session_of peer (found_in h))) (asks_server e peer k session))
    (same_session same peer server)
    (asking_server same peer (session_of peer (found_in h)))))

-- ---- all sources of a round
abbrev pub AreOfServers : List ℕ → Type 0
AreOfServers [] = Unit {0}
AreOfServers (peer ∷ peers) = IsOfServer peer × AreOfServers peers

asking_sources : {e : Event} (h k : NodeHistory) → InStep e h k → (sources : List ℕ) → AreOfServers sources
    → InStep e (fold (asks_source e) h sources) (fold (asks_source e) k sources)
asking_sources h k same [] are = same
asking_sources {e} h k same (peer ∷ peers) are =
    asking_sources (asks_source e h peer) (asks_source e k peer) (asking_source same peer are.0) peers are.1

-- a round of this number and deadline opens
abbrev opened_as : Event → ℕ → List ℕ → NodeHistory → ℕ → ℕ → NodeHistory
opened_as e word sources history number deadline =
    gives history (RoundOpened number deadline sources word ∷ []) (noted e (note.Round number (length sources)) ∷ [])

pub opening : {e : Event} {h k : NodeHistory} → InStep e h k → (word : ℕ) (sources : List ℕ) → AreOfServers sources
    → InStep e (opens_round e word sources h) (opens_round e word sources k)
opening {e} {h} {k} same word sources are =
    asking_sources (opened_as e word sources h (next_number (found_in h)) (event_osc e + (roster_of h).settings.timeout))
    (opened_as e word sources k (next_number (found_in k)) (event_osc e + (roster_of k).settings.timeout))
    (subst (λ deadline. InStep e (opened_as e word sources h (next_number (found_in h)) (event_osc e + (roster_of h).settings.timeout))
    (opened_as e word sources k (next_number (found_in k)) deadline))
    (ap (λ (r : RosterData). event_osc e + r.settings.timeout) (same_roster same))
    (subst (λ number. InStep e (opened_as e word sources h (next_number (found_in h)) (event_osc e + (roster_of h).settings.timeout))
    (opened_as e word sources k number (event_osc e + (roster_of h).settings.timeout)))
    (looks next_number next_plain same) (giving_same e h k _ _ same)))
    sources are
