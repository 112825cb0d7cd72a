-- Any event of the sync part is followed alike.
use Rattle.std.proofs.Common.{◌≡◌, ℕ, ◌<◌, ◌-◌, ◌%◌, inl, inr, Bool, true, false, not, List, [], ◌∷◌, length, Option, Some, None, refl, sym, ap, ap₂, ◌∙◌, subst, arith}
use Rattle.std.specs.Prelude.{◌&&◌, ◌||◌, nat_lt, if◌then◌else◌, is_some, is_none, option_map, unwrap_or, map}
use Rattle.std.specs.List.{Contains, slice_get, list_any}
use Rattle.std.proofs.lemmas.List.{length-map}
use Rattle.std.proofs.lemmas.Option.{slice_get_within}
use Rattle.std.proofs.lemmas.Bool.Decides.{nat_tests}
use Rattle.slew_clock.specs.declared.rates.Rates.{Rates}
use Rattle.slew_clock.specs.declared.record.ClockRecord.{ClockRecord}
use Rattle.slew_clock.specs.Change.{renewed_record}
use Rattle.slew_clock.specs.Reading.{inaccuracy_of}
use Rattle.roster.specs.declared.entry.Entry.{Entry}
use Rattle.roster.specs.RosterData.{RosterData}
use Rattle.roster.specs.Rates.{rates_of as roster_rates}
use Rattle.server_roles.specs.Sources.{sources}
use Rattle.server_roles.proofs.Servers.{are_servers}
use Rattle.server_roles.proofs.Positions.{in_front, behind}
use Rattle.dts_capture.specs.declared.event.Event.{Event}
use Rattle.dts_capture.specs.declared.event.Event.TheVariants as event
use Rattle.dts_capture.specs.declared.action.Action.{Action}
use Rattle.dts_capture.specs.declared.action.NoteKind.TheVariants as note
use Rattle.dts_capture.specs.Grammar.{first_connection}
use Rattle.sync_rules.specs.History.{Sync, Lane, lanes, event_osc, current_record}
use Rattle.sync_rules.specs.Live.{live_osc, floor_at, floor_of, is_live}
use Rattle.sync_rules.specs.Rounds.{is_asked, is_full, queries_of, answers_of, open_query, outcome}
use Rattle.sync_rules.specs.Rules.{rates_of, noted, publication, outcome_actions, live_actions, closes, regressed_actions}
use Rattle.node_rules.specs.History.{PeerEnded, NodeHistory, Next, roster_of, bare, gives, found_in}
use Rattle.node_rules.specs.Sessions.{session_of}
use Rattle.node_rules.specs.Connections.{connection_of}
use Rattle.node_rules.specs.Rounds.{Round, last_round, answers_in, next_number, next_sources, is_due_after, is_long_enough}
use Rattle.node_rules.specs.Asking.{opens_round}
use Rattle.node_rules.specs.Ending.{evaluates}
use Rattle.node_rules.specs.Taking.{is_refusal}
use Rattle.node_rules.specs.Rules.{may_open, opens_if_due, tick_comes, is_client, live_event, ended_by, ends_peer, regressed_event, followed_by}
use Rattle.node_rules.proofs.Serving.{record_of}
use Rattle.sync_apart.specs.Apart.{is_sync_part, is_sync, IsBelowConnections}
use Rattle.sync_apart.proofs.Plain.{in_front as in_front_of}
use Rattle.sync_apart.proofs.Lookups.{IsOfServer, plain_answer, last_plain, next_plain, session_plain, connection_plain}
use Rattle.sync_apart.proofs.Direct.{plain_query, asked_so, full_so, open_so, some_so, adopting_so}
use Rattle.sync_apart.proofs.Steps.{Known, AreAlike, InStep, same_roster, same_clock, same_rates, rates_are, looks, giving, giving_same, either_way, sync_part, same_live, beginning, ending}
use Rattle.sync_apart.proofs.Ending.{same_round, same_answers, evaluating}
use Rattle.sync_apart.proofs.Asking.{AreOfServers, opening}
use Rattle.sync_apart.proofs.Taking.{streaming, packing, parting}

-- ---- the sources of a round are servers of the roster
below : (m n : ℕ) → m < n → nat_lt m n ≡ true
below m n h = grind (arith, nat_tests, h)

is_of_server : (r : RosterData) → IsBelowConnections r → (peer : ℕ) (entry : Entry) → slice_get r.entries peer ≡ Some entry
    → IsOfServer peer
is_of_server r few peer entry at =
    let within : peer < length r.entries = slice_get_within r.entries peer entry at in
    ap not (below peer first_connection (omega (arith, within, few)))

each_of_servers : (peers : List ℕ) → ((peer : ℕ) → Contains peers peer → IsOfServer peer) → AreOfServers peers
each_of_servers [] each = tt
each_of_servers (peer ∷ peers) each =
    (each peer (in_front peer peers), each_of_servers peers (λ other is. each other (behind peer peers other is)))

sources_of_servers : (r : RosterData) → IsBelowConnections r → (round last : ℕ) → AreOfServers (sources r round last)
sources_of_servers r few round last =
    each_of_servers (sources r round last) (λ peer is.
    elim (are_servers r round last peer is) [
      | inl server ↦ is_of_server r few peer server.entry server.at
      | inr other ↦ is_of_server r few peer other.1.entry other.1.at
    ])

-- ---- a tick
sources_alike : {e : Event} {h k : NodeHistory} → InStep e h k
    → next_sources (roster_of h) (found_in h) ≡ next_sources (roster_of k) (found_in k)
sources_alike {e} {h} {k} same =
    let roster = same_roster same in
    let number = looks next_number next_plain same in
    let used : length (answers_in (roster_of h) (found_in h)) ≡ length (answers_in (roster_of k) (found_in k)) =
    sym (length-map (answers_in (roster_of h) (found_in h)) plain_answer)
    ∙ ap length (same_answers same)
    ∙ length-map (answers_in (roster_of k) (found_in k)) plain_answer in
    λ i. sources (roster i) (number i) (used i)

long_alike : {e : Event} {h k : NodeHistory} → InStep e h k → (osc : ℕ) → is_long_enough h osc ≡ is_long_enough k osc
long_alike same osc =
    let roster = same_roster same in
    let rates = same_rates same in
    let clock = same_clock same in
    let last = looks last_round last_plain same in
    λ i. unwrap_or (option_map (λ (round : Round).
    is_due_after (roster i).settings (osc - round.opened) (inaccuracy_of (rates i) (clock i) osc)) (last i)) true

may_alike : {e : Event} {h k : NodeHistory} → InStep e h k → may_open e h ≡ may_open e k
may_alike {e} same =
    let round = same_round same in
    let sources = sources_alike same in
    let long = long_alike same (event_osc e) in
    λ i. is_none (round i) && (nat_lt 0 (length (sources i)) && long i)

opening_if_due : {e : Event} {h k : NodeHistory} → InStep e h k → (word : ℕ) → InStep e (opens_if_due e word h) (opens_if_due e word k)
opening_if_due {e} {h} {k} same word =
    subst (λ b. InStep e (opens_if_due e word h)
    (if b then evaluates e (opens_round e word (next_sources (roster_of k) (found_in k)) k) else k))
    (may_alike same)
    (either_way (may_open e h)
    (evaluating (subst (λ asked. InStep e (opens_round e word (next_sources (roster_of h) (found_in h)) h) (opens_round e word asked k))
    (sources_alike same)
    (opening same word (next_sources (roster_of h) (found_in h)) (sources_of_servers (roster_of h) same.below _ _))))
    same)

ticking : (osc word : ℕ) {h k : NodeHistory} → InStep (event.Tick osc word) h k
    → InStep (event.Tick osc word) (tick_comes (event.Tick osc word) word h) (tick_comes (event.Tick osc word) word k)
ticking osc word {h} {k} same =
    let e : Event = event.Tick osc word in
    subst (λ (r : Option ClockRecord). InStep e (tick_comes e word h)
    (if is_some r then gives k [] (publication r) else opens_if_due e word (evaluates e k)))
    (ap₂ (λ (rates : Rates) (rec : ClockRecord). renewed_record rates rec osc) (same_rates same) (same_clock same))
    (either_way (is_some (renewed_record (rates_of (bare h)) (record_of h) osc))
    (giving_same e h k [] (publication (renewed_record (rates_of (bare h)) (record_of h) osc)) same)
    (opening_if_due (evaluating same) word))

-- ---- an event of a direct round
alike_rates : {h k : NodeHistory} → AreAlike h k → rates_of (bare h) ≡ rates_of (bare k)
alike_rates {h} {k} same = rates_are h ∙ ap (λ (s : Known). roster_rates s.roster.settings) same.known ∙ sym (rates_are k)

query_alike : {h k : NodeHistory} → AreAlike h k → (osc tag : ℕ)
    → live_actions (bare h) (event.Query osc tag) ≡ live_actions (bare k) (event.Query osc tag)
query_alike {h} {k} same osc tag =
    ap₂ (λ (asked full : Bool). if asked then noted (event.Query osc tag) (note.RepeatedTag tag) ∷ []
    else if full then noted (event.Query osc tag) note.TagsFull ∷ [] else [])
    (asked_so (queries_of (bare h)) tag ∙ ap (λ (s : Known). is_asked s.queries tag) same.known ∙ sym (asked_so (queries_of (bare k)) tag))
    (full_so (queries_of (bare h)) ∙ ap (λ (s : Known). is_full s.queries) same.known ∙ sym (full_so (queries_of (bare k))))

-- the query of a tag is open, or not
abbrev is_open : NodeHistory → ℕ → Bool
is_open history tag = is_some (open_query (queries_of (bare history)) (answers_of (bare history)) tag)

open_as_known : (history : NodeHistory) (tag : ℕ)
    → is_open history tag
    ≡ is_some (open_query (map plain_query (queries_of (bare history))) (map plain_answer (answers_of (bare history))) tag)
open_as_known history tag =
    some_so (open_query (queries_of (bare history)) (answers_of (bare history)) tag)
    ∙ ap is_some (open_so (queries_of (bare history)) (answers_of (bare history)) tag)

open_alike : {h k : NodeHistory} → AreAlike h k → (tag : ℕ) → is_open h tag ≡ is_open k tag
open_alike {h} {k} same tag =
    open_as_known h tag ∙ ap (λ (s : Known). is_some (open_query s.queries s.answers tag)) same.known ∙ sym (open_as_known k tag)

adopt_alike : {h k : NodeHistory} → AreAlike h k → (osc required : ℕ)
    → live_actions (bare h) (event.Adopt osc required) ≡ live_actions (bare k) (event.Adopt osc required)
adopt_alike {h} {k} same osc required =
    let e : Event = event.Adopt osc required in
    let rates = alike_rates same in
    let known = same.known in
    adopting_so e (rates_of (bare h)) (record_of h) (answers_of (bare h)) required
    ∙ (λ i. outcome_actions e (rates i) (known i).clock (known i).answers (outcome (rates i) (known i).answers required osc))
    ∙ sym (adopting_so e (rates_of (bare k)) (record_of k) (answers_of (bare k)) required)

-- actions alone, at the beginning of an event
acting : (e : Event) (h k : NodeHistory) → is_sync e ≡ true → AreAlike h k → (given told : List Action) → given ≡ told
    → InStep e (Next h e [] given) (Next k e [] told)
acting e h k sync same given told is =
    giving e (Next h e [] []) (Next k e [] []) [] [] given told (beginning e h k sync same) (λ osc older. refl) refl is

-- ---- a live event
-- the peer of an event of the sync part is a server
server_of : (peer lane : ℕ) → is_sync_part (if nat_lt peer first_connection then Sync else Lane lane) ≡ true → IsOfServer peer
server_of peer lane is = of_part (nat_lt peer first_connection) is
  where
    of_part : (b : Bool) → is_sync_part (if b then Sync else Lane lane) ≡ true → not b ≡ false
    of_part true is = refl
    of_part false is = cc

not_of_client : {e : Event} (peer : ℕ) → IsOfServer peer → (a b x y : NodeHistory) → InStep e x y
    → InStep e (if is_client peer then a else x) (if is_client peer then b else y)
not_of_client {e} peer server a b x y same = subst (λ (c : Bool). InStep e (if c then a else x) (if c then b else y)) (sym server) same

live_alike : (e : Event) (h k : NodeHistory) → is_sync e ≡ true → AreAlike h k → InStep e (live_event h e) (live_event k e)
live_alike (event.Tick osc word) h k sync same = ticking osc word (beginning (event.Tick osc word) h k sync same)
live_alike (event.Stream osc peer octets) h k sync same =
    let server = server_of peer (peer % lanes) sync in
    not_of_client peer server _ _ _ _ (streaming (beginning (event.Stream osc peer octets) h k sync same) peer server octets)
live_alike (event.Gram osc peer octets) h k sync same =
    let server = server_of peer (peer % lanes) sync in
    not_of_client peer server _ _ _ _ (packing (beginning (event.Gram osc peer octets) h k sync same) peer server octets)
live_alike (event.Lost osc peer) h k sync same =
    not_of_client peer (server_of peer (peer % lanes) sync) _ _ _ _
    (parting (beginning (event.Lost osc peer) h k sync same) peer note.Lost)
live_alike (event.Unsent osc peer) h k sync same =
    not_of_client peer (server_of peer (peer % lanes) sync) _ _ _ _
    (parting (beginning (event.Unsent osc peer) h k sync same) peer note.Unsent)
live_alike (event.Query osc tag) h k sync same = acting (event.Query osc tag) h k sync same _ _ (query_alike same osc tag)
live_alike (event.Source osc tag i) h k sync same =
    acting (event.Source osc tag i) h k sync same _ _
    (ap (λ (b : Bool). if b then [] else noted (event.Source osc tag i) (note.UnknownTag tag) ∷ []) (open_alike same tag))
live_alike (event.Adopt osc required) h k sync same = acting (event.Adopt osc required) h k sync same _ _ (adopt_alike same osc required)
live_alike (event.Read osc) h k sync same = absurd (cc)
live_alike (event.Ask osc conn octets) h k sync same = absurd (cc)

-- ---- a regressed event
abbrev EndsServer : Option ℕ → Type 0
EndsServer None = Unit {0}
EndsServer (Some peer) = IsOfServer peer

ends_server : (e : Event) → is_sync e ≡ true → EndsServer (ended_by e)
ends_server (event.Stream osc peer octets) sync = server_of peer (peer % lanes) sync
ends_server (event.Lost osc peer) sync = server_of peer (peer % lanes) sync
ends_server (event.Unsent osc peer) sync = server_of peer (peer % lanes) sync
ends_server (event.Ask osc conn octets) sync = absurd (cc)
ends_server _ sync = tt

ended_plain : (ended : Option ℕ) → EndsServer ended → {e : Event} {h k : NodeHistory} → InStep e h k
    → ends_peer (found_in h) ended ≡ ends_peer (found_in k) ended
ended_plain None server same = refl
ended_plain (Some peer) server same =
    let session = looks (session_of peer) (session_plain peer server) same in
    let connection = looks (connection_of peer) (connection_plain peer server) same in
    λ i. if is_some (session i) || is_some (connection i) then PeerEnded peer ∷ [] else []

floor_alike : (e : Event) (h k : NodeHistory) → is_sync e ≡ true → AreAlike h k → floor_of (bare h) e ≡ floor_of (bare k) e
floor_alike e h k sync same = at_floor h ∙ ap (λ (s : Known). s.live) same.known ∙ sym (at_floor k)
  where
    at_floor : (history : NodeHistory) → floor_of (bare history) e ≡ live_osc Sync (bare history)
    at_floor history = ap (λ p. floor_at p (live_osc p (bare history)) (current_record (bare history))) (sync_part e sync)

regressed_alike : (e : Event) (h k : NodeHistory) → is_sync e ≡ true → AreAlike h k
    → InStep e (regressed_event h e) (regressed_event k e)
regressed_alike e h k sync same =
    let first = beginning e h k sync same in
    let ended : ends_peer (found_in h) (ended_by e) ≡ ends_peer (found_in k) (ended_by e) =
    ended_plain (ended_by e) (ends_server e sync) first in
    giving e (Next h e [] []) (Next k e [] []) (ends_peer (found_in h) (ended_by e)) (ends_peer (found_in k) (ended_by e))
    (regressed_actions (bare h) e) (regressed_actions (bare k) e) first
    (λ osc older. ap (λ fs. in_front_of osc fs older) ended)
    (ap (list_any is_refusal) ended)
    (ap (λ floor. noted e (note.Regressed floor) ∷ closes e) (floor_alike e h k sync same))

-- ---- any event
pub followed_alike : (e : Event) (h k : NodeHistory) → is_sync e ≡ true → AreAlike h k → AreAlike (followed_by h e) (followed_by k e)
unfolding followed_by
followed_alike e h k sync same =
    ending e h k sync same
    (subst (λ live. InStep e (followed_by h e) (if live then live_event k e else regressed_event k e)) (same_live e h k sync same)
    (either_way (is_live (bare h) e) (live_alike e h k sync same) (regressed_alike e h k sync same)))
