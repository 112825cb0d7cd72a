-- Histories in which a lane sees the same, and others in which it sees another roster, event or record, by computation over the rules.
use Rattle.std.proofs.Common.{◌≡◌, ◌≢◌, lit≤, ℕ, ◌<◌, ◌≤◌, pos, List, [], ◌∷◌, ◌++◌, Some, refl, sym, ap, ◌∙◌, arith}
use Rattle.std.specs.Prelude.{take, length, map, slice_index, slice_set}
use Rattle.std.specs.List.{AllByRecursion}
use Rattle.slew_clock.specs.Line.{line}
use Rattle.slew_clock.specs.Reading.{interval_of, inaccuracy_of}
use Rattle.pdu_fields.specs.Tables.{reading}
use Rattle.pdu_fields.proofs.Rows.{bind_octets, response_octets}
use Rattle.utc_value.specs.Octets.{octets_of}
use Rattle.roster.specs.declared.limits.TheConstants.{MAX_SERVERS}
use Rattle.roster.specs.RosterData.{RosterData}
use Rattle.dts_capture.specs.declared.event.Event.{Event}
use Rattle.dts_capture.specs.declared.event.Event.TheVariants as event
use Rattle.dts_capture.specs.declared.action.Action.{Action}
use Rattle.dts_capture.specs.declared.action.Action.TheVariants as action
use Rattle.dts_capture.specs.declared.action.NoteKind.TheVariants as note
use Rattle.sync_rules.specs.History.{Start, current_record}
use Rattle.sync_rules.specs.Live.{live_osc}
use Rattle.sync_rules.specs.Rules.{noted}
use Rattle.node_rules.specs.History.{Began, roster_of}
use Rattle.node_rules.specs.Sessions.{session_of, octets_from, taken_from}
use Rattle.node_rules.specs.Connections.{connection_of, open_in}
use Rattle.node_rules.specs.Rules.{followed_by, extended}
use Rattle.node_rules.proofs.Nodes.{a_server, ack, request, unknown}
use Rattle.node_rules.proofs.ServerRows.{knowing}
use Rattle.lane_apart.specs.Lanes.{Seen, seen_by, given_by, IsOfClient}
use Rattle.lane_apart.specs.Laws.{Histories, DependsOnNoLess}
use Rattle.lane_apart.proofs.Apart.{can_begin, roster_stays, events_make_histories}

abbrev ask : ℕ → List ℕ → Event
ask conn octets = event.Ask 0 conn octets

abbrev reading_at : Event → Action
reading_at e = noted e (note.Reading (pos 5000000000) (Some 1001) 0 0)

-- two that a number tells apart
apart : {A : Type 0} (f : A → ℕ) (x y : A) (m n : ℕ) → f x ≡ m → f y ≡ n → m < n → x ≢ y
apart f x y m n first second less same = omega (arith, ap f same, first, second, less)

-- two histories that can be
abbrev both_can : (roster changed : RosterData) (start later : Start) (one other : List Event)
    → length roster.entries ≤ MAX_SERVERS → length changed.entries ≤ MAX_SERVERS
    → AllByRecursion IsOfClient one → AllByRecursion IsOfClient other → Histories
both_can roster changed start later one other few few_too first second = record {
  one = extended (Began roster start) one;
  other = extended (Began changed later) other;
  one_can = events_make_histories roster start one few first;
  other_can = events_make_histories changed later other few_too second;
}

-- ---- a client of lane 0 binds and asks for the time
abbrev served : List Event
served = ask 1000 bind_octets ∷ ask 1000 request ∷ []

abbrev answered : List (List Action)
answered =
    (reading_at (ask 1000 request) ∷ action.Send 0 1000 (slice_set response_octets 34 233) ∷ [])
    ∷ (reading_at (ask 1000 bind_octets) ∷ action.Send 0 1000 (slice_set (slice_set ack 20 232) 21 3) ∷ [])
    ∷ []

a_client_is_answered : given_by 0 (extended (Began a_server knowing) served) ≡ answered
unfolding followed_by current_record live_osc line interval_of inaccuracy_of session_of octets_from taken_from
    connection_of open_in reading octets_of
a_client_is_answered = refl

-- and between them another lane is asked and a server sends what is stray
abbrev more : List Event
more = ask 1000 bind_octets ∷ ask 1001 (5 ∷ []) ∷ event.Stream 0 0 ack ∷ ask 1000 request ∷ []

the_lane_sees_the_same : seen_by 0 (extended (Began a_server knowing) served) ≡ seen_by 0 (extended (Began a_server knowing) more)
unfolding followed_by current_record live_osc line interval_of inaccuracy_of session_of octets_from taken_from
    connection_of open_in reading octets_of
the_lane_sees_the_same = refl

-- but lane 1 does not
lane_1_sees_nothing : length (seen_by 1 (extended (Began a_server knowing) served)) ≡ 0
unfolding followed_by current_record live_osc line interval_of inaccuracy_of session_of octets_from taken_from
    connection_of open_in reading octets_of
lane_1_sees_nothing = refl

lane_1_sees_its_ask : length (seen_by 1 (extended (Began a_server knowing) more)) ≡ 1
unfolding followed_by current_record live_osc line interval_of inaccuracy_of session_of octets_from taken_from
    connection_of open_in reading octets_of
lane_1_sees_its_ask = refl

-- ---- what a lane sends at its last position
abbrev sent_in : List Action → List ℕ
sent_in [] = []
sent_in (action.Send osc peer octets ∷ actions) = octets ++ sent_in actions
sent_in (_ ∷ actions) = sent_in actions

abbrev sent_last : List (List Action) → List ℕ
sent_last [] = []
sent_last (actions ∷ older) = sent_in actions

-- where the epoch stands in the answer, and the first octet of the time
abbrev epoch_at : ℕ
epoch_at = 25

abbrev time_at : ℕ
time_at = 26

own_epoch : slice_index (sent_last (given_by 0 (extended (Began a_server knowing) served))) epoch_at ≡ 0
unfolding followed_by current_record live_osc line interval_of inaccuracy_of session_of octets_from taken_from
    connection_of open_in reading octets_of
own_epoch = refl

-- another epoch is told in the answer
abbrev other_roster : RosterData
other_roster = record { settings = record (a_server.settings) { epoch = 1 }; entries = a_server.entries }

other_epoch : slice_index (sent_last (given_by 0 (extended (Began other_roster knowing) served))) epoch_at ≡ 1
unfolding followed_by current_record live_osc line interval_of inaccuracy_of session_of octets_from taken_from
    connection_of open_in reading octets_of
other_epoch = refl

another_roster_shows_the_same : seen_by 0 (extended (Began a_server knowing) served)
    ≡ seen_by 0 (extended (Began other_roster knowing) served)
unfolding followed_by current_record live_osc line interval_of inaccuracy_of session_of octets_from taken_from
    connection_of open_in reading octets_of
another_roster_shows_the_same = refl

-- a part of a bind is followed by no answer
abbrev unbound : List Event
unbound = ask 1000 (take 20 bind_octets) ∷ ask 1000 request ∷ []

own_answer : length (sent_last (given_by 0 (extended (Began a_server knowing) served))) ≡ length response_octets
unfolding followed_by current_record live_osc line interval_of inaccuracy_of session_of octets_from taken_from
    connection_of open_in reading octets_of
own_answer = refl

no_answer : length (sent_last (given_by 0 (extended (Began a_server knowing) unbound))) ≡ 0
unfolding followed_by current_record live_osc line interval_of inaccuracy_of session_of octets_from taken_from
    connection_of open_in reading octets_of
no_answer = refl

other_events_are_shown_the_same : map (λ (s : Seen). s.shown) (seen_by 0 (extended (Began a_server knowing) unbound))
    ≡ map (λ (s : Seen). s.shown) (seen_by 0 (extended (Began a_server knowing) served))
unfolding followed_by current_record live_osc line interval_of inaccuracy_of session_of octets_from taken_from
    connection_of open_in reading octets_of
other_events_are_shown_the_same = refl

-- another record is told in the answer
own_time : slice_index (sent_last (given_by 0 (extended (Began a_server knowing) served))) time_at ≡ 0
unfolding followed_by current_record live_osc line interval_of inaccuracy_of session_of octets_from taken_from
    connection_of open_in reading octets_of
own_time = refl

other_time : slice_index (sent_last (given_by 0 (extended (Began a_server unknown) served))) time_at ≡ 64
unfolding followed_by current_record live_osc line interval_of inaccuracy_of session_of octets_from taken_from
    connection_of open_in reading octets_of
other_time = refl

another_record_is_of_the_same_events : map (λ (s : Seen). s.seen) (seen_by 0 (extended (Began a_server knowing) served))
    ≡ map (λ (s : Seen). s.seen) (seen_by 0 (extended (Began a_server unknown) served))
unfolding followed_by current_record live_osc line interval_of inaccuracy_of session_of octets_from taken_from
    connection_of open_in reading octets_of
another_record_is_of_the_same_events = refl

-- ---- the law of them
served_are_of_clients : AllByRecursion IsOfClient served
served_are_of_clients = (lit≤ tt, (lit≤ tt, tt))

more_are_of_clients : AllByRecursion IsOfClient more
more_are_of_clients = (lit≤ tt, (lit≤ tt, (tt, (lit≤ tt, tt))))

unbound_are_of_clients : AllByRecursion IsOfClient unbound
unbound_are_of_clients = (lit≤ tt, (lit≤ tt, tt))

is_its_roster : (start : Start) (events : List Event) → AllByRecursion IsOfClient events
    → roster_of (extended (Began a_server start) events) ≡ a_server
is_its_roster start events clients = roster_stays (Began a_server start) events (can_begin a_server start (lit≤ tt)) clients

pub depends_on_no_less : DependsOnNoLess
depends_on_no_less = record {
  others = (
    both_can a_server a_server knowing knowing served more (lit≤ tt) (lit≤ tt) served_are_of_clients more_are_of_clients,
    is_its_roster knowing served served_are_of_clients ∙ sym (is_its_roster knowing more more_are_of_clients),
    the_lane_sees_the_same,
    apart (λ (seen : List Seen). length seen) _ _ 0 1 lane_1_sees_nothing lane_1_sees_its_ask (omega arith),
  );
  rosters = (
    both_can a_server other_roster knowing knowing served served (lit≤ tt) (lit≤ tt) served_are_of_clients served_are_of_clients,
    another_roster_shows_the_same,
    apart (λ (given : List (List Action)). slice_index (sent_last given) epoch_at) _ _ 0 1 own_epoch other_epoch (omega arith),
  );
  events = (
    both_can a_server a_server knowing knowing unbound served (lit≤ tt) (lit≤ tt) unbound_are_of_clients served_are_of_clients,
    is_its_roster knowing unbound unbound_are_of_clients ∙ sym (is_its_roster knowing served served_are_of_clients),
    other_events_are_shown_the_same,
    apart (λ (given : List (List Action)). length (sent_last given)) _ _ 0 (length response_octets) no_answer own_answer (omega arith),
  );
  records = (
    both_can a_server a_server knowing unknown served served (lit≤ tt) (lit≤ tt) served_are_of_clients served_are_of_clients,
    is_its_roster knowing served served_are_of_clients ∙ sym (is_its_roster unknown served served_are_of_clients),
    another_record_is_of_the_same_events,
    apart (λ (given : List (List Action)). slice_index (sent_last given) time_at) _ _ 0 64 own_time other_time (omega arith),
  );
}
