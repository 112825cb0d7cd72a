-- The moments of a direct round are sync positions, and its answers are in their ranges.
use Rattle.std.proofs.Common.{◌≡◌, ◌⊎◌, inl, inr, ℕ, ◌≤◌, Bool, true, false, cond, List, [], ◌∷◌, Option, Some, None, refl, sym, ap, ◌∙◌, subst, arith}
use Rattle.std.specs.Prelude.{◌≤ℤ◌, All, nat_le, ◌&&◌, ◌||◌, ◌==◌, find, option_map, IfSome}
use Rattle.std.proofs.lemmas.Bool.{leb-true}
use Rattle.std.proofs.lemmas.List.Elements.{All-nil, All-push, All-weaker, All-head, All-tail}
use Rattle.dts_base.specs.declared.interval.Interval.{Interval}
use Rattle.dts_capture.specs.declared.event.Event.{Event}
use Rattle.dts_capture.specs.declared.event.Event.TheVariants as event
use Rattle.dts_capture.specs.declared.action.Action.{Action}
use Rattle.sync_rules.specs.History.{History, Begun, Then, Sync, event_part, event_osc, number_of, part_of, osc_of, IsPositionOf, current_record}
use Rattle.sync_rules.specs.Live.{live_osc, floor_at, floor_of, is_live, same_part}
use Rattle.sync_rules.specs.Rounds.{Moment, answer_of, moment_of, Query, Answer, is_asked, is_full, is_answered, asked_after, queries_of, open_query, with_answer, answered_after, answers_of}
use Rattle.sync_rules.specs.Ranges.{IsInRange, IsEventInRange, IsTime}
use Rattle.sync_rules.proofs.Choices.{both}

-- a moment of a sync position of the history
pub record IsMoment (h : History) (m : Moment) : Type 0 where
  pub position : History
  pub is : IsPositionOf position h
  pub number : number_of position ≡ m.position
  pub osc : osc_of position ≡ m.osc
  pub part : part_of position ≡ Sync
  pub before_last : m.osc ≤ live_osc Sync h

-- an answer of the history
pub record IsAnswerOf (h : History) (a : Answer) : Type 0 where
  pub asked : IsMoment h a.asked
  pub got : IsMoment h a.got
  pub order : a.asked.osc ≤ a.got.osc
  pub low : IsTime a.lo
  pub high : IsTime a.hi
  pub ordered : a.lo ≤ℤ a.hi

-- ---- the sync part's last live reading never falls
pub sync_live : (h : History) (e : Event) (actions : List Action) → event_part e ≡ Sync → is_live h e ≡ true → live_osc Sync (Then h e actions) ≡ event_osc e
unfolding live_osc
sync_live h e actions sync live =
    let floor : floor_of h e ≡ live_osc Sync h = ap (λ p. floor_at p (live_osc p h) (current_record h)) sync in
    let one : (same_part Sync (event_part e) && nat_le (floor_at Sync (live_osc Sync h) (current_record h)) (event_osc e)) ≡ true =
    ap (λ p. same_part Sync p && nat_le (live_osc Sync h) (event_osc e)) sync ∙ ap (λ f. nat_le f (event_osc e)) (sym floor) ∙ live in
    ap (λ b. cond b (event_osc e) (live_osc Sync h)) one

pub sync_grows : (h : History) (e : Event) (actions : List Action) → live_osc Sync h ≤ live_osc Sync (Then h e actions)
unfolding live_osc
sync_grows h e actions =
    both (same_part Sync (event_part e) && nat_le (live_osc Sync h) (event_osc e)) (event_osc e) (live_osc Sync h) (λ x. live_osc Sync h ≤ x)
    (λ is. leb-true _ _ (second (same_part Sync (event_part e)) (nat_le (live_osc Sync h) (event_osc e)) is)) (λ not. omega arith)
  where
    second : (a b : Bool) → (a && b) ≡ true → b ≡ true
    second true b h = h
    second false b h = cc

pub sync_above : (h : History) (e : Event) → event_part e ≡ Sync → is_live h e ≡ true → live_osc Sync h ≤ event_osc e
sync_above h e sync live =
    let floor : floor_of h e ≡ live_osc Sync h = ap (λ p. floor_at p (live_osc p h) (current_record h)) sync in
    omega (arith, leb-true _ _ live, floor)

-- ---- moments stay
moment_stays : (h : History) (e : Event) (actions : List Action) (m : Moment) → IsMoment h m → IsMoment (Then h e actions) m
moment_stays h e actions m is = record {
  position = is.position;
  is = inr is.is;
  number = is.number;
  osc = is.osc;
  part = is.part;
  before_last = omega (arith, is.before_last, sync_grows h e actions);
}

answer_stays : (h : History) (e : Event) (actions : List Action) (a : Answer) → IsAnswerOf h a → IsAnswerOf (Then h e actions) a
answer_stays h e actions a is = record {
  asked = moment_stays h e actions a.asked is.asked;
  got = moment_stays h e actions a.got is.got;
  order = is.order;
  low = is.low;
  high = is.high;
  ordered = is.ordered;
}

-- the moment of a live sync event
pub moment_now : (h : History) (e : Event) (actions : List Action) → event_part e ≡ Sync → is_live h e ≡ true → IsMoment (Then h e actions) (moment_of h e)
moment_now h e actions sync live = record {
  position = Then h e actions;
  is = inl refl;
  number = refl;
  osc = refl;
  part = sync;
  before_last = omega (arith, sync_live h e actions sync live);
}

-- ---- the queries
abbrev pub AreQueriesOf : History → List Query → Type 0
AreQueriesOf h queries = All (λ q. IsMoment h q.asked) queries

abbrev pub AreAnswersOf : History → List Answer → Type 0
AreAnswersOf h answers = All (IsAnswerOf h) answers

queries_stay : (h : History) (e : Event) (actions : List Action) (queries : List Query) → AreQueriesOf h queries → AreQueriesOf (Then h e actions) queries
queries_stay h e actions queries are = All-weaker (λ q. IsMoment h q.asked) (λ q. IsMoment (Then h e actions) q.asked) (λ q is. moment_stays h e actions q.asked is) queries are

answers_stay : (h : History) (e : Event) (actions : List Action) (answers : List Answer) → AreAnswersOf h answers → AreAnswersOf (Then h e actions) answers
answers_stay h e actions answers are = All-weaker (IsAnswerOf h) (IsAnswerOf (Then h e actions)) (λ a is. answer_stays h e actions a is) answers are

asked_are : (h : History) (e : Event) (actions : List Action) (queries : List Query) → is_live h e ≡ true → AreQueriesOf h queries → AreQueriesOf (Then h e actions) (asked_after queries (moment_of h e) e)
asked_are h (event.Query osc tag) actions queries live are =
    both (is_asked queries tag || is_full queries) _ _ (AreQueriesOf (Then h (event.Query osc tag) actions)) (λ _. queries_stay h _ actions queries are)
    (λ _. All-push (λ q. IsMoment (Then h (event.Query osc tag) actions) q.asked) queries _ (queries_stay h _ actions queries are) (moment_now h (event.Query osc tag) actions refl live))
asked_are h (event.Adopt osc required) actions queries live are = All-nil (λ q. IsMoment (Then h (event.Adopt osc required) actions) q.asked)
asked_are h (event.Tick osc word) actions queries live are = queries_stay h _ actions queries are
asked_are h (event.Stream osc peer bytes) actions queries live are = queries_stay h _ actions queries are
asked_are h (event.Gram osc peer bytes) actions queries live are = queries_stay h _ actions queries are
asked_are h (event.Lost osc peer) actions queries live are = queries_stay h _ actions queries are
asked_are h (event.Unsent osc peer) actions queries live are = queries_stay h _ actions queries are
asked_are h (event.Read osc) actions queries live are = queries_stay h _ actions queries are
asked_are h (event.Ask osc conn bytes) actions queries live are = queries_stay h _ actions queries are
asked_are h (event.Source osc tag i) actions queries live are = queries_stay h _ actions queries are

pub queries_are : (h : History) → AreQueriesOf h (queries_of h)
unfolding queries_of
queries_are (Begun settings start) = All-nil (λ q. IsMoment (Begun settings start) q.asked)
queries_are (Then h e actions) =
    both (is_live h e) _ _ (AreQueriesOf (Then h e actions)) (λ live. asked_are h e actions (queries_of h) live (queries_are h)) (λ _. queries_stay h e actions (queries_of h) (queries_are h))

-- ---- the answers
first_or_later : (b : Bool) (x q : Query) (rest : Option Query) → cond b (Some x) rest ≡ Some q → (x ≡ q) ⊎ (rest ≡ Some q)
first_or_later true x q rest is = inl cc
first_or_later false x q rest is = inr is

found_is : (h : History) (p : Query → Bool) (queries : List Query) (q : Query) → AreQueriesOf h queries → find p queries ≡ Some q → IsMoment h q.asked
found_is h p [] q are is = cc
found_is h p (x ∷ queries) q are is =
    elim (first_or_later (p x) x q (find p queries) is) [
      | inl here ↦ subst (λ (y : Query). IsMoment h y.asked) here (All-head (λ y. IsMoment h y.asked) x queries are)
      | inr later ↦ found_is h p queries q (All-tail (λ y. IsMoment h y.asked) x queries are) later
    ]

open_is : (h : History) (queries : List Query) (answers : List Answer) (tag : ℕ) (q : Query) → AreQueriesOf h queries → open_query queries answers tag ≡ Some q → IsMoment h q.asked
open_is h queries answers tag q are is =
    elim (is_answered answers tag) as (λ b. cond b None (find (λ x. x.tag == tag) queries) ≡ Some q → IsMoment h q.asked) [
      | true ↦ λ bad. cc
      | false ↦ λ found. found_is h (λ x. x.tag == tag) queries q are found
    ] is

with_answer_are : (h : History) (answers : List Answer) (answer : Option Answer) → AreAnswersOf h answers → IfSome answer (IsAnswerOf h) → AreAnswersOf h (with_answer answers answer)
with_answer_are h answers None are is = are
with_answer_are h answers (Some a) are is = All-push (IsAnswerOf h) answers a are is

-- what an open query is answered with
source_answers : (h : History) (osc tag : ℕ) (i : Interval) (actions : List Action) (found : Option Query) → is_live h (event.Source osc tag i) ≡ true → IsEventInRange (event.Source osc tag i)
    → IfSome found (λ q. IsMoment h q.asked)
    → IfSome (option_map (λ (q : Query). answer_of q (moment_of h (event.Source osc tag i)) tag i) found) (IsAnswerOf (Then h (event.Source osc tag i) actions))
source_answers h osc tag i actions None live range is = tt
source_answers h osc tag i actions (Some q) live range is = record {
  asked = moment_stays h (event.Source osc tag i) actions q.asked is;
  got = moment_now h (event.Source osc tag i) actions refl live;
  order = omega (arith, is.before_last, sync_above h (event.Source osc tag i) refl live);
  low = range.1;
  high = range.2;
  ordered = i.ordered;
}

if_found : (found : Option Query) (P : Query → Type 0) → ((q : Query) → found ≡ Some q → P q) → IfSome found P
if_found None P h = tt
if_found (Some q) P h = h q refl

answered_are : (h : History) (e : Event) (actions : List Action) (queries : List Query) (answers : List Answer) → is_live h e ≡ true → IsEventInRange e → AreQueriesOf h queries → AreAnswersOf h answers
    → AreAnswersOf (Then h e actions) (answered_after queries answers (moment_of h e) e)
answered_are h (event.Source osc tag i) actions queries answers live range asked are =
    with_answer_are (Then h (event.Source osc tag i) actions) answers _ (answers_stay h _ actions answers are)
    (source_answers h osc tag i actions (open_query queries answers tag) live range (if_found (open_query queries answers tag) (λ q. IsMoment h q.asked) (λ q is. open_is h queries answers tag q asked is)))
answered_are h (event.Adopt osc required) actions queries answers live range asked are = All-nil (IsAnswerOf (Then h (event.Adopt osc required) actions))
answered_are h (event.Tick osc word) actions queries answers live range asked are = answers_stay h _ actions answers are
answered_are h (event.Stream osc peer bytes) actions queries answers live range asked are = answers_stay h _ actions answers are
answered_are h (event.Gram osc peer bytes) actions queries answers live range asked are = answers_stay h _ actions answers are
answered_are h (event.Lost osc peer) actions queries answers live range asked are = answers_stay h _ actions answers are
answered_are h (event.Unsent osc peer) actions queries answers live range asked are = answers_stay h _ actions answers are
answered_are h (event.Read osc) actions queries answers live range asked are = answers_stay h _ actions answers are
answered_are h (event.Ask osc conn bytes) actions queries answers live range asked are = answers_stay h _ actions answers are
answered_are h (event.Query osc tag) actions queries answers live range asked are = answers_stay h _ actions answers are

pub answers_are : (h : History) → IsInRange h → AreAnswersOf h (answers_of h)
unfolding answers_of
answers_are (Begun settings start) range = All-nil (IsAnswerOf (Begun settings start))
answers_are (Then h e actions) range =
    both (is_live h e) _ _ (AreAnswersOf (Then h e actions)) (λ live. answered_are h e actions (queries_of h) (answers_of h) live range.1 (queries_are h) (answers_are h range.0))
    (λ _. answers_stay h e actions (answers_of h) (answers_are h range.0))
