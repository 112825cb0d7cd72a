-- How many answers a round has, and that each can be carried on.
use Rattle.std.proofs.Common.{◌≡◌, ℕ, ◌+◌, ◌≤◌, Bool, true, false, cond, List, [], ◌∷◌, ◌++◌, length, Option, Some, None, refl, sym, ap, ◌∙◌, subst, arith}
use Rattle.std.specs.Prelude.{All, find, ◌==◌, ◌||◌, option_map}
use Rattle.std.proofs.lemmas.Bool.{leb-false, eqb-true, eq-eqb}
use Rattle.std.proofs.lemmas.List.{length-map, length-append}
use Rattle.std.proofs.lemmas.List.Elements.{All-map, All-weaker}
use Rattle.std.proofs.lemmas.List.Folds.{list_any-append}
use Rattle.dts_base.specs.declared.interval.Interval.{Interval}
use Rattle.dts_capture.specs.declared.event.Event.{Event}
use Rattle.dts_capture.specs.declared.event.Event.TheVariants as event
use Rattle.dts_capture.specs.Grammar.{most_tags}
use Rattle.sync_rules.specs.History.{History, Begun, Then, Sync}
use Rattle.sync_rules.specs.Live.{is_live, live_osc}
use Rattle.sync_rules.specs.Rounds.{Moment, moment_of, Query, Answer, answer_of, is_asked, is_answered, is_full, asked_after, queries_of, with_answer, answered_after, answers_of}
use Rattle.sync_rules.specs.Ranges.{IsInRange}
use Rattle.sync_rules.proofs.Choices.{both}
use Rattle.sync_rules.proofs.Moments.{IsAnswerOf, answers_are}
use Rattle.capture_replay.specs.declared.round.DirectRound.{DirectRound}
use Rattle.capture_replay.specs.Rounds.{without_place, answer_kept, RoundStands, IsCarriable, AreCarriable}
use Rattle.capture_replay.proofs.RoundLaws.{all_unmapped}

-- ---- at most so many tags are asked
abbrev AreFew : List Query → Type 0
AreFew queries = length queries ≤ most_tags

asked_few : (queries : List Query) (m : Moment) (e : Event) → AreFew queries → AreFew (asked_after queries m e)
asked_few queries m (event.Query osc tag) few =
    both (is_asked queries tag || is_full queries) _ _ AreFew (λ _. few)
    (λ room. omega (arith, leb-false _ _ (second (is_asked queries tag) (is_full queries) room), length-append queries (record { tag = tag; asked = m } ∷ [])))
  where
    second : (a b : Bool) → (a || b) ≡ false → b ≡ false
    second true b is = cc
    second false b is = is
asked_few queries m (event.Adopt osc required) few = omega arith
asked_few queries m (event.Tick osc word) few = few
asked_few queries m (event.Stream osc peer bytes) few = few
asked_few queries m (event.Gram osc peer bytes) few = few
asked_few queries m (event.Lost osc peer) few = few
asked_few queries m (event.Unsent osc peer) few = few
asked_few queries m (event.Read osc) few = few
asked_few queries m (event.Ask osc conn bytes) few = few
asked_few queries m (event.Source osc tag i) few = few

queries_few : (h : History) → AreFew (queries_of h)
unfolding queries_of
queries_few (Begun settings start) = omega arith
queries_few (Then h e actions) = both (is_live h e) _ _ AreFew (λ _. asked_few (queries_of h) (moment_of h e) e (queries_few h)) (λ _. queries_few h)

-- ---- each answer is of a tag of its own
abbrev one_of : Bool → ℕ
one_of b = cond b 1 0

-- how many of the tags are answered
abbrev answered_in : List Answer → List Query → ℕ
answered_in answers [] = 0
answered_in answers (q ∷ queries) = one_of (is_answered answers q.tag) + answered_in answers queries

at_most_all : (answers : List Answer) (queries : List Query) → answered_in answers queries ≤ length queries
at_most_all answers [] = omega arith
at_most_all answers (q ∷ queries) = omega (arith, at_most_one (is_answered answers q.tag), at_most_all answers queries)
  where
    at_most_one : (b : Bool) → one_of b ≤ 1
    at_most_one true = omega arith
    at_most_one false = omega arith

one_tag_more : (answers : List Answer) (queries : List Query) (q : Query) → answered_in answers queries ≤ answered_in answers (queries ++ q ∷ [])
one_tag_more answers [] q = omega arith
one_tag_more answers (x ∷ queries) q = omega (arith, one_tag_more answers queries q)

abbrev AreOfQueries : List Query → List Answer → Type 0
AreOfQueries queries answers = length answers ≤ answered_in answers queries

-- an answer more answers no tag less
still_answered : (answers : List Answer) (a : Answer) (tag : ℕ) → one_of (is_answered answers tag) ≤ one_of (is_answered (answers ++ a ∷ []) tag)
still_answered answers a tag =
    subst (λ b. one_of (is_answered answers tag) ≤ one_of b) (sym (list_any-append (λ x. x.tag == tag) answers (a ∷ []))) (grows (is_answered answers tag) ((a.tag == tag) || false))
  where
    grows : (b c : Bool) → one_of b ≤ one_of (b || c)
    grows true c = omega arith
    grows false c = omega arith

none_less : (answers : List Answer) (a : Answer) (queries : List Query) → answered_in answers queries ≤ answered_in (answers ++ a ∷ []) queries
none_less answers a [] = omega arith
none_less answers a (q ∷ queries) = omega (arith, still_answered answers a q.tag, none_less answers a queries)

-- and the tag that it answers, where that was asked and unanswered
now_answered : (answers : List Answer) (a : Answer) (tag : ℕ) → a.tag ≡ tag → is_answered (answers ++ a ∷ []) tag ≡ true
now_answered answers a tag is =
    list_any-append (λ x. x.tag == tag) answers (a ∷ []) ∙ ap (λ b. is_answered answers tag || (b || false)) (eq-eqb a.tag tag is) ∙ either (is_answered answers tag)
  where
    either : (b : Bool) → (b || true) ≡ true
    either true = refl
    either false = refl

one_more : (answers : List Answer) (a : Answer) (tag : ℕ) (queries : List Query) (q : Query) → a.tag ≡ tag → is_answered answers tag ≡ false → find (λ x. x.tag == tag) queries ≡ Some q
    → answered_in answers queries + 1 ≤ answered_in (answers ++ a ∷ []) queries
one_more answers a tag [] q is unanswered found = cc
one_more answers a tag (x ∷ queries) q is unanswered found =
    elim (x.tag == tag) as (λ b. (x.tag == tag) ≡ b → cond b (Some x) (find (λ y. y.tag == tag) queries) ≡ Some q → answered_in answers (x ∷ queries) + 1 ≤ answered_in (answers ++ a ∷ []) (x ∷ queries)) [
      | true ↦ λ here some.
          let same = eqb-true x.tag tag here in
          omega (arith, ap one_of (ap (is_answered answers) same ∙ unanswered), ap one_of (ap (is_answered (answers ++ a ∷ [])) same ∙ now_answered answers a tag is), none_less answers a queries)
      | false ↦ λ other later. omega (arith, still_answered answers a x.tag, one_more answers a tag queries q is unanswered later)
    ] refl found

source_counted : (answers : List Answer) (queries : List Query) (m : Moment) (tag : ℕ) (i : Interval) (b : Bool) (found : Option Query) → AreOfQueries queries answers
    → is_answered answers tag ≡ b → find (λ x. x.tag == tag) queries ≡ found → AreOfQueries queries (with_answer answers (option_map (λ q. answer_of q m tag i) (cond b None found)))
source_counted answers queries m tag i true found are is has = are
source_counted answers queries m tag i false None are is has = are
source_counted answers queries m tag i false (Some q) are is has =
    omega (arith, are, one_more answers (answer_of q m tag i) tag queries q refl is has, length-append answers (answer_of q m tag i ∷ []))

event_counted : (queries : List Query) (answers : List Answer) (m : Moment) (e : Event) → AreOfQueries queries answers
    → AreOfQueries (asked_after queries m e) (answered_after queries answers m e)
event_counted queries answers m (event.Query osc tag) are =
    both (is_asked queries tag || is_full queries) _ _ (λ asked. AreOfQueries asked answers) (λ _. are)
    (λ _. omega (arith, are, one_tag_more answers queries (record { tag = tag; asked = m })))
event_counted queries answers m (event.Source osc tag i) are = source_counted answers queries m tag i (is_answered answers tag) (find (λ x. x.tag == tag) queries) are refl refl
event_counted queries answers m (event.Adopt osc required) are = omega arith
event_counted queries answers m (event.Tick osc word) are = are
event_counted queries answers m (event.Stream osc peer bytes) are = are
event_counted queries answers m (event.Gram osc peer bytes) are = are
event_counted queries answers m (event.Lost osc peer) are = are
event_counted queries answers m (event.Unsent osc peer) are = are
event_counted queries answers m (event.Read osc) are = are
event_counted queries answers m (event.Ask osc conn bytes) are = are

answers_counted : (h : History) → AreOfQueries (queries_of h) (answers_of h)
unfolding queries_of answers_of
answers_counted (Begun settings start) = omega arith
answers_counted (Then h e actions) =
    elim (is_live h e) as (λ b. AreOfQueries (cond b (asked_after (queries_of h) (moment_of h e) e) (queries_of h)) (cond b (answered_after (queries_of h) (answers_of h) (moment_of h e) e) (answers_of h))) [
      | true ↦ event_counted (queries_of h) (answers_of h) (moment_of h e) e (answers_counted h)
      | false ↦ answers_counted h
    ]

-- a round has at most as many answers as tags
pub answers_few : (round : DirectRound) (h : History) → RoundStands round h → length round.answers.items ≤ most_tags
answers_few round h s =
    let same : length round.answers.items ≡ length (answers_of h) =
    sym (length-map round.answers.items answer_kept) ∙ ap (λ (xs : List Answer). length xs) s.answers ∙ length-map (answers_of h) without_place in
    omega (arith, same, answers_counted h, at_most_all (answers_of h) (queries_of h), queries_few h)

-- ---- each answer can be carried on
pub answers_carriable : (round : DirectRound) (h : History) (osc : ℕ) → RoundStands round h → IsInRange h → live_osc Sync h ≤ osc → AreCarriable osc round
answers_carriable round h osc s range after =
    all_unmapped answer_kept (IsCarriable osc) round.answers.items
    (subst (All (IsCarriable osc)) (sym s.answers)
    (All-map (IsCarriable osc) without_place (answers_of h)
    (All-weaker (IsAnswerOf h) (λ a. IsCarriable osc (without_place a)) (λ a is. record {
      low = is.low.0;
      high = is.high.1;
      order = is.order;
      before = omega (arith, is.got.before_last, after);
    }) (answers_of h) (answers_are h range))))
