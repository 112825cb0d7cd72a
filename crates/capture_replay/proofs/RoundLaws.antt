-- What a round keeps is what the rules select from a history.
use Rattle.std.proofs.Common.{◌≡◌, ℕ, Bool, true, false, cond, List, [], ◌∷◌, ◌++◌, length, map, Option, Some, None, refl, sym, ap, ◌∙◌}
use Rattle.std.specs.Prelude.{ℤ, All, filter, find, nat_le, nat_lt, ◌==◌, ◌||◌, option_map, is_some}
use Rattle.std.specs.List.{list_any}
use Rattle.std.proofs.lemmas.List.{length-map, map-append}
use Rattle.std.proofs.lemmas.List.Elements.{All-cons, All-nil, All-head, All-tail}
use Rattle.slew_clock.specs.declared.rates.Rates.{Rates}
use Rattle.slew_clock.specs.declared.record.ClockRecord.{ClockRecord}
use Rattle.dts_base.specs.declared.interval.Interval.{Interval}
use Rattle.dts_capture.specs.declared.action.FalseSource.TheVariants as source
use Rattle.dts_capture.specs.declared.action.NoteKind.TheVariants as note
use Rattle.dts_capture.specs.declared.event.Event.{Event}
use Rattle.dts_capture.specs.declared.event.Event.TheVariants as event
use Rattle.dts_capture.specs.Grammar.{most_tags}
use Rattle.intersection.specs.Adopted.{adopted}
use Rattle.sync_rules.specs.History.{History, event_osc}
use Rattle.sync_rules.specs.Live.{is_live}
use Rattle.sync_rules.specs.Rounds.{Moment, moment_of, Query, Answer, answer_of, is_asked, is_answered, is_full, asked_after, queries_of, open_query, with_answer, answered_after, answers_of, carried_to, outcome, are_apart}
use Rattle.clerk.specs.Outcome.{Outcome, Waiting, Short, Split, Adopted, agreed}
use Rattle.sync_rules.proofs.Concluding.{by_count}
use Rattle.sync_rules.specs.Rules.{live_actions, followed_by, named_false, outcome_actions, changes, noted}
use Rattle.capture_replay.specs.declared.round.AskedTag.{AskedTag}
use Rattle.capture_replay.specs.declared.round.TagAnswer.{TagAnswer}
use Rattle.capture_replay.specs.declared.round.DirectRound.{DirectRound}
use Rattle.capture_replay.specs.Notes.{noted_at}
use Rattle.capture_replay.specs.Rounds.{asked_tag, without_place, answer_kept, answers_kept, RoundStands, IsRoundStep, open_since, false_notes}

-- ---- lists seen through a function
any_map : {X Y : Type 0} (f : X → Y) (p : Y → Bool) (xs : List X) → list_any p (map f xs) ≡ list_any (λ x. p (f x)) xs
any_map f p [] = refl
any_map f p (x ∷ xs) = ap (λ b. p (f x) || b) (any_map f p xs)

find_map : {X Y : Type 0} (f : X → Y) (p : Y → Bool) (xs : List X) → find p (map f xs) ≡ option_map f (find (λ x. p (f x)) xs)
find_map f p [] = refl
find_map f p (x ∷ xs) =
    elim (p (f x)) as (λ b. cond b (Some (f x)) (find p (map f xs)) ≡ option_map f (cond b (Some x) (find (λ y. p (f y)) xs))) [ true ↦ refl | false ↦ find_map f p xs ]

filter_map : {X Y : Type 0} (f : X → Y) (p : Y → Bool) (xs : List X) → filter p (map f xs) ≡ map f (filter (λ x. p (f x)) xs)
filter_map f p [] = refl
filter_map f p (x ∷ xs) =
    elim (p (f x)) as (λ b. cond b (f x ∷ filter p (map f xs)) (filter p (map f xs)) ≡ map f (cond b (x ∷ filter (λ y. p (f y)) xs) (filter (λ y. p (f y)) xs))) [
      | true ↦ ap (λ ys. f x ∷ ys) (filter_map f p xs)
      | false ↦ filter_map f p xs
    ]

pub map_map : {X Y Z : Type 0} (f : X → Y) (g : Y → Z) (xs : List X) → map g (map f xs) ≡ map (λ x. g (f x)) xs
map_map f g [] = refl
map_map f g (x ∷ xs) = ap (λ ys. g (f x) ∷ ys) (map_map f g xs)

pub all_unmapped : {X Y : Type 0} (f : X → Y) (P : Y → Type 0) (xs : List X) → All P (map f xs) → All (λ x. P (f x)) xs
all_unmapped f P [] all = All-nil (λ x. P (f x))
all_unmapped f P (x ∷ xs) all = All-cons (λ y. P (f y)) x xs (All-head P (f x) (map f xs) all) (all_unmapped f P xs (All-tail P (f x) (map f xs) all))

-- ---- what is asked of a round
asked_same : (round : DirectRound) (h : History) (tag : ℕ) → RoundStands round h → list_any (λ t. t.tag == tag) round.asked.items ≡ is_asked (queries_of h) tag
asked_same round h tag s = ap (λ (xs : List AskedTag). list_any (λ t. t.tag == tag) xs) s.asked ∙ any_map asked_tag (λ t. t.tag == tag) (queries_of h)

full_same : (round : DirectRound) (h : History) → RoundStands round h → nat_le most_tags (length round.asked.items) ≡ is_full (queries_of h)
full_same round h s = ap (λ n. nat_le most_tags n) (ap (λ (xs : List AskedTag). length xs) s.asked ∙ length-map (queries_of h) asked_tag)

answered_same : (round : DirectRound) (h : History) (tag : ℕ) → RoundStands round h → list_any (λ a. a.tag == tag) round.answers.items ≡ is_answered (answers_of h) tag
answered_same round h tag s =
    sym (any_map answer_kept (λ a. a.tag == tag) round.answers.items) ∙ ap (λ (xs : List Answer). list_any (λ a. a.tag == tag) xs) s.answers ∙ any_map without_place (λ a. a.tag == tag) (answers_of h)

abbrev since_of : Option Query → Option ℕ
since_of found = option_map (λ q. q.asked.osc) found

since_found : (tag : ℕ) (found : Option Query) → option_map (λ (t : AskedTag). t.osc) (option_map asked_tag found) ≡ since_of found
since_found tag None = refl
since_found tag (Some q) = refl

open_same : (round : DirectRound) (h : History) (tag : ℕ) → RoundStands round h → open_since round tag ≡ since_of (open_query (queries_of h) (answers_of h) tag)
open_same round h tag s =
    let found : option_map (λ (t : AskedTag). t.osc) (find (λ t. t.tag == tag) round.asked.items) ≡ since_of (find (λ q. q.tag == tag) (queries_of h)) =
    ap (λ (xs : List AskedTag). option_map (λ (t : AskedTag). t.osc) (find (λ t. t.tag == tag) xs)) s.asked
    ∙ ap (λ found. option_map (λ (t : AskedTag). t.osc) found) (find_map asked_tag (λ t. t.tag == tag) (queries_of h)) ∙ since_found tag (find (λ q. q.tag == tag) (queries_of h)) in
    ap (λ b. cond b None (option_map (λ (t : AskedTag). t.osc) (find (λ t. t.tag == tag) round.asked.items))) (answered_same round h tag s)
    ∙ ap (λ o. cond (is_answered (answers_of h) tag) None o) found
    ∙ since_cond (is_answered (answers_of h) tag) (find (λ q. q.tag == tag) (queries_of h))
  where
    since_cond : (b : Bool) (found : Option Query) → cond b None (since_of found) ≡ since_of (cond b None found)
    since_cond true found = refl
    since_cond false found = refl

open_found : (found : Option Query) (asked : ℕ) → since_of found ≡ Some asked → (q : Query) × (found ≡ Some q) × (q.asked.osc ≡ asked)
open_found None asked is = cc
open_found (Some q) asked is = (q, refl, cc)

open_none : (found : Option Query) → since_of found ≡ None → found ≡ None
open_none None is = refl
open_none (Some q) is = cc

-- ---- the tags and the answers after an event
queries_live : (h : History) (e : Event) → is_live h e ≡ true → queries_of (followed_by h e) ≡ asked_after (queries_of h) (moment_of h e) e
unfolding queries_of
queries_live h e live = ap (λ b. cond b (asked_after (queries_of h) (moment_of h e) e) (queries_of h)) live

queries_dead : (h : History) (e : Event) → is_live h e ≡ false → queries_of (followed_by h e) ≡ queries_of h
unfolding queries_of
queries_dead h e dead = ap (λ b. cond b (asked_after (queries_of h) (moment_of h e) e) (queries_of h)) dead

answers_live : (h : History) (e : Event) → is_live h e ≡ true → answers_of (followed_by h e) ≡ answered_after (queries_of h) (answers_of h) (moment_of h e) e
unfolding answers_of
answers_live h e live = ap (λ b. cond b (answered_after (queries_of h) (answers_of h) (moment_of h e) e) (answers_of h)) live

answers_dead : (h : History) (e : Event) → is_live h e ≡ false → answers_of (followed_by h e) ≡ answers_of h
unfolding answers_of
answers_dead h e dead = ap (λ b. cond b (answered_after (queries_of h) (answers_of h) (moment_of h e) e) (answers_of h)) dead

pub stands_same : (old new : DirectRound) (h next : History) → RoundStands old h → new.asked.items ≡ old.asked.items → new.answers.items ≡ old.answers.items
    → queries_of next ≡ queries_of h → answers_of next ≡ answers_of h → RoundStands new next
stands_same old new h next s asked answers queries answered = record {
  asked = asked ∙ s.asked ∙ ap (map asked_tag) (sym queries);
  answers = ap (map answer_kept) answers ∙ s.answers ∙ ap (map without_place) (sym answered);
}

pub dead_round : (round : DirectRound) (h : History) (e : Event) → RoundStands round h → is_live h e ≡ false → RoundStands round (followed_by h e)
dead_round round h e s dead = stands_same round round h (followed_by h e) s refl refl (queries_dead h e dead) (answers_dead h e dead)

-- an event that asks, answers and adopts nothing leaves the round
pub aside_round : (round : DirectRound) (h : History) (e : Event) → RoundStands round h → asked_after (queries_of h) (moment_of h e) e ≡ queries_of h
    → answered_after (queries_of h) (answers_of h) (moment_of h e) e ≡ answers_of h → RoundStands round (followed_by h e)
aside_round round h e s asks answers = elim (is_live h e) as (λ b. is_live h e ≡ b → RoundStands round (followed_by h e)) [
  | true ↦ λ live. stands_same round round h (followed_by h e) s refl refl (queries_live h e live ∙ asks) (answers_live h e live ∙ answers)
  | false ↦ λ dead. dead_round round h e s dead
] refl

-- ---- a tag is asked
query_actions : (h : History) (osc tag : ℕ) (asked full : Bool) → is_asked (queries_of h) tag ≡ asked → is_full (queries_of h) ≡ full
    → live_actions h (event.Query osc tag) ≡ cond asked (noted_at osc (note.RepeatedTag tag) ∷ []) (cond full (noted_at osc note.TagsFull ∷ []) [])
query_actions h osc tag asked full is has =
    ap (λ a. cond a (noted_at osc (note.RepeatedTag tag) ∷ []) (cond (is_full (queries_of h)) (noted_at osc note.TagsFull ∷ []) [])) is
    ∙ ap (λ f. cond asked (noted_at osc (note.RepeatedTag tag) ∷ []) (cond f (noted_at osc note.TagsFull ∷ []) [])) has

query_after : (h : History) (osc tag : ℕ) (m : Moment) (asked full : Bool) → is_asked (queries_of h) tag ≡ asked → is_full (queries_of h) ≡ full
    → asked_after (queries_of h) m (event.Query osc tag) ≡ cond (asked || full) (queries_of h) (queries_of h ++ record { tag = tag; asked = m } ∷ [])
query_after h osc tag m asked full is has =
    ap (λ a. cond (a || is_full (queries_of h)) (queries_of h) (queries_of h ++ record { tag = tag; asked = m } ∷ [])) is
    ∙ ap (λ f. cond (asked || f) (queries_of h) (queries_of h ++ record { tag = tag; asked = m } ∷ [])) has

pub asks_again : (round : DirectRound) (osc tag : ℕ) → list_any (λ t. t.tag == tag) round.asked.items ≡ true
    → IsRoundStep round round (event.Query osc tag) (noted_at osc (note.RepeatedTag tag) ∷ [])
asks_again round osc tag again = record {
  gives = λ h s. query_actions h osc tag true (is_full (queries_of h)) (sym (asked_same round h tag s) ∙ again) refl;
  stands = λ h s live. stands_same round round h (followed_by h (event.Query osc tag)) s refl refl
      (queries_live h (event.Query osc tag) live ∙ query_after h osc tag (moment_of h (event.Query osc tag)) true (is_full (queries_of h)) (sym (asked_same round h tag s) ∙ again) refl)
      (answers_live h (event.Query osc tag) live);
}

pub asks_too_many : (round : DirectRound) (osc tag : ℕ) → list_any (λ t. t.tag == tag) round.asked.items ≡ false → nat_le most_tags (length round.asked.items) ≡ true
    → IsRoundStep round round (event.Query osc tag) (noted_at osc note.TagsFull ∷ [])
asks_too_many round osc tag new full = record {
  gives = λ h s. query_actions h osc tag false true (sym (asked_same round h tag s) ∙ new) (sym (full_same round h s) ∙ full);
  stands = λ h s live. stands_same round round h (followed_by h (event.Query osc tag)) s refl refl
      (queries_live h (event.Query osc tag) live
      ∙ query_after h osc tag (moment_of h (event.Query osc tag)) false true (sym (asked_same round h tag s) ∙ new) (sym (full_same round h s) ∙ full))
      (answers_live h (event.Query osc tag) live);
}

pub asks : (old new : DirectRound) (osc tag : ℕ) → list_any (λ t. t.tag == tag) old.asked.items ≡ false → nat_le most_tags (length old.asked.items) ≡ false
    → new.asked.items ≡ old.asked.items ++ record { tag = tag; osc = osc } ∷ [] → new.answers.items ≡ old.answers.items → IsRoundStep old new (event.Query osc tag) []
asks old new osc tag fresh room asked answers = record {
  gives = λ h s. query_actions h osc tag false false (sym (asked_same old h tag s) ∙ fresh) (sym (full_same old h s) ∙ room);
  stands = λ h s live.
      let m = moment_of h (event.Query osc tag) in
      let after = queries_live h (event.Query osc tag) live ∙ query_after h osc tag m false false (sym (asked_same old h tag s) ∙ fresh) (sym (full_same old h s) ∙ room) in record {
        asked = asked ∙ ap (λ xs. xs ++ record { tag = tag; osc = osc } ∷ []) s.asked ∙ sym (map-append asked_tag (queries_of h) (record { tag = tag; asked = m } ∷ [])) ∙ ap (map asked_tag) (sym after);
        answers = ap (map answer_kept) answers ∙ s.answers ∙ ap (map without_place) (sym (answers_live h (event.Query osc tag) live));
      };
}

-- ---- a tag is answered
pub answers_nothing : (round : DirectRound) (osc tag : ℕ) (i : Interval) → open_since round tag ≡ None
    → IsRoundStep round round (event.Source osc tag i) (noted_at osc (note.UnknownTag tag) ∷ [])
answers_nothing round osc tag i none = record {
  gives = λ h s.
      let is = open_none (open_query (queries_of h) (answers_of h) tag) (sym (open_same round h tag s) ∙ none) in
      ap (λ (found : Option Query). cond (is_some found) [] (noted_at osc (note.UnknownTag tag) ∷ [])) is;
  stands = λ h s live.
      let is = open_none (open_query (queries_of h) (answers_of h) tag) (sym (open_same round h tag s) ∙ none) in
      let m = moment_of h (event.Source osc tag i) in
      stands_same round round h (followed_by h (event.Source osc tag i)) s refl refl (queries_live h (event.Source osc tag i) live)
      (answers_live h (event.Source osc tag i) live ∙ ap (λ (found : Option Query). with_answer (answers_of h) (option_map (λ q. answer_of q m tag i) found)) is);
}

pub answers_one : (old new : DirectRound) (osc tag asked : ℕ) (i : Interval) → open_since old tag ≡ Some asked → new.asked.items ≡ old.asked.items
    → new.answers.items ≡ old.answers.items ++ record { tag = tag; asked = asked; got = osc; interval = i } ∷ [] → IsRoundStep old new (event.Source osc tag i) []
answers_one old new osc tag asked i unanswered tags answers = record {
  gives = λ h s.
      let found = open_found (open_query (queries_of h) (answers_of h) tag) asked (sym (open_same old h tag s) ∙ unanswered) in
      ap (λ (found : Option Query). cond (is_some found) [] (noted_at osc (note.UnknownTag tag) ∷ [])) found.1;
  stands = λ h s live.
      let found = open_found (open_query (queries_of h) (answers_of h) tag) asked (sym (open_same old h tag s) ∙ unanswered) in
      let m = moment_of h (event.Source osc tag i) in
      let after : answers_of (followed_by h (event.Source osc tag i)) ≡ answers_of h ++ answer_of found.0 m tag i ∷ [] =
      answers_live h (event.Source osc tag i) live ∙ ap (λ (found : Option Query). with_answer (answers_of h) (option_map (λ q. answer_of q m tag i) found)) found.1 in
      let one : answer_kept (record { tag = tag; asked = asked; got = osc; interval = i }) ≡ without_place (answer_of found.0 m tag i) =
      ap (λ a. answer_kept (record { tag = tag; asked = a; got = osc; interval = i })) (sym found.2) in record {
        asked = tags ∙ s.asked ∙ ap (map asked_tag) (sym (queries_live h (event.Source osc tag i) live));
        answers = ap (map answer_kept) answers ∙ map-append answer_kept old.answers.items (record { tag = tag; asked = asked; got = osc; interval = i } ∷ [])
            ∙ ap (λ xs. xs ++ answer_kept (record { tag = tag; asked = asked; got = osc; interval = i }) ∷ []) s.answers
            ∙ ap (λ a. map without_place (answers_of h) ++ a ∷ []) one
            ∙ sym (map-append without_place (answers_of h) (answer_of found.0 m tag i ∷ [])) ∙ ap (map without_place) (sym after);
      };
}

-- ---- a round ends
pub forgets : (new : DirectRound) (h : History) (osc required : ℕ) → new.asked.items ≡ [] → new.answers.items ≡ [] → is_live h (event.Adopt osc required) ≡ true
    → RoundStands new (followed_by h (event.Adopt osc required))
forgets new h osc required asked answers live = record {
  asked = asked ∙ ap (map asked_tag) (sym (queries_live h (event.Adopt osc required) live));
  answers = ap (map answer_kept) answers ∙ ap (map without_place) (sym (answers_live h (event.Adopt osc required) live));
}

-- nothing that a round gives depends on the positions
carried_same : (rates : Rates) (osc : ℕ) (answers : List Answer) → map (carried_to rates osc) (map without_place answers) ≡ map (carried_to rates osc) answers
carried_same rates osc answers = map_map without_place (carried_to rates osc) answers

outcome_placeless : (rates : Rates) (answers : List Answer) (required osc : ℕ) → outcome rates (map without_place answers) required osc ≡ outcome rates answers required osc
outcome_placeless rates answers required osc =
    by_count rates (map without_place answers) required osc
    ∙ ap (λ n. cond (nat_lt n required) (Short n required) (agreed n (adopted (map (carried_to rates osc) (map without_place answers))))) (length-map answers without_place)
    ∙ ap (λ xs. cond (nat_lt (length answers) required) (Short (length answers) required) (agreed (length answers) (adopted xs))) (carried_same rates osc answers)
    ∙ sym (by_count rates answers required osc)

named_placeless : (e : Event) (rates : Rates) (answers : List Answer) (i : ℤ × ℤ) → named_false e rates (map without_place answers) i ≡ named_false e rates answers i
named_placeless e rates answers i =
    ap (λ (xs : List Answer). map (λ a. noted e (note.False (source.Tag a.tag))) xs) (filter_map without_place (λ a. are_apart (carried_to rates (event_osc e) a) i) answers)
    ∙ map_map without_place (λ a. noted e (note.False (source.Tag a.tag))) (filter (λ a. are_apart (carried_to rates (event_osc e) a) i) answers)

pub outcome_same : (round : DirectRound) (h : History) (rates : Rates) (required osc : ℕ) → RoundStands round h
    → outcome rates (answers_kept round) required osc ≡ outcome rates (answers_of h) required osc
outcome_same round h rates required osc s = ap (λ xs. outcome rates xs required osc) s.answers ∙ outcome_placeless rates (answers_of h) required osc

actions_placeless : (e : Event) (rates : Rates) (rec : ClockRecord) (answers : List Answer) (o : Outcome)
    → outcome_actions e rates rec (map without_place answers) o ≡ outcome_actions e rates rec answers o
actions_placeless e rates rec answers (Waiting n deadline) = refl
actions_placeless e rates rec answers (Short n required) = refl
actions_placeless e rates rec answers (Split n) = refl
actions_placeless e rates rec answers (Adopted n i) = ap (λ xs. noted e (note.Adopted n i.0 i.1) ∷ xs ++ changes e rates rec i) (named_placeless e rates answers i)

pub actions_same : (round : DirectRound) (h : History) (e : Event) (rates : Rates) (rec : ClockRecord) (o : Outcome) → RoundStands round h
    → outcome_actions e rates rec (answers_kept round) o ≡ outcome_actions e rates rec (answers_of h) o
actions_same round h e rates rec o s = ap (λ xs. outcome_actions e rates rec xs o) s.answers ∙ actions_placeless e rates rec (answers_of h) o

-- the notes on the false answers
pub named_same : (osc required : ℕ) (rates : Rates) (items : List TagAnswer) (i : ℤ × ℤ)
    → named_false (event.Adopt osc required) rates (map answer_kept items) i ≡ false_notes rates osc i items
named_same osc required rates items i =
    ap (λ (xs : List Answer). map (λ a. noted_at osc (note.False (source.Tag a.tag))) xs) (filter_map answer_kept (λ a. are_apart (carried_to rates osc a) i) items)
    ∙ map_map answer_kept (λ a. noted_at osc (note.False (source.Tag a.tag))) (filter (λ a. are_apart (carried_to rates osc (answer_kept a)) i) items)
