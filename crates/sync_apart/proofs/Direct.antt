-- Direct rounds, without positions: what is asked and answered, and what comes of it, is as it was.
use Rattle.std.proofs.Common.{◌≡◌, ℕ, Bool, true, false, List, [], ◌∷◌, ◌++◌, Option, Some, None, refl, sym, ap, ap₂, ◌∙◌}
use Rattle.std.specs.Prelude.{◌||◌, ◌==◌, nat_le, if◌then◌else◌, map, filter, find, is_some, option_map}
use Rattle.std.proofs.lemmas.List.{length-map, map-append}
use Rattle.slew_clock.specs.declared.rates.Rates.{Rates}
use Rattle.slew_clock.specs.declared.record.ClockRecord.{ClockRecord}
use Rattle.clerk.specs.Outcome.{Outcome, Short, Split, Adopted, concluded}
use Rattle.dts_capture.specs.declared.event.Event.{Event}
use Rattle.dts_capture.specs.declared.event.Event.TheVariants as event
use Rattle.dts_capture.specs.declared.action.Action.{Action}
use Rattle.dts_capture.specs.declared.action.NoteKind.TheVariants as note
use Rattle.dts_capture.specs.declared.action.FalseSource.TheVariants as source
use Rattle.dts_capture.specs.Grammar.{most_tags}
use Rattle.sync_rules.specs.History.{event_osc}
use Rattle.sync_rules.specs.Rounds.{Moment, Query, Answer, is_asked, is_answered, is_full, asked_after, open_query, with_answer, answer_of, answered_after, carried_to, outcome, are_apart}
use Rattle.sync_rules.specs.Rules.{noted, changes, outcome_actions}
use Rattle.sync_apart.proofs.Lookups.{plain_moment, plain_answer}

abbrev pub plain_query : Query → Query
plain_query q = record { tag = q.tag; asked = plain_moment q.asked }

-- ---- tests of tags
pub asked_so : (queries : List Query) (tag : ℕ) → is_asked queries tag ≡ is_asked (map plain_query queries) tag
asked_so [] tag = refl
asked_so (q ∷ queries) tag = ap (λ (b : Bool). (q.tag == tag) || b) (asked_so queries tag)

answered_so : (answers : List Answer) (tag : ℕ) → is_answered answers tag ≡ is_answered (map plain_answer answers) tag
answered_so [] tag = refl
answered_so (a ∷ answers) tag = ap (λ (b : Bool). (a.tag == tag) || b) (answered_so answers tag)

pub full_so : (queries : List Query) → is_full queries ≡ is_full (map plain_query queries)
full_so queries = ap (nat_le most_tags) (sym (length-map queries plain_query))

first_so : (queries : List Query) (tag : ℕ)
    → option_map plain_query (find (λ q. q.tag == tag) queries) ≡ find (λ q. q.tag == tag) (map plain_query queries)
first_so [] tag = refl
first_so (q ∷ queries) tag = first_or (q.tag == tag) _ _ (first_so queries tag)
  where
    first_or : (b : Bool) (x y : Option Query) → option_map plain_query x ≡ y
        → option_map plain_query (if b then Some q else x) ≡ (if b then Some (plain_query q) else y)
    first_or true x y same = refl
    first_or false x y same = same

pub open_so : (queries : List Query) (answers : List Answer) (tag : ℕ)
    → option_map plain_query (open_query queries answers tag) ≡ open_query (map plain_query queries) (map plain_answer answers) tag
open_so queries answers tag =
    unless (is_answered answers tag)
    ∙ ap₂ (λ (b : Bool) (o : Option Query). if b then None else o) (answered_so answers tag) (first_so queries tag)
  where
    unless : (b : Bool) → option_map plain_query (if b then None else find (λ q. q.tag == tag) queries)
        ≡ (if b then None else option_map plain_query (find (λ q. q.tag == tag) queries))
    unless true = refl
    unless false = refl

pub some_so : (o : Option Query) → is_some o ≡ is_some (option_map plain_query o)
some_so None = refl
some_so (Some q) = refl

-- ---- what is asked and answered after an event
asked_after_so : (queries : List Query) (now : Moment) (e : Event)
    → map plain_query (asked_after queries now e) ≡ asked_after (map plain_query queries) (plain_moment now) e
asked_after_so queries now (event.Query osc tag) =
    unless (is_asked queries tag || is_full queries)
    ∙ ap₂ (λ (a b : Bool). if a || b then map plain_query queries
    else map plain_query queries ++ record { tag = tag; asked = plain_moment now } ∷ []) (asked_so queries tag) (full_so queries)
  where
    unless : (b : Bool) → map plain_query (if b then queries else queries ++ record { tag = tag; asked = now } ∷ [])
        ≡ (if b then map plain_query queries else map plain_query queries ++ record { tag = tag; asked = plain_moment now } ∷ [])
    unless true = refl
    unless false = map-append plain_query queries (record { tag = tag; asked = now } ∷ [])
asked_after_so queries now (event.Adopt osc required) = refl
asked_after_so queries now _ = refl

answered_after_so : (queries : List Query) (answers : List Answer) (now : Moment) (e : Event)
    → map plain_answer (answered_after queries answers now e)
    ≡ answered_after (map plain_query queries) (map plain_answer answers) (plain_moment now) e
answered_after_so queries answers now (event.Source osc tag i) =
    answering (open_query queries answers tag)
    ∙ ap (λ o. with_answer (map plain_answer answers) (option_map (λ (q : Query). answer_of q (plain_moment now) tag i) o))
    (open_so queries answers tag)
  where
    answering : (o : Option Query) → map plain_answer (with_answer answers (option_map (λ q. answer_of q now tag i) o))
        ≡ with_answer (map plain_answer answers) (option_map (λ q. answer_of q (plain_moment now) tag i) (option_map plain_query o))
    answering None = refl
    answering (Some q) = map-append plain_answer answers (answer_of q now tag i ∷ [])
answered_after_so queries answers now (event.Adopt osc required) = refl
answered_after_so queries answers now _ = refl

-- where it is live, and else as before
pub asked_if_so : (live : Bool) (queries : List Query) (now : Moment) (e : Event)
    → map plain_query (if live then asked_after queries now e else queries)
    ≡ (if live then asked_after (map plain_query queries) (plain_moment now) e else map plain_query queries)
asked_if_so true queries now e = asked_after_so queries now e
asked_if_so false queries now e = refl

pub answered_if_so : (live : Bool) (queries : List Query) (answers : List Answer) (now : Moment) (e : Event)
    → map plain_answer (if live then answered_after queries answers now e else answers)
    ≡ (if live then answered_after (map plain_query queries) (map plain_answer answers) (plain_moment now) e else map plain_answer answers)
answered_if_so true queries answers now e = answered_after_so queries answers now e
answered_if_so false queries answers now e = refl

-- ---- what comes of answers
pub carried_so : (rates : Rates) (osc : ℕ) (answers : List Answer)
    → map (carried_to rates osc) answers ≡ map (carried_to rates osc) (map plain_answer answers)
carried_so rates osc [] = refl
carried_so rates osc (a ∷ answers) = ap (λ xs. carried_to rates osc a ∷ xs) (carried_so rates osc answers)

-- what is told of those that a test takes, where neither reads a position
pub told_so : (tell : Answer → Action) (test : Answer → Bool) → ((a : Answer) → tell (plain_answer a) ≡ tell a)
    → ((a : Answer) → test (plain_answer a) ≡ test a) → (answers : List Answer)
    → map tell (filter test answers) ≡ map tell (filter test (map plain_answer answers))
told_so tell test tells tests [] = refl
told_so tell test tells tests (a ∷ answers) =
    telling (test a) (told_so tell test tells tests answers)
    ∙ ap (λ (b : Bool). map tell
    (if b then plain_answer a ∷ filter test (map plain_answer answers) else filter test (map plain_answer answers)))
    (sym (tests a))
  where
    telling : (b : Bool) → map tell (filter test answers) ≡ map tell (filter test (map plain_answer answers))
        → map tell (if b then a ∷ filter test answers else filter test answers)
        ≡ map tell (if b then plain_answer a ∷ filter test (map plain_answer answers) else filter test (map plain_answer answers))
    telling true same = ap₂ ◌∷◌ (sym (tells a)) same
    telling false same = same

outcome_so : (rates : Rates) (answers : List Answer) (required osc : ℕ)
    → outcome rates answers required osc ≡ outcome rates (map plain_answer answers) required osc
unfolding outcome
outcome_so rates answers required osc = ap (λ xs. concluded required xs None) (carried_so rates osc answers)

outcome_actions_so : (e : Event) (rates : Rates) (rec : ClockRecord) (answers : List Answer) (o : Outcome)
    → outcome_actions e rates rec answers o ≡ outcome_actions e rates rec (map plain_answer answers) o
outcome_actions_so e rates rec answers (Short answered required) = refl
outcome_actions_so e rates rec answers (Split n) = refl
outcome_actions_so e rates rec answers (Adopted n i) =
    ap (λ falses. noted e (note.Adopted n i.0 i.1) ∷ falses ++ changes e rates rec i)
    (told_so (λ a. noted e (note.False (source.Tag a.tag))) (λ a. are_apart (carried_to rates (event_osc e) a) i)
    (λ a. refl) (λ a. refl) answers)
outcome_actions_so e rates rec answers _ = refl

-- what an adoption gives
pub adopting_so : (e : Event) (rates : Rates) (rec : ClockRecord) (answers : List Answer) (required : ℕ)
    → outcome_actions e rates rec answers (outcome rates answers required (event_osc e))
    ≡ outcome_actions e rates rec (map plain_answer answers) (outcome rates (map plain_answer answers) required (event_osc e))
adopting_so e rates rec answers required =
    outcome_actions_so e rates rec answers (outcome rates answers required (event_osc e))
    ∙ ap (outcome_actions e rates rec (map plain_answer answers)) (outcome_so rates answers required (event_osc e))
