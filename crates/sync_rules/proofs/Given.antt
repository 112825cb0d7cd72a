-- What the actions of an event can be: which of them are readings, name a step, or name a false source.
use Rattle.std.proofs.Common.{◌≡◌, ℕ, Bool, true, false, cond, List, [], ◌∷◌, ◌++◌, Option, Some, None, refl}
use Rattle.std.specs.Prelude.{ℤ, All, map, filter, is_some}
use Rattle.std.proofs.lemmas.List.Elements.{All-nil, All-cons, All-append, All-head, All-tail}
use Rattle.slew_clock.specs.declared.record.ClockRecord.{ClockRecord}
use Rattle.slew_clock.specs.Change.{renewed_record}
use Rattle.dts_capture.specs.declared.event.Event.{Event}
use Rattle.dts_capture.specs.declared.event.Event.TheVariants as event
use Rattle.dts_capture.specs.declared.action.Action.{Action}
use Rattle.dts_capture.specs.declared.action.Action.TheVariants as action
use Rattle.dts_capture.specs.declared.action.NoteKind.TheVariants as note
use Rattle.dts_capture.specs.declared.action.FalseSource.TheVariants as source
use Rattle.sync_rules.specs.History.{History, event_osc, current_record}
use Rattle.sync_rules.specs.Live.{is_live}
use Rattle.sync_rules.specs.Rounds.{Answer, queries_of, answers_of, is_asked, is_full, open_query, carried_to, are_apart, outcome}
use Rattle.clerk.specs.Outcome.{Outcome, Waiting, Short, Split, Adopted}
use Rattle.sync_rules.specs.Rules.{rates_of, noted, reading_of, publication, changes, steps_to, named_false, outcome_actions, live_actions, regressed_actions, closes, actions_of}
use Rattle.sync_rules.proofs.Choices.{both}

-- What holds of every action but readings and named sources holds of all actions of an event, if it holds of the reading that a
-- live read gives and of the sources that an adoption names.
pub record Holds (P : Action → Type 0) (h : History) (e : Event) : Type 0 where
  pub published : (rec : ClockRecord) → P (action.Publish rec)
  pub closed : (osc peer : ℕ) → P (action.Close osc peer)
  pub regressed : (floor : ℕ) → P (noted e (note.Regressed floor))
  pub repeated : (tag : ℕ) → P (noted e (note.RepeatedTag tag))
  pub full : P (noted e note.TagsFull)
  pub unknown : (tag : ℕ) → P (noted e (note.UnknownTag tag))
  pub short : (answered required : ℕ) → P (noted e (note.Short answered required))
  pub split : (n : ℕ) → P (noted e (note.Split n))
  pub adopted : (n : ℕ) (lo hi : ℤ) → P (noted e (note.Adopted n lo hi))
  pub stepped : (step : ℕ) (old new : ℤ) → P (noted e (note.Step step old new))
  pub named : (required n : ℕ) (i : ℤ × ℤ) → is_live h e ≡ true → e ≡ event.Adopt (event_osc e) required → outcome (rates_of h) (answers_of h) required (event_osc e) ≡ Adopted n i
      → All (λ a. are_apart (carried_to (rates_of h) (event_osc e) a) i ≡ true → P (noted e (note.False (source.Tag a.tag)))) (answers_of h)
  pub read : is_live h e ≡ true → e ≡ event.Read (event_osc e) → P (noted e (reading_of h (event_osc e)))

filter_one : (P : Action → Type 0) (g : Answer → Action) (a : Answer) (rest : List Answer) (b : Bool) → (b ≡ true → P (g a)) → All P (map g rest) → All P (map g (cond b (a ∷ rest) rest))
filter_one P g a rest true h all = All-cons P (g a) (map g rest) (h refl) all
filter_one P g a rest false h all = all

filtered : (P : Action → Type 0) (g : Answer → Action) (p : Answer → Bool) (answers : List Answer) → All (λ a. p a ≡ true → P (g a)) answers → All P (map g (filter p answers))
filtered P g p [] all = All-nil P
filtered P g p (a ∷ answers) all =
    filter_one P g a (filter p answers) (p a) (All-head (λ x. p x ≡ true → P (g x)) a answers all)
    (filtered P g p answers (All-tail (λ x. p x ≡ true → P (g x)) a answers all))

only : (P : Action → Type 0) (a : Action) → P a → All P (a ∷ [])
only P a h = All-cons P a [] h (All-nil P)

publication_all : (P : Action → Type 0) (found : Option ClockRecord) → ((rec : ClockRecord) → P (action.Publish rec)) → All P (publication found)
publication_all P None h = All-nil P
publication_all P (Some rec) h = only P (action.Publish rec) (h rec)

outcome_all : (P : Action → Type 0) (h : History) (e : Event) (required : ℕ) (o : Outcome) → Holds P h e → is_live h e ≡ true → e ≡ event.Adopt (event_osc e) required
    → outcome (rates_of h) (answers_of h) required (event_osc e) ≡ o → All P (outcome_actions e (rates_of h) (current_record h) (answers_of h) o)
outcome_all P h e required (Waiting u d) holds live is comes = All-nil P
outcome_all P h e required (Short a r) holds live is comes = only P (noted e (note.Short a r)) (holds.short a r)
outcome_all P h e required (Split n) holds live is comes = only P (noted e (note.Split n)) (holds.split n)
outcome_all P h e required (Adopted n i) holds live is comes =
    All-cons P (noted e (note.Adopted n i.0 i.1)) (named_false e (rates_of h) (answers_of h) i ++ changes e (rates_of h) (current_record h) i) (holds.adopted n i.0 i.1)
    (All-append P (named_false e (rates_of h) (answers_of h) i) (changes e (rates_of h) (current_record h) i)
    (filtered P (λ a. noted e (note.False (source.Tag a.tag))) (λ a. are_apart (carried_to (rates_of h) (event_osc e) a) i) (answers_of h) (holds.named required n i live is comes))
    (All-append P _ _ (both (steps_to (rates_of h) (current_record h) (event_osc e) i) _ _ (All P) (λ _. only P _ (holds.stepped _ _ _)) (λ _. All-nil P)) (only P _ (holds.published _))))

live_all : (P : Action → Type 0) (h : History) (e : Event) → Holds P h e → is_live h e ≡ true → All P (live_actions h e)
live_all P h (event.Tick osc word) holds live = publication_all P (renewed_record (rates_of h) (current_record h) osc) holds.published
live_all P h (event.Stream osc peer bytes) holds live = All-nil P
live_all P h (event.Gram osc peer bytes) holds live = All-nil P
live_all P h (event.Lost osc peer) holds live = All-nil P
live_all P h (event.Unsent osc peer) holds live = All-nil P
live_all P h (event.Read osc) holds live = only P (noted (event.Read osc) (reading_of h osc)) (holds.read live refl)
live_all P h (event.Ask osc conn bytes) holds live = All-nil P
live_all P h (event.Query osc tag) holds live =
    both (is_asked (queries_of h) tag) _ _ (All P) (λ _. only P _ (holds.repeated tag)) (λ _. both (is_full (queries_of h)) _ _ (All P) (λ _. only P _ holds.full) (λ _. All-nil P))
live_all P h (event.Source osc tag i) holds live =
    both (is_some (open_query (queries_of h) (answers_of h) tag)) _ _ (All P) (λ _. All-nil P) (λ _. only P _ (holds.unknown tag))
live_all P h (event.Adopt osc required) holds live =
    outcome_all P h (event.Adopt osc required) required (outcome (rates_of h) (answers_of h) required osc) holds live refl refl

closes_all : (P : Action → Type 0) (e : Event) → ((osc peer : ℕ) → P (action.Close osc peer)) → All P (closes e)
closes_all P (event.Tick osc word) h = All-nil P
closes_all P (event.Stream osc peer bytes) h = only P _ (h osc peer)
closes_all P (event.Gram osc peer bytes) h = All-nil P
closes_all P (event.Lost osc peer) h = All-nil P
closes_all P (event.Unsent osc peer) h = All-nil P
closes_all P (event.Read osc) h = All-nil P
closes_all P (event.Ask osc conn bytes) h = only P _ (h osc conn)
closes_all P (event.Query osc tag) h = All-nil P
closes_all P (event.Source osc tag i) h = All-nil P
closes_all P (event.Adopt osc required) h = All-nil P

pub given_all : (P : Action → Type 0) (h : History) (e : Event) → Holds P h e → All P (actions_of h e)
unfolding actions_of
given_all P h e holds =
    both (is_live h e) (live_actions h e) (regressed_actions h e) (All P) (λ live. live_all P h e holds live)
    (λ dead. All-cons P _ (closes e) (holds.regressed _) (closes_all P e holds.closed))
