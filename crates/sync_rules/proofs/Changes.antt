-- How an event changes the current record.
use Rattle.std.proofs.Common.{◌≡◌, ℕ, ◌+◌, true, false, cond, List, [], ◌∷◌, ◌++◌, Option, Some, None, refl, sym, ap, ◌∙◌, subst}
use Rattle.std.specs.Prelude.{ℤ, is_some, filter, map}
use Rattle.slew_clock.specs.declared.rates.Rates.{Rates}
use Rattle.slew_clock.specs.declared.record.ClockRecord.{ClockRecord}
use Rattle.slew_clock.specs.Line.{line}
use Rattle.slew_clock.specs.Change.{middle_of, changed_record, renewed_record}
use Rattle.dts_capture.specs.declared.event.Event.{Event}
use Rattle.dts_capture.specs.declared.event.Event.TheVariants as event
use Rattle.dts_capture.specs.declared.action.Action.{Action}
use Rattle.dts_capture.specs.declared.action.Action.TheVariants as action
use Rattle.dts_capture.specs.declared.action.NoteKind.TheVariants as note
use Rattle.dts_capture.specs.declared.action.FalseSource.TheVariants as source
use Rattle.sync_rules.specs.History.{History, Then, Sync, event_part, event_osc, published, current_record}
use Rattle.sync_rules.specs.Live.{is_live}
use Rattle.sync_rules.specs.Rounds.{Answer, queries_of, answers_of, is_asked, is_full, open_query, carried_to, are_apart, outcome}
use Rattle.clerk.specs.Outcome.{Outcome, Waiting, Short, Split, Adopted}
use Rattle.sync_rules.specs.Rules.{rates_of, actions_of, live_actions, regressed_actions, outcome_actions, named_false, changes, steps_to, publication, noted, closes}
use Rattle.sync_rules.proofs.Choices.{both}

-- The event makes this record from the current one: it leaves it, renews it, or adopts an interval.
pub data Change (h : History) (e : Event) (next : ClockRecord) : Type 0 where
  same : next ≡ current_record h → Change h e next
  renewal : is_live h e ≡ true → event_part e ≡ Sync → renewed_record (rates_of h) (current_record h) (event_osc e) ≡ Some next → Change h e next
  adoption : (required n : ℕ) (i : ℤ × ℤ) → is_live h e ≡ true → e ≡ event.Adopt (event_osc e) required
      → outcome (rates_of h) (answers_of h) required (event_osc e) ≡ Adopted n i → next ≡ changed_record (rates_of h) (current_record h) (event_osc e) i → Change h e next

pub published-append : (rec : ClockRecord) (xs ys : List Action) → published rec (xs ++ ys) ≡ published (published rec xs) ys
published-append rec [] ys = refl
published-append rec (action.Publish next ∷ xs) ys = published-append next xs ys
published-append rec (action.Log note ∷ xs) ys = published-append rec xs ys
published-append rec (action.Send osc peer bytes ∷ xs) ys = published-append rec xs ys
published-append rec (action.Close osc peer ∷ xs) ys = published-append rec xs ys

-- notes publish nothing
pub notes_publish_none : (e : Event) (rec : ClockRecord) (answers : List Answer) → published rec (map (λ a. noted e (note.False (source.Tag a.tag))) answers) ≡ rec
notes_publish_none e rec [] = refl
notes_publish_none e rec (a ∷ answers) = notes_publish_none e rec answers

pub changes_publish : (e : Event) (rates : Rates) (rec : ClockRecord) (i : ℤ × ℤ) → published rec (changes e rates rec i) ≡ changed_record rates rec (event_osc e) i
changes_publish e rates rec i =
    elim (steps_to rates rec (event_osc e) i) as (λ b. published rec (cond b (noted e (note.Step (rec.step + 1) (line rates rec (event_osc e)) (middle_of i)) ∷ []) []
    ++ action.Publish (changed_record rates rec (event_osc e) i) ∷ []) ≡ changed_record rates rec (event_osc e) i) [ true ↦ refl | false ↦ refl ]

outcome_publishes : (h : History) (e : Event) (required : ℕ) (o : Outcome) → is_live h e ≡ true → e ≡ event.Adopt (event_osc e) required
    → outcome (rates_of h) (answers_of h) required (event_osc e) ≡ o → Change h e (published (current_record h) (outcome_actions e (rates_of h) (current_record h) (answers_of h) o))
outcome_publishes h e required (Waiting u d) live is comes = same refl
outcome_publishes h e required (Short a r) live is comes = same refl
outcome_publishes h e required (Split n) live is comes = same refl
outcome_publishes h e required (Adopted n i) live is comes =
    adoption required n i live is comes
    (published-append (current_record h) (named_false e (rates_of h) (answers_of h) i) (changes e (rates_of h) (current_record h) i)
    ∙ ap (λ r. published r (changes e (rates_of h) (current_record h) i)) (notes_publish_none e (current_record h) (filter (λ a. are_apart (carried_to (rates_of h) (event_osc e) a) i) (answers_of h)))
    ∙ changes_publish e (rates_of h) (current_record h) i)

renewal_publishes : (h : History) (e : Event) (next : Option ClockRecord) → is_live h e ≡ true → event_part e ≡ Sync
    → renewed_record (rates_of h) (current_record h) (event_osc e) ≡ next → Change h e (published (current_record h) (publication next))
renewal_publishes h e None live sync is = same refl
renewal_publishes h e (Some next) live sync is = renewal live sync is

closes_none : (e : Event) (rec : ClockRecord) → published rec (closes e) ≡ rec
closes_none (event.Tick osc word) rec = refl
closes_none (event.Stream osc peer bytes) rec = refl
closes_none (event.Gram osc peer bytes) rec = refl
closes_none (event.Lost osc peer) rec = refl
closes_none (event.Unsent osc peer) rec = refl
closes_none (event.Read osc) rec = refl
closes_none (event.Ask osc conn bytes) rec = refl
closes_none (event.Query osc tag) rec = refl
closes_none (event.Source osc tag i) rec = refl
closes_none (event.Adopt osc required) rec = refl

live_change : (h : History) (e : Event) → is_live h e ≡ true → Change h e (published (current_record h) (live_actions h e))
live_change h (event.Tick osc word) live = renewal_publishes h (event.Tick osc word) (renewed_record (rates_of h) (current_record h) osc) live refl refl
live_change h (event.Stream osc peer bytes) live = same refl
live_change h (event.Gram osc peer bytes) live = same refl
live_change h (event.Lost osc peer) live = same refl
live_change h (event.Unsent osc peer) live = same refl
live_change h (event.Read osc) live = same refl
live_change h (event.Ask osc conn bytes) live = same refl
live_change h (event.Query osc tag) live =
    both (is_asked (queries_of h) tag) _ _ (λ xs. Change h (event.Query osc tag) (published (current_record h) xs)) (λ _. same refl)
    (λ _. both (is_full (queries_of h)) _ _ (λ xs. Change h (event.Query osc tag) (published (current_record h) xs)) (λ _. same refl) (λ _. same refl))
live_change h (event.Source osc tag i) live =
    both (is_some (open_query (queries_of h) (answers_of h) tag)) _ _ (λ xs. Change h (event.Source osc tag i) (published (current_record h) xs)) (λ _. same refl) (λ _. same refl)
live_change h (event.Adopt osc required) live =
    outcome_publishes h (event.Adopt osc required) required (outcome (rates_of h) (answers_of h) required osc) live refl refl

-- the record after an event is the one before, or one of the changes
pub change_of : (h : History) (e : Event) → Change h e (published (current_record h) (actions_of h e))
unfolding actions_of
change_of h e =
    both (is_live h e) (live_actions h e) (regressed_actions h e) (λ xs. Change h e (published (current_record h) xs))
    (λ live. live_change h e live) (λ dead. same (closes_none e (current_record h)))

pub current_then : (h : History) (e : Event) (actions : List Action) → actions ≡ actions_of h e → Change h e (current_record (Then h e actions))
unfolding current_record
current_then h e actions given = subst (λ xs. Change h e (published (current_record h) xs)) (sym given) (change_of h e)
