-- The current record of a history is sound, and records follow on one another.
use Rattle.std.proofs.Common.{◌∙◌, sym, ◌≡◌, ◌⊎◌, inl, inr, ℕ, ◌+◌, ◌-◌, ◌*◌, ◌≤◌, ◌^◌, Bool, true, false, cond, List, length, Option, Some, None, MatchOption, refl, sym, ap, subst, arith}
use Rattle.std.specs.Prelude.{ℤ, pos, ◌≤ℤ◌, All, map, nat_lt, IfSome, is_none, ◌||◌}
use Rattle.std.proofs.lemmas.Int.{ints}
use Rattle.std.proofs.Math.Nat.{mul-le-mul_left}
use Rattle.std.proofs.lemmas.List.Elements.{All-map, All-weaker, All-contains}
use Rattle.intersection.specs.Adoption.{IsAdopted, NoneIsAgreed}
use Rattle.intersection.specs.Adopted.{adopted}
use Rattle.intersection.proofs.PointLaws.{agreed_low, agreed_high}
use Rattle.intersection.proofs.AdoptionLaws.{adopted_is, adopted_ordered}
use Rattle.slew_clock.specs.declared.limits.TheConstants.{GREATEST_OSC, GREATEST_ANCHOR}
use Rattle.slew_clock.specs.declared.rates.Rates.{Rates}
use Rattle.slew_clock.specs.declared.record.ClockRecord.{ClockRecord}
use Rattle.slew_clock.specs.Elapsed.{most, drift_of}
use Rattle.slew_clock.specs.Record.{IsSound}
use Rattle.slew_clock.specs.Started.{StartsWithin}
use Rattle.slew_clock.specs.Change.{IsInRange, changed_record, renewed_record, is_far}
use Rattle.slew_clock.specs.Clock.{IsNext}
use Rattle.slew_clock.specs.Clock.IsNext.{anchored, stepped, renewed}
use Rattle.slew_clock.proofs.StartLaws.{started_sound}
use Rattle.slew_clock.proofs.ChangeLaws.{changed_sound, prolonged_sound, resumed_sound}
use Rattle.slew_clock.proofs.ClockLaws.{Renewal, renewal, IsSince, IsSince-same, IsSince-after, IsSince-next}
use Rattle.slew_clock.proofs.ClockLaws.Renewal.{prolonged, resumed}
use Rattle.dts_base.specs.declared.interval.Interval.{Interval}
use Rattle.dts_capture.specs.declared.event.Event.{Event}
use Rattle.dts_capture.specs.declared.event.Event.TheVariants as event
use Rattle.dts_capture.specs.declared.action.Action.{Action}
use Rattle.sync_rules.specs.History.{History, Settings, Begun, Then, Sync, Start, event_part, event_osc, first_record, current_record, IsPositionOf}
use Rattle.sync_rules.specs.Live.{live_osc, is_live}
use Rattle.sync_rules.specs.Rounds.{Answer, answers_of, carried_to, outcome}
use Rattle.clerk.specs.Outcome.{Adopted, Short, agreed}
use Rattle.sync_rules.specs.Rules.{rates_of, IsRuled}
use Rattle.sync_rules.specs.Ranges.{IsTime, IsEventInRange, IsInRange as HistoryInRange}
use Rattle.sync_rules.proofs.Choices.{both}
use Rattle.sync_rules.proofs.Concluding.{by_count}
use Rattle.sync_rules.proofs.Changes.{Change, current_then}
use Rattle.sync_rules.proofs.Changes.Change.{same, renewal as renews, adoption}
use Rattle.sync_rules.proofs.Moments.{IsAnswerOf, AreAnswersOf, answers_are, sync_live, sync_grows, sync_above}

-- ---- what is adopted
outcome_cases : (rates : Rates) (answers : List Answer) (required osc n : ℕ) (i : ℤ × ℤ) (b : Bool) (found : Option (ℤ × ℤ))
    → cond b (Short (length answers) required) (agreed (length answers) found) ≡ Adopted n i → (found ≡ Some i) × (n ≡ length answers) × (b ≡ false)
outcome_cases rates answers required osc n i true found is = cc
outcome_cases rates answers required osc n i false None is = cc
outcome_cases rates answers required osc n i false (Some j) is = (cc, cc, refl)

pub outcome_adopted : (rates : Rates) (answers : List Answer) (required osc n : ℕ) (i : ℤ × ℤ) → outcome rates answers required osc ≡ Adopted n i
    → (adopted (map (carried_to rates osc) answers) ≡ Some i) × (n ≡ length answers) × (nat_lt (length answers) required ≡ false)
outcome_adopted rates answers required osc n i is =
    outcome_cases rates answers required osc n i (nat_lt (length answers) required) (adopted (map (carried_to rates osc) answers))
    (sym (by_count rates answers required osc) ∙ is)

pub is_adopted : (s : List (ℤ × ℤ)) (i : ℤ × ℤ) → adopted s ≡ Some i → IsAdopted s i
is_adopted s i is = subst (λ o. MatchOption o (NoneIsAgreed s) (IsAdopted s)) is (adopted_is s)

-- ---- carried answers are in their ranges
most_small : (r : Rates) (x : ℕ) → x ≤ GREATEST_OSC → most r x ≤ 2 ^ 61
most_small r x small =
    let drift : drift_of r x * 100 ≤ x + 100 = omega (arith, mul-le-mul_left x r.drift_in_range) in
    let resolution = r.resolution_in_range in
    omega (arith, drift, resolution)

abbrev IsCarried : ℤ × ℤ → Type 0
IsCarried i = (pos 0 ≤ℤ i.0) × (i.1 ≤ℤ GREATEST_ANCHOR)

carried_in_range : (h : History) (rates : Rates) (osc : ℕ) (a : Answer) → osc ≤ GREATEST_OSC → IsAnswerOf h a → IsCarried (carried_to rates osc a)
carried_in_range h rates osc a small is =
    let high = most_small rates (osc - a.asked.osc) (omega arith) in
    (omega (arith, ints, is.low), omega (arith, ints, is.high, high))

pub adopted_in_range : (h : History) (rates : Rates) (osc : ℕ) (answers : List Answer) (i : ℤ × ℤ) → osc ≤ GREATEST_OSC → AreAnswersOf h answers
    → adopted (map (carried_to rates osc) answers) ≡ Some i → IsInRange i × (i.0 ≤ℤ i.1)
adopted_in_range h rates osc answers i small are is =
    let s = map (carried_to rates osc) answers in
    let a = is_adopted s i is in
    let all : All IsCarried s = All-map IsCarried (carried_to rates osc) answers (All-weaker (IsAnswerOf h) (λ x. IsCarried (carried_to rates osc x)) (λ x h. carried_in_range _ rates osc x small h) answers are) in
    let low = agreed_low s i.0 a.least.0 in
    let high = agreed_high s i.1 a.greatest.0 in
    let from = All-contains IsCarried s low.0 all low.1 in
    let to = All-contains IsCarried s high.0 all high.1 in
    ((omega (arith, ints, low.2, from), omega (arith, ints, high.2, to)), adopted_ordered s i a)

-- ---- the current record
pub record Stands (h : History) : Type 0 where
  pub sound : IsSound (rates_of h) (current_record h)
  pub born : (current_record h).born ≤ live_osc Sync h
  pub bound : live_osc Sync h ≤ GREATEST_OSC

event_bound : (e : Event) → IsEventInRange e → event_osc e ≤ GREATEST_OSC
event_bound (event.Tick osc word) range = range
event_bound (event.Stream osc peer bytes) range = range
event_bound (event.Gram osc peer bytes) range = range
event_bound (event.Lost osc peer) range = range
event_bound (event.Unsent osc peer) range = range
event_bound (event.Read osc) range = range
event_bound (event.Ask osc conn bytes) range = range
event_bound (event.Query osc tag) range = range
event_bound (event.Source osc tag i) range = range.0
event_bound (event.Adopt osc required) range = range

sync_bound : (h : History) (e : Event) (actions : List Action) (b : ℕ) → live_osc Sync h ≤ b → event_osc e ≤ b → live_osc Sync (Then h e actions) ≤ b
unfolding live_osc
sync_bound h e actions b before now = both _ (event_osc e) (live_osc Sync h) (λ x. x ≤ b) (λ _. now) (λ _. before)

-- the next record, and that it is sound
abbrev pub Steps : History → Event → List Action → ClockRecord → Type 0
Steps h e actions next = ((next ≡ current_record h) ⊎ IsNext (rates_of h) (current_record h) next) × IsSound (rates_of h) next × (next.born ≤ live_osc Sync (Then h e actions))

renewal_steps : (h : History) (e : Event) (actions : List Action) (next : ClockRecord) → Stands h → event_part e ≡ Sync → is_live h e ≡ true → event_osc e ≤ GREATEST_OSC
    → renewed_record (rates_of h) (current_record h) (event_osc e) ≡ Some next → Renewal (rates_of h) (current_record h) (event_osc e) next → Steps h e actions next
renewal_steps h e actions next stands sync live small made (prolonged begun before is) =
    let after = sync_above h e sync live in (
      inr (renewed (event_osc e) (omega (arith, stands.born, after)) made),
      subst (IsSound (rates_of h)) (sym is) (prolonged_sound (rates_of h) (current_record h) (event_osc e) stands.sound (omega (arith, stands.born, after)) begun small),
      omega (arith, ap (λ (r : ClockRecord). r.born) is, sync_live h e actions sync live),
    )
renewal_steps h e actions next stands sync live small made (resumed past is) =
    let after = sync_above h e sync live in (
      inr (renewed (event_osc e) (omega (arith, stands.born, after)) made),
      subst (IsSound (rates_of h)) (sym is) (resumed_sound (rates_of h) (current_record h) (event_osc e) stands.sound (omega (arith, stands.born, after)) past small),
      omega (arith, ap (λ (r : ClockRecord). r.born) is, sync_live h e actions sync live),
    )

changed_next : (r : Rates) (rec : ClockRecord) (osc : ℕ) (i : ℤ × ℤ) → rec.born ≤ osc → IsNext r rec (changed_record r rec osc i)
changed_next r rec osc i after =
    both (is_none rec.anchor || is_far r rec osc i) _ _ (IsNext r rec) (λ _. stepped osc i after refl) (λ _. anchored osc i after refl)

changed_born : (r : Rates) (rec : ClockRecord) (osc : ℕ) (i : ℤ × ℤ) → (changed_record r rec osc i).born ≡ osc
changed_born r rec osc i = both (is_none rec.anchor || is_far r rec osc i) _ _ (λ (n : ClockRecord). n.born ≡ osc) (λ _. refl) (λ _. refl)

adopt_is_sync : (e : Event) (osc required : ℕ) → e ≡ event.Adopt osc required → event_part e ≡ Sync
adopt_is_sync e osc required is = ap event_part is

pub change_steps : (h : History) (e : Event) (actions : List Action) (next : ClockRecord) → Stands h → HistoryInRange h → IsEventInRange e → Change h e next → Steps h e actions next
change_steps h e actions next stands in_range range (same is) = (inl is, subst (IsSound (rates_of h)) (sym is) stands.sound, omega (arith, ap (λ (r : ClockRecord). r.born) is, stands.born, sync_grows h e actions))
change_steps h e actions next stands in_range range (renews live sync made) =
    renewal_steps h e actions next stands sync live (event_bound e range) made (renewal (rates_of h) (current_record h) (event_osc e) next made)
change_steps h e actions next stands in_range range (adoption required n i live is comes becomes) =
    let sync = adopt_is_sync e (event_osc e) required is in
    let after = sync_above h e sync live in
    let born : (current_record h).born ≤ event_osc e = omega (arith, stands.born, after) in
    let found = outcome_adopted (rates_of h) (answers_of h) required (event_osc e) n i comes in
    let fits = adopted_in_range h (rates_of h) (event_osc e) (answers_of h) i (event_bound e range) (answers_are h in_range) found.0 in (
      inr (subst (IsNext (rates_of h) (current_record h)) (sym becomes) (changed_next (rates_of h) (current_record h) (event_osc e) i born)),
      subst (IsSound (rates_of h)) (sym becomes) (changed_sound (rates_of h) (current_record h) (event_osc e) i stands.sound born (event_bound e range) fits.0 fits.1),
      omega (arith, ap (λ (r : ClockRecord). r.born) becomes, changed_born (rates_of h) (current_record h) (event_osc e) i, sync_live h e actions sync live),
    )

start_current : (settings : Settings) (start : Start) → current_record (Begun settings start) ≡ first_record start
unfolding current_record
start_current settings start = refl

start_live : (settings : Settings) (start : Start) → live_osc Sync (Begun settings start) ≡ start.osc
unfolding live_osc
start_live settings start = refl

pub first_within : (first : Option Interval) → IfSome first (λ i. IsTime i.lo × IsTime i.hi) → StartsWithin first
first_within None h = tt
first_within (Some i) h = (h.0.0, h.1.1)

pub stands : (h : History) → IsRuled h → HistoryInRange h → Stands h
stands (Begun settings start) ruled range = record {
  sound = subst (IsSound settings.rates) (sym (start_current settings start)) (started_sound settings.rates start.osc start.value start.first range.osc range.value.0 range.value.1 (first_within start.first range.first));
  born = omega (arith, ap (λ (r : ClockRecord). r.born) (start_current settings start), start_live settings start);
  bound = omega (arith, range.osc, start_live settings start);
}
stands (Then h e actions) ruled range =
    let before = stands h ruled.1 range.0 in
    let steps = change_steps h e actions (current_record (Then h e actions)) before range.0 range.1 (current_then h e actions ruled.0) in
    record {
      sound = steps.1;
      born = steps.2;
      bound = sync_bound h e actions GREATEST_OSC before.bound (event_bound e range.1);
    }

-- a later record is since an earlier one
pub since_before : (h : History) (e : Event) (actions : List Action) → IsRuled (Then h e actions) → HistoryInRange (Then h e actions) → IsSince (rates_of h) (current_record h) (current_record (Then h e actions))
since_before h e actions ruled range =
    let before = stands h ruled.1 range.0 in
    let steps = change_steps h e actions (current_record (Then h e actions)) before range.0 range.1 (current_then h e actions ruled.0) in
    elim steps.0 [
      | inl is ↦ subst (IsSince (rates_of h) (current_record h)) (sym is) (IsSince-same (rates_of h) (current_record h))
      | inr next ↦ IsSince-next (rates_of h) (current_record h) (current_record (Then h e actions)) before.sound steps.1 next
    ]

pub since_position : (p h : History) → IsRuled h → HistoryInRange h → IsPositionOf p h → IsSince (rates_of h) (current_record p) (current_record h)
since_position p (Begun settings start) ruled range is = subst (λ q. IsSince settings.rates (current_record q) (current_record (Begun settings start))) (sym is) (IsSince-same settings.rates (current_record (Begun settings start)))
since_position p (Then h e actions) ruled range is =
    elim is [
      | inl here ↦ subst (λ q. IsSince (rates_of h) (current_record q) (current_record (Then h e actions))) (sym here) (IsSince-same (rates_of h) (current_record (Then h e actions)))
      | inr earlier ↦ IsSince-after (rates_of h) (current_record p) (current_record h) (current_record (Then h e actions)) (since_position p h ruled.1 range.0 earlier) (since_before h e actions ruled range)
    ]
