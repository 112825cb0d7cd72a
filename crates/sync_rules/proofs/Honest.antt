-- Every history has an honest world: that of an exact oscillator.
use Rattle.std.proofs.Common.{◌≡◌, ℕ, ◌+◌, ◌-◌, ◌<◌, ◌≤◌, inl, inr, length, refl, sym, ap, ◌∙◌, subst, arith, eq-eqb, cond, true, false}
use Rattle.std.specs.Prelude.{ℤ, pos, ◌-ℤ◌, ◌==◌}
use Rattle.std.proofs.lemmas.Int.{ints}
use Rattle.std.proofs.lemmas.Bool.{eqb-true}
use Rattle.slew_clock.specs.declared.rates.Rates.{Rates}
use Rattle.slew_clock.specs.Elapsed.{MayElapse}
use Rattle.sync_rules.specs.History.{History, Begun, Then, start_of, settings_of, number_of, osc_of, IsPositionOf}
use Rattle.sync_rules.specs.World.{World, time_at, KeepsDrift, IsRightFirst, HasHonestRound, IsHonest, osc_at, exact_world}
use Rattle.sync_rules.specs.Laws.{AdoptsNothing, CanBeHonest}
use Rattle.sync_rules.proofs.Positions.{earlier_position}

-- no position has a greater number than the last
number_within : (p h : History) → IsPositionOf p h → number_of p ≤ number_of h
number_within p (Begun settings start) is = let same : number_of p ≡ 0 = ap number_of is in omega arith
number_within p (Then before event actions) is =
    elim is [
      | inl same ↦ let equal : number_of p ≡ number_of (Then before event actions) = ap number_of same in omega arith
      | inr earlier ↦ omega (arith, number_within p before earlier)
    ]

other : (i n x y : ℕ) → i < n → cond (i == n) x y ≡ y
other i n x y lt = elim (i == n) as (λ b. (i == n) ≡ b → cond b x y ≡ y) [ true ↦ λ e. absurd (omega (arith, eqb-true _ _ e)) | false ↦ λ e. refl ] refl

same : (n x y : ℕ) → cond (n == n) x y ≡ x
same n x y = ap (λ b. cond b x y) (eq-eqb n n refl)

osc_at-position : (p h : History) → IsPositionOf p h → osc_at h (number_of p) ≡ osc_of p
osc_at-position p (Begun settings start) is = sym (ap osc_of is)
osc_at-position p (Then before event actions) is =
    elim is [
      | inl equal ↦ subst (λ q. osc_at (Then before event actions) (number_of q) ≡ osc_of q) (sym equal) (same (number_of before + 1) _ _)
      | inr earlier ↦ other (number_of p) (number_of before + 1) _ _ (omega (arith, number_within p before earlier)) ∙ osc_at-position p before earlier
    ]

elapses_exactly : (rates : Rates) (x : ℕ) → MayElapse rates x (pos x)
elapses_exactly rates x = (omega (arith, ints), omega (arith, ints))

keeps_drift : (h : History) (begins : ℤ) → KeepsDrift h (exact_world h begins)
keeps_drift h begins earlier later is comes comparable order =
    let first = osc_at-position earlier h (earlier_position earlier later h comes is) in
    let last = osc_at-position later h is in
    let apart : (time_at (exact_world h begins) later -ℤ time_at (exact_world h begins) earlier) ≡ pos (osc_of later - osc_of earlier) = omega (arith, ints, first, last, order) in
    subst (MayElapse (settings_of h).rates (osc_of later - osc_of earlier)) (sym apart) (elapses_exactly (settings_of h).rates (osc_of later - osc_of earlier))

at_start : (h : History) → osc_at h 0 ≡ (start_of h).osc
at_start (Begun settings start) = refl
at_start (Then before event actions) = other 0 (number_of before + 1) _ _ (omega arith) ∙ at_start before

begins_at : (h : History) (begins : ℤ) → (exact_world h begins).time 0 ≡ begins
begins_at h begins = omega (arith, ints, at_start h)

exact_is_honest : (h : History) (begins : ℤ) → IsRightFirst (start_of h) begins → ((p : History) → IsPositionOf p h → HasHonestRound (exact_world h begins) p)
    → IsHonest h (exact_world h begins) × ((exact_world h begins).time 0 ≡ begins)
exact_is_honest h begins right rounds =
    (record { drift = keeps_drift h begins; first = subst (IsRightFirst (start_of h)) (sym (begins_at h begins)) right; rounds = rounds }, begins_at h begins)

no_round : (world : World) (p : History) → AdoptsNothing p → HasHonestRound world p
no_round world (Begun settings start) none = tt
no_round world (Then before event actions) none = λ some. absurd (let length_is = ap length none.0 in omega (arith, some, length_is))

nothing_before : (p h : History) → AdoptsNothing h → IsPositionOf p h → AdoptsNothing p
nothing_before p (Begun settings start) none is = subst AdoptsNothing (sym is) none
nothing_before p (Then before event actions) none is =
    elim is [ inl equal ↦ subst AdoptsNothing (sym equal) none | inr earlier ↦ nothing_before p before none.1 earlier ]

pub can_be_honest : CanBeHonest
can_be_honest = record {
  exact = exact_is_honest;
  without_adoption = λ h begins right none. exact_is_honest h begins right (λ p is. no_round (exact_world h begins) p (nothing_before p h none is));
}
