-- What a round adopts, and from what.
use Rattle.std.proofs.Common.{◌≡◌, ℕ, ℤ, pos, ◌+◌, ◌-◌, ◌*◌, ◌^◌, ◌≤◌, Bool, true, false, cond, List, [], length, Option, Some, None, MatchOption, refl, sym, ap, ◌∙◌, subst, arith}
use Rattle.std.specs.Prelude.{◌≤ℤ◌, int_le, nat_lt, ◌&&◌, All, map, if◌then◌else◌}
use Rattle.std.specs.Option.{option_to_list}
use Rattle.std.proofs.lemmas.Int.{ints}
use Rattle.std.proofs.Math.Nat.{mul-le-mul_left}
use Rattle.std.proofs.lemmas.List.Elements.{All-nil, All-cons, All-append, All-map, All-weaker, All-contains}
use Rattle.intersection.specs.Adoption.{IsAdopted, NoneIsAgreed}
use Rattle.intersection.specs.Adopted.{adopted}
use Rattle.intersection.proofs.PointLaws.{agreed_low, agreed_high}
use Rattle.intersection.proofs.AdoptionLaws.{adopted_is, adopted_ordered}
use Rattle.slew_clock.specs.declared.limits.TheConstants.{GREATEST_OSC, GREATEST_ANCHOR}
use Rattle.slew_clock.specs.declared.rates.Rates.{Rates}
use Rattle.slew_clock.specs.Elapsed.{most, drift_of}
use Rattle.slew_clock.specs.Record.{IsSound}
use Rattle.slew_clock.specs.Reading.{interval_of}
use Rattle.slew_clock.specs.Change.{IsInRange}
use Rattle.slew_clock.proofs.ReadingLaws.{interval_within}
use Rattle.clerk.specs.Outcome.{Outcome, Waiting, Short, Adopted, agreed, with_own, concluded}
use Rattle.roster.specs.declared.settings.Role.{Role}
use Rattle.roster.specs.declared.settings.Role.TheVariants as role
use Rattle.roster.specs.Rates.{rates_of as rates_in}
use Rattle.server_roles.specs.Own.{up_to_anchor, brought_by}
use Rattle.sync_rules.specs.History.{History, current_record}
use Rattle.sync_rules.specs.Rounds.{Answer, carried_to}
use Rattle.sync_rules.specs.Rules.{rates_of}
use Rattle.node_rules.specs.History.{NodeHistory, Began, Next, roster_of, bare, found_in}
use Rattle.node_rules.specs.Rounds.{Round, answers_in, own_at, unanswered_in, outcome_of}
use Rattle.node_safety.proofs.Answering.{IsAnswer}

-- the intervals that a round has at an oscillator reading
abbrev pub intervals_at : NodeHistory → ℕ → List (ℤ × ℤ)
intervals_at h osc = with_own (map (carried_to (rates_of (bare h)) osc) (answers_in (roster_of h) (found_in h))) (own_at h osc)

-- ---- what is adopted is adopted from these
agreed_is : (m n : ℕ) (i : ℤ × ℤ) (found : Option (ℤ × ℤ)) → agreed m found ≡ Adopted n i → found ≡ Some i
agreed_is m n i None is = cc
agreed_is m n i (Some j) is = cc

enough_is : (b : Bool) (short : Outcome) (m n : ℕ) (i : ℤ × ℤ) (found : Option (ℤ × ℤ)) (a r : ℕ) → short ≡ Short a r
    → cond b short (agreed m found) ≡ Adopted n i → found ≡ Some i
enough_is true short m n i found a r is_short is = let bad = sym is_short ∙ is in cc
enough_is false short m n i found a r is_short is = agreed_is m n i found is

concluded_is : (required n : ℕ) (answers : List (ℤ × ℤ)) (own : Option (ℤ × ℤ)) (i : ℤ × ℤ) → concluded required answers own ≡ Adopted n i
    → adopted (with_own answers own) ≡ Some i
unfolding concluded
concluded_is required n answers own i is =
    enough_is (nat_lt (length answers) required) (Short (length answers) required) (length (with_own answers own)) n i
    (adopted (with_own answers own))
    (length answers) required refl is

waits_or_not : (b : Bool) (u d n : ℕ) (i : ℤ × ℤ) (o : Outcome) → cond b (Waiting u d) o ≡ Adopted n i → o ≡ Adopted n i
waits_or_not true u d n i o is = cc
waits_or_not false u d n i o is = is

pub adopts_of : (h : NodeHistory) (round : Round) (osc n : ℕ) (i : ℤ × ℤ) → outcome_of h round osc ≡ Adopted n i
    → adopted (intervals_at h osc) ≡ Some i
adopts_of h round osc n i is =
    let unanswered = length (unanswered_in (found_in h) round) in
    concluded_is (roster_of h).settings.required n (map (carried_to (rates_of (bare h)) osc) (answers_in (roster_of h) (found_in h)))
    (own_at h osc) i
    (waits_or_not (nat_lt osc round.deadline && nat_lt 0 unanswered) unanswered round.deadline n i _ is)

pub is_adopted : (s : List (ℤ × ℤ)) (i : ℤ × ℤ) → adopted s ≡ Some i → IsAdopted s i
is_adopted s i is = subst (λ o. MatchOption o (NoneIsAgreed s) (IsAdopted s)) is (adopted_is s)

-- ---- the node's own interval
pub same_rates : (h : NodeHistory) → rates_of (bare h) ≡ rates_in (roster_of h).settings
same_rates (Began roster start) = refl
same_rates (Next before e findings given) = same_rates before

not_too_high : (found i : ℤ × ℤ) → up_to_anchor found ≡ Some i → (found ≡ i) × (i.1 ≤ℤ GREATEST_ANCHOR)
not_too_high found i is = from (int_le found.1 GREATEST_ANCHOR) refl is
  where
    from : (b : Bool) → int_le found.1 GREATEST_ANCHOR ≡ b → (if b then Some found else None) ≡ Some i → (found ≡ i)
        × (i.1 ≤ℤ GREATEST_ANCHOR)
    from true below same = let equal : found ≡ i = cc in (equal, subst (λ j. j.1 ≤ℤ GREATEST_ANCHOR) equal (below_is found.1 below))
      where
        below_is : (x : ℤ) → int_le x GREATEST_ANCHOR ≡ true → x ≤ℤ GREATEST_ANCHOR
        below_is x h = grind (arith, ints)
    from false below same = cc

brought_is : (r : Role) (found : Option (ℤ × ℤ)) (i : ℤ × ℤ) → brought_by r found ≡ Some i → (found ≡ Some i) × (i.1 ≤ℤ GREATEST_ANCHOR)
brought_is role.Clerk found i is = cc
brought_is role.Server None i is = cc
brought_is role.Server (Some j) i is = let parts = not_too_high j i is in (ap Some parts.0, parts.1)

pub own_is : (h : NodeHistory) (osc : ℕ) (own : ℤ × ℤ) → own_at h osc ≡ Some own
    → (interval_of (rates_of (bare h)) (current_record (bare h)) osc ≡ Some own) × (own.1 ≤ℤ GREATEST_ANCHOR)
own_is h osc own is =
    let parts = brought_is (roster_of h).settings.role _ own is in
    (subst (λ r. interval_of r (current_record (bare h)) osc ≡ Some own) (sym (same_rates h)) parts.0, parts.1)

-- ---- the intervals are in their ranges
abbrev pub IsCarried : ℤ × ℤ → Type 0
IsCarried i = (pos 0 ≤ℤ i.0) × (i.1 ≤ℤ GREATEST_ANCHOR)

most_small : (r : Rates) (x : ℕ) → x ≤ GREATEST_OSC → most r x ≤ 2 ^ 61
most_small r x small =
    let drift : drift_of r x * 100 ≤ x + 100 = omega (arith, mul-le-mul_left x r.drift_in_range) in
    let resolution = r.resolution_in_range in
    omega (arith, drift, resolution)

carried_in_range : (h : History) (rates : Rates) (osc : ℕ) (a : Answer) → osc ≤ GREATEST_OSC → IsAnswer h a
    → IsCarried (carried_to rates osc a)
carried_in_range h rates osc a small is =
    let high = most_small rates (osc - a.asked.osc) (omega arith) in
    (omega (arith, ints, is.low), omega (arith, ints, is.high, high))

own_in_range : (h : NodeHistory) (osc : ℕ) → IsSound (rates_of (bare h)) (current_record (bare h)) → (current_record (bare h)).born ≤ osc
    → osc ≤ GREATEST_OSC
    → (own : Option (ℤ × ℤ)) → own_at h osc ≡ own → All IsCarried (option_to_list own)
own_in_range h osc sound born small None is = All-nil IsCarried
own_in_range h osc sound born small (Some own) is =
    let parts = own_is h osc own is in
    let within = interval_within (rates_of (bare h)) (current_record (bare h)) osc own sound born (omega (arith, small)) parts.0 in
    All-cons IsCarried own [] (within.0, parts.1) (All-nil IsCarried)

pub adopted_in_range : (h : NodeHistory) (shown : History) (osc : ℕ) (i : ℤ × ℤ) → osc ≤ GREATEST_OSC
    → All (IsAnswer shown) (answers_in (roster_of h) (found_in h))
    → IsSound (rates_of (bare h)) (current_record (bare h)) → (current_record (bare h)).born ≤ osc
    → adopted (intervals_at h osc) ≡ Some i → IsInRange i × (i.0 ≤ℤ i.1)
adopted_in_range h shown osc i small are sound born is =
    let s = intervals_at h osc in
    let a = is_adopted s i is in
    let answers = answers_in (roster_of h) (found_in h) in
    let all : All IsCarried s = All-append IsCarried _ _
    (All-map IsCarried (carried_to (rates_of (bare h)) osc) answers
    (All-weaker (IsAnswer shown) (λ x. IsCarried (carried_to (rates_of (bare h)) osc x))
    (λ x is_answer. carried_in_range shown (rates_of (bare h)) osc x small is_answer) answers are))
    (own_in_range h osc sound born small (own_at h osc) refl) in
    let low = agreed_low s i.0 a.least.0 in
    let high = agreed_high s i.1 a.greatest.0 in
    let from = All-contains IsCarried s low.0 all low.1 in
    let to = All-contains IsCarried s high.0 all high.1 in
    ((omega (arith, ints, low.2, from), omega (arith, ints, high.2, to)), adopted_ordered s i a)
