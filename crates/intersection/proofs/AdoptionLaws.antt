-- Laws of adoption: the adopted interval is found among the ends, there is one at most, and it holds what fewer than half of the intervals lack.
use Rattle.std.proofs.Common.{◌≡◌, inl, inr, ◌-◌, ◌*◌, ◌<◌, cond, ℤ, ◌≤ℤ◌, List, [], ◌∷◌, length, Option, Some, None, refl, sym, ap, ◌∙◌, subst, arith}
use Rattle.std.specs.Prelude.{int_lt, All, MatchOption, option_map, option_and_then, unwrap_or}
use Rattle.std.specs.Int.{int_max, int_min}
use Rattle.std.proofs.lemmas.Int.{ints, clamps}
use Rattle.std.proofs.lemmas.Bool.{cases_Bool, cond_both, leb-true, leb-false}
use Rattle.std.proofs.lemmas.List.Elements.{All-nil, All-cons, All-weaker, All-contains}
use Rattle.std.proofs.lemmas.List.Sums.{count_by-le-length}
use Rattle.intersection.specs.Adoption.{Holds, holds, AreApart, count, IsAgreed, NoneIsAgreed, IsLeastAgreed, IsGreatestAgreed, IsAdopted}
use Rattle.intersection.specs.Adopted.{is_agreed, least_agreed, greatest_agreed, adopted}
use Rattle.intersection.proofs.PointLaws.{agreed_low, agreed_high}

-- ---- of these intervals, none has a low end that is agreed on, or this is the least of those that are; and likewise the high ends
abbrev pub IsLeastAmong : List (ℤ × ℤ) → List (ℤ × ℤ) → Option ℤ → Type 0
IsLeastAmong s others found = MatchOption found (All (λ i. IsAgreed s i.0 → ⊥) others) (λ p. IsAgreed s p × All (λ i. IsAgreed s i.0 → p ≤ℤ i.0) others)

abbrev pub IsGreatestAmong : List (ℤ × ℤ) → List (ℤ × ℤ) → Option ℤ → Type 0
IsGreatestAmong s others found = MatchOption found (All (λ i. IsAgreed s i.1 → ⊥) others) (λ p. IsAgreed s p × All (λ i. IsAgreed s i.1 → i.1 ≤ℤ p) others)

-- the lesser and the greater of two points are one of them
lesser : (s : List (ℤ × ℤ)) (p q : ℤ) → IsAgreed s p → IsAgreed s q → IsAgreed s (int_min p q)
lesser s p q f g = cond_both (int_lt q p) q p (IsAgreed s) (λ h. g) (λ h. f)

greater : (s : List (ℤ × ℤ)) (p q : ℤ) → IsAgreed s p → IsAgreed s q → IsAgreed s (int_max p q)
greater s p q f g = cond_both (int_lt q p) p q (IsAgreed s) (λ h. f) (λ h. g)

-- with one interval more
least_with : (s : List (ℤ × ℤ)) (i : ℤ × ℤ) (others : List (ℤ × ℤ)) (found : Option ℤ) → IsAgreed s i.0 → IsLeastAmong s others found → IsLeastAmong s (i ∷ others) (Some (unwrap_or (option_map (int_min i.0) found) i.0))
least_with s i others None agreed none =
    (agreed, All-cons (λ j. IsAgreed s j.0 → i.0 ≤ℤ j.0) i others (λ a. omega (arith, ints)) (All-weaker (λ j. IsAgreed s j.0 → ⊥) (λ j. IsAgreed s j.0 → i.0 ≤ℤ j.0) (λ j h a. absurd (h a)) others none))
least_with s i others (Some p) agreed least =
    let low : (int_min i.0 p ≤ℤ i.0) × (int_min i.0 p ≤ℤ p) = (omega (arith, ints, clamps), omega (arith, ints, clamps)) in
    let one : IsAgreed s (int_min i.0 p) = lesser s i.0 p agreed least.0 in
    (one, All-cons (λ j. IsAgreed s j.0 → int_min i.0 p ≤ℤ j.0) i others (λ a. low.0) (All-weaker (λ j. IsAgreed s j.0 → p ≤ℤ j.0) (λ j. IsAgreed s j.0 → int_min i.0 p ≤ℤ j.0) (λ j h a. omega (arith, ints, low.1, h a)) others least.1))

least_without : (s : List (ℤ × ℤ)) (i : ℤ × ℤ) (others : List (ℤ × ℤ)) (found : Option ℤ) → (IsAgreed s i.0 → ⊥) → IsLeastAmong s others found → IsLeastAmong s (i ∷ others) found
least_without s i others None lacks none = All-cons (λ j. IsAgreed s j.0 → ⊥) i others lacks none
least_without s i others (Some p) lacks least = (least.0, All-cons (λ j. IsAgreed s j.0 → p ≤ℤ j.0) i others (λ a. absurd (lacks a)) least.1)

greatest_with : (s : List (ℤ × ℤ)) (i : ℤ × ℤ) (others : List (ℤ × ℤ)) (found : Option ℤ) → IsAgreed s i.1 → IsGreatestAmong s others found → IsGreatestAmong s (i ∷ others) (Some (unwrap_or (option_map (int_max i.1) found) i.1))
greatest_with s i others None agreed none =
    (agreed, All-cons (λ j. IsAgreed s j.1 → j.1 ≤ℤ i.1) i others (λ a. omega (arith, ints)) (All-weaker (λ j. IsAgreed s j.1 → ⊥) (λ j. IsAgreed s j.1 → j.1 ≤ℤ i.1) (λ j h a. absurd (h a)) others none))
greatest_with s i others (Some p) agreed greatest =
    let high : (i.1 ≤ℤ int_max i.1 p) × (p ≤ℤ int_max i.1 p) = (omega (arith, ints, clamps), omega (arith, ints, clamps)) in
    let one : IsAgreed s (int_max i.1 p) = greater s i.1 p agreed greatest.0 in
    (one, All-cons (λ j. IsAgreed s j.1 → j.1 ≤ℤ int_max i.1 p) i others (λ a. high.0) (All-weaker (λ j. IsAgreed s j.1 → j.1 ≤ℤ p) (λ j. IsAgreed s j.1 → j.1 ≤ℤ int_max i.1 p) (λ j h a. omega (arith, ints, high.1, h a)) others greatest.1))

greatest_without : (s : List (ℤ × ℤ)) (i : ℤ × ℤ) (others : List (ℤ × ℤ)) (found : Option ℤ) → (IsAgreed s i.1 → ⊥) → IsGreatestAmong s others found → IsGreatestAmong s (i ∷ others) found
greatest_without s i others None lacks none = All-cons (λ j. IsAgreed s j.1 → ⊥) i others lacks none
greatest_without s i others (Some p) lacks greatest = (greatest.0, All-cons (λ j. IsAgreed s j.1 → j.1 ≤ℤ p) i others (λ a. absurd (lacks a)) greatest.1)

least_among : (s others : List (ℤ × ℤ)) → IsLeastAmong s others (least_agreed s others)
least_among s [] = All-nil (λ i. IsAgreed s i.0 → ⊥)
least_among s (i ∷ others) =
    elim (cases_Bool (is_agreed s i.0)) [
      | inl agreed ↦
          subst (λ b. IsLeastAmong s (i ∷ others) (cond b (Some (unwrap_or (option_map (int_min i.0) (least_agreed s others)) i.0)) (least_agreed s others))) (sym agreed)
          (least_with s i others (least_agreed s others) (leb-true _ _ agreed) (least_among s others))
      | inr lacks ↦
          subst (λ b. IsLeastAmong s (i ∷ others) (cond b (Some (unwrap_or (option_map (int_min i.0) (least_agreed s others)) i.0)) (least_agreed s others))) (sym lacks)
          (least_without s i others (least_agreed s others) (λ a. absurd (omega (arith, leb-false _ _ lacks))) (least_among s others))
    ]

greatest_among : (s others : List (ℤ × ℤ)) → IsGreatestAmong s others (greatest_agreed s others)
greatest_among s [] = All-nil (λ i. IsAgreed s i.1 → ⊥)
greatest_among s (i ∷ others) =
    elim (cases_Bool (is_agreed s i.1)) [
      | inl agreed ↦
          subst (λ b. IsGreatestAmong s (i ∷ others) (cond b (Some (unwrap_or (option_map (int_max i.1) (greatest_agreed s others)) i.1)) (greatest_agreed s others))) (sym agreed)
          (greatest_with s i others (greatest_agreed s others) (leb-true _ _ agreed) (greatest_among s others))
      | inr lacks ↦
          subst (λ b. IsGreatestAmong s (i ∷ others) (cond b (Some (unwrap_or (option_map (int_max i.1) (greatest_agreed s others)) i.1)) (greatest_agreed s others))) (sym lacks)
          (greatest_without s i others (greatest_agreed s others) (λ a. absurd (omega (arith, leb-false _ _ lacks))) (greatest_among s others))
    ]

-- the least end of all is the least point
pub least_is : (s : List (ℤ × ℤ)) (found : Option ℤ) → IsLeastAmong s s found → MatchOption found (NoneIsAgreed s) (IsLeastAgreed s)
least_is s None none = λ p agreed.
    let low = agreed_low s p agreed in
    All-contains (λ i. IsAgreed s i.0 → ⊥) s low.0 none low.1 low.3
least_is s (Some p) least = (
  least.0,
  λ q agreed.
      let low = agreed_low s q agreed in
      omega (arith, ints, low.2, All-contains (λ i. IsAgreed s i.0 → p ≤ℤ i.0) s low.0 least.1 low.1 low.3),
)

pub greatest_is : (s : List (ℤ × ℤ)) (found : Option ℤ) → IsGreatestAmong s s found → MatchOption found (NoneIsAgreed s) (IsGreatestAgreed s)
greatest_is s None none = λ p agreed.
    let high = agreed_high s p agreed in
    All-contains (λ i. IsAgreed s i.1 → ⊥) s high.0 none high.1 high.3
greatest_is s (Some p) greatest = (
  greatest.0,
  λ q agreed.
      let high = agreed_high s q agreed in
      omega (arith, ints, high.2, All-contains (λ i. IsAgreed s i.1 → i.1 ≤ℤ p) s high.0 greatest.1 high.1 high.3),
)

-- both together
pub both_are : (s : List (ℤ × ℤ)) (lo hi : Option ℤ) → MatchOption lo (NoneIsAgreed s) (IsLeastAgreed s) → MatchOption hi (NoneIsAgreed s) (IsGreatestAgreed s)
    → MatchOption (option_and_then (λ l. option_map (λ h. (l, h)) hi) lo) (NoneIsAgreed s) (IsAdopted s)
both_are s None hi none greatest = none
both_are s (Some l) None least none = none
both_are s (Some l) (Some h) least greatest = record { least = least; greatest = greatest }

-- the function finds the adopted interval
pub adopted_is : (s : List (ℤ × ℤ)) → MatchOption (adopted s) (NoneIsAgreed s) (IsAdopted s)
adopted_is s = both_are s (least_agreed s s) (greatest_agreed s s) (least_is s (least_agreed s s) (least_among s s)) (greatest_is s (greatest_agreed s s) (greatest_among s s))

-- ---- there is one at most
same_order : (a b : ℤ) → a ≤ℤ b → b ≤ℤ a → a ≡ b
same_order a b h k = omega (arith, ints)

pub adopted_unique : (s : List (ℤ × ℤ)) (i j : ℤ × ℤ) → IsAdopted s i → IsAdopted s j → i ≡ j
adopted_unique s i j f g =
    let low : i.0 ≡ j.0 = same_order i.0 j.0 (f.least.1 j.0 g.least.0) (g.least.1 i.0 f.least.0) in
    let high : i.1 ≡ j.1 = same_order i.1 j.1 (g.greatest.1 i.1 f.greatest.0) (f.greatest.1 j.1 g.greatest.0) in
    ap (λ v. (v, i.1)) low ∙ ap (λ v. (j.0, v)) high

pub found_unique : (s : List (ℤ × ℤ)) (f g : Option (ℤ × ℤ)) → MatchOption f (NoneIsAgreed s) (IsAdopted s) → MatchOption g (NoneIsAgreed s) (IsAdopted s) → f ≡ g
found_unique s None None f g = refl
found_unique s None (Some j) f g = absurd (f j.0 g.least.0)
found_unique s (Some i) None f g = absurd (g i.0 f.least.0)
found_unique s (Some i) (Some j) f g = ap Some (adopted_unique s i j f g)

-- of no intervals none is adopted
pub none_of_none : (i : ℤ × ℤ) → IsAdopted [] i → ⊥
none_of_none i f = absurd (omega (arith, f.least.0))

-- the adopted interval is in order
pub adopted_ordered : (s : List (ℤ × ℤ)) (i : ℤ × ℤ) → IsAdopted s i → i.0 ≤ℤ i.1
adopted_ordered s i f = f.least.1 i.1 f.greatest.0

-- ---- what fewer than half of the intervals lack
pub agreed_since : (s : List (ℤ × ℤ)) (p : ℤ) → 2 * (length s - count s p) < length s → IsAgreed s p
agreed_since s p fewer = omega (arith, count_by-le-length (λ i. holds i p) s)

pub since_agreed : (s : List (ℤ × ℤ)) (p : ℤ) → IsAgreed s p → 2 * (length s - count s p) < length s
since_agreed s p agreed = omega (arith, count_by-le-length (λ i. holds i p) s)

pub adopted_holds : (s : List (ℤ × ℤ)) (i : ℤ × ℤ) (t : ℤ) → IsAdopted s i → 2 * (length s - count s t) < length s → Holds i t
adopted_holds s i t f fewer = let agreed = agreed_since s t fewer in (f.least.1 t agreed, f.greatest.1 t agreed)

pub adopted_exists : (s : List (ℤ × ℤ)) (t : ℤ) → 2 * (length s - count s t) < length s → (i : ℤ × ℤ) × (adopted s ≡ Some i) × IsAdopted s i × Holds i t
adopted_exists s t fewer = exists (adopted s) refl (adopted_is s)
  where
    exists : (found : Option (ℤ × ℤ)) → adopted s ≡ found → MatchOption found (NoneIsAgreed s) (IsAdopted s) → (i : ℤ × ℤ) × (adopted s ≡ Some i) × IsAdopted s i × Holds i t
    exists None is none = absurd (none t (agreed_since s t fewer))
    exists (Some i) is f = (i, is, f, adopted_holds s i t f fewer)

pub apart_lacks : (s : List (ℤ × ℤ)) (i j : ℤ × ℤ) (t : ℤ) → IsAdopted s i → 2 * (length s - count s t) < length s → AreApart j i → Holds j t → ⊥
apart_lacks s i j t f fewer apart there = apart t there (adopted_holds s i t f fewer)
