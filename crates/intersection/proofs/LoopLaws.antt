-- Laws for the loops over intervals.
use Rattle.std.proofs.Common.{◌≡◌, ◌⊎◌, inl, inr, ℕ, ◌+◌, ◌<◌, ℤ, ◌≤ℤ◌, List, [], length, map, take, get_or, Option, Some, None, sym, subst, arith}
use Rattle.std.specs.Prelude.{All, MatchOption}
use Rattle.std.proofs.lemmas.Int.{ints}
use Rattle.std.proofs.lemmas.List.Elements.{All-nil, All-more, All-weaker, All-map}
use Rattle.dts_base.specs.declared.interval.Interval.{Interval}
use Rattle.intersection.specs.Adoption.{ends_of, IsAgreed, NoneIsAgreed, IsLeastAgreed, IsGreatestAgreed}
use Rattle.intersection.proofs.AdoptionLaws.{least_is, greatest_is}

-- of these intervals, none has a low end that is agreed on, or this is the least of those that are; and likewise the high ends
abbrev pub IsLeastOf : List (ℤ × ℤ) → List Interval → Option ℤ → Type 0
IsLeastOf s others found = MatchOption found (All (λ i. IsAgreed s i.lo → ⊥) others) (λ p. IsAgreed s p × All (λ i. IsAgreed s i.lo → p ≤ℤ i.lo) others)

abbrev pub IsGreatestOf : List (ℤ × ℤ) → List Interval → Option ℤ → Type 0
IsGreatestOf s others found = MatchOption found (All (λ i. IsAgreed s i.hi → ⊥) others) (λ p. IsAgreed s p × All (λ i. IsAgreed s i.hi → i.hi ≤ℤ p) others)

-- what holds of one interval more
all_more : (P : Interval → Type 0) (xs : List Interval) (k : ℕ) (x : Interval) → k < length xs → x ≡ get_or xs k x → All P (take k xs) → P x → All P (take (k + 1) xs)
all_more P xs k x h at all one = All-more P xs k x h all (subst P at one)

pub least_none : (s : List (ℤ × ℤ)) → IsLeastOf s [] None
least_none s = All-nil (λ (i : Interval). IsAgreed s i.lo → ⊥)

pub greatest_none : (s : List (ℤ × ℤ)) → IsGreatestOf s [] None
greatest_none s = All-nil (λ (i : Interval). IsAgreed s i.hi → ⊥)

pub least_more_with : (s : List (ℤ × ℤ)) (xs : List Interval) (k : ℕ) (x : Interval) (found : Option ℤ) (r : ℤ) → k < length xs → x ≡ get_or xs k x → IsAgreed s x.lo
    → MatchOption found (r ≡ x.lo) (λ q. (r ≤ℤ x.lo) × (r ≤ℤ q) × ((r ≡ x.lo) ⊎ (r ≡ q)))
    → IsLeastOf s (take k xs) found → IsLeastOf s (take (k + 1) xs) (Some r)
least_more_with s xs k x None r h at agreed is none = (
  subst (IsAgreed s) (sym is) agreed,
  all_more (λ i. IsAgreed s i.lo → r ≤ℤ i.lo) xs k x h at (All-weaker (λ (i : Interval). IsAgreed s i.lo → ⊥) (λ i. IsAgreed s i.lo → r ≤ℤ i.lo) (λ i f a. absurd (f a)) (take k xs) none) (λ a. omega (arith, ints, is)),
)
least_more_with s xs k x (Some q) r h at agreed is least = (
  elim is.2 [ inl e ↦ subst (IsAgreed s) (sym e) agreed | inr e ↦ subst (IsAgreed s) (sym e) least.0 ],
  all_more (λ i. IsAgreed s i.lo → r ≤ℤ i.lo) xs k x h at (All-weaker (λ (i : Interval). IsAgreed s i.lo → q ≤ℤ i.lo) (λ i. IsAgreed s i.lo → r ≤ℤ i.lo) (λ i f a. omega (arith, ints, is.1, f a)) (take k xs) least.1) (λ a. is.0),
)

pub least_more_without : (s : List (ℤ × ℤ)) (xs : List Interval) (k : ℕ) (x : Interval) (found : Option ℤ) → k < length xs → x ≡ get_or xs k x → (IsAgreed s x.lo → ⊥) → IsLeastOf s (take k xs) found → IsLeastOf s (take (k + 1) xs) found
least_more_without s xs k x None h at lacks none = all_more (λ (i : Interval). IsAgreed s i.lo → ⊥) xs k x h at none lacks
least_more_without s xs k x (Some q) h at lacks least = (least.0, all_more (λ (i : Interval). IsAgreed s i.lo → q ≤ℤ i.lo) xs k x h at least.1 (λ a. absurd (lacks a)))

pub least_of_all : (s : List Interval) (found : Option ℤ) → IsLeastOf (map ends_of s) s found → MatchOption found (NoneIsAgreed (map ends_of s)) (IsLeastAgreed (map ends_of s))
least_of_all s None none = least_is (map ends_of s) None (All-map (λ i. IsAgreed (map ends_of s) i.0 → ⊥) ends_of s none)
least_of_all s (Some p) least = least_is (map ends_of s) (Some p) (least.0, All-map (λ i. IsAgreed (map ends_of s) i.0 → p ≤ℤ i.0) ends_of s least.1)

pub greatest_more_with : (s : List (ℤ × ℤ)) (xs : List Interval) (k : ℕ) (x : Interval) (found : Option ℤ) (r : ℤ) → k < length xs → x ≡ get_or xs k x → IsAgreed s x.hi
    → MatchOption found (r ≡ x.hi) (λ q. (x.hi ≤ℤ r) × (q ≤ℤ r) × ((r ≡ x.hi) ⊎ (r ≡ q)))
    → IsGreatestOf s (take k xs) found → IsGreatestOf s (take (k + 1) xs) (Some r)
greatest_more_with s xs k x None r h at agreed is none = (
  subst (IsAgreed s) (sym is) agreed,
  all_more (λ i. IsAgreed s i.hi → i.hi ≤ℤ r) xs k x h at (All-weaker (λ (i : Interval). IsAgreed s i.hi → ⊥) (λ i. IsAgreed s i.hi → i.hi ≤ℤ r) (λ i f a. absurd (f a)) (take k xs) none) (λ a. omega (arith, ints, is)),
)
greatest_more_with s xs k x (Some q) r h at agreed is greatest = (
  elim is.2 [ inl e ↦ subst (IsAgreed s) (sym e) agreed | inr e ↦ subst (IsAgreed s) (sym e) greatest.0 ],
  all_more (λ i. IsAgreed s i.hi → i.hi ≤ℤ r) xs k x h at (All-weaker (λ (i : Interval). IsAgreed s i.hi → i.hi ≤ℤ q) (λ i. IsAgreed s i.hi → i.hi ≤ℤ r) (λ i f a. omega (arith, ints, is.1, f a)) (take k xs) greatest.1) (λ a. is.0),
)

pub greatest_more_without : (s : List (ℤ × ℤ)) (xs : List Interval) (k : ℕ) (x : Interval) (found : Option ℤ) → k < length xs → x ≡ get_or xs k x → (IsAgreed s x.hi → ⊥) → IsGreatestOf s (take k xs) found → IsGreatestOf s (take (k + 1) xs) found
greatest_more_without s xs k x None h at lacks none = all_more (λ (i : Interval). IsAgreed s i.hi → ⊥) xs k x h at none lacks
greatest_more_without s xs k x (Some q) h at lacks greatest = (greatest.0, all_more (λ (i : Interval). IsAgreed s i.hi → i.hi ≤ℤ q) xs k x h at greatest.1 (λ a. absurd (lacks a)))

pub greatest_of_all : (s : List Interval) (found : Option ℤ) → IsGreatestOf (map ends_of s) s found → MatchOption found (NoneIsAgreed (map ends_of s)) (IsGreatestAgreed (map ends_of s))
greatest_of_all s None none = greatest_is (map ends_of s) None (All-map (λ i. IsAgreed (map ends_of s) i.1 → ⊥) ends_of s none)
greatest_of_all s (Some p) greatest = greatest_is (map ends_of s) (Some p) (greatest.0, All-map (λ i. IsAgreed (map ends_of s) i.1 → i.1 ≤ℤ p) ends_of s greatest.1)
