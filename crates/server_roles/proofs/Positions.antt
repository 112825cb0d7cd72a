-- The positions of the elements that pass a test: which they are, and that each stands once.
use Rattle.std.proofs.Common.{◌≡◌, ◌∙◌, ℕ, zero, suc, ◌+◌, ◌-◌, ◌%◌, ◌<◌, ◌≤◌, ◌⊎◌, inl, inr, Bool, true, false, List, [], ◌∷◌, ◌++◌, length, get_or, Some, refl, sym, ap, subst, arith, eqb}
use Rattle.std.specs.Prelude.{if◌then◌else◌, slice_index}
use Rattle.std.specs.List.{Contains, IsDistinct, AllByRecursion, slice_get, list_any}
use Rattle.std.proofs.lemmas.Bool.Decides.{nat_tests, Decides-eqb}
use Rattle.std.proofs.lemmas.List.Elements.{Contains-get_or}
use Rattle.time_wire.proofs.Booleans.{either, fails}
use Rattle.roster.specs.Wrong.{positions_from}
use Rattle.server_roles.specs.Sources.{in_turn}

-- ---- an element of a list with one more in front

pub in_front : (y : ℕ) (ys : List ℕ) → Contains (y ∷ ys) y
in_front y ys = (0, omega arith, refl)

pub behind : (y : ℕ) (ys : List ℕ) (x : ℕ) → Contains ys x → Contains (y ∷ ys) x
behind y ys x c = (suc c.0, omega (arith, c.1), c.2)

cut_at : (y : ℕ) (ys : List ℕ) (x k : ℕ) → k < length (y ∷ ys) → get_or (y ∷ ys) k x ≡ x → (y ≡ x) ⊎ Contains ys x
cut_at y ys x zero h e = inl e
cut_at y ys x (suc k) h e = inr (k, omega (arith, h), e)

pub front_or_behind : (y : ℕ) (ys : List ℕ) (x : ℕ) → Contains (y ∷ ys) x → (y ≡ x) ⊎ Contains ys x
front_or_behind y ys x c = cut_at y ys x c.0 c.1 c.2

pub none_in_nothing : (x : ℕ) → Contains [] x → ⊥
none_in_nothing x c = omega (arith, c.1)

pub empty : (xs : List ℕ) → ((x : ℕ) → Contains xs x → ⊥) → xs ≡ []
empty [] h = refl
empty (x ∷ xs) h = absurd (h x (in_front x xs))

-- ---- which they are

-- an element that passes stands behind so many others, where the first has a number
pub record Stands {A : Type 0} (p : A → Bool) (xs : List A) (n i : ℕ) : Type 0 where
  pub found : A
  pub from : n ≤ i
  pub at : slice_get xs (i - n) ≡ Some found
  pub passes : p found ≡ true

one_further : {A : Type 0} (p : A → Bool) (x : A) (xs : List A) (n i : ℕ) → Stands p xs (n + 1) i → Stands p (x ∷ xs) n i
one_further p x xs n i s =
    let e : i - n ≡ suc (i - (n + 1)) = omega (arith, s.from) in
    record {
      found = s.found;
      from = omega (arith, s.from);
      at = ap (λ k. slice_get (x ∷ xs) k) e ∙ s.at;
      passes = s.passes;
    }

first_stands : {A : Type 0} (p : A → Bool) (x : A) (xs : List A) (n i : ℕ) → p x ≡ true → n ≡ i → Stands p (x ∷ xs) n i
first_stands p x xs n i e same =
    let k : i - n ≡ 0 = omega (arith, same) in
    record { found = x; from = omega (arith, same); at = ap (λ j. slice_get (x ∷ xs) j) k; passes = e }

after_test : {A : Type 0} (p : A → Bool) (x : A) (xs : List A) (n i : ℕ) (b : Bool) → p x ≡ b
    → ((j : ℕ) → Contains (positions_from (n + 1) p xs) j → Stands p xs (n + 1) j)
    → Contains (if b then n ∷ positions_from (n + 1) p xs else positions_from (n + 1) p xs) i → Stands p (x ∷ xs) n i
after_test p x xs n i true e rest c =
    elim (front_or_behind n (positions_from (n + 1) p xs) i c) [
      | inl same ↦ first_stands p x xs n i e same
      | inr later ↦ one_further p x xs n i (rest i later)
    ]
after_test p x xs n i false e rest c = one_further p x xs n i (rest i c)

pub stands : {A : Type 0} (p : A → Bool) (xs : List A) (n i : ℕ) → Contains (positions_from n p xs) i → Stands p xs n i
stands p [] n i c = absurd (none_in_nothing i c)
stands p (x ∷ xs) n i c = after_test p x xs n i (p x) refl (λ j d. stands p xs (n + 1) j d) c

with_one_more : (b : Bool) (n : ℕ) (ps : List ℕ) (i : ℕ) → Contains ps i → Contains (if b then n ∷ ps else ps) i
with_one_more true n ps i c = behind n ps i c
with_one_more false n ps i c = c

first_taken : (b : Bool) (n : ℕ) (ps : List ℕ) → b ≡ true → Contains (if b then n ∷ ps else ps) n
first_taken true n ps e = in_front n ps
first_taken false n ps e = absurd (cc)

pub position_of : {A : Type 0} (p : A → Bool) (xs : List A) (n i : ℕ) (x : A) → slice_get xs i ≡ Some x → p x ≡ true → Contains (positions_from n p xs) (n + i)
position_of p [] n i x e t = absurd (cc)
position_of p (y ∷ xs) n zero x e t =
    let same : y ≡ x = cc in
    let passes : p y ≡ true = ap p same ∙ t in
    let at : n + 0 ≡ n = omega arith in
    subst (λ j. Contains (positions_from n p (y ∷ xs)) j) (sym at) (first_taken (p y) n (positions_from (n + 1) p xs) passes)
position_of p (y ∷ xs) n (suc i) x e t =
    let at : (n + 1) + i ≡ n + suc i = omega arith in
    subst (λ j. Contains (positions_from n p (y ∷ xs)) j) at (with_one_more (p y) n (positions_from (n + 1) p xs) ((n + 1) + i) (position_of p xs (n + 1) i x e t))

-- ---- each stands once

above_each : {A : Type 0} (p : A → Bool) (xs : List A) (m n : ℕ) → m < n → AllByRecursion (λ y. eqb m y ≡ false) (positions_from n p xs)
above_each p [] m n h = tt
above_each p (x ∷ xs) m n h =
    let rest : AllByRecursion (λ y. eqb m y ≡ false) (positions_from (n + 1) p xs) = above_each p xs m (n + 1) (omega (arith, h)) in
    let first : eqb m n ≡ false = grind (arith, nat_tests, h) in
    elim (p x) as (λ b. AllByRecursion (λ y. eqb m y ≡ false) (if b then n ∷ positions_from (n + 1) p xs else positions_from (n + 1) p xs)) [ true ↦ (first, rest) | false ↦ rest ]

pub positions_distinct : {A : Type 0} (p : A → Bool) (xs : List A) (n : ℕ) → IsDistinct eqb (positions_from n p xs)
unfolding IsDistinct
positions_distinct p [] n = tt
positions_distinct p (x ∷ xs) n =
    elim (p x) as (λ b. IsDistinct eqb (if b then n ∷ positions_from (n + 1) p xs else positions_from (n + 1) p xs)) [
      | true ↦ (above_each p xs n (n + 1) (omega arith), positions_distinct p xs (n + 1))
      | false ↦ positions_distinct p xs (n + 1)
    ]

both_parts : (P : ℕ → Type 0) (xs ys : List ℕ) → AllByRecursion P xs → AllByRecursion P ys → AllByRecursion P (xs ++ ys)
both_parts P [] ys h k = k
both_parts P (x ∷ xs) ys h k = (h.0, both_parts P xs ys h.1 k)

unlike_each : (x : ℕ) (ys : List ℕ) → (Contains ys x → ⊥) → AllByRecursion (λ y. eqb x y ≡ false) ys
unlike_each x [] h = tt
unlike_each x (y ∷ ys) h = (
  fails (eqb x y) (λ e. h (subst (λ z. Contains (y ∷ ys) z) (sym ((Decides-eqb x y).0 e)) (in_front y ys))),
  unlike_each x ys (λ c. h (behind y ys x c)),
)

pub distinct_together : (xs ys : List ℕ) → IsDistinct eqb xs → IsDistinct eqb ys → ((x : ℕ) → Contains xs x → Contains ys x → ⊥) → IsDistinct eqb (xs ++ ys)
unfolding IsDistinct
distinct_together [] ys d e apart = e
distinct_together (x ∷ xs) ys d e apart = (
  both_parts _ xs ys d.0 (unlike_each x ys (λ c. apart x (in_front x xs) c)),
  distinct_together xs ys d.1 e (λ z c. apart z (behind x xs z c)),
)

pub any_contained : (xs : List ℕ) (q : ℕ) → list_any (eqb q) xs ≡ true → Contains xs q
any_contained [] q e = absurd (cc)
any_contained (x ∷ xs) q e =
    elim (either (eqb q x) (list_any (eqb q) xs) e) [
      | inl here ↦ subst (λ z. Contains (x ∷ xs) z) (sym ((Decides-eqb q x).0 here)) (in_front x xs)
      | inr later ↦ behind x xs q (any_contained xs q later)
    ]

-- ---- the one whose turn it is

pub turn_within : (round : ℕ) (gs : List ℕ) (g : ℕ) → Contains (in_turn round gs) g → Contains gs g
turn_within round [] g c = absurd (none_in_nothing g c)
turn_within round (x ∷ xs) g c =
    let place : (round - 1) % length (x ∷ xs) < length (x ∷ xs) = omega arith in
    elim (front_or_behind (slice_index (x ∷ xs) ((round - 1) % length (x ∷ xs))) [] g c) [
      | inl same ↦ subst (λ z. Contains (x ∷ xs) z) same (Contains-get_or (x ∷ xs) ((round - 1) % length (x ∷ xs)) 0 place)
      | inr later ↦ absurd (none_in_nothing g later)
    ]

pub turn_distinct : (round : ℕ) (gs : List ℕ) → IsDistinct eqb (in_turn round gs)
unfolding IsDistinct
turn_distinct round [] = tt
turn_distinct round (x ∷ xs) = (tt, tt)
