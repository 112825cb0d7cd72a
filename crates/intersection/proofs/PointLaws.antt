-- Points and counts: a point that intervals hold can be moved to an end of one of them, and no count falls.
use Rattle.std.proofs.Common.{◌≡◌, ◌⊎◌, inl, inr, ℕ, suc, ◌+◌, ◌≤◌, true, cond, ℤ, ◌≤ℤ◌, List, [], ◌∷◌, refl, sym, ap, ◌∙◌, arith}
use Rattle.std.specs.Prelude.{int_le, Contains}
use Rattle.std.proofs.lemmas.Int.{ints, by_lt_z}
use Rattle.std.proofs.lemmas.Bool.{cases_Bool, false≢true, and_parts, and_from}
use Rattle.std.proofs.lemmas.List.Sums.{sum_by-cons}
use Rattle.intersection.specs.Adoption.{Holds, holds, count, IsAgreed}

le_true : (a b : ℤ) → int_le a b ≡ true → a ≤ℤ b
le_true a b h = grind (arith, ints)

true_le : (a b : ℤ) → a ≤ℤ b → int_le a b ≡ true
true_le a b h = grind (arith, ints)

-- the test says which points an interval holds
pub holds_true : (i : ℤ × ℤ) (p : ℤ) → holds i p ≡ true → Holds i p
holds_true i p h = let parts = and_parts (int_le i.0 p) (int_le p i.1) h in (le_true i.0 p parts.0, le_true p i.1 parts.1)

pub true_holds : (i : ℤ × ℤ) (p : ℤ) → Holds i p → holds i p ≡ true
true_holds i p h = and_from (int_le i.0 p) (int_le p i.1) (true_le i.0 p h.0) (true_le p i.1 h.1)

-- the number of intervals that hold a point, with one interval more
count-cons : (i : ℤ × ℤ) (s : List (ℤ × ℤ)) (p : ℤ) → count (i ∷ s) p ≡ cond (holds i p) 1 0 + count s p
count-cons i s p = sum_by-cons (λ j. cond (holds j p) 1 0) i s

-- each of the intervals that holds p holds q too
Moves : ℤ → ℤ → List (ℤ × ℤ) → Type 0
Moves p q [] = Unit {0}
Moves p q (i ∷ s) = (Holds i p → Holds i q) × Moves p q s

-- none of the intervals holds p
Lacks : ℤ → List (ℤ × ℤ) → Type 0
Lacks p [] = Unit {0}
Lacks p (i ∷ s) = (Holds i p → ⊥) × Lacks p s

moves_lacking : (p q : ℤ) (s : List (ℤ × ℤ)) → Lacks p s → Moves p q s
unfolding Moves Lacks
moves_lacking p q [] none = tt
moves_lacking p q (i ∷ s) none = (λ h. absurd (none.0 h), moves_lacking p q s none.1)

-- what moves down to q moves down to a point between
moves_between_low : (p q m : ℤ) (s : List (ℤ × ℤ)) → q ≤ℤ m → m ≤ℤ p → Moves p q s → Moves p m s
unfolding Moves
moves_between_low p q m [] low high moves = tt
moves_between_low p q m (i ∷ s) low high moves =
    (λ h. (omega (arith, ints, low, (moves.0 h).0), omega (arith, ints, high, h.1)), moves_between_low p q m s low high moves.1)

moves_between_high : (p q m : ℤ) (s : List (ℤ × ℤ)) → p ≤ℤ m → m ≤ℤ q → Moves p q s → Moves p m s
unfolding Moves
moves_between_high p q m [] low high moves = tt
moves_between_high p q m (i ∷ s) low high moves =
    (λ h. (omega (arith, ints, low, h.0), omega (arith, ints, high, (moves.0 h).1)), moves_between_high p q m s low high moves.1)

-- then no fewer hold q than hold p
count_moves : (p q : ℤ) (s : List (ℤ × ℤ)) → Moves p q s → count s p ≤ count s q
unfolding Moves
count_moves p q [] moves = omega arith
count_moves p q (i ∷ s) moves =
    let rest = count_moves p q s moves.1 in
    elim (cases_Bool (holds i p)) [
      | inl held ↦
          let too : holds i q ≡ true = true_holds i q (moves.0 (holds_true i p held)) in
          omega (arith, count-cons i s p, count-cons i s q, ap {B = ℕ} (λ b. cond b 1 0) held, ap {B = ℕ} (λ b. cond b 1 0) too, rest)
      | inr not_held ↦ omega (arith, count-cons i s p, count-cons i s q, ap {B = ℕ} (λ b. cond b 1 0) not_held, rest)
    ]

count_lacking : (p : ℤ) (s : List (ℤ × ℤ)) → Lacks p s → count s p ≡ 0
unfolding Lacks
count_lacking p [] none = refl
count_lacking p (i ∷ s) none =
    elim (cases_Bool (holds i p)) [
      | inl held ↦ absurd (none.0 (holds_true i p held))
      | inr not_held ↦ omega (arith, count-cons i s p, ap {B = ℕ} (λ b. cond b 1 0) not_held, count_lacking p s none.1)
    ]

Contains-here : (i : ℤ × ℤ) (s : List (ℤ × ℤ)) → Contains (i ∷ s) i
Contains-here i s = (0, omega arith, refl)

Contains-there : (i j : ℤ × ℤ) (s : List (ℤ × ℤ)) → Contains s j → Contains (i ∷ s) j
Contains-there i j s c = (suc c.0, omega (arith, c.1), c.2)

-- a point that some interval holds can be moved down to the low end of one of those, and up to the high end of one
record MovesDown (p : ℤ) (s : List (ℤ × ℤ)) : Type 0 where
  i : ℤ × ℤ
  among : Contains s i
  below : i.0 ≤ℤ p
  moves : Moves p i.0 s

record MovesUp (p : ℤ) (s : List (ℤ × ℤ)) : Type 0 where
  i : ℤ × ℤ
  among : Contains s i
  above : p ≤ℤ i.1
  moves : Moves p i.1 s

moves_down : (p : ℤ) (s : List (ℤ × ℤ)) → Lacks p s ⊎ MovesDown p s
unfolding Moves Lacks
moves_down p [] = inl tt
moves_down p (i ∷ s) =
    elim (cases_Bool (holds i p)) [
      | inr not_held ↦
          let lacks : Holds i p → ⊥ = λ h. false≢true (sym not_held ∙ true_holds i p h) in
          elim (moves_down p s) [
            | inl none ↦ inl (lacks, none)
            | inr w ↦ inr (record { i = w.i; among = Contains-there i w.i s w.among; below = w.below; moves = (λ h. absurd (lacks h), w.moves) })
          ]
      | inl held ↦
          let h = holds_true i p held in
          elim (moves_down p s) [
            | inl none ↦ inr (record { i = i; among = Contains-here i s; below = h.0; moves = (λ k. (omega (arith, ints), omega (arith, ints, h)), moves_lacking p i.0 s none) })
            | inr w ↦
                by_lt_z w.i.0 i.0
                (λ less. inr (record { i = i; among = Contains-here i s; below = h.0; moves = (λ k. (omega (arith, ints), omega (arith, ints, h)), moves_between_low p w.i.0 i.0 s (omega (arith, ints, less)) h.0 w.moves) }))
                (λ more. inr (record { i = w.i; among = Contains-there i w.i s w.among; below = w.below; moves = (λ k. (more, omega (arith, ints, h, w.below)), w.moves) }))
          ]
    ]

moves_up : (p : ℤ) (s : List (ℤ × ℤ)) → Lacks p s ⊎ MovesUp p s
unfolding Moves Lacks
moves_up p [] = inl tt
moves_up p (i ∷ s) =
    elim (cases_Bool (holds i p)) [
      | inr not_held ↦
          let lacks : Holds i p → ⊥ = λ h. false≢true (sym not_held ∙ true_holds i p h) in
          elim (moves_up p s) [
            | inl none ↦ inl (lacks, none)
            | inr w ↦ inr (record { i = w.i; among = Contains-there i w.i s w.among; above = w.above; moves = (λ h. absurd (lacks h), w.moves) })
          ]
      | inl held ↦
          let h = holds_true i p held in
          elim (moves_up p s) [
            | inl none ↦ inr (record { i = i; among = Contains-here i s; above = h.1; moves = (λ k. (omega (arith, ints, h), omega (arith, ints)), moves_lacking p i.1 s none) })
            | inr w ↦
                by_lt_z i.1 w.i.1
                (λ less. inr (record { i = i; among = Contains-here i s; above = h.1; moves = (λ k. (omega (arith, ints, h), omega (arith, ints)), moves_between_high p w.i.1 i.1 s h.1 (omega (arith, ints, less)) w.moves) }))
                (λ more. inr (record { i = w.i; among = Contains-there i w.i s w.among; above = w.above; moves = (λ k. (omega (arith, ints, h, w.above), more), w.moves) }))
          ]
    ]

-- below a point that enough of the intervals hold enough hold the low end of one of them, and above it the high end of one
pub agreed_low : (s : List (ℤ × ℤ)) (p : ℤ) → IsAgreed s p → (i : ℤ × ℤ) × Contains s i × (i.0 ≤ℤ p) × IsAgreed s i.0
agreed_low s p agreed = elim (moves_down p s) [
  | inl none ↦ absurd (omega (arith, count_lacking p s none))
  | inr w ↦ (w.i, w.among, w.below, omega (arith, count_moves p w.i.0 s w.moves))
]

pub agreed_high : (s : List (ℤ × ℤ)) (p : ℤ) → IsAgreed s p → (i : ℤ × ℤ) × Contains s i × (p ≤ℤ i.1) × IsAgreed s i.1
agreed_high s p agreed = elim (moves_up p s) [
  | inl none ↦ absurd (omega (arith, count_lacking p s none))
  | inr w ↦ (w.i, w.among, w.above, omega (arith, count_moves p w.i.1 s w.moves))
]
