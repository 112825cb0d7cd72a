-- The least interval that holds all sums, differences or multiples of members.
use Rattle.std.proofs.Common.{◌≡◌, ℕ, suc, ◌+◌, ◌*◌, ◌≤◌, ◌||◌, is_none, Option, Some, None, refl, sym, ap, arith, ℤ, pos, negsuc, ◌+ℤ◌, ◌-ℤ◌, ◌*ℤ◌, ◌≤ℤ◌}
use Rattle.std.proofs.lemmas.Int.{ints}
use Rattle.std.proofs.Math.Nat.{mul-le-mul_right}
use borrow.Author.Differences.{up, down}
use Rattle.utc_value.specs.declared.Kind.{Kind}
use Rattle.utc_value.specs.declared.Kind.TheVariants.{Absolute, Relative}
use Rattle.utc_value.specs.Stamp.{Stamp, IsTdfOf}
use Rattle.utc_value.specs.Members.{IsNear}
use Rattle.utc_routines.specs.Arithmetic.{sum_kind, difference_kind, sum_tdf, kept_tdf, Adds, Subtracts, Multiplies}
use Rattle.utc_routines.specs.Formula.{added, multiplied}
use Rattle.utc_routines.specs.Interval.{HoldsAll, IsLeastInterval, StatesLeast}

-- an interval whose ends are in the set is the least
pub least_of_ends : (P : ℤ → Type 0) (low high : ℤ) → HoldsAll P low high → P low → P high → IsLeastInterval P low high
least_of_ends P low high holds at_low at_high = record {
  holds = holds;
  least = λ l h all. ((all low at_low).0, (all high at_high).1);
}

-- the sums of times near t and u
abbrev pub SumNear : ℤ → ℤ → Option ℕ → Option ℕ → ℤ → Type 0
SumNear t u i j x = (p : ℤ) × (q : ℤ) × IsNear t i p × IsNear u j q × (x ≡ p +ℤ q)

-- the differences
abbrev pub DifferenceNear : ℤ → ℤ → Option ℕ → Option ℕ → ℤ → Type 0
DifferenceNear t u i j x = (p : ℤ) × (q : ℤ) × IsNear t i p × IsNear u j q × (x ≡ p -ℤ q)

-- the multiples
abbrev pub MultipleNear : ℤ → ℤ → Option ℕ → ℤ → Type 0
MultipleNear t k i x = (p : ℤ) × IsNear t i p × (x ≡ p *ℤ k)

sum_within : (t u : ℤ) (i j : ℕ) → HoldsAll (SumNear t u (Some i) (Some j)) (t +ℤ u -ℤ pos (i + j)) (t +ℤ u +ℤ pos (i + j))
sum_within t u i j x (p, q, hp, hq, e) = (omega (arith, ints), omega (arith, ints))

sum_low : (t u : ℤ) (i j : ℕ) → SumNear t u (Some i) (Some j) (t +ℤ u -ℤ pos (i + j))
sum_low t u i j = (t -ℤ pos i, u -ℤ pos j, (omega (arith, ints), omega (arith, ints)), (omega (arith, ints), omega (arith, ints)), omega (arith, ints))

sum_high : (t u : ℤ) (i j : ℕ) → SumNear t u (Some i) (Some j) (t +ℤ u +ℤ pos (i + j))
sum_high t u i j = (t +ℤ pos i, u +ℤ pos j, (omega (arith, ints), omega (arith, ints)), (omega (arith, ints), omega (arith, ints)), omega (arith, ints))

-- added inaccuracies state the sums
pub near_sum : (t u : ℤ) (i j : Option ℕ) → StatesLeast (is_none i || is_none j) (SumNear t u i j) (t +ℤ u) (added i j)
near_sum t u None j = refl
near_sum t u (Some i) None = refl
near_sum t u (Some i) (Some j) = (i + j, least_of_ends _ _ _ (sum_within t u i j) (sum_low t u i j) (sum_high t u i j), refl)

difference_within : (t u : ℤ) (i j : ℕ) → HoldsAll (DifferenceNear t u (Some i) (Some j)) (t -ℤ u -ℤ pos (i + j)) (t -ℤ u +ℤ pos (i + j))
difference_within t u i j x (p, q, hp, hq, e) = (omega (arith, ints), omega (arith, ints))

difference_low : (t u : ℤ) (i j : ℕ) → DifferenceNear t u (Some i) (Some j) (t -ℤ u -ℤ pos (i + j))
difference_low t u i j = (t -ℤ pos i, u +ℤ pos j, (omega (arith, ints), omega (arith, ints)), (omega (arith, ints), omega (arith, ints)), omega (arith, ints))

difference_high : (t u : ℤ) (i j : ℕ) → DifferenceNear t u (Some i) (Some j) (t -ℤ u +ℤ pos (i + j))
difference_high t u i j = (t +ℤ pos i, u -ℤ pos j, (omega (arith, ints), omega (arith, ints)), (omega (arith, ints), omega (arith, ints)), omega (arith, ints))

-- and the differences
pub near_difference : (t u : ℤ) (i j : Option ℕ) → StatesLeast (is_none i || is_none j) (DifferenceNear t u i j) (t -ℤ u) (added i j)
near_difference t u None j = refl
near_difference t u (Some i) None = refl
near_difference t u (Some i) (Some j) = (i + j, least_of_ends _ _ _ (difference_within t u i j) (difference_low t u i j) (difference_high t u i j), refl)

-- multiples keep the order, or turn it
times_up : (p q : ℤ) (n : ℕ) → p ≤ℤ q → (p *ℤ pos n) ≤ℤ (q *ℤ pos n)
times_up p q n h =
    let plain : up p + down q ≤ up q + down p = omega (arith, ints) in
    let many : (up p + down q) * n ≤ (up q + down p) * n = mul-le-mul_right n plain in
    omega (arith, ints, many)

times_down : (p q : ℤ) (n : ℕ) → p ≤ℤ q → (q *ℤ negsuc n) ≤ℤ (p *ℤ negsuc n)
times_down p q n h =
    let plain : up p + down q ≤ up q + down p = omega (arith, ints) in
    let many : (up p + down q) * suc n ≤ (up q + down p) * suc n = mul-le-mul_right (suc n) plain in
    omega (arith, ints, many)

spread_up : (t : ℤ) (i n : ℕ) → ((t -ℤ pos i) *ℤ pos n ≡ t *ℤ pos n -ℤ pos (i * n)) × ((t +ℤ pos i) *ℤ pos n ≡ t *ℤ pos n +ℤ pos (i * n))
spread_up t i n =
    let low : up (t -ℤ pos i) + down t + i ≡ up t + down (t -ℤ pos i) = omega (arith, ints) in
    let high : up (t +ℤ pos i) + down t ≡ up t + down (t +ℤ pos i) + i = omega (arith, ints) in
    let many_low = ap (λ (x : ℕ). x * n) low in
    let many_high = ap (λ (x : ℕ). x * n) high in
    (omega (arith, ints, many_low), omega (arith, ints, many_high))

spread_down : (t : ℤ) (i n : ℕ) → ((t +ℤ pos i) *ℤ negsuc n ≡ t *ℤ negsuc n -ℤ pos (i * suc n)) × ((t -ℤ pos i) *ℤ negsuc n ≡ t *ℤ negsuc n +ℤ pos (i * suc n))
spread_down t i n =
    let low : up (t -ℤ pos i) + down t + i ≡ up t + down (t -ℤ pos i) = omega (arith, ints) in
    let high : up (t +ℤ pos i) + down t ≡ up t + down (t +ℤ pos i) + i = omega (arith, ints) in
    let many_low = ap (λ (x : ℕ). x * suc n) low in
    let many_high = ap (λ (x : ℕ). x * suc n) high in
    (omega (arith, ints, many_high), omega (arith, ints, many_low))

-- a whole interval round t
near_low : (t : ℤ) (i : ℕ) → IsNear t (Some i) (t -ℤ pos i)
near_low t i = (omega (arith, ints), omega (arith, ints))

near_high : (t : ℤ) (i : ℕ) → IsNear t (Some i) (t +ℤ pos i)
near_high t i = (omega (arith, ints), omega (arith, ints))

-- a multiplied inaccuracy states the multiples
pub near_multiple : (t k : ℤ) (i : Option ℕ) → StatesLeast (is_none i) (MultipleNear t k i) (t *ℤ k) (multiplied i k)
near_multiple t k None = refl
near_multiple t (pos n) (Some i) =
    let spread = spread_up t i n in (
      i * n,
      least_of_ends _ _ _
          (λ x h. rw (h.2, ← spread.0, ← spread.1) (times_up _ _ n h.1.0, times_up _ _ n h.1.1))
          (t -ℤ pos i, near_low t i, sym spread.0)
          (t +ℤ pos i, near_high t i, sym spread.1),
      refl,
    )
near_multiple t (negsuc n) (Some i) =
    let spread = spread_down t i n in (
      i * suc n,
      least_of_ends _ _ _
          (λ x h. rw (h.2, ← spread.0, ← spread.1) (times_down _ _ n h.1.1, times_down _ _ n h.1.0))
          (t +ℤ pos i, near_high t i, sym spread.0)
          (t -ℤ pos i, near_low t i, sym spread.1),
      refl,
    )

-- a sum from its parts
pub adds : (a b r : Stamp) → sum_kind a.kind b.kind ≡ Some r.kind → r.tdf ≡ sum_tdf a.kind b.kind a.tdf b.tdf → r.time ≡ a.time +ℤ b.time
    → r.inaccuracy ≡ added a.inaccuracy b.inaccuracy → Adds a b r
adds a b r kind tdf time inaccuracy = record {
  kind = kind;
  tdf = tdf;
  time = time;
  interval = rw (time, inaccuracy) (near_sum a.time b.time a.inaccuracy b.inaccuracy);
}

-- a difference from its parts
pub subtracts : (a b r : Stamp) → difference_kind a.kind b.kind ≡ Some r.kind → r.tdf ≡ kept_tdf r.kind a.tdf → r.time ≡ a.time -ℤ b.time
    → r.inaccuracy ≡ added a.inaccuracy b.inaccuracy → Subtracts a b r
subtracts a b r kind tdf time inaccuracy = record {
  kind = kind;
  tdf = tdf;
  time = time;
  interval = rw (time, inaccuracy) (near_difference a.time b.time a.inaccuracy b.inaccuracy);
}

-- a multiple from its parts
pub multiplies : (a : Stamp) (k : ℤ) (r : Stamp) → a.kind ≡ Relative → r.kind ≡ Relative → r.tdf ≡ pos 0 → r.time ≡ a.time *ℤ k
    → r.inaccuracy ≡ multiplied a.inaccuracy k → Multiplies a k r
multiplies a k r operand kind tdf time inaccuracy = record {
  operand = operand;
  kind = kind;
  tdf = tdf;
  time = time;
  interval = rw (time, inaccuracy) (near_multiple a.time k a.inaccuracy);
}

-- a difference may have the time differential factor that it keeps
pub kept_tdf_fits : (k l m : Kind) (t : ℤ) → difference_kind k l ≡ Some m → IsTdfOf k t → IsTdfOf m (kept_tdf m t)
kept_tdf_fits k l Relative t e h = refl
kept_tdf_fits Absolute l Absolute t e h = h
kept_tdf_fits Relative Absolute Absolute t e h = absurd (cc)
kept_tdf_fits Relative Relative Absolute t e h = absurd (cc)
