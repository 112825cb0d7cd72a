-- The tightest interval, by its ends.
use Rattle.std.proofs.Common.{◌≡◌, inl, inr, ℕ, Bool, true, true≢false, Option, None, refl, sym, subst, ◌∙◌, arith, ℤ, pos, negsuc, ◌+ℤ◌, ◌-ℤ◌, ◌≤ℤ◌, ◌<ℤ◌, FitsSigned, w64, int_lt, nat_abs}
use Rattle.std.proofs.lemmas.Int.{ints, clamps}
use Rattle.std.proofs.lemmas.Bool.{cases_cond}
use Rattle.std.specs.Int.{int_div_euclid, int_min, int_max}
use Rattle.utc_value.specs.Stamp.{Stamp}
use Rattle.utc_routines.specs.Formula.{AreEnds, IsSmall}
use Rattle.utc_routines.specs.Interval.{IsHalf}
use Rattle.utc_routines.specs.Interval.{HoldsAll, is_either_unspecified, stated}
use Rattle.utc_routines.specs.Tightest.{IsTightest, StatesTightest, IsMemberOfEither, IsOuterPoint, IsSpan, IsBound, IsOutOfOrder}
use Rattle.utc_routines.proofs.EndsLemmas.{member_within, member_low, member_high, low_is_earliest, high_is_latest, earliest_is_low, latest_is_high, both_specified, ends_specified}

-- a division whose remainder is not negative rounds toward the lesser
pub half_of : (n : ℤ) → IsHalf n (int_div_euclid n (pos 2))
half_of (pos a) = record { low = omega (arith, ints); high = omega (arith, ints) }
half_of (negsuc a) = record { low = omega (arith, ints); high = omega (arith, ints) }

-- of a set with a first and a last, half way between is the tightest
pub tightest_of_ends : (P : ℤ → Type 0) (low high t : ℤ) (i : ℕ) → HoldsAll P low high → P low → P high → IsHalf (low +ℤ high) t → high ≡ t +ℤ pos i → IsTightest P t i
tightest_of_ends P low high t i holds at_low at_high half reach = record {
  holds = λ x h.
      let w = holds x h in
      (omega (arith, ints, w.0, half.low), omega (arith, ints, w.1));
  least = λ u j all.
      let l = all low at_low in
      let h = all high at_high in
      omega (arith, ints, l.0, h.1, half.high);
  first = λ u all.
      let h = all high at_high in
      omega (arith, ints, h.1);
}

either_within : (a b : Stamp) (al ah bl bh : ℤ) → AreEnds a al ah → AreEnds b bl bh → HoldsAll (IsMemberOfEither a b) (int_min al bl) (int_max ah bh)
either_within a b al ah bl bh one other x (inl h) =
    let w = member_within a al ah one x h in
    (omega (arith, ints, clamps, w.0), omega (arith, ints, clamps, w.1))
either_within a b al ah bl bh one other x (inr h) =
    let w = member_within b bl bh other x h in
    (omega (arith, ints, clamps, w.0), omega (arith, ints, clamps, w.1))

either_low : (a b : Stamp) (al ah bl bh : ℤ) → AreEnds a al ah → AreEnds b bl bh → IsMemberOfEither a b (int_min al bl)
either_low a b al ah bl bh one other = elim (cases_cond (int_lt bl al) bl al (int_min al bl) refl) [
  | inl e ↦ rw e (inr (member_low b bl bh other))
  | inr e ↦ rw e (inl (member_low a al ah one))
]

either_high : (a b : Stamp) (al ah bl bh : ℤ) → AreEnds a al ah → AreEnds b bl bh → IsMemberOfEither a b (int_max ah bh)
either_high a b al ah bl bh one other = elim (cases_cond (int_lt bh ah) ah bh (int_max ah bh) refl) [
  | inl e ↦ rw e (inl (member_high a al ah one))
  | inr e ↦ rw e (inr (member_high b bl bh other))
]

-- so a span is half way between the lesser low end and the greater high end
pub span_of_ends : (a b : Stamp) (al ah bl bh t : ℤ) (i : ℕ) (inaccuracy : Option ℕ) → AreEnds a al ah → AreEnds b bl bh
    → IsHalf (int_min al bl +ℤ int_max ah bh) t → int_max ah bh ≡ t +ℤ pos i → inaccuracy ≡ stated i → IsSpan a b t inaccuracy
span_of_ends a b al ah bl bh t i inaccuracy one other half reach e =
    let P : ℤ → Type 0 = IsMemberOfEither a b in
    let tight : IsTightest P t i = tightest_of_ends P (int_min al bl) (int_max ah bh) t i (either_within a b al ah bl bh one other)
    (either_low a b al ah bl bh one other) (either_high a b al ah bl bh one other) half reach in
    subst (λ (k : Bool). StatesTightest k P (a.time +ℤ b.time) t inaccuracy) (sym (ends_specified a b al ah bl bh one other)) (i, tight, e)

between : (ta tb : ℤ) (i j : ℕ) (al ah bl bh t : ℤ) → al ≡ ta -ℤ pos i → ah ≡ ta +ℤ pos i → bl ≡ tb -ℤ pos j → bh ≡ tb +ℤ pos j
    → IsHalf (int_min al bl +ℤ int_max ah bh) t → FitsSigned w64 ta → FitsSigned w64 tb → FitsSigned w64 t
between ta tb i j al ah bl bh t eal eah ebl ebh half fa fb = omega (arith, ints, clamps, half.low, half.high)

-- and lies between the two times
pub span_fits : (a b : Stamp) (al ah bl bh t : ℤ) → AreEnds a al ah → AreEnds b bl bh
    → IsHalf (int_min al bl +ℤ int_max ah bh) t → FitsSigned w64 a.time → FitsSigned w64 b.time → FitsSigned w64 t
span_fits a b al ah bl bh t one other half fa fb =
    between a.time b.time one.half other.half al ah bl bh t one.at_low one.at_high other.at_low other.at_high half fa fb

-- an unspecified operand leaves half the sum
pub span_unspecified : (a b : Stamp) (t : ℤ) (inaccuracy : Option ℕ) → is_either_unspecified a b ≡ true → IsHalf (a.time +ℤ b.time) t → inaccuracy ≡ None → IsSpan a b t inaccuracy
span_unspecified a b t inaccuracy k half e = rw k (half, e)

outer_within : (a b : Stamp) (al ah bl bh : ℤ) → AreEnds a al ah → AreEnds b bl bh → al ≤ℤ bh → HoldsAll (IsOuterPoint a b) al bh
outer_within a b al ah bl bh one other order x (inl h) =
    let e = earliest_is_low a al ah x one h in
    (omega (arith, ints), omega (arith, ints))
outer_within a b al ah bl bh one other order x (inr h) =
    let e = latest_is_high b bl bh x other h in
    (omega (arith, ints), omega (arith, ints))

-- a bound is half way between the first's low end and the second's high end
pub bound_of_ends : (a b : Stamp) (al ah bl bh t : ℤ) (i : ℕ) (inaccuracy : Option ℕ) → AreEnds a al ah → AreEnds b bl bh → al ≤ℤ bh
    → IsHalf (al +ℤ bh) t → bh ≡ t +ℤ pos i → inaccuracy ≡ stated i → IsBound a b t inaccuracy
bound_of_ends a b al ah bl bh t i inaccuracy one other order half reach e =
    let P : ℤ → Type 0 = IsOuterPoint a b in
    let tight : IsTightest P t i = tightest_of_ends P al bh t i (outer_within a b al ah bl bh one other order)
    (inl (low_is_earliest a al ah one)) (inr (high_is_latest b bl bh other)) half reach in
    subst (λ (k : Bool). StatesTightest k P (a.time +ℤ b.time) t inaccuracy) (sym (ends_specified a b al ah bl bh one other)) (i, tight, e)

pub bound_unspecified : (a b : Stamp) (t : ℤ) (inaccuracy : Option ℕ) → is_either_unspecified a b ≡ true → IsHalf (a.time +ℤ b.time) t → inaccuracy ≡ None → IsBound a b t inaccuracy
bound_unspecified a b t inaccuracy k half e = rw k (half, e)

-- the order of a bound's ends
pub out_of_order : (a b : Stamp) (al ah bl bh : ℤ) → AreEnds a al ah → AreEnds b bl bh → bh <ℤ al → IsOutOfOrder a b
out_of_order a b al ah bl bh one other h = (al, bh, low_is_earliest a al ah one, high_is_latest b bl bh other, h)

pub in_order : (a b : Stamp) (al ah bl bh : ℤ) → AreEnds a al ah → AreEnds b bl bh → al ≤ℤ bh → ¬ IsOutOfOrder a b
in_order a b al ah bl bh one other h (x, y, first, last, less) =
    let p = earliest_is_low a al ah x one first in
    let q = latest_is_high b bl bh y other last in
    omega (arith, ints)

pub unspecified_in_order : (a b : Stamp) → is_either_unspecified a b ≡ true → ¬ IsOutOfOrder a b
unspecified_in_order a b k (x, y, first, last, less) = true≢false (sym k ∙ both_specified a b x y first last)

-- how far h lies above t
pub reach_of : (t h : ℤ) → t ≤ℤ h → h ≡ t +ℤ pos (nat_abs (h -ℤ t))
reach_of t h le = omega (arith, ints)

-- the lesser and the greater of two small numbers are small
pub small_min : (x y : ℤ) → IsSmall x → IsSmall y → IsSmall (int_min x y)
small_min x y hx hy = (omega (arith, ints, clamps, hx.0, hy.0), omega (arith, ints, clamps, hx.1, hy.1))

pub small_max : (x y : ℤ) → IsSmall x → IsSmall y → IsSmall (int_max x y)
small_max x y hx hy = (omega (arith, ints, clamps, hx.0, hy.0), omega (arith, ints, clamps, hx.1, hy.1))
