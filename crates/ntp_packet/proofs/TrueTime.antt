-- The interval of a reply against true time, and fractions against their roundings.
use Rattle.std.proofs.Common.{◌≡◌, inl, inr, ℕ, zero, ◌+◌, ◌*◌, ◌<◌, ◌≤◌, suc, ℤ, pos, negsuc, neg_ℤ, ◌+ℤ◌, ◌-ℤ◌, ◌*ℤ◌, ◌≤ℤ◌, ◌<ℤ◌, refl, arith}
use Rattle.std.proofs.Math.Nat.{mul-le-mul_right}
use Rattle.std.proofs.lemmas.Bool.{cases_lt}
use Rattle.std.proofs.lemmas.Int.{ints}
use Rattle.std.specs.Int.{int_div_euclid}
use Rattle.ntp_packet.specs.declared.codec.Packet.{Packet}
use Rattle.ntp_packet.specs.Fractions.{Fraction, whole, IsAtMost, floor_of, ceiling_of}
use Rattle.ntp_packet.specs.Intervals.{count_of, error_of, HeldTrueTime}
use Rattle.ntp_packet.proofs.Rounding.{IsQuotient, quotient_is, by_part, by_error_part}

-- the least whole number of two quotients: a time that is not below the one less the other is not below them rounded outwards
above : (x y f g time : ℤ) → IsQuotient x 4294967296 f → IsQuotient (neg_ℤ y) 131072 g
    → (((x *ℤ pos 131072) -ℤ (y *ℤ pos 4294967296)) *ℤ pos 1) ≤ℤ (time *ℤ pos 562949953421312)
    → (f -ℤ neg_ℤ g) ≤ℤ time
above x y f g time p q h = omega (arith, ints, p, q, h)

below : (x y f g time : ℤ) → IsQuotient (neg_ℤ x) 4294967296 f → IsQuotient (neg_ℤ y) 131072 g
    → (time *ℤ pos 562949953421312) ≤ℤ (((x *ℤ pos 131072) +ℤ (y *ℤ pos 4294967296)) *ℤ pos 1)
    → time ≤ℤ (neg_ℤ f +ℤ neg_ℤ g)
below x y f g time p q h = omega (arith, ints, p, q, h)

pub low_end : (p : Packet) (moment time : ℤ) → HeldTrueTime p moment time → (floor_of (count_of moment) -ℤ ceiling_of (error_of p)) ≤ℤ time
low_end p moment time h =
    above (count_of moment).over (error_of p).over
    (int_div_euclid (count_of moment).over (pos 4294967296)) (int_div_euclid (neg_ℤ (error_of p).over) (pos 131072)) time
    (by_part (count_of moment).over) (by_error_part (neg_ℤ (error_of p).over)) h.0

pub high_end : (p : Packet) (moment time : ℤ) → HeldTrueTime p moment time
    → time ≤ℤ (ceiling_of (count_of moment) +ℤ ceiling_of (error_of p))
high_end p moment time h =
    below (count_of moment).over (error_of p).over
    (int_div_euclid (neg_ℤ (count_of moment).over) (pos 4294967296)) (int_div_euclid (neg_ℤ (error_of p).over) (pos 131072)) time
    (by_part (neg_ℤ (count_of moment).over)) (by_error_part (neg_ℤ (error_of p).over)) h.1

-- ---- roundings of any fraction

-- a multiple of n below the next one of another is that of no greater number
lesser_by : (a b : ℤ) (n : ℕ) → 0 < n → (a *ℤ pos n) <ℤ ((b *ℤ pos n) +ℤ pos n) → a ≤ℤ b
lesser_by (pos a) (pos b) n h l = elim (cases_lt b a) [
  | inl more ↦ let far : (b + 1) * n ≤ a * n = mul-le-mul_right n (omega arith) in absurd (omega (arith, ints, far, l))
  | inr less ↦ omega (arith, ints, less)
]
lesser_by (pos a) (negsuc b) n h l = absurd (omega (arith, ints, l))
lesser_by (negsuc a) (pos b) n h l = omega (arith, ints)
lesser_by (negsuc a) (negsuc b) n h l = elim (cases_lt a b) [
  | inl more ↦ let far : (a + 1) * n ≤ b * n = mul-le-mul_right n (omega arith) in absurd (omega (arith, ints, far, l))
  | inr less ↦ omega (arith, ints, less)
]

neg_times : (z : ℤ) (n : ℕ) → neg_ℤ z *ℤ pos n ≡ neg_ℤ (z *ℤ pos n)
neg_times (pos zero) n = omega (arith, ints)
neg_times (pos (suc a)) n = refl
neg_times (negsuc a) n = omega (arith, ints)

times_one : (z : ℤ) → z *ℤ pos 1 ≡ z
times_one (pos a) = omega (arith, ints)
times_one (negsuc a) = omega (arith, ints)

pub floor_is_greatest : (a : Fraction) (z : ℤ) → 0 < a.under → IsAtMost (whole z) a → z ≤ℤ floor_of a
floor_is_greatest a z h l =
    lesser_by z (floor_of a) a.under h (omega (arith, ints, (quotient_is a.over a.under h).1, times_one a.over, l))

pub floor_is_below : (a : Fraction) → 0 < a.under → IsAtMost (whole (floor_of a)) a
floor_is_below a h = omega (arith, ints, (quotient_is a.over a.under h).0, times_one a.over)

pub ceiling_is_least : (a : Fraction) (z : ℤ) → 0 < a.under → IsAtMost a (whole z) → ceiling_of a ≤ℤ z
ceiling_is_least a z h l =
    let f : ℤ = int_div_euclid (neg_ℤ a.over) (pos a.under) in
    let q = quotient_is (neg_ℤ a.over) a.under h in
    let turned = lesser_by (neg_ℤ z) f a.under h (omega (arith, ints, q.1, neg_times z a.under, times_one a.over, l)) in
    omega (arith, ints, turned)

pub ceiling_is_above : (a : Fraction) → 0 < a.under → IsAtMost a (whole (ceiling_of a))
ceiling_is_above a h =
    let f : ℤ = int_div_euclid (neg_ℤ a.over) (pos a.under) in
    omega (arith, ints, (quotient_is (neg_ℤ a.over) a.under h).0, neg_times f a.under, times_one a.over)
