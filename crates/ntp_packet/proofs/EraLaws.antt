-- The nearest era of a timestamp.
use Rattle.std.proofs.Common.{◌≡◌, ℕ, ◌+◌, ◌*◌, ◌<◌, ◌≤◌, ℤ, pos, negsuc, zero, suc, neg_ℤ, ◌+ℤ◌, ◌-ℤ◌, ◌*ℤ◌, ◌≤ℤ◌, ◌<ℤ◌, unsigned_abs, refl, ap, arith}
use Rattle.std.proofs.lemmas.Int.{ints}
use Rattle.std.specs.Int.{int_div_euclid}
use Rattle.ntp_packet.specs.Fractions.{floor_of}
use Rattle.ntp_packet.specs.Intervals.{count_of, moment_in, off_in, IsNearestEra}
use Rattle.ntp_packet.specs.Eras.{era_of}
use Rattle.ntp_packet.proofs.Rounding.{IsQuotient, by_part, by_two_eras}

-- the count of a timestamp in era 0, rounded down
abbrev pub first_count : ℕ → ℤ
first_count stamp = floor_of (count_of (pos stamp))

pub first_is : (stamp : ℕ) → IsQuotient (pos (429939283030179840000000000 + stamp * 10000000)) 4294967296 (first_count stamp)
first_is stamp = by_part (pos (429939283030179840000000000 + stamp * 10000000))

shifted : (x y f g era : ℤ) → x ≡ y +ℤ (era *ℤ pos 184467440737095516160000000) → IsQuotient x 4294967296 f
    → IsQuotient y 4294967296 g → f ≡ g +ℤ (era *ℤ pos 42949672960000000)
shifted x y f g era e p q = omega (arith, ints, e, p, q)

-- each era later it is an era's units later
pub count_in_era : (era : ℤ) (stamp : ℕ) → floor_of (count_of (moment_in era stamp)) ≡ first_count stamp +ℤ (era *ℤ pos 42949672960000000)
count_in_era era stamp =
    let x : ℤ = pos 429939283030179840000000000 +ℤ (((era *ℤ pos 18446744073709551616) +ℤ pos stamp) *ℤ pos 10000000) in
    let y : ℤ = pos 429939283030179840000000000 +ℤ (pos stamp *ℤ pos 10000000) in
    let shift : x ≡ y +ℤ (era *ℤ pos 184467440737095516160000000) = omega (arith, ints) in
    shifted x y (floor_of (count_of (moment_in era stamp))) (first_count stamp) era shift (by_part x) (by_part y)

-- era is the number of eras, rounded from a half down, that lie in d units
abbrev pub IsEraAhead : ℤ → ℤ → Type 0
IsEraAhead d era = ((pos 2 *ℤ d) ≤ℤ ((era *ℤ pos 85899345920000000) +ℤ pos 42949672960000000)) × (((era *ℤ pos 85899345920000000) -ℤ pos 42949672960000000) <ℤ (pos 2 *ℤ d))

ahead : (d z q : ℤ) → z ≡ neg_ℤ ((pos 2 *ℤ d) -ℤ pos 42949672960000000) → IsQuotient z 85899345920000000 q → IsEraAhead d (neg_ℤ q)
ahead d z q e p = (omega (arith, ints, e, p), omega (arith, ints, e, p))

pub era_ahead : (stamp : ℕ) (near : ℤ) → IsEraAhead (near -ℤ first_count stamp) (era_of stamp near)
era_ahead stamp near =
    let z : ℤ = neg_ℤ ((pos 2 *ℤ (near -ℤ first_count stamp)) -ℤ pos 42949672960000000) in
    ahead (near -ℤ first_count stamp) z (int_div_euclid z (pos 85899345920000000)) refl (by_two_eras z)

nearest : (d era other : ℤ) → IsEraAhead d era
    → unsigned_abs ((era *ℤ pos 42949672960000000) -ℤ d) ≤ unsigned_abs ((other *ℤ pos 42949672960000000) -ℤ d)
nearest d era other h = omega (arith, ints, h)

lesser : (d era other : ℤ) → IsEraAhead d era → other <ℤ era
    → unsigned_abs ((era *ℤ pos 42949672960000000) -ℤ d) < unsigned_abs ((other *ℤ pos 42949672960000000) -ℤ d)
lesser d era other h l = omega (arith, ints, h, l)

off_is : (era : ℤ) (stamp : ℕ) (near : ℤ)
    → off_in era stamp near ≡ unsigned_abs ((era *ℤ pos 42949672960000000) -ℤ (near -ℤ first_count stamp))
off_is era stamp near =
    let same : floor_of (count_of (moment_in era stamp)) -ℤ near ≡ (era *ℤ pos 42949672960000000) -ℤ (near -ℤ first_count stamp) =
    omega (arith, ints, count_in_era era stamp) in
    ap unsigned_abs same

pub era_is_nearest : (stamp : ℕ) (near : ℤ) → IsNearestEra (era_of stamp near) stamp near
era_is_nearest stamp near =
    let h = era_ahead stamp near in
    record {
      nearest = λ other. rw (off_is (era_of stamp near) stamp near, off_is other stamp near) (nearest (near -ℤ first_count stamp)
          (era_of stamp near) other h);
      lesser = λ other l. rw (off_is (era_of stamp near) stamp near, off_is other stamp near) (lesser (near -ℤ first_count stamp)
          (era_of stamp near) other h l);
    }

-- one of two eras is not below the other
not_below : (era other : ℤ) (stamp : ℕ) (near : ℤ) → IsNearestEra era stamp near → IsNearestEra other stamp near → era <ℤ other → ⊥
not_below era other stamp near h k l = omega (arith, h.nearest other, k.lesser era l)

same_unless : (a b d : ℤ) → b -ℤ a ≡ d → (a <ℤ b → ⊥) → (b <ℤ a → ⊥) → a ≡ b
same_unless a b (pos zero) e up down = omega (arith, ints, e)
same_unless a b (pos (suc n)) e up down = absurd (up (omega (arith, ints, e)))
same_unless a b (negsuc n) e up down = absurd (down (omega (arith, ints, e)))

pub one_era : (era other : ℤ) (stamp : ℕ) (near : ℤ) → IsNearestEra era stamp near → IsNearestEra other stamp near → era ≡ other
one_era era other stamp near h k =
    same_unless era other (other -ℤ era) refl (not_below era other stamp near h k) (not_below other era stamp near k h)
