-- Numbers that fit their types.
use Rattle.std.proofs.Common.{ℤ, pos, negsuc, neg_ℤ, ◌-◌, ◌^◌, ◌≤ℤ◌, SFits, arith}
use Rattle.std.proofs.lemmas.Int.{ints}
use Rattle.std.specs.Int.{w64, w128}

-- a time up to 2^63 - 1 fits 64 bits
pub fits_from : (z : ℤ) → pos 0 ≤ℤ z → z ≤ℤ pos (2 ^ 63 - 1) → SFits w64 z
fits_from (pos n) from to = record { sfits = omega (arith, ints, to) }
fits_from (negsuc n) from to = absurd (omega (arith, ints, from))

-- a number from -2^63 to 2^63 fits 128 bits
pub fits_between : (z : ℤ) → neg_ℤ (pos (2 ^ 63)) ≤ℤ z → z ≤ℤ pos (2 ^ 63) → SFits w128 z
fits_between (pos n) from to = record { sfits = omega (arith, ints, to) }
fits_between (negsuc n) from to = record { sfits = omega (arith, ints, from) }
