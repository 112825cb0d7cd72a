-- Quotients of whole numbers, rounded.
use Rattle.std.proofs.Common.{◌≡◌, ℕ, ◌+◌, ◌*◌, ◌/◌, ◌%◌, ◌<◌, ℤ, pos, negsuc, ◌+ℤ◌, ◌*ℤ◌, ◌≤ℤ◌, ◌<ℤ◌, arith, mod-lt, lit<}
use Rattle.std.proofs.Math.Nat.{div-add-mod'}
use Rattle.std.proofs.lemmas.Int.{ints}
use Rattle.std.specs.Int.{int_div_euclid}

-- q is z divided by n, rounded towards the lesser
abbrev pub IsQuotient : ℤ → ℕ → ℤ → Type 0
IsQuotient z n q = ((q *ℤ pos n) ≤ℤ z) × (z <ℤ ((q *ℤ pos n) +ℤ pos n))

pub quotient_is : (z : ℤ) (n : ℕ) → 0 < n → IsQuotient z n (int_div_euclid z (pos n))
quotient_is (pos a) n h =
    let parts : a / n * n + a % n ≡ a = div-add-mod' a n in
    let rest : a % n < n = mod-lt a h in
    (omega (arith, ints, parts, rest), omega (arith, ints, parts, rest))
quotient_is (negsuc a) n h =
    let parts : a / n * n + a % n ≡ a = div-add-mod' a n in
    let rest : a % n < n = mod-lt a h in
    (omega (arith, ints, parts, rest), omega (arith, ints, parts, rest))

-- the same for the denominators that occur
pub by_part : (z : ℤ) → IsQuotient z 4294967296 (int_div_euclid z (pos 4294967296))
by_part z = quotient_is z 4294967296 (lit< tt)

pub by_error_part : (z : ℤ) → IsQuotient z 131072 (int_div_euclid z (pos 131072))
by_error_part z = quotient_is z 131072 (lit< tt)

pub by_two_eras : (z : ℤ) → IsQuotient z 85899345920000000 (int_div_euclid z (pos 85899345920000000))
by_two_eras z = quotient_is z 85899345920000000 (lit< tt)
