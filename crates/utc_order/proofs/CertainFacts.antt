-- What is certain, by the members of times.
use Rattle.std.proofs.Common.{◌≡◌, true, ℕ, Option, Some, None, ℤ, pos, ◌+ℤ◌, ◌-ℤ◌, ◌<ℤ◌, int_lt, arith}
use Rattle.std.specs.Option.{option_map}
use Rattle.std.proofs.lemmas.Int.{ints}
use Rattle.std.proofs.lemmas.Bool.{false≢true}
use Rattle.utc_value.specs.Stamp.{Stamp}
use Rattle.utc_value.specs.Members.{IsNear}
use Rattle.utc_routines.proofs.EndsLemmas.{near_itself}
use Rattle.utc_routines.specs.Comparison.{IsBelow}
use Rattle.utc_order.specs.Marks.{is_below, is_certainly_earlier}

less_is_told : (x y : ℤ) → int_lt x y ≡ true → x <ℤ y
less_is_told x y h = grind (arith, ints)

told_is_less : (x y : ℤ) → x <ℤ y → int_lt x y ≡ true
told_is_less x y h = grind (arith, ints)

abbrev late : ℤ → Option ℕ → Option ℤ
late t i = option_map (λ k. t +ℤ pos k) i

abbrev early : ℤ → Option ℕ → Option ℤ
early t i = option_map (λ k. t -ℤ pos k) i

near_below : (t u : ℤ) (i j : Option ℕ) → is_below (late t i) (early u j) ≡ true → (x y : ℤ) → IsNear t i x → IsNear u j y → x <ℤ y
near_below t u None j h x y m n = absurd (false≢true h)
near_below t u (Some i) None h x y m n = absurd (false≢true h)
near_below t u (Some i) (Some j) h x y m n = let less = less_is_told (t +ℤ pos i) (u -ℤ pos j) h in omega (arith, ints, m.1, n.0)

below_near : (t u : ℤ) (i j : Option ℕ) → ((x y : ℤ) → IsNear t i x → IsNear u j y → x <ℤ y) → is_below (late t i) (early u j) ≡ true
below_near t u None j h = let less = h u u tt (near_itself u j) in absurd (omega (arith, ints))
below_near t u (Some i) None h = let less = h t t (near_itself t (Some i)) tt in absurd (omega (arith, ints))
below_near t u (Some i) (Some j) h =
    told_is_less (t +ℤ pos i) (u -ℤ pos j) (h (t +ℤ pos i) (u -ℤ pos j) (omega (arith, ints), omega (arith, ints)) (omega (arith, ints), omega (arith, ints)))

pub certain_below : (a b : Stamp) → is_certainly_earlier a b ≡ true → IsBelow a b
certain_below a b h = near_below a.time b.time a.inaccuracy b.inaccuracy h

pub below_certain : (a b : Stamp) → IsBelow a b → is_certainly_earlier a b ≡ true
below_certain a b h = below_near a.time b.time a.inaccuracy b.inaccuracy h
