-- How intervals lie to each other, by their ends.
use Rattle.std.proofs.Common.{◌≡◌, ◌↔◌, ℕ, ◌||◌, is_none, true, true≢false, Option, Some, None, refl, sym, ◌∙◌, arith, ℤ, pos, ◌+ℤ◌, ◌≤ℤ◌, ◌<ℤ◌}
use Rattle.std.proofs.lemmas.Int.{ints}
use Rattle.utc_value.specs.Stamp.{Stamp}
use Rattle.utc_value.specs.Members.{IsNear}
use Rattle.utc_routines.specs.declared.Order4.{Order4}
use Rattle.utc_routines.specs.declared.Order4.TheVariants.{EqualTo, LessThan, GreaterThan, Indeterminate}
use Rattle.utc_routines.specs.Comparison.{IsIntervalOrder, IsBelow, IsSoleMember, AreOnePoint}
use Rattle.utc_routines.specs.Formula.{AreEnds, AreSamePoint, IsEndsOrder}
use Rattle.utc_routines.specs.Interval.{is_either_unspecified}
use Rattle.utc_routines.proofs.EndsLemmas.{near_itself, member_within, member_low, member_high}

below : (a b : Stamp) (al ah bl bh : ℤ) → AreEnds a al ah → AreEnds b bl bh → ah <ℤ bl → IsBelow a b
below a b al ah bl bh one other h x y hx hy =
    let p = (member_within a al ah one x hx).1 in
    let q = (member_within b bl bh other y hy).0 in
    omega (arith, ints)

not_below : (a b : Stamp) (al ah bl bh : ℤ) → AreEnds a al ah → AreEnds b bl bh → bl ≤ℤ ah → ¬ IsBelow a b
not_below a b al ah bl bh one other h f =
    let p = f ah bl (member_high a al ah one) (member_low b bl bh other) in
    omega (arith, ints)

sole : (s : Stamp) (low high x : ℤ) → AreEnds s low high → low ≡ high → x ≡ low → IsSoleMember s x
sole s low high x ends same here y = (
  λ h.
      let w = member_within s low high ends y h in
      omega (arith, ints, w.0, w.1),
  λ e.
      let at : y ≡ low = e ∙ here in
      rw at (member_low s low high ends),
)

one_point : (a b : Stamp) (al ah bl bh : ℤ) → AreEnds a al ah → AreEnds b bl bh → AreOnePoint a b → AreSamePoint al ah bl bh
one_point a b al ah bl bh one other (x, sa, sb) =
    let p = (sa al).0 (member_low a al ah one) in
    let q = (sa ah).0 (member_high a al ah one) in
    let r = (sb bl).0 (member_low b bl bh other) in
    let s = (sb bh).0 (member_high b bl bh other) in
    record {
      first = p ∙ sym q;
      second = r ∙ sym s;
      both = p ∙ sym r;
    }

-- the order of the ends is that of the members
pub order_of_ends : (a b : Stamp) (al ah bl bh : ℤ) (order : Order4) → AreEnds a al ah → AreEnds b bl bh → IsEndsOrder al ah bl bh order → IsIntervalOrder a b order
order_of_ends a b al ah bl bh LessThan one other h = below a b al ah bl bh one other h
order_of_ends a b al ah bl bh GreaterThan one other h = below b a bl bh al ah other one h
order_of_ends a b al ah bl bh EqualTo one other h = (al, sole a al ah al one h.first refl, sole b bl bh al other h.second h.both)
order_of_ends a b al ah bl bh Indeterminate one other h = (
  λ point. h.0 (one_point a b al ah bl bh one other point),
  not_below a b al ah bl bh one other h.1,
  not_below b a bl bh al ah other one h.2,
)

-- no order can be told of two intervals of which one is unspecified
apart : (t u : ℤ) (i j : Option ℕ) → (is_none i || is_none j) ≡ true → ¬ ((x y : ℤ) → IsNear t i x → IsNear u j y → x <ℤ y)
apart t u None j e f = let h = f u u tt (near_itself u j) in omega (arith, ints)
apart t u (Some i) None e f = let h = f t t (near_itself t (Some i)) tt in omega (arith, ints)
apart t u (Some i) (Some j) e f = true≢false (sym e)

apart_back : (t u : ℤ) (i j : Option ℕ) → (is_none i || is_none j) ≡ true → ¬ ((x y : ℤ) → IsNear u j x → IsNear t i y → x <ℤ y)
apart_back t u None j e f = let h = f u u (near_itself u j) tt in omega (arith, ints)
apart_back t u (Some i) None e f = let h = f t t tt (near_itself t (Some i)) in omega (arith, ints)
apart_back t u (Some i) (Some j) e f = true≢false (sym e)

not_sole : (t : ℤ) (x : ℤ) → ¬ ((y : ℤ) → IsNear t None y ↔ (y ≡ x))
not_sole t x f = let h = (f (x +ℤ pos 1)).0 tt in omega (arith, ints)

no_point : (t u : ℤ) (i j : Option ℕ) → (is_none i || is_none j) ≡ true → ¬ ((x : ℤ) × ((y : ℤ) → IsNear t i y ↔ (y ≡ x)) × ((y : ℤ) → IsNear u j y ↔ (y ≡ x)))
no_point t u None j e (x, f, g) = not_sole t x f
no_point t u (Some i) None e (x, f, g) = not_sole u x g
no_point t u (Some i) (Some j) e point = true≢false (sym e)

pub unspecified_order : (a b : Stamp) → is_either_unspecified a b ≡ true → IsIntervalOrder a b Indeterminate
unspecified_order a b e = (
  no_point a.time b.time a.inaccuracy b.inaccuracy e,
  apart a.time b.time a.inaccuracy b.inaccuracy e,
  apart_back a.time b.time a.inaccuracy b.inaccuracy e,
)
