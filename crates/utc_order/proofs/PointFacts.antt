-- Points of time, some of which may be missing.
use Rattle.std.proofs.Common.{◌≡◌, Bool, true, false, ◌||◌, cond, Option, Some, None, refl, true≢false, ℤ, int_lt, arith}
use Rattle.std.proofs.lemmas.Int.{ints}
use Rattle.utc_order.specs.Places.{greater}
use Rattle.utc_order.specs.Marks.{is_below}

or_false : (b : Bool) → b ≡ (b || false)
or_false true = refl
or_false false = refl

below_either : (x y z : ℤ) → int_lt x (cond (int_lt y z) z y) ≡ (int_lt x y || int_lt x z)
below_either x y z = grind (arith, ints)

below_chosen : (x y z : ℤ) (b : Bool) → is_below (Some x) (cond b (Some z) (Some y)) ≡ int_lt x (cond b z y)
below_chosen x y z true = refl
below_chosen x y z false = refl

-- what is below the greater of two is below one of them
pub below_greater : (x y z : Option ℤ) → is_below x (greater y z) ≡ (is_below x y || is_below x z)
below_greater None y z = refl
below_greater (Some x) None z = refl
below_greater (Some x) (Some y) None = or_false (int_lt x y)
below_greater (Some x) (Some y) (Some z) = rw (below_chosen x y z (int_lt y z)) (below_either x y z)

chosen_some : (y z : ℤ) (b : Bool) → cond b (Some z) (Some y) ≡ Some (cond b z y)
chosen_some y z true = refl
chosen_some y z false = refl

chosen_thrice : (x y z : ℤ) → cond (int_lt x (cond (int_lt y z) z y)) (cond (int_lt y z) z y) x ≡ cond (int_lt (cond (int_lt x y) y x) z) z (cond (int_lt x y) y x)
chosen_thrice x y z = grind (arith, ints)

pub greater_none : (x : Option ℤ) → greater x None ≡ x
greater_none None = refl
greater_none (Some x) = refl

pub greater_assoc : (x y z : Option ℤ) → greater x (greater y z) ≡ greater (greater x y) z
greater_assoc None y z = refl
greater_assoc (Some x) None z = refl
greater_assoc (Some x) (Some y) None = rw (chosen_some x y (int_lt x y)) refl
greater_assoc (Some x) (Some y) (Some z) =
    rw (chosen_some y z (int_lt y z), chosen_some x y (int_lt x y)) (rw (chosen_some x (cond (int_lt y z) z y) (int_lt x (cond (int_lt y z) z y)), chosen_some (cond (int_lt x y) y x) z (int_lt (cond (int_lt x y) y x) z), chosen_thrice x y z) refl)

pub or_is_false : (a b : Bool) → (a || b) ≡ false → (a ≡ false) × (b ≡ false)
or_is_false true b h = absurd (true≢false h)
or_is_false false b h = (refl, h)
