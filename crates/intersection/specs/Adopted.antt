-- The adopted interval as a function that computes: its ends are ends of the intervals themselves.
use Rattle.std.specs.Prelude.{nat_le, Bool, ℤ, List, [], ◌∷◌, length, if◌then◌else◌, Option, Some, None, option_map, option_and_then, unwrap_or}
use Rattle.std.specs.Int.{int_max, int_min}
use Rattle.intersection.specs.Adoption.{count, need}

-- whether enough of the intervals hold the point
abbrev pub is_agreed : List (ℤ × ℤ) → ℤ → Bool
is_agreed s p = nat_le (need (length s)) (count s p)

-- the least low end of these that enough of the intervals hold, if one is
abbrev pub least_agreed : List (ℤ × ℤ) → List (ℤ × ℤ) → Option ℤ
least_agreed s [] = None
least_agreed s (i ∷ others) =
    if is_agreed s i.0 then Some (unwrap_or (option_map (int_min i.0) (least_agreed s others)) i.0)
    else least_agreed s others

-- the greatest high end of these that enough of the intervals hold, if one is
abbrev pub greatest_agreed : List (ℤ × ℤ) → List (ℤ × ℤ) → Option ℤ
greatest_agreed s [] = None
greatest_agreed s (i ∷ others) =
    if is_agreed s i.1 then Some (unwrap_or (option_map (int_max i.1) (greatest_agreed s others)) i.1)
    else greatest_agreed s others

-- from the least low end to the greatest high end that enough of the intervals hold
abbrev pub adopted : List (ℤ × ℤ) → Option (ℤ × ℤ)
adopted s = option_and_then (λ lo. option_map (λ hi. (lo, hi)) (greatest_agreed s s)) (least_agreed s s)
