-- Worked rows, computed.
use Rattle.std.proofs.Common.{◌≡◌, pos, negsuc, [], ◌∷◌, Some, None, refl}
use Rattle.intersection.specs.Adoption.{count, need}
use Rattle.intersection.specs.Adopted.{adopted}

most_of_two : need 2 ≡ 2
most_of_two = refl

most_of_three : need 3 ≡ 2
most_of_three = refl

most_of_four : need 4 ≡ 3
most_of_four = refl

-- points between the two stretches that two of three intervals hold are adopted too
two_of_three : adopted ((pos 0, pos 10) ∷ (pos 5, pos 15) ∷ (pos 12, pos 20) ∷ []) ≡ Some (pos 5, pos 15)
two_of_three = refl

between_the_stretches : count ((pos 0, pos 10) ∷ (pos 5, pos 15) ∷ (pos 12, pos 20) ∷ []) (pos 11) ≡ 1
between_the_stretches = refl

two_of_four : adopted ((pos 0, pos 10) ∷ (pos 0, pos 10) ∷ (pos 20, pos 30) ∷ (pos 20, pos 30) ∷ []) ≡ None
two_of_four = refl

one_common_point : adopted ((pos 0, pos 10) ∷ (pos 10, pos 20) ∷ []) ≡ Some (pos 10, pos 10)
one_common_point = refl

of_no_interval : adopted [] ≡ None
of_no_interval = refl

below_zero : adopted ((negsuc 4, pos 2) ∷ (negsuc 9, negsuc 1) ∷ []) ≡ Some (negsuc 4, negsuc 1)
below_zero = refl

-- the ends of one interval are no points of it where they are out of order
out_of_order : adopted ((pos 2, pos 1) ∷ []) ≡ None
out_of_order = refl
