-- How many queries are open.
use Rattle.std.proofs.Common.{◌≡◌, ℕ, zero, suc, ◌+◌, ◌≤◌, Bool, true, false, cond, List, [], ◌∷◌, get_or, set, count_by, refl, arith}
use Rattle.std.proofs.lemmas.List.Sums.{sum_by-cons}

-- the one that is closed counts no more
pub count_closed : (xs : List Bool) (k : ℕ) → count_by (λ b. b) (set xs k false) + cond (get_or xs k false) 1 0 ≡ count_by (λ b. b) xs
count_closed [] k = refl
count_closed (x ∷ xs) zero =
    let old = sum_by-cons (λ (b : Bool). cond b 1 0) x xs in
    let new = sum_by-cons (λ (b : Bool). cond b 1 0) false xs in
    rw (old, new) (omega arith)
count_closed (x ∷ xs) (suc k) =
    let old = sum_by-cons (λ (b : Bool). cond b 1 0) x xs in
    let new = sum_by-cons (λ (b : Bool). cond b 1 0) x (set xs k false) in
    rw (old, new) (omega (arith, count_closed xs k))

-- so no more are open than before, and one fewer where it was open
pub count_within : (xs : List Bool) (k : ℕ) → count_by (λ b. b) (set xs k false) ≤ count_by (λ b. b) xs
count_within xs k = omega (arith, count_closed xs k)

pub count_below : (xs : List Bool) (k : ℕ) → get_or xs k false ≡ true → count_by (λ b. b) (set xs k false) + 1 ≡ count_by (λ b. b) xs
count_below xs k e = rw e at (count_closed xs k)

-- what is closed is not open
pub closed_there : (xs : List Bool) (k : ℕ) → get_or (set xs k false) k false ≡ false
closed_there [] k = refl
closed_there (x ∷ xs) zero = refl
closed_there (x ∷ xs) (suc k) = closed_there xs k
