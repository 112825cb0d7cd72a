-- Scripts of which the first entry was taken.
use Rattle.std.proofs.Common.{◌≡◌, ℕ, zero, suc, List, [], ◌∷◌, drop, true, refl, sym, subst, arith}
use Rattle.std.specs.List.{AllPass}
use Rattle.dts_base.specs.declared.link.Scripted.{Scripted}
use Rattle.dts_base.specs.Scripts.{has_octets, first_has_more}
use Rattle.dts_base.specs.Numbers.{Script, Gives, GivesNext, IsBounded}

-- where all octets of streams are at least one, so are those of the first arrival that is left
pub first_has_octets : (k : ℕ) (xs : List Scripted) → AllPass has_octets xs → first_has_more 0 (drop k xs) ≡ true
first_has_octets zero [] all = refl
first_has_octets (suc k) [] all = refl
first_has_octets zero (x ∷ xs) all = all 0 x (omega arith)
first_has_octets (suc k) (x ∷ xs) all = first_has_octets k xs (λ i d below. all (suc i) d (omega arith))

bounded : (bound answer last : ℕ) (left : List ℕ) (new : Script) → IsBounded bound (record { left = left; last = last }) → Gives answer left last new → IsBounded bound new
bounded bound answer last [] new is gives = subst (IsBounded bound) (sym gives.1) is
bounded bound answer last (x ∷ xs) new is gives = subst (IsBounded bound) (sym gives.1) (record { left = λ k d below. is.left (suc k) d (omega arith); last = is.left 0 x (omega arith) })

-- the numbers that are left stay below their bound
pub bounded_next : (bound answer : ℕ) (old new : Script) → IsBounded bound old → GivesNext answer old new → IsBounded bound new
bounded_next bound answer old new is gives = bounded bound answer old.last old.left new is gives
