-- Fields that are added one after the other.
use Rattle.std.specs.Prelude.{OnOk}
use Rattle.std.proofs.Common.{◌≡◌, ℕ, List, [], ◌∷◌, ◌++◌, Result, Ok, Err, refl, sym, ap, ◌∙◌, append_assoc}
use Rattle.dts_capture.specs.Writing.{spaced, Adds}

pub spaced-append : (xs ys : List (List ℕ)) → spaced (xs ++ ys) ≡ spaced xs ++ spaced ys
spaced-append [] ys = refl
spaced-append (x ∷ xs) ys = ap (λ r. 32 ∷ x ++ r) (spaced-append xs ys) ∙ ap (λ r. 32 ∷ r) (sym (append_assoc x (spaced xs) (spaced ys)))

pub adds_then : (a b c : List ℕ) (xs ys : List (List ℕ)) → Adds a b xs → Adds b c ys → Adds a c (xs ++ ys)
adds_then a b c xs ys first then = then ∙ ap (λ t. t ++ spaced ys) first ∙ append_assoc a (spaced xs) (spaced ys) ∙ ap (λ t. a ++ t) (sym (spaced-append xs ys))

pub adds_tail : {T F : Type 0} (r : Result T F) (a b c : List ℕ) (xs ys : List (List ℕ)) → Adds a b xs → OnOk r (Adds b c ys) → OnOk r (Adds a c (xs ++ ys))
adds_tail (Ok x) a b c xs ys first then = adds_then a b c xs ys first then
adds_tail (Err e) a b c xs ys first then = tt
