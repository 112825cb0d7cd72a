-- Words that are added one behind the other.
use Rattle.std.proofs.Common.{◌≡◌, ◌∙◌, ℕ, List, [], ◌∷◌, ◌++◌, refl, sym, ap, append_assoc}
use Rattle.dts_capture.specs.Writing.{Adds, spaced}

spaced_together : (ws vs : List (List ℕ)) → spaced (ws ++ vs) ≡ spaced ws ++ spaced vs
spaced_together [] vs = refl
spaced_together (w ∷ ws) vs =
    ap (λ t. 32 ∷ w ++ t) (spaced_together ws vs) ∙ ap (λ t. 32 ∷ t) (sym (append_assoc w (spaced ws) (spaced vs)))

-- some words, and then others
pub add_both : (old between new : List ℕ) (ws vs : List (List ℕ)) → Adds old between ws → Adds between new vs → Adds old new (ws ++ vs)
add_both old between new ws vs e f =
    f ∙ ap (λ t. t ++ spaced vs) e ∙ append_assoc old (spaced ws) (spaced vs) ∙ ap (λ t. old ++ t) (sym (spaced_together ws vs))
