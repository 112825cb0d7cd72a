-- Calls in a row of an object that may tell its content.
use Rattle.std.proofs.Common.{ℕ, List, ◌++◌, Option, Some, None, refl, ap, ◌∙◌, subst, append_assoc}
use Rattle.dts_base.specs.Told.{Told}
use Rattle.dts_base.specs.Streams.{Wrote}

-- what nothing changed is told as before
pub Told-same : {A : Type 0} (R : A → A → Type 0) (a : Option A) → ((x : A) → R x x) → Told a a R
Told-same R None h = refl
Told-same R (Some x) h = (x, refl, h x)

-- two calls in a row
pub Told-then : {A : Type 0} (R S Q : A → A → Type 0) (a b c : Option A) → Told a b R → Told b c S → ((x y z : A) → R x y → S y z → Q x z) → Told a c Q
Told-then R S Q None b c first second h =
    let P : Option _ → Type 0 = λ o. Told o c S in
    subst P first second
Told-then {A} R S Q (Some x) b c first second h =
    let P : Option A → Type 0 = λ o. Told o c S in
    let next = subst P first.1 second in
    (next.0, next.1, h x first.0 next.0 first.2 next.2)

-- what is told has a weaker relation too
pub Told-weaker : {A : Type 0} (R Q : A → A → Type 0) (a b : Option A) → Told a b R → ((x y : A) → R x y → Q x y) → Told a b Q
Told-weaker R Q None b told h = told
Told-weaker R Q (Some x) b told h = (told.0, told.1, h x told.0 told.2)

-- more text after text
pub Wrote-then : (before mid after : Option (List ℕ)) (text more : List ℕ) → Wrote before mid text → Wrote mid after more → Wrote before after (text ++ more)
Wrote-then before mid after text more first second =
    Told-then _ _ _ before mid after first second (λ x y z e f. f ∙ ap (λ w. w ++ more) e ∙ append_assoc x text more)
