-- What holds of each item of a list holds of the one that is found.
use Rattle.std.proofs.Common.{◌≡◌, subst, Bool, true, false, cond, List, [], ◌∷◌, Some, find, All, option_map}
use Rattle.std.specs.Option.{IfSome}
use Rattle.std.proofs.lemmas.List.Elements.{All-head, All-tail}

pub found : {X Y : Type 0} (f : X → Y) (P : Y → Type 0) (p : X → Bool) (xs : List X) → All (λ x. P (f x)) xs → IfSome (option_map f (find p xs)) P
found f P p [] all = tt
found f P p (x ∷ xs) all = first (p x) (All-head (λ x. P (f x)) x xs all) (found f P p xs (All-tail (λ x. P (f x)) x xs all))
  where
    first : (b : Bool) → P (f x) → IfSome (option_map f (find p xs)) P → IfSome (option_map f (cond b (Some x) (find p xs))) P
    first true head rest = head
    first false head rest = rest

pub found_is : {X Y : Type 0} (f : X → Y) (P : Y → Type 0) (p : X → Bool) (xs : List X) (y : Y) → All (λ x. P (f x)) xs → option_map f (find p xs) ≡ Some y → P y
found_is f P p xs y all is = subst (λ v. IfSome v P) is (found f P p xs all)
