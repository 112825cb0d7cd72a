-- What one that takes actions has taken, call by call.
use Rattle.std.proofs.Common.{◌≡◌, List, [], ◌∷◌, ◌++◌, sym, subst}
use Rattle.std.specs.Prelude.{Result, Ok, Err, OnOk}
use Rattle.std.proofs.lemmas.List.{append-nil, append_assoc}
use Rattle.dts_capture.specs.declared.action.Action.{Action}
use Rattle.capture_replay.specs.Taken.{HasTaken, GoesOn}

-- one action
pub one : {T : Type 0} (took : T → List Action → Type 0) (old new : T) (a b : Action) (Are : List Action → Type 0)
    → GoesOn took old new (a ∷ []) → a ≡ b → Are (b ∷ []) → HasTaken took old new Are
one took old new a b Are taken is are = record { actions = a ∷ []; are = subst (λ x. Are (x ∷ [])) (sym is) are; taken = taken }

pub one_ok : {T E : Type 0} (took : T → List Action → Type 0) (old new : T) (r : Result (Unit {0}) E) (a b : Action) (Are : List Action → Type 0)
    → OnOk r (GoesOn took old new (a ∷ [])) → a ≡ b → Are (b ∷ []) → OnOk r (HasTaken took old new Are)
one_ok took old new (Ok v) a b Are taken is are = one took old new a b Are taken is are
one_ok took old new (Err e) a b Are taken is are = tt

-- no action
pub nothing : {T : Type 0} (took : T → List Action → Type 0) (taker : T) → GoesOn took taker taker []
nothing took taker = λ before is. subst (took taker) (sym (append-nil before)) is

-- some actions, and then others
pub both : {T : Type 0} (took : T → List Action → Type 0) (a b c : T) (xs ys : List Action) → GoesOn took a b xs → GoesOn took b c ys → GoesOn took a c (xs ++ ys)
both took a b c xs ys first second = λ before is. subst (took c) (append_assoc before xs ys) (second (before ++ xs) (first before is))

-- what the actions are is said otherwise
pub are_also : {T : Type 0} (took : T → List Action → Type 0) (old new : T) (P Q : List Action → Type 0) → ((actions : List Action) → P actions → Q actions)
    → HasTaken took old new P → HasTaken took old new Q
are_also took old new P Q also has = record { actions = has.actions; are = also has.actions has.are; taken = has.taken }
