-- Which of two things a test chose.
use Rattle.std.proofs.Common.{◌≡◌, ◌⊎◌, inl, inr, zero, suc, Bool, true, false, cond, [], ◌∷◌, refl, arith}
use Rattle.std.specs.Prelude.{Contains}
use Rattle.dts_capture.specs.declared.action.Action.{Action}

pub chosen : {A : Type 0} (b : Bool) (x y : A) (P : A → Type 0) → P (cond b x y) → ((b ≡ true) × P x) ⊎ ((b ≡ false) × P y)
chosen true x y P h = inl (refl, h)
chosen false x y P h = inr (refl, h)

-- what holds of both holds of the one that a test chooses
pub both : {A : Type 0} (b : Bool) (x y : A) (P : A → Type 0) → (b ≡ true → P x) → (b ≡ false → P y) → P (cond b x y)
both true x y P h k = h refl
both false x y P h k = k refl

pub only_one : (x a : Action) → Contains (x ∷ []) a → x ≡ a
only_one x a (zero, lt, e) = e
only_one x a (suc k, lt, e) = absurd (omega arith)

pub none_of : (a : Action) → Contains [] a → ⊥
none_of a (k, lt, e) = omega arith
