-- A result that is right where it is there, and refused where it is not, is there exactly where it is right, and refused exactly
-- where it is refused.
use Rattle.std.proofs.Common.{◌≡◌, ◌↔◌, Result, Ok, Err, IfOk, IfErr, ap, subst}
use Rattle.utc_routines.specs.declared.UtcFault.{UtcFault}

abbrev given : {T : Type 0} → T → Result T UtcFault
given x = Ok x

abbrev refused : {T : Type 0} → UtcFault → Result T UtcFault
refused x = Err x

given_is : {T : Type 0} (x y : T) → given x ≡ given y → x ≡ y
given_is x y e = cc

refused_is : {T : Type 0} (x y : UtcFault) → refused {T = T} x ≡ refused {T = T} y → x ≡ y
refused_is x y e = cc

-- what holds of a result in two clauses
pub both : {T : Type 0} (r : Result T UtcFault) (P Q : T → Type 0) → IfOk r P → IfOk r Q → IfOk r (λ x. P x × Q x)
both (Ok x) P Q p q = (p, q)
both (Err fault) P Q p q = tt

module _ {T : Type 0} (Is : T → Type 0) (Refuses : UtcFault → Type 0) (apart : (x : T) (fault : UtcFault) → Is x → Refuses fault → ⊥) where
  pub given_exactly : ((x y : T) → Is x → Is y → x ≡ y) → (r : Result T UtcFault) → IfOk r Is → IfErr r Refuses → (x : T)
      → (r ≡ Ok x) ↔ Is x
  given_exactly one (Ok y) ok err x = (λ e. subst Is (given_is y x e) ok, λ h. ap (λ (z : T). given z) (one y x ok h))
  given_exactly one (Err fault) ok err x = (λ e. absurd cc, λ h. absurd (apart x fault h err))

  pub refused_exactly : ((x y : UtcFault) → Refuses x → Refuses y → x ≡ y) → (r : Result T UtcFault) → IfOk r Is → IfErr r Refuses
      → (x : UtcFault) → (r ≡ Err x) ↔ Refuses x
  refused_exactly one (Ok y) ok err x = (λ e. absurd cc, λ h. absurd (apart y x ok h))
  refused_exactly one (Err fault) ok err x =
      (λ e. subst Refuses (refused_is {T = T} fault x e) err, λ h. ap (λ (z : UtcFault). refused {T = T} z) (one fault x err h))
