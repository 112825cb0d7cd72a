-- What the civil time of a time differential factor says of the public clauses.
use Rattle.std.proofs.Common.{◌≡◌, ◌↔◌, ◌⊎◌, inl, inr, Result, Ok, Err, refl, sym, ap, subst, ◌∙◌, ℤ}
use Rattle.std.specs.Prelude.{IsOk, IfOk, IfErr, IsErrOf}
use Rattle.utc_value.specs.Stamp.{Stamp, IsTdf}
use Rattle.utc_value.specs.declared.Kind.TheVariants.{Absolute}
use Rattle.utc_text.specs.declared.fault.PrintFault.{PrintFault}
use Rattle.utc_text.specs.declared.fault.PrintFault.TheVariants.{TdfRange, YearRange, NoMemory}
use Rattle.utc_text.specs.declared.calendar.Civil.{Civil}
use Rattle.utc_text.specs.Civil.{IsCivil, IsInYears, civil_count, local_count}
use Rattle.utc_text.specs.Texts.{IsPrintable}
use Rattle.utc_text.proofs.CivilLemmas.{in_years, same_civil}

abbrev pub Value : Result Civil PrintFault → ℤ → ℤ → Type 0
Value r time tdf = IfOk r (λ c. IsTdf tdf × IsCivil c × (civil_count c ≡ local_count time tdf))

abbrev pub Fault : PrintFault → ℤ → ℤ → Type 0
Fault fault time tdf = ((fault ≡ TdfRange) × (¬ IsTdf tdf)) ⊎ ((fault ≡ YearRange) × IsTdf tdf × (¬ IsInYears (local_count time tdf)))

no_fault : (fault : PrintFault) (time tdf : ℤ) → Fault fault time tdf → IsTdf tdf → IsInYears (local_count time tdf) → ⊥
no_fault fault time tdf (inl a) t y = a.1 t
no_fault fault time tdf (inr b) t y = b.2 y

pub succeeds : (r : Result Civil PrintFault) (u : Stamp) (tdf : ℤ) → u.kind ≡ Absolute → Value r u.time tdf
    → IfErr r (λ fault. Fault fault u.time tdf) → IsOk r ↔ IsPrintable u tdf
succeeds (Ok c) u tdf kind value err = (
  λ ok. record {
    kind = kind;
    tdf_in = value.0;
    year = subst IsInYears value.2 (in_years c value.1);
  },
  λ p. refl,
)
succeeds (Err fault) u tdf kind value err = (λ ok. absurd cc, λ p. absurd (no_fault fault u.time tdf err p.tdf_in p.year))

pub only : (r : Result Civil PrintFault) (time tdf : ℤ) → Value r time tdf → IfErr r (λ fault. Fault fault time tdf)
    → (c : Civil) → IsCivil c → IsTdf tdf → civil_count c ≡ local_count time tdf → r ≡ Ok c
only (Ok d) time tdf value err c h t e = ap (λ (x : Civil). Ok x) (same_civil d c value.1 h (value.2 ∙ sym e))
only (Err fault) time tdf value err c h t e = absurd (no_fault fault time tdf err t (subst IsInYears e (in_years c h)))

abbrev failed : PrintFault → Result Civil PrintFault
failed fault = Err fault

fault_is : (a b : PrintFault) → failed a ≡ failed b → a ≡ b
fault_is a b e = cc

apart : TdfRange ≡ YearRange → ⊥
apart e = absurd cc

year_of : (fault : PrintFault) (time tdf : ℤ) → Fault fault time tdf
    → ((fault ≡ YearRange) ↔ (IsTdf tdf × (¬ IsInYears (local_count time tdf))))
year_of fault time tdf (inl a) = (λ e. absurd (apart (sym a.0 ∙ e)), λ p. absurd (a.1 p.0))
year_of fault time tdf (inr b) = (λ e. (b.1, b.2), λ p. b.0)

pub year : (r : Result Civil PrintFault) (u : Stamp) (tdf : ℤ) → u.kind ≡ Absolute → Value r u.time tdf
    → IfErr r (λ fault. Fault fault u.time tdf)
    → IsErrOf r YearRange ↔ ((u.kind ≡ Absolute) × IsTdf tdf × (¬ IsInYears (local_count u.time tdf)))
year (Ok c) u tdf kind value err = (λ e. absurd cc, λ p. absurd (p.2 (subst IsInYears value.2 (in_years c value.1))))
year (Err fault) u tdf kind value err =
    let w = year_of fault u.time tdf err in
    (λ e. let both = w.0 (fault_is fault YearRange e) in (kind, both.0, both.1), λ p. ap (λ (x : PrintFault). Err x) (w.1 (p.1, p.2)))

no_memory_in : (fault : PrintFault) (time tdf : ℤ) → Fault fault time tdf → fault ≡ NoMemory → ⊥
no_memory_in fault time tdf (inl a) e = let x : TdfRange ≡ NoMemory = sym a.0 ∙ e in absurd cc
no_memory_in fault time tdf (inr b) e = let x : YearRange ≡ NoMemory = sym b.0 ∙ e in absurd cc

pub no_memory : (r : Result Civil PrintFault) (time tdf : ℤ) → IfErr r (λ fault. Fault fault time tdf) → r ≡ Err NoMemory → ⊥
no_memory (Ok c) time tdf err e = absurd cc
no_memory (Err fault) time tdf err e = no_memory_in fault time tdf err (fault_is fault NoMemory e)
