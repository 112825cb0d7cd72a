-- The three points of a timestamp, exactly.
use Rattle.std.proofs.Common.{◌≡◌, ◌↔◌, Result, Ok, Err, IfOk, IfErr, refl}
use Rattle.utc_value.specs.Stamp.{Stamp, IsInRange}
use Rattle.utc_routines.specs.declared.UtcFault.{UtcFault}
use Rattle.utc_routines.specs.Tightest.{ArePoints, RefusesPoints}
use Rattle.utc_routines.proofs.OneResult.{one_first}
use Rattle.utc_routines.proofs.Refusals.{points_apart, points_fault}
use Rattle.utc_routines.proofs.Exactly.{given_exactly, refused_exactly}

abbrev Three : Type 0
Three = Stamp × Stamp × Stamp

abbrev three : Stamp → Stamp → Stamp → Three
three x y z = (x, y, z)

abbrev Are : Stamp → Three → Type 0
Are a p = ArePoints a p.0 p.1 p.2 × IsInRange p.0 × IsInRange p.1 × IsInRange p.2

together : (a : Stamp) (r : Result Three UtcFault) → IfOk r (λ p. ArePoints a p.0 p.1 p.2)
    → IfOk r (λ p. IsInRange p.0 × IsInRange p.1 × IsInRange p.2) → IfOk r (Are a)
together a (Ok p) are range = (are, range.0, range.1, range.2)
together a (Err fault) are range = tt

same_three : (r s t x y z : Stamp) → r ≡ x → s ≡ y → t ≡ z → three r s t ≡ three x y z
same_three r s t x y z e f g = rw (e, f, g) refl

one_three : (a : Stamp) (p q : Three) → Are a p → Are a q → p ≡ q
one_three a p q h k =
    let same = one_first a p.0 p.1 p.2 q.0 q.1 q.2 h.0 k.0 in
    same_three p.0 p.1 p.2 q.0 q.1 q.2 same.0 same.1 same.2

apart : (a : Stamp) (p : Three) (fault : UtcFault) → Are a p → RefusesPoints a fault → ⊥
apart a p fault h refused = points_apart a p.0 p.1 p.2 fault h.0 h.1 h.3 refused

pub points_exactly : (a : Stamp) (r : Result Three UtcFault) → IfOk r (λ p. ArePoints a p.0 p.1 p.2)
    → IfOk r (λ p. IsInRange p.0 × IsInRange p.1 × IsInRange p.2) → IfErr r (RefusesPoints a)
    → (x y z : Stamp) → (r ≡ Ok (three x y z)) ↔ (ArePoints a x y z × IsInRange x × IsInRange y × IsInRange z)
points_exactly a r are range err x y z =
    given_exactly (Are a) (RefusesPoints a) (apart a) (one_three a) r (together a r are range) err (three x y z)

pub points_refused : (a : Stamp) (r : Result Three UtcFault) → IfOk r (λ p. ArePoints a p.0 p.1 p.2)
    → IfOk r (λ p. IsInRange p.0 × IsInRange p.1 × IsInRange p.2) → IfErr r (RefusesPoints a)
    → (fault : UtcFault) → (r ≡ Err fault) ↔ RefusesPoints a fault
points_refused a r are range err = refused_exactly (Are a) (RefusesPoints a) (apart a) (points_fault a) r (together a r are range) err
