-- A routine refuses operands for one fault, and never operands with a result.
use Rattle.std.proofs.Common.{◌≡◌, ℕ, Option, Some, None, IsSome, refl, sym, subst, ◌∙◌, arith, ℤ, pos, ◌+ℤ◌, ◌-ℤ◌, ◌≤ℤ◌, FitsSigned, w64}
use Rattle.std.proofs.lemmas.Int.{ints}
use Rattle.utc_value.specs.declared.Kind.{Kind}
use Rattle.utc_value.specs.declared.Kind.TheVariants.{Absolute, Relative}
use Rattle.utc_value.specs.Stamp.{Stamp, IsInRange, IsTdfOf}
use Rattle.utc_value.specs.Members.{IsNear}
use Rattle.utc_routines.specs.declared.UtcFault.{UtcFault}
use Rattle.utc_routines.specs.declared.UtcFault.TheVariants.{Kinds, Overflow, OutOfOrder, Unspecified, TdfRange}
use Rattle.utc_routines.specs.Interval.{is_either_unspecified}
use Rattle.utc_routines.specs.Arithmetic.{sum_kind, Adds, RefusesSum, difference_kind, Subtracts, RefusesDifference, TakesAbsolute, RefusesAbsolute, Multiplies, RefusesProduct, ChangesTdf, RefusesTdf}
use Rattle.utc_routines.specs.Comparison.{RefusesUnlike}
use Rattle.utc_routines.specs.Tightest.{Bounds, RefusesBound, ArePoints, RefusesPoints}
use Rattle.utc_routines.proofs.OneResult.{stated_unique}

-- two kinds that are one are not unlike_apart
pub unlike_apart : (a b : Stamp) (fault : UtcFault) → a.kind ≡ b.kind → RefusesUnlike a b fault → ⊥
unlike_apart a b Kinds e refused = refused e
unlike_apart a b fault e refused = refused

pub absolute_or_relative : (k : Kind) → k ≡ Absolute → k ≡ Relative → ⊥
absolute_or_relative k h l = cc

pub sum_apart : (a b r : Stamp) (fault : UtcFault) → Adds a b r → IsInRange r → RefusesSum a b fault → ⊥
sum_apart a b r Kinds h range refused = let both = sym h.kind ∙ refused in cc
sum_apart a b r Overflow h range refused = refused.1 (subst (FitsSigned w64) h.time range.time_fits)
sum_apart a b r fault h range refused = refused

pub difference_apart : (a b r : Stamp) (fault : UtcFault) → Subtracts a b r → IsInRange r → RefusesDifference a b fault → ⊥
difference_apart a b r Kinds h range refused = let both = sym h.kind ∙ refused in cc
difference_apart a b r Overflow h range refused = refused.1 (subst (FitsSigned w64) h.time range.time_fits)
difference_apart a b r fault h range refused = refused

pub absolute_apart : (a r : Stamp) (fault : UtcFault) → TakesAbsolute a r → IsInRange r → RefusesAbsolute a fault → ⊥
absolute_apart a r Kinds h range refused = absolute_or_relative a.kind refused h.operand
absolute_apart a r Overflow h range refused = refused.1 (subst (λ (s : Stamp). FitsSigned w64 s.time) h.value range.time_fits)
absolute_apart a r fault h range refused = refused

pub product_apart : (a : Stamp) (k : ℤ) (r : Stamp) (fault : UtcFault) → Multiplies a k r → IsInRange r
    → RefusesProduct a k fault → ⊥
product_apart a k r Kinds h range refused = absolute_or_relative a.kind refused h.operand
product_apart a k r Overflow h range refused = refused.1 (subst (FitsSigned w64) h.time range.time_fits)
product_apart a k r fault h range refused = refused

pub bound_apart : (a b r : Stamp) (fault : UtcFault) → Bounds a b r → IsInRange r → RefusesBound a b fault → ⊥
bound_apart a b r Kinds h range refused = refused h.operands
bound_apart a b r OutOfOrder h range refused = h.order refused.1
bound_apart a b r Overflow h range (_, _, (t, i, is, not_fits)) =
    not_fits (subst (FitsSigned w64) (stated_unique (is_either_unspecified a b) _ (a.time +ℤ b.time) r.time t r.inaccuracy i h.interval is) range.time_fits)
bound_apart a b r fault h range refused = refused

pub tdf_apart : (a : Stamp) (t : ℤ) (r : Stamp) (fault : UtcFault) → ChangesTdf a t r → IsInRange r → RefusesTdf a t fault → ⊥
tdf_apart a t r Kinds h range refused = absolute_or_relative a.kind h.operand refused
tdf_apart a t r TdfRange h range refused =
    refused.1 (subst (λ (k : Kind). IsTdfOf k t) h.operand (subst (λ (s : Stamp). IsTdfOf s.kind s.tdf) h.value range.tdf_fits))
tdf_apart a t r fault h range refused = refused

-- without an inaccuracy there is no first member
no_first : (t x : ℤ) (i : Option ℕ) → ((y : ℤ) → IsNear t i y → x ≤ℤ y) → i ≡ None → ⊥
no_first t x None first e = let less = first (x -ℤ pos 1) tt in omega (arith, ints, less)
no_first t x (Some i) first e = cc

between : (x y z : ℤ) → x ≤ℤ y → y ≤ℤ z → FitsSigned w64 x → FitsSigned w64 z → FitsSigned w64 y
between x y z low high h k = omega (arith, ints, low, high, h.sfits, k.sfits)

pub points_apart : (a first middle last : Stamp) (fault : UtcFault) → ArePoints a first middle last → IsInRange first
    → IsInRange last → RefusesPoints a fault → ⊥
points_apart a first middle last Unspecified h low high refused = no_first a.time first.time a.inaccuracy h.earliest.first refused
points_apart a first middle last Overflow h low high (_, (x, member, not_fits)) =
    not_fits (between first.time x last.time (h.earliest.first x member) (h.latest.last x member) low.time_fits high.time_fits)
points_apart a first middle last fault h low high refused = refused

no_kind : (o : Option Kind) → o ≡ None → IsSome o → ⊥
no_kind None e h = cc
no_kind (Some k) e h = cc

-- each routine refuses operands with one fault
pub sum_fault : (a b : Stamp) (f g : UtcFault) → RefusesSum a b f → RefusesSum a b g → f ≡ g
sum_fault a b Kinds Kinds h k = refl
sum_fault a b Kinds Overflow h k = absurd (no_kind (sum_kind a.kind b.kind) h k.0)
sum_fault a b Overflow Kinds h k = absurd (no_kind (sum_kind a.kind b.kind) k h.0)
sum_fault a b Overflow Overflow h k = refl
sum_fault a b Kinds g h k = absurd k
sum_fault a b Overflow g h k = absurd k
sum_fault a b f g h k = absurd h

pub difference_fault : (a b : Stamp) (f g : UtcFault) → RefusesDifference a b f → RefusesDifference a b g → f ≡ g
difference_fault a b Kinds Kinds h k = refl
difference_fault a b Kinds Overflow h k = absurd (no_kind (difference_kind a.kind b.kind) h k.0)
difference_fault a b Overflow Kinds h k = absurd (no_kind (difference_kind a.kind b.kind) k h.0)
difference_fault a b Overflow Overflow h k = refl
difference_fault a b Kinds g h k = absurd k
difference_fault a b Overflow g h k = absurd k
difference_fault a b f g h k = absurd h

pub absolute_fault : (a : Stamp) (f g : UtcFault) → RefusesAbsolute a f → RefusesAbsolute a g → f ≡ g
absolute_fault a Kinds Kinds h k = refl
absolute_fault a Kinds Overflow h k = absurd (absolute_or_relative a.kind h k.0)
absolute_fault a Overflow Kinds h k = absurd (absolute_or_relative a.kind k h.0)
absolute_fault a Overflow Overflow h k = refl
absolute_fault a Kinds g h k = absurd k
absolute_fault a Overflow g h k = absurd k
absolute_fault a f g h k = absurd h

pub product_fault : (a : Stamp) (n : ℤ) (f g : UtcFault) → RefusesProduct a n f → RefusesProduct a n g → f ≡ g
product_fault a n Kinds Kinds h k = refl
product_fault a n Kinds Overflow h k = absurd (absolute_or_relative a.kind h k.0)
product_fault a n Overflow Kinds h k = absurd (absolute_or_relative a.kind k h.0)
product_fault a n Overflow Overflow h k = refl
product_fault a n Kinds g h k = absurd k
product_fault a n Overflow g h k = absurd k
product_fault a n f g h k = absurd h

pub tdf_fault : (a : Stamp) (t : ℤ) (f g : UtcFault) → RefusesTdf a t f → RefusesTdf a t g → f ≡ g
tdf_fault a t Kinds Kinds h k = refl
tdf_fault a t Kinds TdfRange h k = absurd (absolute_or_relative a.kind k.0 h)
tdf_fault a t TdfRange Kinds h k = absurd (absolute_or_relative a.kind h.0 k)
tdf_fault a t TdfRange TdfRange h k = refl
tdf_fault a t Kinds g h k = absurd k
tdf_fault a t TdfRange g h k = absurd k
tdf_fault a t f g h k = absurd h

pub unlike_fault : (a b : Stamp) (f g : UtcFault) → RefusesUnlike a b f → RefusesUnlike a b g → f ≡ g
unlike_fault a b Kinds Kinds h k = refl
unlike_fault a b Kinds g h k = absurd k
unlike_fault a b f g h k = absurd h

pub bound_fault : (a b : Stamp) (f g : UtcFault) → RefusesBound a b f → RefusesBound a b g → f ≡ g
bound_fault a b Kinds Kinds h k = refl
bound_fault a b Kinds OutOfOrder h k = absurd (h k.0)
bound_fault a b Kinds Overflow h k = absurd (h k.0)
bound_fault a b OutOfOrder Kinds h k = absurd (k h.0)
bound_fault a b OutOfOrder OutOfOrder h k = refl
bound_fault a b OutOfOrder Overflow h k = absurd (k.1 h.1)
bound_fault a b Overflow Kinds h k = absurd (k h.0)
bound_fault a b Overflow OutOfOrder h k = absurd (h.1 k.1)
bound_fault a b Overflow Overflow h k = refl
bound_fault a b Kinds g h k = absurd k
bound_fault a b OutOfOrder g h k = absurd k
bound_fault a b Overflow g h k = absurd k
bound_fault a b f g h k = absurd h

pub points_fault : (a : Stamp) (f g : UtcFault) → RefusesPoints a f → RefusesPoints a g → f ≡ g
points_fault a Unspecified Unspecified h k = refl
points_fault a Unspecified Overflow h k = absurd (k.0 h)
points_fault a Overflow Unspecified h k = absurd (h.0 k)
points_fault a Overflow Overflow h k = refl
points_fault a Unspecified g h k = absurd k
points_fault a Overflow g h k = absurd k
points_fault a f g h k = absurd h
