-- Sums, differences, products and absolute values of timestamps.
use Rattle.std.specs.Prelude.{◌≡◌, ℤ, pos, ◌+ℤ◌, ◌-ℤ◌, ◌*ℤ◌, unsigned_abs, FitsSigned, is_none, IsSome, Option, Some, None}
use Rattle.std.specs.Int.{w64}
use Rattle.utc_value.specs.declared.Kind.{Kind}
use Rattle.utc_value.specs.declared.Kind.TheVariants.{Absolute, Relative}
use Rattle.utc_value.specs.Stamp.{Stamp, IsTdf, relative_stamp}
use Rattle.utc_value.specs.Members.{IsMember}
use Rattle.utc_routines.specs.declared.UtcFault.{UtcFault}
use Rattle.utc_routines.specs.declared.UtcFault.TheVariants.{Kinds, Overflow, TdfRange}
use Rattle.utc_routines.specs.Interval.{StatesLeast, is_either_unspecified}

-- x is a sum of a member of a and a member of b
abbrev pub IsSum : Stamp → Stamp → ℤ → Type 0
IsSum a b x = (p : ℤ) × (q : ℤ) × IsMember a p × IsMember b q × (x ≡ p +ℤ q)

-- x is a difference of a member of a and a member of b
abbrev pub IsDifference : Stamp → Stamp → ℤ → Type 0
IsDifference a b x = (p : ℤ) × (q : ℤ) × IsMember a p × IsMember b q × (x ≡ p -ℤ q)

-- x is a member of a, k times
abbrev pub IsMultiple : Stamp → ℤ → ℤ → Type 0
IsMultiple a k x = (p : ℤ) × IsMember a p × (x ≡ p *ℤ k)

-- the kind of a sum; two moments have none
abbrev pub sum_kind : Kind → Kind → Option Kind
sum_kind Absolute Absolute = None
sum_kind Absolute Relative = Some Absolute
sum_kind Relative Absolute = Some Absolute
sum_kind Relative Relative = Some Relative

-- the kind of a difference; a moment cannot be taken from a length
abbrev pub difference_kind : Kind → Kind → Option Kind
difference_kind Absolute Absolute = Some Relative
difference_kind Absolute Relative = Some Absolute
difference_kind Relative Absolute = None
difference_kind Relative Relative = Some Relative

-- the time differential factor of a sum, from those of the operands: the absolute operand's, and 0 where there is none
abbrev pub sum_tdf : Kind → Kind → ℤ → ℤ → ℤ
sum_tdf Absolute k t u = t
sum_tdf Relative Absolute t u = u
sum_tdf Relative Relative t u = pos 0

-- a time differential factor that an absolute result keeps
abbrev pub kept_tdf : Kind → ℤ → ℤ
kept_tdf Absolute t = t
kept_tdf Relative t = pos 0

-- r is the sum of a and b: its time is the sum of the times, and its interval the least that holds every sum of members
pub record Adds (a b r : Stamp) : Type 0 where
  pub kind : sum_kind a.kind b.kind ≡ Some r.kind
  pub tdf : r.tdf ≡ sum_tdf a.kind b.kind a.tdf b.tdf
  pub time : r.time ≡ a.time +ℤ b.time
  pub interval : StatesLeast (is_either_unspecified a b) (IsSum a b) r.time r.inaccuracy

-- when a sum is refused
abbrev pub RefusesSum : Stamp → Stamp → UtcFault → Type 0
RefusesSum a b Kinds = sum_kind a.kind b.kind ≡ None
RefusesSum a b Overflow = IsSome (sum_kind a.kind b.kind) × (¬ FitsSigned w64 (a.time +ℤ b.time))
RefusesSum a b _ = ⊥

-- r is a less b: its time is the difference of the times, and its interval the least that holds every difference of members
pub record Subtracts (a b r : Stamp) : Type 0 where
  pub kind : difference_kind a.kind b.kind ≡ Some r.kind
  pub tdf : r.tdf ≡ kept_tdf r.kind a.tdf
  pub time : r.time ≡ a.time -ℤ b.time
  pub interval : StatesLeast (is_either_unspecified a b) (IsDifference a b) r.time r.inaccuracy

-- when a difference is refused
abbrev pub RefusesDifference : Stamp → Stamp → UtcFault → Type 0
RefusesDifference a b Kinds = difference_kind a.kind b.kind ≡ None
RefusesDifference a b Overflow = IsSome (difference_kind a.kind b.kind) × (¬ FitsSigned w64 (a.time -ℤ b.time))
RefusesDifference a b _ = ⊥

-- r is k times a: its time is the product, and its interval the least that holds every member's product
pub record Multiplies (a : Stamp) (k : ℤ) (r : Stamp) : Type 0 where
  pub operand : a.kind ≡ Relative
  pub kind : r.kind ≡ Relative
  pub tdf : r.tdf ≡ pos 0
  pub time : r.time ≡ a.time *ℤ k
  pub interval : StatesLeast (is_none a.inaccuracy) (IsMultiple a k) r.time r.inaccuracy

-- when a product is refused
abbrev pub RefusesProduct : Stamp → ℤ → UtcFault → Type 0
RefusesProduct a k Kinds = a.kind ≡ Absolute
RefusesProduct a k Overflow = (a.kind ≡ Relative) × (¬ FitsSigned w64 (a.time *ℤ k))
RefusesProduct a k _ = ⊥

-- r is a length of a's time without its sign, as inaccurate as a
pub record TakesAbsolute (a r : Stamp) : Type 0 where
  pub operand : a.kind ≡ Relative
  pub value : r ≡ relative_stamp (pos (unsigned_abs a.time)) a.inaccuracy

-- when an absolute value is refused
abbrev pub RefusesAbsolute : Stamp → UtcFault → Type 0
RefusesAbsolute a Kinds = a.kind ≡ Absolute
RefusesAbsolute a Overflow = (a.kind ≡ Relative) × (¬ FitsSigned w64 (pos (unsigned_abs a.time)))
RefusesAbsolute a _ = ⊥

-- r is a with another time differential factor
pub record ChangesTdf (a : Stamp) (t : ℤ) (r : Stamp) : Type 0 where
  pub operand : a.kind ≡ Absolute
  pub value : r ≡ record a { tdf = t }

-- when another time differential factor is refused
abbrev pub RefusesTdf : Stamp → ℤ → UtcFault → Type 0
RefusesTdf a t Kinds = a.kind ≡ Relative
RefusesTdf a t TdfRange = (a.kind ≡ Absolute) × (¬ IsTdf t)
RefusesTdf a t _ = ⊥
