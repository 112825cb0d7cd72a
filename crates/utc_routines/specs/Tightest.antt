-- The points of an interval, and the tightest timestamp round several times.
use Rattle.std.specs.Prelude.{◌≡◌, ◌≢◌, ◌⊎◌, ℕ, ◌≤◌, ℤ, pos, ◌+ℤ◌, ◌-ℤ◌, ◌≤ℤ◌, ◌<ℤ◌, FitsSigned, Bool, true, false, Option, Some, None}
use Rattle.std.specs.Int.{w64}
use Rattle.utc_value.specs.Stamp.{Stamp}
use Rattle.utc_value.specs.Members.{IsMember}
use Rattle.utc_routines.specs.declared.UtcFault.{UtcFault}
use Rattle.utc_routines.specs.declared.UtcFault.TheVariants.{Kinds, Overflow, OutOfOrder, Unspecified}
use Rattle.utc_routines.specs.Interval.{IsHalf, HoldsAll, IsEarliest, IsLatest, stated, is_either_unspecified}

-- of all whole times t with a whole inaccuracy i whose interval holds all of P, the one of least inaccuracy, and of these the one of least time
pub record IsTightest (P : ℤ → Type 0) (t : ℤ) (i : ℕ) : Type 0 where
  pub holds : HoldsAll P (t -ℤ pos i) (t +ℤ pos i)
  pub least : (u : ℤ) (j : ℕ) → HoldsAll P (u -ℤ pos j) (u +ℤ pos j) → i ≤ j
  pub first : (u : ℤ) → HoldsAll P (u -ℤ pos i) (u +ℤ pos i) → t ≤ℤ u

-- a result's time and inaccuracy: those of the tightest interval, and where an operand is unspecified the floor of half the sum of the operands' times, unspecified
abbrev pub StatesTightest : Bool → (ℤ → Type 0) → ℤ → ℤ → Option ℕ → Type 0
StatesTightest true P sum t inaccuracy = IsHalf sum t × (inaccuracy ≡ None)
StatesTightest false P sum t inaccuracy = (i : ℕ) × IsTightest P t i × (inaccuracy ≡ stated i)

-- x is a member of a or of b
abbrev pub IsMemberOfEither : Stamp → Stamp → ℤ → Type 0
IsMemberOfEither a b x = IsMember a x ⊎ IsMember b x

-- x is the earliest of a or the latest of b
abbrev pub IsOuterPoint : Stamp → Stamp → ℤ → Type 0
IsOuterPoint a b x = IsEarliest a x ⊎ IsLatest b x

-- the time and inaccuracy of a span, which holds the intervals of both
abbrev pub IsSpan : Stamp → Stamp → ℤ → Option ℕ → Type 0
IsSpan a b t inaccuracy = StatesTightest (is_either_unspecified a b) (IsMemberOfEither a b) (a.time +ℤ b.time) t inaccuracy

-- the time and inaccuracy of a bound, from a's earliest to b's latest
abbrev pub IsBound : Stamp → Stamp → ℤ → Option ℕ → Type 0
IsBound a b t inaccuracy = StatesTightest (is_either_unspecified a b) (IsOuterPoint a b) (a.time +ℤ b.time) t inaccuracy

-- r is the span of a and b
pub record Spans (a b r : Stamp) : Type 0 where
  pub operands : a.kind ≡ b.kind
  pub kind : r.kind ≡ a.kind
  pub tdf : r.tdf ≡ a.tdf
  pub interval : IsSpan a b r.time r.inaccuracy

-- a's earliest is after b's latest
abbrev pub IsOutOfOrder : Stamp → Stamp → Type 0
IsOutOfOrder a b = (x y : ℤ) × IsEarliest a x × IsLatest b y × (y <ℤ x)

-- r is the bound of a and b
pub record Bounds (a b r : Stamp) : Type 0 where
  pub operands : a.kind ≡ b.kind
  pub order : ¬ IsOutOfOrder a b
  pub kind : r.kind ≡ a.kind
  pub tdf : r.tdf ≡ a.tdf
  pub interval : IsBound a b r.time r.inaccuracy

-- when a bound is refused
abbrev pub RefusesBound : Stamp → Stamp → UtcFault → Type 0
RefusesBound a b Kinds = a.kind ≢ b.kind
RefusesBound a b OutOfOrder = (a.kind ≡ b.kind) × IsOutOfOrder a b
RefusesBound a b Overflow = (a.kind ≡ b.kind) × (¬ IsOutOfOrder a b) × ((t : ℤ) × (i : Option ℕ) × IsBound a b t i × (¬ FitsSigned w64 t))
RefusesBound a b _ = ⊥

-- the time alone, known exactly
abbrev pub exact_at : Stamp → ℤ → Stamp
exact_at a x = record a { time = x; inaccuracy = Some 0 }

-- the earliest member, the time and the latest member, each known exactly
pub record ArePoints (a first middle last : Stamp) : Type 0 where
  pub earliest : IsEarliest a first.time
  pub latest : IsLatest a last.time
  pub first_only : first ≡ exact_at a first.time
  pub middle_only : middle ≡ exact_at a a.time
  pub last_only : last ≡ exact_at a last.time

-- when points are refused
abbrev pub RefusesPoints : Stamp → UtcFault → Type 0
RefusesPoints a Unspecified = a.inaccuracy ≡ None
RefusesPoints a Overflow = (a.inaccuracy ≢ None) × ((x : ℤ) × IsMember a x × (¬ FitsSigned w64 x))
RefusesPoints a _ = ⊥
