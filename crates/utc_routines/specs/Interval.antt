-- Intervals of whole times, and the least one that holds a set of them. A set of times is a fact of a time.
use Rattle.std.specs.Prelude.{◌≡◌, ℕ, nat_le, ℤ, pos, ◌+ℤ◌, ◌-ℤ◌, ◌≤ℤ◌, ◌<ℤ◌, Bool, true, false, ◌||◌, is_none, if◌then◌else◌, Option, Some, None}
use Rattle.utc_value.specs.declared.TheConstants.{MAX_INACCURACY}
use Rattle.utc_value.specs.Stamp.{Stamp}
use Rattle.utc_value.specs.Members.{IsMember}

-- every time of P lies from low to high
abbrev pub HoldsAll : (ℤ → Type 0) → ℤ → ℤ → Type 0
HoldsAll P low high = (x : ℤ) → P x → (low ≤ℤ x) × (x ≤ℤ high)

-- from low to high is the least interval that holds all of P: every other that does reaches as far both ways
pub record IsLeastInterval (P : ℤ → Type 0) (low high : ℤ) : Type 0 where
  pub holds : HoldsAll P low high
  pub least : (l h : ℤ) → HoldsAll P l h → (l ≤ℤ low) × (high ≤ℤ h)

-- an inaccuracy as a timestamp states it: above 2^48 − 2 it is unspecified
abbrev pub stated : ℕ → Option ℕ
stated i = if nat_le i MAX_INACCURACY then Some i else None

-- one of two timestamps has an unspecified inaccuracy
abbrev pub is_either_unspecified : Stamp → Stamp → Bool
is_either_unspecified a b = is_none a.inaccuracy || is_none b.inaccuracy

-- the inaccuracy of a result with time t: unspecified where an operand's is, and else the half width of the least interval round t that holds all of P
abbrev pub StatesLeast : Bool → (ℤ → Type 0) → ℤ → Option ℕ → Type 0
StatesLeast true P t inaccuracy = inaccuracy ≡ None
StatesLeast false P t inaccuracy = (i : ℕ) × IsLeastInterval P (t -ℤ pos i) (t +ℤ pos i) × (inaccuracy ≡ stated i)

-- t is half of n, rounded toward the lesser
pub record IsHalf (n t : ℤ) : Type 0 where
  pub low : (t +ℤ t) ≤ℤ n
  pub high : n <ℤ (t +ℤ t +ℤ pos 2)

-- x is the first of a timestamp's members
pub record IsEarliest (s : Stamp) (x : ℤ) : Type 0 where
  pub member : IsMember s x
  pub first : (y : ℤ) → IsMember s y → x ≤ℤ y

-- x is the last of a timestamp's members
pub record IsLatest (s : Stamp) (x : ℤ) : Type 0 where
  pub member : IsMember s x
  pub last : (y : ℤ) → IsMember s y → y ≤ℤ x
