-- The two orders of timestamps.
use Rattle.std.specs.Prelude.{◌≡◌, ◌≢◌, ◌↔◌, ℤ, ◌<ℤ◌}
use Rattle.utc_value.specs.Stamp.{Stamp}
use Rattle.utc_value.specs.Members.{IsMember}
use Rattle.utc_routines.specs.declared.UtcFault.{UtcFault}
use Rattle.utc_routines.specs.declared.UtcFault.TheVariants.{Kinds}
use Rattle.utc_routines.specs.declared.Order4.{Order4}
use Rattle.utc_routines.specs.declared.Order4.TheVariants.{EqualTo, LessThan, GreaterThan, Indeterminate}

-- every member of a is below every member of b
abbrev pub IsBelow : Stamp → Stamp → Type 0
IsBelow a b = (x y : ℤ) → IsMember a x → IsMember b y → x <ℤ y

-- x is the one member
abbrev pub IsSoleMember : Stamp → ℤ → Type 0
IsSoleMember s x = (y : ℤ) → IsMember s y ↔ (y ≡ x)

-- both have the same one member
abbrev pub AreOnePoint : Stamp → Stamp → Type 0
AreOnePoint a b = (x : ℤ) × IsSoleMember a x × IsSoleMember b x

-- how the members of a lie to those of b
abbrev pub IsIntervalOrder : Stamp → Stamp → Order4 → Type 0
IsIntervalOrder a b EqualTo = AreOnePoint a b
IsIntervalOrder a b LessThan = IsBelow a b
IsIntervalOrder a b GreaterThan = IsBelow b a
IsIntervalOrder a b Indeterminate = (¬ AreOnePoint a b) × (¬ IsBelow a b) × (¬ IsBelow b a)

-- how the time of a lies to that of b
abbrev pub IsTimeOrder : Stamp → Stamp → Order4 → Type 0
IsTimeOrder a b EqualTo = a.time ≡ b.time
IsTimeOrder a b LessThan = a.time <ℤ b.time
IsTimeOrder a b GreaterThan = b.time <ℤ a.time
IsTimeOrder a b Indeterminate = ⊥

-- timestamps are refused that are not of one kind
abbrev pub RefusesUnlike : Stamp → Stamp → UtcFault → Type 0
RefusesUnlike a b Kinds = a.kind ≢ b.kind
RefusesUnlike a b _ = ⊥
