-- The records of one clock: which is the next one, and clock histories.
use Rattle.std.specs.Prelude.{◌≡◌, ℕ, suc, ◌<◌, ◌≤◌, ℤ, List, [], ◌∷◌, Some, slice_get}
use Rattle.slew_clock.specs.declared.rates.Rates.{Rates}
use Rattle.slew_clock.specs.declared.record.ClockRecord.{ClockRecord}
use Rattle.slew_clock.specs.Record.{end_of, IsSound}
use Rattle.slew_clock.specs.Change.{anchored_record, stepped_record, renewed_record}

-- the next record of a clock: one of the three changes made it, at an oscillator reading not below that at which the record before was made
pub data IsNext (r : Rates) (rec next : ClockRecord) : Type 0 where
  anchored : (osc : ℕ) (i : ℤ × ℤ) → rec.born ≤ osc → next ≡ anchored_record rec osc i → IsNext r rec next
  stepped : (osc : ℕ) (i : ℤ × ℤ) → rec.born ≤ osc → next ≡ stepped_record rec osc i → IsNext r rec next
  renewed : (osc : ℕ) → rec.born ≤ osc → renewed_record r rec osc ≡ Some next → IsNext r rec next

-- the next record of the newest of these, where there is one
abbrev pub FollowsNewest : Rates → List ClockRecord → ClockRecord → Type 0
FollowsNewest r [] next = Unit {0}
FollowsNewest r (rec ∷ older) next = IsNext r rec next

-- a clock history, the newest record first: each record is sound, and the next one of the record before
abbrev pub IsClockHistory : Rates → List ClockRecord → Type 0
IsClockHistory r [] = Unit {0}
IsClockHistory r (rec ∷ older) = IsSound r rec × FollowsNewest r older rec × IsClockHistory r older

-- the next record renews the line at its end or past it, so that the line stood still
abbrev pub IsLateRenewal : Rates → ClockRecord → ClockRecord → Type 0
IsLateRenewal r rec next = (end_of r rec ≤ next.born) × (renewed_record r rec next.born ≡ Some next)

-- of the records of a history from position `later` on, up to `earlier`, none renews the line too late
abbrev pub NoneIsLate : Rates → List ClockRecord → (earlier later : ℕ) → Type 0
NoneIsLate r records earlier later = (k : ℕ) (rec next : ClockRecord) → later ≤ k → k < earlier
    → slice_get records k ≡ Some next → slice_get records (suc k) ≡ Some rec → IsLateRenewal r rec next → ⊥
