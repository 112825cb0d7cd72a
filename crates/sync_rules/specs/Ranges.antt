-- The numbers of a history, as a capture may have them.
use Rattle.std.specs.Prelude.{ℤ, pos, ◌≤◌, ◌≤ℤ◌, IfSome}
use Rattle.slew_clock.specs.declared.limits.TheConstants.{GREATEST_OSC, GREATEST_TIME}
use Rattle.dts_capture.specs.declared.event.Event.{Event}
use Rattle.dts_capture.specs.declared.event.Event.TheVariants as event
use Rattle.sync_rules.specs.History.{History, Begun, Then, Start, event_osc}

abbrev pub IsTime : ℤ → Type 0
IsTime t = (pos 0 ≤ℤ t) × (t ≤ℤ GREATEST_TIME)

pub record StartsInRange (start : Start) : Type 0 where
  pub osc : start.osc ≤ GREATEST_OSC
  pub value : IsTime start.value
  pub first : IfSome start.first (λ i. IsTime i.lo × IsTime i.hi)

abbrev pub IsEventInRange : Event → Type 0
IsEventInRange (event.Source osc tag i) = (osc ≤ GREATEST_OSC) × IsTime i.lo × IsTime i.hi
IsEventInRange e = event_osc e ≤ GREATEST_OSC

abbrev pub IsInRange : History → Type 0
IsInRange (Begun settings start) = StartsInRange start
IsInRange (Then before event actions) = IsInRange before × IsEventInRange event
