-- How far a maker has come, in bounds.
use Rattle.std.specs.Prelude.{ℕ, ◌*◌, ◌≤◌}
use Rattle.event_drill.specs.declared.limits.TheConstants.{OSC_STEPS, MOST_ASKED}
use Rattle.event_drill.specs.declared.maker.Maker.{Maker}

-- the maker has made so many events
pub record HasMade (events : ℕ) (m : Maker) : Type 0 where
  pub osc : m.osc ≤ events * OSC_STEPS
  pub tags : m.next_tag ≤ events
  pub asked : m.asked ≤ m.next_tag
  pub few : m.asked ≤ MOST_ASKED
  pub answered : m.answered ≤ m.asked
