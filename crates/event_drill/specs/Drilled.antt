-- What a drill leaves in its output, and why it stops.
use Rattle.std.specs.Prelude.{◌≡◌, ℕ, ◌≤◌, List, Option, Result, Ok, Err}
use Rattle.dts_base.specs.Causes.{Rose}
use Rattle.dts_base.specs.Streams.{Wrote, AppendsPart}
use Rattle.dts_base.specs.Told.{Told}
use Rattle.event_drill.specs.declared.command.DrillStop.{DrillStop}
use Rattle.event_drill.specs.declared.command.DrillStop.TheVariants as stop
use Rattle.event_drill.specs.Summary.{drill_text}

-- a drill that ended or stopped so wrote its line, a beginning of it, or nothing
abbrev pub HasDrilled : ℕ → ℕ → Result (Unit {0}) DrillStop → Option (List ℕ) → Option (List ℕ) → Type 0
HasDrilled seed events (Ok done) before now = Wrote before now (drill_text seed events)
HasDrilled seed events (Err stop.Write) before now = Told before now (AppendsPart (drill_text seed events))
HasDrilled seed events (Err stop.NoMemory) before now = now ≡ before

-- The count of the output's faults rose where the drill stops for one, and stayed where it doesn't: no fault is passed over.
pub record HasWriteCause (before now : ℕ) (result : Result (Unit {0}) DrillStop) : Type 0 where
  pub later : before ≤ now
  pub failed : result ≡ Err stop.Write → Rose before now
  pub kept : (result ≡ Err stop.Write → ⊥) → now ≡ before
