-- What a command reads and writes where it answers a status.
use Rattle.std.specs.Prelude.{◌≡◌, ℕ, List, Option, Result}
use Rattle.line_filter.specs.declared.stop.Stop.{Stop}
use Rattle.line_filter.specs.Filters.{Rules, HasFiltered}
use Rattle.slew_clock.specs.declared.rates.Rates.{Rates}
use Rattle.capture_replay.specs.declared.fault.CaptureFault.{CaptureFault}
use Rattle.capture_replay.specs.SafeLogs.{WroteSafely}
use Rattle.event_drill.specs.declared.command.DrillStop.{DrillStop}
use Rattle.event_drill.specs.Drilled.{HasDrilled}
use Rattle.utc_order.specs.declared.cause.OrderStatus.{OrderStatus}
use Rattle.utc_order.specs.Orders.{HasOrdered}
use Rattle.wire_show.specs.declared.end.Shown.{Shown}
use Rattle.wire_show.specs.declared.end.ShowEnd.{ShowEnd}
use Rattle.wire_show.specs.Ends.{HasShown}
use Rattle.dts_program.specs.declared.status.Status.{Status}
use Rattle.dts_program.specs.Statuses.{capture_status, drill_status, order_status, show_status}

-- The command's filter ended or stopped over these octets in a way that has this status, and of what the input tells to be
-- left and the output to hold now, this is what it read and wrote.
pub record HasAnswered {State Cause : Type 0} (rules : Rules State Cause) (from : State) (status_of : Result (Unit {0}) (Stop Cause) → Status) (octets : List ℕ) (left : Option (List ℕ)) (s : Status) (before now : Option (List ℕ)) : Type 0 where
  pub end : Result (Unit {0}) (Stop Cause)
  pub is : s ≡ status_of end
  pub filtered : HasFiltered rules from octets left end before now

-- The replay ended or stopped in a way that has this status, and what was written is the log of a safe history at these rates, or where
-- the output failed the beginning of one.
pub record HasReplayedSafely (rates : Rates) (s : Status) (before now : Option (List ℕ)) : Type 0 where
  pub end : Result (Unit {0}) (Stop CaptureFault)
  pub is : s ≡ capture_status end
  pub safe : WroteSafely rates end before now

-- The drill of this seed with so many events ended or stopped in a way that has this status, and wrote its summary, a beginning of it
-- where the output failed, or nothing.
pub record HasSummarised (seed events : ℕ) (s : Status) (before now : Option (List ℕ)) : Type 0 where
  pub end : Result (Unit {0}) DrillStop
  pub is : s ≡ drill_status end
  pub drilled : HasDrilled seed events end before now

-- The ordering of these octets ended in a way that has this status, and wrote all lines in their order, or nothing where a line is refused.
pub record HasPutInOrder (octets : List ℕ) (left : Option (List ℕ)) (s : Status) (before now : Option (List ℕ)) : Type 0 where
  pub end : OrderStatus
  pub is : s ≡ order_status end
  pub ordered : HasOrdered octets left end before now

-- The showing of these octets ended in a way that has this status, and wrote the lines of their fields, or nothing where they are refused.
pub record HasShownFields (kind : Shown) (octets : List ℕ) (left : Option (List ℕ)) (s : Status) (before now : Option (List ℕ)) : Type 0 where
  pub end : ShowEnd
  pub is : s ≡ show_status end
  pub shown : HasShown kind octets left end before now
