-- The statuses that the commands answer.
use Rattle.std.specs.Prelude.{ℕ, Result, Ok, Err}
use Rattle.line_filter.specs.declared.stop.Stop.{Stop}
use Rattle.line_filter.specs.declared.stop.Stop.TheVariants as stop
use Rattle.capture_replay.specs.declared.fault.CaptureFault.{CaptureFault}
use Rattle.utc_calculator.specs.declared.cause.UtcRefusal.{UtcRefusal}
use Rattle.event_drill.specs.declared.command.DrillStop.{DrillStop}
use Rattle.event_drill.specs.declared.command.DrillStop.TheVariants as drill_stop
use Rattle.utc_order.specs.declared.cause.OrderStatus.{OrderStatus}
use Rattle.utc_order.specs.declared.cause.OrderStatus.TheVariants as order
use Rattle.wire_show.specs.declared.end.ShowEnd.{ShowEnd}
use Rattle.wire_show.specs.declared.end.ShowEnd.TheVariants as shown
use Rattle.dts_program.specs.declared.status.Status.{Status}
use Rattle.dts_program.specs.declared.status.Status.TheVariants as status
use Rattle.dts_program.specs.declared.status.SourceName.TheVariants as source
use Rattle.dts_program.specs.declared.status.SinkName.TheVariants as sink

-- the status of a filter from the input to the output that ended or stopped so, where a line that it refuses has this status
abbrev pub status_of : {Cause : Type 0} → (ℕ → Cause → Status) → Result (Unit {0}) (Stop Cause) → Status
status_of refused (Ok done) = status.Done
status_of refused (Err (stop.Refused line cause)) = refused line cause
status_of refused (Err stop.Read) = status.ReadFault source.Input
status_of refused (Err stop.Write) = status.WriteFault sink.Output
status_of refused (Err stop.NoMemory) = status.NoMemory

-- that of a replay
abbrev pub capture_status : Result (Unit {0}) (Stop CaptureFault) → Status
capture_status = status_of (λ line fault. status.CaptureRefused line fault.column fault.cause)

-- that of the calculator
abbrev pub utc_status : Result (Unit {0}) (Stop UtcRefusal) → Status
utc_status = status_of (λ line refusal. status.UtcRefused line refusal.column refusal.cause)

-- that of a drill
abbrev pub drill_status : Result (Unit {0}) DrillStop → Status
drill_status (Ok done) = status.Done
drill_status (Err drill_stop.Write) = status.WriteFault sink.Output
drill_status (Err drill_stop.NoMemory) = status.NoMemory

-- that of the ordering of lines
abbrev pub order_status : OrderStatus → Status
order_status order.Done = status.Done
order_status (order.Refused line cause) = status.OrderRefused line cause
order_status order.ReadFault = status.ReadFault source.Input
order_status order.WriteFault = status.WriteFault sink.Output
order_status order.NoMemory = status.NoMemory

-- that of the showing of octets
abbrev pub show_status : ShowEnd → Status
show_status shown.Done = status.Done
show_status (shown.Refused refused) = status.PduRefused refused.field refused.offset refused.cause
show_status shown.ReadFault = status.ReadFault source.Input
show_status shown.WriteFault = status.WriteFault sink.Output
show_status shown.NoMemory = status.NoMemory

-- the statuses of `replay`
abbrev pub IsReplayStatus : Status → Type 0
IsReplayStatus status.Usage = ⊥
IsReplayStatus (status.UtcRefused line column why) = ⊥
IsReplayStatus (status.OrderRefused line why) = ⊥
IsReplayStatus (status.PduRefused field offset why) = ⊥
IsReplayStatus _ = Unit {0}

-- the statuses of `utc`
abbrev pub IsUtcStatus : Status → Type 0
IsUtcStatus status.Usage = ⊥
IsUtcStatus (status.CaptureRefused line column why) = ⊥
IsUtcStatus (status.OrderRefused line why) = ⊥
IsUtcStatus (status.PduRefused field offset why) = ⊥
IsUtcStatus _ = Unit {0}

-- the statuses of `order`
abbrev pub IsOrderStatus : Status → Type 0
IsOrderStatus status.Usage = ⊥
IsOrderStatus (status.CaptureRefused line column why) = ⊥
IsOrderStatus (status.UtcRefused line column why) = ⊥
IsOrderStatus (status.PduRefused field offset why) = ⊥
IsOrderStatus _ = Unit {0}

-- the statuses of `show`
abbrev pub IsShowStatus : Status → Type 0
IsShowStatus status.Usage = ⊥
IsShowStatus (status.CaptureRefused line column why) = ⊥
IsShowStatus (status.UtcRefused line column why) = ⊥
IsShowStatus (status.OrderRefused line why) = ⊥
IsShowStatus _ = Unit {0}

-- the statuses of what reads nothing and writes to the output: `drill`, the help and the version
abbrev pub IsOutputStatus : Status → Type 0
IsOutputStatus status.Done = Unit {0}
IsOutputStatus (status.WriteFault which) = Unit {0}
IsOutputStatus status.NoMemory = Unit {0}
IsOutputStatus _ = ⊥
