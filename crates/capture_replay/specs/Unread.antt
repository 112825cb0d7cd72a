-- Why a line is not read, as a filter tells of it.
use Rattle.std.specs.Prelude.{ℕ, List, Option}
use Rattle.dts_capture.specs.Spelling.{IsWrongAt}
use Rattle.line_filter.specs.declared.filter.Unfit.{Unfit}
use Rattle.line_filter.specs.declared.filter.Unfit.TheVariants as unfit
use Rattle.capture_replay.specs.declared.fault.CaptureFault.{CaptureFault}

-- the line is wrong here, or memory is missing
abbrev pub IsUnread : Option ℕ → List ℕ → Unfit CaptureFault → Type 0
IsUnread current text (unfit.Refused f) = IsWrongAt current text (record { column = f.column; why = f.cause })
IsUnread current text unfit.NoMemory = Unit {0}
