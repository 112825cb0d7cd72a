-- What the private functions that write outcomes answer: no public clause reaches it.
use Rattle.line_filter.specs.declared.filter.Unfit.{Unfit}
use Rattle.line_filter.specs.declared.filter.Unfit.TheVariants as unfit
use Rattle.utc_text.specs.declared.fault.PrintFault.TheVariants as print
use Rattle.utc_calculator.specs.declared.cause.UtcCause.TheVariants as cause
use Rattle.utc_calculator.specs.declared.cause.UtcRefusal.{UtcRefusal}
use Rattle.utc_calculator.specs.Places.{refused_whole}
use Rattle.utc_calculator.specs.declared.results.Unwritten.{Unwritten}
use Rattle.utc_calculator.specs.declared.results.Unwritten.TheVariants as unwritten

-- nothing is written for want of memory, or for a year that is not written, and that only where P holds
abbrev pub IsUnwritten : Type 0 → Unwritten → Type 0
IsUnwritten P unwritten.Year = P
IsUnwritten P unwritten.NoMemory = Unit {0}

-- an outcome that is not written, as the fault of an answer
abbrev pub fault_of : Unwritten → Unfit UtcRefusal
fault_of unwritten.Year = unfit.Refused (refused_whole (cause.Print print.YearRange))
fault_of unwritten.NoMemory = unfit.NoMemory
