-- The numbers that the program ends with.
use Rattle.std.specs.Prelude.{ℕ}
use Rattle.dts_program.specs.declared.status.Status.{Status}
use Rattle.dts_program.specs.declared.status.Status.TheVariants as status

abbrev pub number_of : Status → ℕ
number_of status.Done = 0
number_of status.Usage = 1
number_of (status.CaptureRefused line column cause) = 2
number_of (status.ReadFault which) = 4
number_of (status.WriteFault which) = 5
number_of status.NoMemory = 6
number_of (status.UtcRefused line column cause) = 7
number_of (status.PduRefused field offset cause) = 8
number_of (status.OrderRefused line cause) = 14
