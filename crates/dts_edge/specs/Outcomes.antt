-- What an adapter keeps of the outcomes of its calls.
use Rattle.std.specs.Prelude.{◌≡◌, ℕ, ◌+◌, ◌-◌, ◌^◌, min, Some, Result, Ok, Err, IsErr}
use Rattle.std.specs.declared.io.Error.{Error}
use Rattle.std.specs.IoError.{error_kind}
use Rattle.dts_base.specs.declared.outcome.Failed.{Failed}
use Rattle.dts_edge.specs.declared.faults.Faults.{Faults}

-- a call that did not fail changes nothing; a failure is counted, and what was said of it is kept
abbrev pub Takes : Faults → Faults → Result ℕ Error → Result ℕ Failed → Type 0
Takes old new (Ok count) result = (result ≡ Ok count) × (new ≡ old)
Takes old new (Err error) result = IsErr result × (new.count ≡ min (old.count + 1) (2 ^ 64 - 1)) × (new.last ≡ Some (error_kind error))
