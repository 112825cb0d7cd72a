-- Where a line is refused.
use Rattle.std.specs.Prelude.{ℕ, ◌+◌, ◌-◌, ◌^◌, min, List}
use Rattle.line_reader.specs.Fields.{column_of}
use Rattle.utc_calculator.specs.declared.cause.UtcCause.{UtcCause}
use Rattle.utc_calculator.specs.declared.cause.UtcCause.TheVariants as cause
use Rattle.utc_calculator.specs.declared.cause.UtcRefusal.{UtcRefusal}

-- how far behind the first octet of its operand a cause lies: that of a time lies at its wrong field
abbrev pub offset_of : UtcCause → ℕ
offset_of (cause.Text fault) = fault.offset
offset_of _ = 0

-- the operand at this column is refused
abbrev pub refused_at : ℕ → UtcCause → UtcRefusal
refused_at column c = record { column = min (column + offset_of c) (2 ^ 32 - 1); cause = c }

-- the first of the fields that are left of a line is refused, or its end where none is left
abbrev pub refused_here : List ℕ → List (List ℕ) → UtcCause → UtcRefusal
refused_here line left c = refused_at (column_of line left) c

-- a whole line is refused
abbrev pub refused_whole : UtcCause → UtcRefusal
refused_whole c = record { column = 1; cause = c }
