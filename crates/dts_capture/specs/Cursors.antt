-- Where a cursor stands.
use Rattle.std.specs.Prelude.{◌≡◌, ◌+◌, ◌≤◌, [], length, None, option_copied}
use Rattle.line_reader.specs.declared.limits.TheConstants.{MAX_LINE}
use Rattle.line_reader.specs.Fields.{column_of}
use Rattle.dts_capture.specs.declared.cursor.Cursor.TheInside.{Inside}
use Rattle.dts_capture.specs.Parsing.{from_here}

-- the field here was taken last, where there is one, and the line has no more octets than a line may have
pub record IsAtItsField (c : Inside) : Type 0 where
  pub column : c.behind.column ≡ column_of c.behind.line (from_here (option_copied c.here) c.behind.left)
  pub none : option_copied c.here ≡ None → c.behind.left ≡ []
  pub short : length c.behind.line ≤ MAX_LINE
  pub word : c.word ≤ MAX_LINE + 1
