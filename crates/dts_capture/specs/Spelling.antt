-- What a line of a capture says, and where it is wrong: without its line feed.
use Rattle.std.specs.Prelude.{◌≡◌, ◌⊎◌, ℕ, ◌+◌, ◌<◌, ◌≤◌, Bool, true, false, ◌==◌, List, [], ◌∷◌, length, Option}
use Rattle.dts_capture.specs.declared.line.Line.{Line}
use Rattle.dts_capture.specs.declared.line.Line.TheVariants as line
use Rattle.dts_capture.specs.declared.line.LineCause.TheVariants as cause
use Rattle.dts_capture.specs.declared.line.LineFault.{LineFault}
use Rattle.dts_capture.specs.declared.line.LineFault.TheVariants as fault
use Rattle.line_reader.specs.declared.limits.TheConstants.{MAX_LINE}
use Rattle.line_reader.specs.Fields.{fields_of}
use Rattle.dts_capture.specs.Grammar.{Makes, Fails, Fault, IsFault, line_forms}

-- an empty line, or a comment, which begins with '#'
abbrev pub is_blank : List ℕ → Bool
is_blank [] = true
is_blank (octet ∷ octets) = octet == 35

-- The line says this; where a current record is given, `at K` is of that one.
pub record Spells (current : Option ℕ) (text : List ℕ) (l : Line) : Type 0 where
  pub short : length text ≤ MAX_LINE
  pub says : ((is_blank text ≡ true) × (l ≡ line.Blank)) ⊎ ((is_blank text ≡ false) × Makes (line_forms current) (fields_of text) l)

-- The line is wrong here: it is too long, or its first wrong field.
abbrev pub IsWrongAt : Option ℕ → List ℕ → Fault → Type 0
IsWrongAt current text fault =
    ((MAX_LINE < length text) × IsFault (MAX_LINE + 1) cause.Long fault)
    ⊎ ((length text ≤ MAX_LINE) × (is_blank text ≡ false) × Fails (line_forms current) text 1 (fields_of text) fault)

-- what is told of a line that is not read: where it is wrong, or that memory was missing
abbrev pub IsFaultOf : Option ℕ → List ℕ → LineFault → Type 0
IsFaultOf current text (fault.Wrong column why) = IsWrongAt current text (record { column = column; why = why })
IsFaultOf current text fault.NoMemory = Unit {0}
