-- Which lines a text spells: those whose fields have values of the grammar's kinds, and whose text is not too long.
use Rattle.std.specs.Prelude.{◌≡◌, ◌⊎◌, ℕ, ◌-◌, ◌/◌, ◌^◌, ◌<◌, ◌≤◌, pos, ◌≤ℤ◌, true, List, [], length, Option, IfSome, codes}
use Rattle.hex.specs.Hex.{IsBytes}
use Rattle.line_reader.specs.declared.limits.TheConstants.{MAX_LINE}
use Rattle.dts_capture.specs.declared.event.Event.TheVariants as event
use Rattle.dts_capture.specs.declared.line.Line.{Line}
use Rattle.dts_capture.specs.declared.line.Line.TheVariants as line
use Rattle.dts_capture.specs.Kinds.{greatest_count, greatest_record, Kind, Natural, RecordNumber, Count, NotBelow, Word, Octets, value_of}
use Rattle.dts_capture.specs.Grammar.{Form, Ends, Field, Choice, NoWord, FromHere, Served, first_connection, line_forms}
use Rattle.dts_capture.specs.Printing.{line_text}

-- a field of this kind may have this value
abbrev pub IsOfKind : (kind : Kind) → value_of kind → Type 0
IsOfKind (Natural from to) n = (from ≤ n) × (n ≤ to)
IsOfKind (RecordNumber expected) n = (n ≤ greatest_record) × IfSome expected (λ k. n ≡ k)
IsOfKind Count t = (pos 0 ≤ℤ t) × (t ≤ℤ pos greatest_count)
IsOfKind (NotBelow lo) i = (i.lo ≡ lo) × (pos 0 ≤ℤ i.hi) × (i.hi ≤ℤ pos greatest_count)
IsOfKind Word w = w < 2 ^ 64
IsOfKind (Octets may_be_empty) b = IsBytes b × (b ≡ [] → may_be_empty ≡ true)

-- the form ends with this line on some way through it, and each field on the way has a value of its kind
abbrev pub IsLineOf : Form → Line → Type 0
IsLineOf (Ends said) l = l ≡ said
IsLineOf (Field kind more) l = (v : value_of kind) × IsOfKind kind v × IsLineOf (more v) l
IsLineOf (Choice word chosen other) l = IsLineOf chosen l ⊎ IsLineOf other l
IsLineOf (NoWord empty unknown) l = ⊥
IsLineOf (FromHere form) l = IsLineOf form l
IsLineOf (Served peer form) l = (first_connection ≤ peer) × IsLineOf form l

-- the values of the line are in the ranges of the grammar; where a current record is given, `at K` is of that one
abbrev pub IsLineInRange : Option ℕ → Line → Type 0
IsLineInRange current l = (l ≡ line.Blank) ⊎ IsLineOf (line_forms current) l

-- a text can spell the line: it is in range, and its text is not too long
pub record IsSpellable (current : Option ℕ) (l : Line) : Type 0 where
  pub range : IsLineInRange current l
  pub short : length (line_text l) ≤ MAX_LINE

-- the octets that came, where the line says that some came
abbrev pub octets_of : Line → List ℕ
octets_of (line.Event at (event.Stream osc peer bytes)) = bytes
octets_of (line.Event at (event.Gram osc peer bytes)) = bytes
octets_of (line.Event at (event.Ask osc conn bytes)) = bytes
octets_of _ = []

-- the longest text in front of octets
abbrev pub longest_front : ℕ
longest_front = length (codes "at 18446744073709551615 ask 1152921504606846976 4294967295 ")

-- so many octets fit into each line
abbrev pub most_octets : ℕ
most_octets = (MAX_LINE - longest_front) / 2
