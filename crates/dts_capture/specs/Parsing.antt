-- How far a line has been read, and what reading it as a form gives.
use Rattle.std.specs.Prelude.{◌≡◌, ◌≢◌, ◌⊎◌, ℕ, ℤ, pos, Bool, List, [], ◌∷◌, Option, Some, None, Result, Ok, Err, MatchResult}
use Rattle.std.specs.Bool.{MatchBool}
use Rattle.dts_capture.specs.declared.line.Line.{Line}
use Rattle.dts_capture.specs.declared.line.LineFault.{LineFault}
use Rattle.dts_capture.specs.declared.line.LineFault.TheVariants as fault
use Rattle.line_reader.specs.declared.number.NumberFault.{NumberFault}
use Rattle.line_reader.specs.declared.number.NumberFault.TheVariants as number
use Rattle.dts_capture.specs.declared.line.LineCause.{LineCause}
use Rattle.dts_capture.specs.declared.line.LineCause.TheVariants as cause
use Rattle.hex.specs.declared.error.FromHexError.{FromHexError}
use Rattle.hex.specs.declared.error.FromHexError.TheVariants as hex
use Rattle.line_reader.specs.Fields.{column_of}
use Rattle.dts_capture.specs.Kinds.{greatest_count, Kind, IsNumber, WrongNumber, WrongText}
use Rattle.dts_capture.specs.Grammar.{Form, Choice, Makes, Fails}

-- a line, the fields of it that were not read yet, and the column of the word that a cause may speak of
pub record Place : Type 0 where
  pub line : List ℕ
  pub left : List (List ℕ)
  pub word : ℕ

-- the field that stands here, and those behind it
abbrev pub from_here : Option (List ℕ) → List (List ℕ) → List (List ℕ)
from_here None behind = []
from_here (Some field) behind = field ∷ behind

-- this field stands here, and it is not empty
abbrev pub IsHere : Place → List ℕ → Type 0
IsHere place field = (rest : List (List ℕ)) × (place.left ≡ field ∷ rest) × (field ≢ [])

-- a number of the range stands here
pub record HasNumber (from to : ℕ) (place : Place) (n : ℕ) : Type 0 where
  pub field : List ℕ
  pub rest : List (List ℕ)
  pub here : place.left ≡ field ∷ rest
  pub some : field ≢ []
  pub number : IsNumber from to field n

-- a time count stands here
pub record HasTime (place : Place) (t : ℤ) : Type 0 where
  pub count : ℕ
  pub has : HasNumber 0 greatest_count place count
  pub is : t ≡ pos count

-- what is wrong with a number of the range is wrong with a field of the kind
abbrev pub AsNumber : ℕ → ℕ → Kind → Type 0
AsNumber from to kind = (field : List ℕ) (why : LineCause) → WrongNumber from to field why → WrongText kind field why

-- the cause of a field that is no number of its range
abbrev pub number_cause : NumberFault → LineCause
number_cause number.Form = cause.Number
number_cause number.Range = cause.Range

-- what is told where octets are not decoded: memory was missing, or they are no hex text
abbrev pub HexFault : Place → FromHexError → LineFault → Type 0
HexFault place e f =
    ((e ≡ hex.OutOfMemory) × (f ≡ fault.NoMemory))
    ⊎ ((e ≢ hex.OutOfMemory) × (f ≡ fault.Wrong (column_of place.line place.left) cause.Hex))

-- the place read as the form gives this line or this fault
unfoldable pub Parses : Form → Place → Result Line LineFault → Type 0
Parses form place (Ok l) = Makes form place.left l
Parses form place (Err (fault.Wrong column why)) = Fails form place.line place.word place.left (record { column = column; why = why })
Parses form place (Err fault.NoMemory) = Unit {0}

-- What is said of the rest is said of the whole: where a value was read by a form that goes on as it is told.
abbrev pub Reading : {A : Type 0} → ((A → Form) → Form) → Place → Place → Result A LineFault → Type 0
Reading {A} form old new result = MatchResult result
    (λ v. (more : A → Form) (r : Result Line LineFault) → Parses (more v) new r → Parses (form more) old r)
    (λ f. (more : A → Form) → Parses (form more) old (Err f))

-- where the word stands here it is gone behind, and else nothing is
abbrev pub Chooses : List ℕ → Bool → Place → Place → Type 0
Chooses word there old new = MatchBool there
    ((chosen other : Form) (r : Result Line LineFault) → Parses chosen new r → Parses (Choice word chosen other) old r)
    ((chosen other : Form) (r : Result Line LineFault) → Parses other new r → Parses (Choice word chosen other) old r)
