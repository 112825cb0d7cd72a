-- The lines that the calculator reads: an operation's word and then its operands, joined by single spaces.
use Rattle.std.specs.Prelude.{◌≡◌, ◌≢◌, ◌⊎◌, ℕ, ◌==◌, ◌||◌, Bool, not, List, [], ◌∷◌, map, codes, get_or, ℤ, FitsSigned, Ok, if◌then◌else◌}
use Rattle.std.specs.Int.{w16, w32}
use Rattle.hex.specs.Hex.{decode_sized}
use Rattle.line_reader.specs.Fields.{fields_of}
use Rattle.line_reader.specs.Numbers.{IsWhole}
use Rattle.utc_value.specs.declared.BytesFault.{BytesFault}
use Rattle.utc_value.specs.Stamp.{Stamp, IsInRange}
use Rattle.utc_value.specs.Octets.{octets_of, RefusesOctets}
use Rattle.utc_text.specs.declared.fault.TextFault.{TextFault}
use Rattle.utc_text.specs.Grammar.{dash}
use Rattle.utc_text.specs.Texts.{SpellsAbsolute, SpellsRelative}
use Rattle.utc_text.specs.FirstWrong.{IsAbsoluteFault, IsRelativeFault}
use Rattle.utc_calculator.specs.declared.cause.UtcCause.{UtcCause}
use Rattle.utc_calculator.specs.declared.cause.UtcCause.TheVariants as cause
use Rattle.utc_calculator.specs.declared.cause.UtcRefusal.{UtcRefusal}
use Rattle.utc_calculator.specs.Places.{refused_here, refused_whole}
use Rattle.utc_calculator.specs.declared.operation.Operation.{Operation}
use Rattle.utc_calculator.specs.declared.operation.Operation.TheVariants as op

-- an operand: a timestamp, a number of 32 bits, a number of minutes of 16 bits, or sixteen octets
pub data Operand : Type 0 where
  Time : Stamp → Operand
  Number : ℤ → Operand
  Minutes : ℤ → Operand
  Octets : List ℕ → Operand

pub data OperandKind : Type 0 where
  TimeKind : OperandKind
  NumberKind : OperandKind
  MinutesKind : OperandKind
  OctetsKind : OperandKind

abbrev pub kind_of : Operand → OperandKind
kind_of (Time s) = TimeKind
kind_of (Number k) = NumberKind
kind_of (Minutes t) = MinutesKind
kind_of (Octets octets) = OctetsKind

-- an operation's word
abbrev pub word_of : Operation → List ℕ
word_of (op.Add a b) = codes "add"
word_of (op.Sub a b) = codes "sub"
word_of (op.Abs a) = codes "abs"
word_of (op.Mul a k) = codes "mul"
word_of (op.Span a b) = codes "span"
word_of (op.Bound a b) = codes "bound"
word_of (op.Tdf a t) = codes "tdf"
word_of (op.Interval a b) = codes "interval"
word_of (op.Mid a b) = codes "mid"
word_of (op.Point a) = codes "point"
word_of (op.Bytes a) = codes "bytes"
word_of (op.Text a) = codes "text"

-- an operation's operands in their order
abbrev pub operands_of : Operation → List Operand
operands_of (op.Add a b) = Time a ∷ Time b ∷ []
operands_of (op.Sub a b) = Time a ∷ Time b ∷ []
operands_of (op.Abs a) = Time a ∷ []
operands_of (op.Mul a k) = Time a ∷ Number k ∷ []
operands_of (op.Span a b) = Time a ∷ Time b ∷ []
operands_of (op.Bound a b) = Time a ∷ Time b ∷ []
operands_of (op.Tdf a t) = Time a ∷ Minutes t ∷ []
operands_of (op.Interval a b) = Time a ∷ Time b ∷ []
operands_of (op.Mid a b) = Time a ∷ Time b ∷ []
operands_of (op.Point a) = Time a ∷ []
operands_of (op.Bytes a) = Time a ∷ []
operands_of (op.Text a) = Octets (octets_of a) ∷ []

-- a field is right as an operand: a time is an absolute text or a relative one, a number is in decimal, and octets are hex digits of either case
abbrev pub Reads : List ℕ → Operand → Type 0
Reads field (Time s) = SpellsAbsolute field s ⊎ SpellsRelative field s
Reads field (Number k) = IsWhole field k × FitsSigned w32 k
Reads field (Minutes t) = IsWhole field t × FitsSigned w16 t
Reads field (Octets octets) = decode_sized field 16 ≡ Ok octets

-- the fields are right as the operands, one each
abbrev pub ReadEach : List (List ℕ) → List Operand → Type 0
ReadEach [] [] = Unit {0}
ReadEach [] (x ∷ xs) = ⊥
ReadEach (field ∷ fields) [] = ⊥
ReadEach (field ∷ fields) (x ∷ xs) = Reads field x × ReadEach fields xs

-- the octets that are asked for are those of a timestamp
abbrev pub IsOfTimestamp : Operation → Type 0
IsOfTimestamp (op.Text a) = IsInRange a
IsOfTimestamp _ = Unit {0}

-- the line asks for the operation
abbrev pub Spells : List ℕ → Operation → Type 0
Spells line o = (fields : List (List ℕ)) × (fields_of line ≡ word_of o ∷ fields) × ReadEach fields (operands_of o) × IsOfTimestamp o

-- a text that is no time is told of as a relative one where it begins with `-`, or its fifth octet is not `-`
abbrev pub is_relative_form : List ℕ → Bool
is_relative_form text = (get_or text 0 0 == dash) || not (get_or text 4 0 == dash)

-- why a text is no time: its fault as an absolute one or as a relative one
pub record IsNoTime (text : List ℕ) (fault : TextFault) : Type 0 where
  pub absolute : TextFault
  pub relative : TextFault
  pub as_absolute : IsAbsoluteFault text absolute
  pub as_relative : IsRelativeFault text relative
  pub told : fault ≡ (if is_relative_form text then relative else absolute)

-- why a field with octets is not right as an operand of that kind, where its causes are told of so
abbrev pub IsWrong : OperandKind → List ℕ → (UtcCause → UtcRefusal) → UtcRefusal → Type 0
IsWrong TimeKind field told r = (fault : TextFault) × IsNoTime field fault × (r ≡ told (cause.Text fault))
IsWrong NumberKind field told r = ((k : ℤ) → Reads field (Number k) → ⊥) × (r ≡ told cause.Number)
IsWrong MinutesKind field told r = ((t : ℤ) → Reads field (Minutes t) → ⊥) × (r ≡ told cause.Number)
IsWrong OctetsKind field told r = ((octets : List ℕ) → Reads field (Octets octets) → ⊥) × (r ≡ told cause.Hex)

-- Why the next of the fields that are left of a line is not right as an operand of that kind. An empty field is missing, wherever it stands.
abbrev pub IsNextWrong : OperandKind → List ℕ → List (List ℕ) → UtcRefusal → Type 0
IsNextWrong kind line [] r = r ≡ refused_here line [] cause.Missing
IsNextWrong kind line ([] ∷ fields) r = r ≡ refused_here line ([] ∷ fields) cause.Missing
IsNextWrong kind line ((octet ∷ octets) ∷ fields) r = IsWrong kind (octet ∷ octets) (refused_here line ((octet ∷ octets) ∷ fields)) r

-- why fields are left over of a line
abbrev pub IsLeftOver : List ℕ → List (List ℕ) → UtcRefusal → Type 0
IsLeftOver line [] r = ⊥
IsLeftOver line ([] ∷ fields) r = r ≡ refused_here line ([] ∷ fields) cause.Missing
IsLeftOver line ((octet ∷ octets) ∷ fields) r = r ≡ refused_here line ((octet ∷ octets) ∷ fields) cause.Extra

-- the first of the fields is right as the operand
abbrev pub HasOperand : List (List ℕ) → Operand → List (List ℕ) → Type 0
HasOperand fields x rest = (field : List ℕ) × (fields ≡ field ∷ rest) × Reads field x

-- why the fields that are left of a line are not right as operands of those kinds, one each in order: the first that is not is refused
abbrev pub IsFirstWrong : List OperandKind → List ℕ → List (List ℕ) → UtcRefusal → Type 0
IsFirstWrong [] line fields r = IsLeftOver line fields r
IsFirstWrong (kind ∷ kinds) line fields r = IsNextWrong kind line fields r ⊎ ((x : Operand) × (rest : List (List ℕ)) × (kind_of x ≡ kind) × HasOperand fields x rest × IsFirstWrong kinds line rest r)

-- no operation has the word
abbrev pub IsUnknown : List ℕ → Type 0
IsUnknown word = (o : Operation) → word_of o ≢ word

-- the fields behind an operation's word are not right as its operands
abbrev pub HasWrongOperand : List ℕ → List ℕ → List (List ℕ) → UtcRefusal → Type 0
HasWrongOperand word line fields r = (o : Operation) × (word_of o ≡ word) × IsFirstWrong (map kind_of (operands_of o)) line fields r

-- the octets behind the word `text` are no timestamp
abbrev pub HasWrongOctets : List ℕ → List ℕ → List (List ℕ) → UtcRefusal → Type 0
HasWrongOctets word line fields r =
    (octets : List ℕ) × (fault : BytesFault) × (word ≡ codes "text") × ReadEach fields (Octets octets ∷ []) × RefusesOctets octets fault × (r ≡ refused_here line fields (cause.Bytes fault))

-- why a word and the fields behind it ask for no operation
abbrev pub RefusesFields : List ℕ → List ℕ → List (List ℕ) → UtcRefusal → Type 0
RefusesFields word line fields r = (IsUnknown word × (r ≡ refused_whole cause.Word)) ⊎ (HasWrongOperand word line fields r ⊎ HasWrongOctets word line fields r)

-- why a line asks for no operation
abbrev pub RefusesReading : List ℕ → UtcRefusal → Type 0
RefusesReading line r = (word : List ℕ) × (fields : List (List ℕ)) × (fields_of line ≡ word ∷ fields) × RefusesFields word line fields r
