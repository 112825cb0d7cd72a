-- The fields of a capture line by their kinds: which text a value has, and what is wrong with any other text.
use Rattle.std.specs.Prelude.{◌≡◌, ◌≢◌, ◌⊎◌, ℕ, ◌-◌, ◌^◌, ◌<◌, ℤ, pos, ◌<ℤ◌, Bool, true, List, [], ◌∷◌, length, Option, Some, IfSome, Ok, codes}
use Rattle.std.specs.Int.{from_be_bytes, w64}
use Rattle.line_reader.specs.declared.number.NumberFault.TheVariants as fault
use Rattle.line_reader.specs.Numbers.{IsWhole, IsWithin, IsNumberFault}
use Rattle.hex.specs.Hex.{decode_of, decode_sized}
use Rattle.dts_base.specs.declared.interval.Interval.{Interval}
use Rattle.dts_capture.specs.declared.limits.TheConstants.{GREATEST_COUNT}
use Rattle.dts_capture.specs.declared.line.LineCause.{LineCause}
use Rattle.dts_capture.specs.declared.line.LineCause.TheVariants as cause

-- the greatest time count, and the greatest number of a record
abbrev pub greatest_count : ℕ
greatest_count = GREATEST_COUNT

abbrev pub greatest_record : ℕ
greatest_record = 2 ^ 64 - 1

pub data Kind : Type 0 where
  -- a whole number, from the first one to the second
  Natural : ℕ → ℕ → Kind
  -- the number of a record: of this one, where one is asked for
  RecordNumber : Option ℕ → Kind
  -- a time count
  Count : Kind
  -- a time count that is not below this one: with it an interval
  NotBelow : ℤ → Kind
  -- a word of 64 bits in 16 hex digits
  Word : Kind
  -- octets in hex, at least one, or `-` for none where that may be
  Octets : Bool → Kind

abbrev pub value_of : Kind → Type 0
value_of (Natural from to) = ℕ
value_of (RecordNumber expected) = ℕ
value_of Count = ℤ
value_of (NotBelow lo) = Interval
value_of Word = ℕ
value_of (Octets may_be_empty) = List ℕ

-- the field writes a number in this range in decimal
abbrev pub IsNumber : (from to : ℕ) → List ℕ → ℕ → Type 0
IsNumber from to field n = IsWhole field (pos n) × IsWithin (pos from) (pos to) (pos n)

-- the field is the text of this value
abbrev pub Reads : (kind : Kind) → List ℕ → value_of kind → Type 0
Reads (Natural from to) field n = IsNumber from to field n
Reads (RecordNumber expected) field n = IsNumber 0 greatest_record field n × IfSome expected (λ k. n ≡ k)
Reads Count field t = (n : ℕ) × IsNumber 0 greatest_count field n × (t ≡ pos n)
Reads (NotBelow lo) field i = (n : ℕ) × IsNumber 0 greatest_count field n × (i.lo ≡ lo) × (i.hi ≡ pos n)
Reads Word field w = (octets : List ℕ) × (decode_sized field 8 ≡ Ok octets) × (w ≡ from_be_bytes w64 octets)
Reads (Octets may_be_empty) field b = ((may_be_empty ≡ true) × (field ≡ codes "-") × (b ≡ [])) ⊎ ((0 < length b) × (decode_of field ≡ Ok b))

-- the field writes no whole number, or one out of this range
abbrev pub WrongNumber : ℕ → ℕ → List ℕ → LineCause → Type 0
WrongNumber from to field why =
    ((why ≡ cause.Number) × IsNumberFault (pos from) (pos to) field fault.Form)
    ⊎ ((why ≡ cause.Range) × IsNumberFault (pos from) (pos to) field fault.Range)

-- what is wrong with a field that is the text of no value of its kind
abbrev pub WrongText : Kind → List ℕ → LineCause → Type 0
WrongText (Natural from to) field why = WrongNumber from to field why
WrongText (RecordNumber expected) field why =
    WrongNumber 0 greatest_record field why
    ⊎ ((why ≡ cause.At) × ((n k : ℕ) × IsNumber 0 greatest_record field n × (expected ≡ Some k) × (n ≢ k)))
WrongText Count field why = WrongNumber 0 greatest_count field why
WrongText (NotBelow lo) field why =
    WrongNumber 0 greatest_count field why
    ⊎ ((why ≡ cause.Order) × ((n : ℕ) × IsNumber 0 greatest_count field n × (pos n <ℤ lo)))
WrongText Word field why = (why ≡ cause.Hex) × ((w : ℕ) → Reads Word field w → ⊥)
WrongText (Octets may_be_empty) field why = (why ≡ cause.Hex) × ((b : List ℕ) → Reads (Octets may_be_empty) field b → ⊥)

-- an empty field is missing
abbrev pub Wrong : Kind → List ℕ → LineCause → Type 0
Wrong kind [] why = why ≡ cause.Missing
Wrong kind (octet ∷ octets) why = WrongText kind (octet ∷ octets) why
