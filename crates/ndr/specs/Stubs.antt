-- A stub as a list of typed fields. Our own choice.
use Rattle.std.specs.Prelude.{◌≡◌, ℕ, ◌+◌, ◌<◌, ◌^◌, Bool, true, List, [], ◌∷◌, ◌++◌, length, Result, Ok, Err}
use Rattle.std.specs.Int.{next_multiple_of}
use Rattle.dts_base.specs.declared.wire.Field.{Field}
use Rattle.dts_base.specs.declared.wire.Refused.{Refused}
use Rattle.ndr.specs.declared.endian.Endian.{Endian}
use Rattle.ndr.specs.Numbers.{IsSize, aligned_octets}
use Rattle.ndr.specs.Strings.{is_text, string_octets}
use Rattle.ndr.specs.Reading.{Cursor, read_number, read_octets, read_string, after, checked, finish}

-- a number of so many octets, so many octets, or a string
pub data Shape : Type 0 where
  number : ℕ → Shape
  octets : ℕ → Shape
  string : Shape

-- a number, or octets
pub data Value : Type 0 where
  a_number : ℕ → Value
  some_octets : List ℕ → Value

-- a field of a stub: its name, its shape, and which values of that shape are right
pub record Entry : Type 0 where
  pub field : Field
  pub shape : Shape
  pub right : Value → Bool

-- where a field begins
abbrev pub place_of : Shape → ℕ → ℕ
place_of (number size) at = next_multiple_of at size
place_of (octets count) at = at
place_of string at = next_multiple_of at 4

-- what stands next, of any right
abbrev pub read_shape : Field → Shape → Cursor → Result (Value × Cursor) Refused
read_shape f (number size) c = after (read_number f size c) (λ r. Ok (a_number r.0, r.1))
read_shape f (octets count) c = after (read_octets f count c) (λ r. Ok (some_octets r.0, r.1))
read_shape f string c = after (read_string c) (λ r. Ok (some_octets r.0, r.1))

-- a field, whole and right
abbrev pub read_entry : Entry → Cursor → Result (Value × Cursor) Refused
read_entry entry c =
    after (read_shape entry.field entry.shape c)
    (λ r. checked (entry.right r.0) entry.field (place_of entry.shape c.at) r)

-- all fields, in order
abbrev pub read_entries : List Entry → Cursor → Result (List Value × Cursor) Refused
read_entries [] c = Ok ([], c)
read_entries (entry ∷ entries) c =
    after (read_entry entry c) (λ r. after (read_entries entries r.1) (λ rest. Ok (r.0 ∷ rest.0, rest.1)))

-- the values that a stub spells, or the first field that is not whole or not right
abbrev pub read_stub : List Entry → Endian → List ℕ → Result (List Value) Refused
read_stub entries e stub =
    after (read_entries entries (record { endian = e; stub = stub; at = 0 })) (λ r. after (finish r.1) (λ _. Ok r.0))

-- the octets of a value behind a place
abbrev pub value_octets : Endian → ℕ → Shape → Value → List ℕ
value_octets e at (number size) (a_number n) = aligned_octets e size at n
value_octets e at (octets count) (some_octets os) = os
value_octets e at string (some_octets os) = string_octets e at os
value_octets e at (number size) (some_octets os) = []
value_octets e at (octets count) (a_number n) = []
value_octets e at string (a_number n) = []

-- the octets of all values behind a place
abbrev pub stub_octets : Endian → ℕ → List Entry → List Value → List ℕ
stub_octets e at [] values = []
stub_octets e at (entry ∷ entries) [] = []
stub_octets e at (entry ∷ entries) (value ∷ values) =
    let piece = value_octets e at entry.shape value in piece ++ stub_octets e (at + length piece) entries values

-- a value is of the shape
abbrev pub Fits : Shape → Value → Type 0
Fits (number size) (a_number n) = IsSize size × (n < 256 ^ size)
Fits (octets count) (some_octets os) = length os ≡ count
Fits string (some_octets os) = is_text os ≡ true
Fits (number size) (some_octets os) = ⊥
Fits (octets count) (a_number n) = ⊥
Fits string (a_number n) = ⊥

-- each value is of its field's shape and right
abbrev pub AllFit : List Entry → List Value → Type 0
AllFit [] [] = Unit {0}
AllFit (entry ∷ entries) (value ∷ values) = Fits entry.shape value × (entry.right value ≡ true) × AllFit entries values
AllFit [] (value ∷ values) = ⊥
AllFit (entry ∷ entries) [] = ⊥

-- all fields before one are whole and right, and it is refused so
pub record IsFirstWrong (entries : List Entry) (c : Cursor) (refused : Refused) : Type 0 where
  pub before : List Entry
  pub entry : Entry
  pub behind : List Entry
  pub cut : entries ≡ before ++ entry ∷ behind
  pub values : List Value
  pub at : Cursor
  pub read : read_entries before c ≡ Ok (values, at)
  pub wrong : read_entry entry at ≡ Err refused
