-- The fields of octets in their order, and the lines that show them. Our own choice.
use Rattle.std.specs.Prelude.{ℕ, ◌+◌, List, [], ◌∷◌, ◌++◌, length, take, drop, codes, decimal}
use Rattle.hex.specs.Hex.{encode_lower}
use Rattle.dts_base.specs.Names.{field_name}
use Rattle.dts_base.specs.declared.wire.Field.TheVariants as field
use Rattle.ndr.specs.Numbers.{gap}
use Rattle.pdu_fields.specs.Tables.{Table, Ends, Kept, Passed, Padded, Rest, size_of, value_in}

-- a field: its name, the offset of its first octet, and its octets
pub record Part : Type 0 where
  pub name : List ℕ
  pub at : ℕ
  pub octets : List ℕ

-- octets in hex, in lower case, or a dash where there are none
abbrev pub hex_or_dash : List ℕ → List ℕ
hex_or_dash [] = codes "-"
hex_or_dash (first ∷ others) = encode_lower (first ∷ others)

-- the line of a field: its offset, its name and its octets, joined by single spaces, and a line feed
abbrev pub line_of : Part → List ℕ
line_of part = decimal part.at ++ 32 ∷ part.name ++ 32 ∷ hex_or_dash part.octets ++ 10 ∷ []

abbrev pub text_of : List Part → List ℕ
text_of [] = []
text_of (part ∷ parts) = line_of part ++ text_of parts

-- a field of these octets and then the parts that follow it, which begin behind it
abbrev pub before : List ℕ → ℕ → List ℕ → (ℕ → List Part) → List Part
before name at octets more = record { name = name; at = at; octets = octets } ∷ more (at + length octets)

-- the octets behind the last field, where there are any
abbrev pub tail_at : ℕ → List ℕ → List Part
tail_at at [] = []
tail_at at (first ∷ others) = before (field_name field.Tail) at (first ∷ others) (λ behind. [])

-- the fields that octets from a place on have by a PDU's table, those that are passed over among them
unfoldable pub parts_by : Table → ℕ → List ℕ → List Part
parts_by (Ends said) at left = tail_at at left
parts_by (Kept name shape right more) at left =
    before (field_name name) at (take (size_of shape) left) (λ behind. parts_by (more (value_in shape left)) behind (drop (size_of shape) left))
parts_by (Passed name size more) at left = before (field_name name) at (take size left) (λ behind. parts_by more behind (drop size left))
parts_by (Padded name size more) at left = before (field_name name) at (take (gap size at) left) (λ behind. parts_by more behind (drop (gap size at) left))
parts_by (Rest name more) at left = before (field_name name) at left (λ behind. parts_by (more left) behind [])

-- a name, and how many octets have it
pub record Sized : Type 0 where
  pub name : List ℕ
  pub size : ℕ

-- the fields that octets from a place on have, where each has a fixed size
abbrev pub parts_of : List Sized → ℕ → List ℕ → List Part
parts_of [] at left = tail_at at left
parts_of (first ∷ others) at left = before first.name at (take first.size left) (λ behind. parts_of others behind (drop first.size left))
