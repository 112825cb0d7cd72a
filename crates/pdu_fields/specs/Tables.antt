-- Tables of fields, and the value that octets spell by a table or the first field that is short or not right.
-- A list of octets is a list of numbers below 256. A refusal's offset is that of the field's first octet.
use Rattle.std.specs.Prelude.{ℕ, zero, suc, ◌+◌, Bool, if◌then◌else◌, nat_lt, List, [], ◌∷◌, length, take, drop, slice_index, Result, Ok, Err}
use Rattle.dts_base.specs.declared.wire.Field.{Field}
use Rattle.dts_base.specs.declared.wire.WireCause.TheVariants as cause
use Rattle.dts_base.specs.declared.wire.Refused.{Refused}
use Rattle.ndr.specs.declared.endian.Endian.{Endian}
use Rattle.ndr.specs.declared.endian.Endian.TheVariants.{Big, Little}
use Rattle.ndr.specs.Numbers.{number_in, gap}
use Rattle.ndr.specs.Reading.{refusal}
use Rattle.uuid.specs.Parts.{swap_fields}
use Rattle.pdu_fields.specs.declared.pdu.Pdu.{Pdu}

-- what a field holds: one octet, a number of so many octets, a uuid, or so many octets as they stand
pub data Shape : Type 0 where
  octet : Shape
  number : Endian → ℕ → Shape
  identifier : Endian → Shape
  octets : ℕ → Shape

abbrev pub size_of : Shape → ℕ
size_of octet = 1
size_of (number e size) = size
size_of (identifier e) = 16
size_of (octets count) = count

abbrev pub value_of : Shape → Type 0
value_of octet = ℕ
value_of (number e size) = ℕ
value_of (identifier e) = List ℕ
value_of (octets count) = List ℕ

-- A uuid is a number of four octets and two of two in the byte order, and eight octets as they stand. Its own octets have
-- the highest first. So its octets in a byte order come from its own, and its own from these.
abbrev pub in_order : Endian → List ℕ → List ℕ
in_order Big uuid = uuid
in_order Little uuid = swap_fields uuid

-- what stands at the front
abbrev pub value_in : (shape : Shape) → List ℕ → value_of shape
value_in octet left = slice_index left 0
value_in (number e size) left = number_in e size left
value_in (identifier e) left = in_order e (take 16 left)
value_in (octets count) left = take count left

-- What stands in a PDU from left to right.
pub data Table : Type 0 where
  -- nothing more that is looked at: the octets spell this
  Ends : Pdu → Table
  -- a field of this shape, which of its values are right, and what follows it
  Kept : Field → (shape : Shape) → (value_of shape → Bool) → (value_of shape → Table) → Table
  -- so many octets that are passed over
  Passed : Field → ℕ → Table → Table
  -- octets up to the next multiple of this size from the PDU's start, passed over
  Padded : Field → ℕ → Table → Table
  -- all octets that are left
  Rest : Field → (List ℕ → Table) → Table

-- The value that the octets from a place on spell, or the first field that is short or not right.
unfoldable pub reading : Table → ℕ → List ℕ → Result Pdu Refused
reading (Ends said) at left = Ok said
reading (Kept name shape right more) at left =
    let value = value_in shape left in
    let rest = reading (more value) (at + size_of shape) (drop (size_of shape) left) in
    if nat_lt (length left) (size_of shape) then Err (refusal name at cause.Short)
    else if right value then rest
    else Err (refusal name at cause.Value)
reading (Passed name size more) at left =
    let rest = reading more (at + size) (drop size left) in
    if nat_lt (length left) size then Err (refusal name at cause.Short) else rest
reading (Padded name size more) at left =
    let rest = reading more (at + gap size at) (drop (gap size at) left) in
    if nat_lt (length left) (gap size at) then Err (refusal name at cause.Short) else rest
reading (Rest name more) at left = reading (more left) (at + length left) []

-- a part of a table that stands so many times, one behind the other
abbrev pub repeated : {A : Type 0} → ((A → Table) → Table) → ℕ → (List A → Table) → Table
repeated part zero more = more []
repeated part (suc count) more = part (λ first. repeated part count (λ others. more (first ∷ others)))
