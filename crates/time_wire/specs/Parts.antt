-- What private calls read and write: the fields of a stub one by one.
use Rattle.std.specs.Prelude.{◌≡◌, ℕ, Bool, true, List, length, map, Result, Ok, Err}
use Rattle.dts_base.specs.declared.wire.Field.TheVariants as field
use Rattle.dts_base.specs.declared.wire.Refused.{Refused}
use Rattle.ndr.specs.declared.endian.Endian.{Endian}
use Rattle.ndr.specs.declared.fault.WriteFault.{WriteFault}
use Rattle.ndr.specs.Reading.{Cursor}
use Rattle.ndr.specs.Writing.{Draft, Appends, AppendsText}
use Rattle.ndr.specs.Strings.{is_text}
use Rattle.ndr.specs.Stubs.{Entry, Shape, Value, number, octets, string, a_number, some_octets, read_entry, value_octets, stub_octets}
use Rattle.utc_value.specs.Octets.{octets_of}
use Rattle.std.specs.Borrow.{Bor}
use Rattle.time_wire.specs.Layouts.{Layout, any, info_reply, command, command_reply}
use Rattle.time_wire.specs.declared.decoding.InfoParts.{InfoParts}
use Rattle.time_wire.specs.declared.TheConstants.{UTC_SIZE}
use Rattle.time_wire.specs.declared.encoding.Part.{Part}
use Rattle.time_wire.specs.declared.encoding.Part.TheVariants as part

-- a field was read as this value, or is refused
abbrev pub Takes : {A : Type 0} → Entry → (A → Value) → Cursor → Cursor → Result A Refused → Type 0
Takes entry value old new (Ok a) = read_entry entry old ≡ Ok (value a, new)
Takes entry value old new (Err refused) = read_entry entry old ≡ Err refused

-- what get_info is answered with, whose name is lent
abbrev pub lent_info : Layout InfoParts
lent_info = record {
  fields = info_reply.fields;
  values = λ m. info_reply.values (record {
    role = m.role;
    courier = m.courier;
    epoch = m.epoch;
    number = m.number;
    step = m.step;
    name = m.name.now;
  });
}

-- what command is asked with, lent
abbrev pub lent_command : Layout (Bor (List ℕ))
lent_command = record { fields = command.fields; values = λ text. command.values text.now }

-- what command is answered with, whose text is lent
abbrev pub lent_reply : Layout (Bor (List ℕ) × ℕ)
lent_reply = record { fields = command_reply.fields; values = λ m. command_reply.values (record { text = m.0.now; status = m.1 }) }

-- the field that a part is written to
abbrev pub shape_of : Part → Shape
shape_of (part.Octet v) = number 1
shape_of (part.Long v) = number 4
shape_of (part.Hyper v) = number 8
shape_of (part.Timestamp v) = octets UTC_SIZE
shape_of (part.String v) = string

abbrev pub entry_of : Part → Entry
entry_of p = any field.Stub (shape_of p)

-- its value
abbrev pub value_of : Part → Value
value_of (part.Octet v) = a_number v
value_of (part.Long v) = a_number v
value_of (part.Hyper v) = a_number v
value_of (part.Timestamp v) = some_octets (octets_of v)
value_of (part.String v) = some_octets v.now

-- a text among the parts can be a string
abbrev pub is_written : Part → Bool
is_written (part.Octet v) = true
is_written (part.Long v) = true
is_written (part.Hyper v) = true
is_written (part.Timestamp v) = true
is_written (part.String v) = is_text v.now

-- the octets of the parts behind a place
abbrev pub parts_octets : Endian → ℕ → List Part → List ℕ
parts_octets e at parts = stub_octets e at (map entry_of parts) (map value_of parts)

-- a part was appended, or not
abbrev pub Puts : Part → Draft → Draft → Result Unit WriteFault → Type 0
Puts (part.String v) old new outcome =
    AppendsText v.now (value_octets old.endian (length old.octets) string (some_octets v.now)) old new outcome
Puts p old new outcome =
    Appends (value_octets old.endian (length old.octets) (shape_of p) (value_of p)) old new outcome
