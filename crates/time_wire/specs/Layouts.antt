-- The stubs of the time operations, each a list of fields in NDR (C706, chapter 14). After C310, our own choice.
use Rattle.std.specs.Prelude.{ℕ, Bool, true, false, ◌&&◌, nat_le, List, [], ◌∷◌}
use Rattle.dts_base.specs.declared.wire.Field.{Field}
use Rattle.dts_base.specs.declared.wire.Field.TheVariants as field
use Rattle.ndr.specs.Stubs.{Entry, Shape, Value, number, octets, string, a_number, some_octets}
use Rattle.utc_value.specs.Octets.{octets_of}
use Rattle.time_wire.specs.declared.TheConstants.{WIRE_VERSION, MAX_ROLE, MAX_COURIER, UTC_SIZE}
use Rattle.time_wire.specs.declared.message.GetTime.{GetTime}
use Rattle.time_wire.specs.declared.message.TimeReply.{TimeReply}
use Rattle.time_wire.specs.declared.message.InfoReply.{InfoReply}
use Rattle.time_wire.specs.declared.message.CommandReply.{CommandReply}
use Rattle.time_wire.specs.Timestamps.{is_stamp}

-- the stub of a message: its fields, and the values that a message gives them
pub record Layout (M : Type 0) : Type 0 where
  pub fields : List Entry
  pub values : M → List Value

-- a field that is right with every value
abbrev pub any : Field → Shape → Entry
any f shape = record { field = f; shape = shape; right = λ _. true }

-- a number from the least to the most
abbrev pub is_between : ℕ → ℕ → Value → Bool
is_between least most (a_number n) = nat_le least n && nat_le n most
is_between least most (some_octets os) = false

-- a number of one octet that is right from the least to the most
abbrev pub octet_between : Field → ℕ → ℕ → Entry
octet_between f least most = record { field = f; shape = number 1; right = is_between least most }

-- the octets of a timestamp
abbrev pub is_timestamp : Value → Bool
is_timestamp (some_octets os) = is_stamp os
is_timestamp (a_number n) = false

-- a timestamp, whose octets have one order in either byte order of the stub
abbrev pub timestamp : Entry
timestamp = record { field = field.UtcOctets; shape = octets UTC_SIZE; right = is_timestamp }

abbrev pub wire_version : Entry
wire_version = octet_between field.WireVersion WIRE_VERSION WIRE_VERSION

-- get_time asks with an epoch
abbrev pub get_time : Layout GetTime
get_time = record {
  fields = any field.Epoch (number 1) ∷ [];
  values = λ m. a_number m.epoch ∷ [];
}

-- and is answered with a timestamp
abbrev pub time_reply : Layout TimeReply
time_reply = record {
  fields = wire_version ∷ any field.Epoch (number 1) ∷ timestamp ∷ any field.Status (number 4) ∷ [];
  values = λ m. a_number m.version ∷ a_number m.epoch ∷ some_octets (octets_of m.utc) ∷ a_number m.status ∷ [];
}

-- get_info asks with nothing
abbrev pub get_info : Layout (Unit {0})
get_info = record { fields = []; values = λ _. [] }

-- and is answered with the settings and the clock record of a node
abbrev pub info_reply : Layout InfoReply
info_reply = record {
  fields =
      wire_version
      ∷ octet_between field.Role 0 MAX_ROLE
      ∷ octet_between field.Courier 0 MAX_COURIER
      ∷ any field.Epoch (number 1)
      ∷ any field.Number (number 8)
      ∷ any field.StepNumber (number 8)
      ∷ any field.StringOctets string
      ∷ [];
  values = λ m.
      a_number WIRE_VERSION
      ∷ a_number m.role
      ∷ a_number m.courier
      ∷ a_number m.epoch
      ∷ a_number m.number
      ∷ a_number m.step
      ∷ some_octets m.name
      ∷ [];
}

-- command asks with a text
abbrev pub command : Layout (List ℕ)
command = record {
  fields = any field.StringOctets string ∷ [];
  values = λ text. some_octets text ∷ [];
}

-- and is answered with a text and a status
abbrev pub command_reply : Layout CommandReply
command_reply = record {
  fields = any field.StringOctets string ∷ any field.Status (number 4) ∷ [];
  values = λ m. some_octets m.text ∷ a_number m.status ∷ [];
}
