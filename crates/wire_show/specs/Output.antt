-- What is written for an input, or why it is refused. Our own choice, after C706 and C310.
use Rattle.std.specs.Prelude.{ℕ, nat_lt, if◌then◌else◌, List, [], ◌∷◌, map, length, codes, Result, Ok, Err}
use Rattle.dts_base.specs.declared.wire.Field.TheVariants as field
use Rattle.dts_base.specs.declared.wire.WireCause.TheVariants as cause
use Rattle.dts_base.specs.declared.wire.Refused.{Refused}
use Rattle.ndr.specs.Reading.{refusal, after}
use Rattle.ntp_packet.specs.Fields.{name_of, size_of}
use Rattle.ntp_packet.specs.Packets.{reading as packet}
use Rattle.ntp_packet.specs.declared.field.PacketField.{PacketField}
use Rattle.ntp_packet.specs.declared.field.TheConstants.{FIELDS}
use Rattle.pdu_fields.specs.Tables.{reading}
use Rattle.pdu_fields.specs.Grammar.{table_of}
use Rattle.time_wire.specs.Timestamps.{is_stamp}
use Rattle.wire_show.specs.declared.end.Shown.{Shown}
use Rattle.wire_show.specs.declared.end.Shown.TheVariants.{Pdu, Ntp, Utc}
use Rattle.wire_show.specs.declared.utc.TheConstants.{UTC_SIZE, LAST_FIELD}
use Rattle.wire_show.specs.Fields.{Part, text_of, Sized, parts_by, parts_of}
use Rattle.wire_show.specs.Input.{octets_in}

-- the fields of a PDU, which is decoded by the table of its kind or refused at its first wrong field
abbrev pub pdu_parts : List ℕ → Result (List Part) Refused
pdu_parts octets = after (reading (table_of (length octets)) 0 octets) (λ said. Ok (parts_by (table_of (length octets)) 0 octets))

-- fields of a packet of NTP, each with its name and its size (RFC 5905, section 7.3)
abbrev pub sized_fields : List PacketField → List Sized
sized_fields fields = map (λ f. record { name = name_of f; size = size_of f }) fields

abbrev pub ntp_fields : List Sized
ntp_fields = sized_fields FIELDS

-- the fields of a packet, which is decoded or refused at its first wrong field; the octets behind them are its tail
abbrev pub ntp_parts : List ℕ → Result (List Part) Refused
ntp_parts octets = after (packet octets) (λ said. Ok (parts_of ntp_fields 0 octets))

-- the three fields of a timestamp
abbrev pub utc_fields : List Sized
utc_fields = record { name = codes "time"; size = 8 } ∷ record { name = codes "inaccuracy"; size = 6 } ∷ record { name = codes "tdf_version"; size = 2 } ∷ []

-- the fields of a timestamp: sixteen octets of a version that there is, with a time differential factor that it may have
abbrev pub utc_parts : List ℕ → Result (List Part) Refused
utc_parts octets =
    if nat_lt (length octets) UTC_SIZE then Err (refusal field.UtcOctets (length octets) cause.Short)
    else if nat_lt UTC_SIZE (length octets) then Err (refusal field.UtcOctets UTC_SIZE cause.Extra)
    else if is_stamp octets then Ok (parts_of utc_fields 0 octets)
    else Err (refusal field.UtcOctets LAST_FIELD cause.Value)

-- the fields of octets that are shown as this
abbrev pub parts_as : Shown → List ℕ → Result (List Part) Refused
parts_as Pdu octets = pdu_parts octets
parts_as Ntp octets = ntp_parts octets
parts_as Utc octets = utc_parts octets

-- the lines of the fields of octets
abbrev pub lines_as : Shown → List ℕ → Result (List ℕ) Refused
lines_as kind octets = after (parts_as kind octets) (λ parts. Ok (text_of parts))

-- the lines that are written for an input, or the refusal: first that of the input, and then that of the octets that it spells
abbrev pub output_of : Shown → List ℕ → Result (List ℕ) Refused
output_of kind input = after (octets_in input) (lines_as kind)
