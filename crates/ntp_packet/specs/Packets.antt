-- What octets spell a packet, and the first field of them that is short or not right. A list of octets is a list of numbers below 256.
use Rattle.std.specs.Prelude.{◌≡◌, ℕ, ◌+◌, ◌*◌, ◌/◌, ◌%◌, ◌^◌, ◌<◌, ◌≤◌, Bool, ◌&&◌, nat_lt, nat_le, if◌then◌else◌, List, length, drop, flat_map, Option, Some, None, Result, Ok, Err}
use Rattle.byteorder.specs.Endian.{big_bytes, big_number}
use Rattle.dts_base.specs.declared.wire.Field.TheVariants as wire
use Rattle.dts_base.specs.declared.wire.WireCause.TheVariants as cause
use Rattle.dts_base.specs.declared.wire.Refused.{Refused}
use Rattle.ntp_packet.specs.declared.codec.Packet.{Packet}
use Rattle.ntp_packet.specs.declared.codec.TheConstants.{PACKET_LENGTH, LEAST_VERSION, MOST_VERSION}
use Rattle.ntp_packet.specs.declared.field.PacketField.{PacketField}
use Rattle.ntp_packet.specs.declared.field.PacketField.TheVariants as field
use Rattle.ntp_packet.specs.declared.field.TheConstants.{FIELDS}
use Rattle.ntp_packet.specs.Fields.{offset_of, size_of}

-- leap indicator, version and mode fit their bits, and all else the octets of its field
pub record Fits (p : Packet) : Type 0 where
  pub li : p.li < 2 ^ 2
  pub version : p.version < 2 ^ 3
  pub mode : p.mode < 2 ^ 3
  pub stratum : p.stratum < 2 ^ 8
  pub poll : p.poll < 2 ^ 8
  pub precision : p.precision < 2 ^ 8
  pub delay : p.delay < 2 ^ 32
  pub dispersion : p.dispersion < 2 ^ 32
  pub refid : p.refid < 2 ^ 32
  pub reference : p.reference < 2 ^ 64
  pub origin : p.origin < 2 ^ 64
  pub receive : p.receive < 2 ^ 64
  pub transmit : p.transmit < 2 ^ 64

-- the number that a field of a packet holds: the first one has the leap indicator above the version above the mode
abbrev pub value_of : Packet → PacketField → ℕ
value_of p field.First = p.li * 2 ^ 6 + p.version * 2 ^ 3 + p.mode
value_of p field.Stratum = p.stratum
value_of p field.Poll = p.poll
value_of p field.Precision = p.precision
value_of p field.RootDelay = p.delay
value_of p field.RootDispersion = p.dispersion
value_of p field.ReferenceId = p.refid
value_of p field.Reference = p.reference
value_of p field.Origin = p.origin
value_of p field.Receive = p.receive
value_of p field.Transmit = p.transmit

-- the octets of these fields of a packet, one behind the other
abbrev pub octets_in : Packet → List PacketField → List ℕ
octets_in p fields = flat_map (λ f. big_bytes (size_of f) (value_of p f)) fields

-- the octets of a packet: those of all its fields
unfoldable pub octets_of : Packet → List ℕ
octets_of p = octets_in p FIELDS

-- the number that stands in a field of octets
abbrev pub number_at : List ℕ → PacketField → ℕ
number_at octets f = big_number (size_of f) (drop (offset_of f) octets)

abbrev pub is_version : ℕ → Bool
is_version version = nat_le LEAST_VERSION version && nat_le version MOST_VERSION

abbrev pub IsVersion : ℕ → Type 0
IsVersion version = (LEAST_VERSION ≤ version) × (version ≤ MOST_VERSION)

-- The octets spell the packet: each field is whole and holds what the packet has of it, and the version is one that is read. Octets
-- behind the last field are passed over.
pub record Spells (p : Packet) (octets : List ℕ) : Type 0 where
  pub whole : PACKET_LENGTH ≤ length octets
  pub fits : Fits p
  pub fields : (f : PacketField) → value_of p f ≡ number_at octets f
  pub version : IsVersion p.version

-- the version that stands in octets
abbrev pub version_in : List ℕ → ℕ
version_in octets = number_at octets field.First / 2 ^ 3 % 2 ^ 3

-- the packet that stands in octets, whatever its version
abbrev pub packet_in : List ℕ → Packet
packet_in octets = record {
  li = number_at octets field.First / 2 ^ 6;
  version = version_in octets;
  mode = number_at octets field.First % 2 ^ 3;
  stratum = number_at octets field.Stratum;
  poll = number_at octets field.Poll;
  precision = number_at octets field.Precision;
  delay = number_at octets field.RootDelay;
  dispersion = number_at octets field.RootDispersion;
  refid = number_at octets field.ReferenceId;
  reference = number_at octets field.Reference;
  origin = number_at octets field.Origin;
  receive = number_at octets field.Receive;
  transmit = number_at octets field.Transmit;
}

-- the first field that is short or not right: the length, and then the version
abbrev pub first_wrong : List ℕ → Option Refused
first_wrong octets =
    if nat_lt (length octets) PACKET_LENGTH then Some (record { field = wire.NtpLength; offset = length octets; cause = cause.Short })
    else if is_version (version_in octets) then None
    else Some (record { field = wire.NtpVersion; offset = 0; cause = cause.Value })

-- a packet, or the field in its place that is refused
abbrev pub unless_refused : Option Refused → Packet → Result Packet Refused
unless_refused None p = Ok p
unless_refused (Some refused) p = Err refused

-- what is read of octets
unfoldable pub reading : List ℕ → Result Packet Refused
reading octets = unless_refused (first_wrong octets) (packet_in octets)
