-- The fields of a packet (RFC 5905, section 7.3): how each is called when it is printed, where it stands, and how many octets it has.
use Rattle.std.specs.Prelude.{ℕ, ◌+◌, List, [], ◌∷◌, codes}
use Rattle.ntp_packet.specs.declared.field.PacketField.{PacketField}
use Rattle.ntp_packet.specs.declared.field.PacketField.TheVariants as field

abbrev pub name_of : PacketField → List ℕ
name_of field.First = codes "first"
name_of field.Stratum = codes "stratum"
name_of field.Poll = codes "poll"
name_of field.Precision = codes "precision"
name_of field.RootDelay = codes "root_delay"
name_of field.RootDispersion = codes "root_dispersion"
name_of field.ReferenceId = codes "reference_id"
name_of field.Reference = codes "reference"
name_of field.Origin = codes "origin"
name_of field.Receive = codes "receive"
name_of field.Transmit = codes "transmit"

-- the offset of the first octet
abbrev pub offset_of : PacketField → ℕ
offset_of field.First = 0
offset_of field.Stratum = 1
offset_of field.Poll = 2
offset_of field.Precision = 3
offset_of field.RootDelay = 4
offset_of field.RootDispersion = 8
offset_of field.ReferenceId = 12
offset_of field.Reference = 16
offset_of field.Origin = 24
offset_of field.Receive = 32
offset_of field.Transmit = 40

-- how many octets it has
abbrev pub size_of : PacketField → ℕ
size_of field.First = 1
size_of field.Stratum = 1
size_of field.Poll = 1
size_of field.Precision = 1
size_of field.RootDelay = 4
size_of field.RootDispersion = 4
size_of field.ReferenceId = 4
size_of field.Reference = 8
size_of field.Origin = 8
size_of field.Receive = 8
size_of field.Transmit = 8

-- where fields begin that stand one behind the other from a place on
abbrev pub offsets_from : ℕ → List PacketField → List ℕ
offsets_from at [] = []
offsets_from at (f ∷ fields) = at ∷ offsets_from (at + size_of f) fields
