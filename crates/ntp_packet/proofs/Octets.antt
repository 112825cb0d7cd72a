-- A packet's octets read back.
use Rattle.std.proofs.Common.{◌≡◌, ℕ, ◌^◌, ◌<◌, ◌≤◌, List, [], ◌++◌, length, drop, sym, arith}
use Rattle.byteorder.specs.Numbers.{big_number-reads_back}
use Rattle.ntp_packet.specs.declared.codec.Packet.{Packet}
use Rattle.ntp_packet.specs.declared.field.PacketField.{PacketField}
use Rattle.ntp_packet.specs.declared.field.PacketField.TheVariants as field
use Rattle.ntp_packet.specs.declared.field.TheConstants.{FIELDS}
use Rattle.ntp_packet.specs.Packets.{Fits, IsVersion, Spells, number_at, octets_in, octets_of, value_of}

first_fits : (p : Packet) → Fits p → value_of p field.First < 256 ^ 1
first_fits p h = omega (arith, h.li, h.version, h.mode)

-- what stands behind the octets of these fields
abbrev left : Packet → List PacketField → List ℕ → List ℕ
left p fields more = octets_in p fields ++ more

pub reads_back : (p : Packet) (more : List ℕ) → Fits p → (f : PacketField) → value_of p f ≡ number_at (octets_of p ++ more) f
unfolding octets_of
reads_back p more h field.First = sym (big_number-reads_back 1 (value_of p field.First) (left p (drop 1 FIELDS) more) (first_fits p h))
reads_back p more h field.Stratum = sym (big_number-reads_back 1 p.stratum (left p (drop 2 FIELDS) more) (omega (arith, h.stratum)))
reads_back p more h field.Poll = sym (big_number-reads_back 1 p.poll (left p (drop 3 FIELDS) more) (omega (arith, h.poll)))
reads_back p more h field.Precision = sym (big_number-reads_back 1 p.precision (left p (drop 4 FIELDS) more) (omega (arith, h.precision)))
reads_back p more h field.RootDelay = sym (big_number-reads_back 4 p.delay (left p (drop 5 FIELDS) more) (omega (arith, h.delay)))
reads_back p more h field.RootDispersion = sym (big_number-reads_back 4 p.dispersion (left p (drop 6 FIELDS) more)
    (omega (arith, h.dispersion)))
reads_back p more h field.ReferenceId = sym (big_number-reads_back 4 p.refid (left p (drop 7 FIELDS) more) (omega (arith, h.refid)))
reads_back p more h field.Reference = sym (big_number-reads_back 8 p.reference (left p (drop 8 FIELDS) more) (omega (arith, h.reference)))
reads_back p more h field.Origin = sym (big_number-reads_back 8 p.origin (left p (drop 9 FIELDS) more) (omega (arith, h.origin)))
reads_back p more h field.Receive = sym (big_number-reads_back 8 p.receive (left p (drop 10 FIELDS) more) (omega (arith, h.receive)))
reads_back p more h field.Transmit = sym (big_number-reads_back 8 p.transmit (left p [] more) (omega (arith, h.transmit)))

length_octets : (p : Packet) (more : List ℕ) → 48 ≤ length (octets_of p ++ more)
unfolding octets_of
length_octets p more = omega arith

pub spells_back : (p : Packet) (more : List ℕ) → Fits p → IsVersion p.version → Spells p (octets_of p ++ more)
spells_back p more h v = record { whole = length_octets p more; fits = h; fields = reads_back p more h; version = v }
