-- Which packet octets spell, and what is refused.
use Rattle.std.proofs.Common.{◌≡◌, ℕ, ◌<◌, ◌≤◌, true, false, List, length, Some, None, Result, Ok, Err, ◌↔◌, inl, inr, refl, sym, ap, ◌∙◌, arith, lt-ltb, le-ltb, le-leb}
use Rattle.std.proofs.lemmas.Bool.{cases_lt, lt-leb}
use Rattle.std.proofs.Math.Path.{fun_ext}
use Rattle.dts_base.specs.declared.wire.Field.TheVariants as wire
use Rattle.dts_base.specs.declared.wire.WireCause.TheVariants as cause
use Rattle.dts_base.specs.declared.wire.Refused.{Refused}
use Rattle.ntp_packet.specs.declared.codec.Packet.{Packet}
use Rattle.ntp_packet.specs.declared.codec.TheConstants.{PACKET_LENGTH, LEAST_VERSION, MOST_VERSION}
use Rattle.ntp_packet.specs.declared.field.PacketField.{PacketField}
use Rattle.ntp_packet.specs.declared.field.PacketField.TheVariants as field
use Rattle.ntp_packet.specs.Packets.{Fits, IsVersion, Spells, first_wrong, is_version, number_at, packet_in, reading, value_of, version_in}

-- the first field tells its three parts
abbrev Parts : Packet → Packet → Type 0
Parts p q = (p.li ≡ q.li) × (p.version ≡ q.version) × (p.mode ≡ q.mode)

same_parts : (p q : Packet) → Fits p → Fits q → value_of p field.First ≡ value_of q field.First → Parts p q
same_parts p q h k e =
    let li : p.li ≡ q.li = omega (arith, e, h.version, h.mode, k.version, k.mode) in
    let version : p.version ≡ q.version = omega (arith, e, li, h.mode, k.mode) in
    (li, version, omega (arith, e, li, version))

-- the packet that has these parts in its first field, and these numbers in the others
packet_of : ℕ → ℕ → ℕ → (PacketField → ℕ) → Packet
packet_of li version mode held = record {
  li = li;
  version = version;
  mode = mode;
  stratum = held field.Stratum;
  poll = held field.Poll;
  precision = held field.Precision;
  delay = held field.RootDelay;
  dispersion = held field.RootDispersion;
  refid = held field.ReferenceId;
  reference = held field.Reference;
  origin = held field.Origin;
  receive = held field.Receive;
  transmit = held field.Transmit;
}

-- it is one packet
one_of : (p : Packet) (li version mode : ℕ) (held : PacketField → ℕ) → p.li ≡ li → p.version ≡ version → p.mode ≡ mode
    → ((f : PacketField) → value_of p f ≡ held f) → packet_of p.li p.version p.mode (value_of p) ≡ packet_of li version mode held
one_of p li version mode held first second third e = let others : value_of p ≡ held = fun_ext e in cc

-- packets that hold the same in each field are one
pub same_packet : (p q : Packet) → Fits p → Fits q → ((f : PacketField) → value_of p f ≡ value_of q f) → p ≡ q
unfolding packet_of
same_packet p q h k e =
    let parts = same_parts p q h k (e field.First) in
    one_of p q.li q.version q.mode (value_of q) parts.0 parts.1 parts.2 e

-- the version of what was read is the one that stands there
pub version_read : (p : Packet) (b : List ℕ) → Fits p → value_of p field.First ≡ number_at b field.First → version_in b ≡ p.version
version_read p b h e = omega (arith, e, h.version, h.mode)

pub version_tested : (v : ℕ) → IsVersion v → is_version v ≡ true
version_tested v h = rw (le-leb LEAST_VERSION v h.0, le-leb v MOST_VERSION h.1) refl

pub version_right : (v : ℕ) → is_version v ≡ true → IsVersion v
version_right v h = elim (cases_lt v LEAST_VERSION) [
  | inl low ↦ let no : false ≡ true = rw (lt-leb LEAST_VERSION v low) at h in absurd (cc)
  | inr from ↦ elim (cases_lt MOST_VERSION v) [
    | inl high ↦ let no : false ≡ true = rw (le-leb LEAST_VERSION v from, lt-leb v MOST_VERSION high) at h in absurd (cc)
    | inr to ↦ (from, to)
  ]
]

abbrev pub wrong_version : Refused
wrong_version = record { field = wire.NtpVersion; offset = 0; cause = cause.Value }

-- nothing is wrong with whole octets of a version that is read
pub nothing_wrong : (b : List ℕ) → PACKET_LENGTH ≤ length b → is_version (version_in b) ≡ true → first_wrong b ≡ None
nothing_wrong b whole right = rw (le-ltb (length b) PACKET_LENGTH whole, right) refl

pub version_wrong : (b : List ℕ) → PACKET_LENGTH ≤ length b → is_version (version_in b) ≡ false → first_wrong b ≡ Some wrong_version
version_wrong b whole wrong = rw (le-ltb (length b) PACKET_LENGTH whole, wrong) refl

-- nothing is wrong with octets that spell a packet
pub spelled_right : (p : Packet) (b : List ℕ) → Spells p b → first_wrong b ≡ None
spelled_right p b s =
    nothing_wrong b s.whole (ap is_version (version_read p b s.fits (s.fields field.First)) ∙ version_tested p.version s.version)

-- octets spell one packet
pub one_packet : (p q : Packet) (b : List ℕ) → Spells p b → Spells q b → p ≡ q
one_packet p q b s t = same_packet p q s.fits t.fits (λ f. s.fields f ∙ sym (t.fields f))

-- a refusal comes exactly where it is the first wrong field
pub refused_alone : (b : List ℕ) (x refused : Refused) → first_wrong b ≡ Some x
    → ◌≡◌ {A = Result Packet Refused} (Err x) (Err refused) ↔ (first_wrong b ≡ Some refused)
refused_alone b x refused wrong = (
  λ e. let same : x ≡ refused = cc in wrong ∙ ap (λ (r : Refused). Some r) same,
  λ e. let same : x ≡ refused = cc in ap (λ (r : Refused). Err r) same,
)

-- octets in which something is wrong spell nothing
pub nothing_spelled : (b : List ℕ) (x : Refused) (p : Packet) → first_wrong b ≡ Some x
    → ◌≡◌ {A = Result Packet Refused} (Err x) (Ok p) ↔ Spells p b
nothing_spelled b x p wrong = (λ e. absurd (cc), λ s. let right = spelled_right p b s in absurd (cc))

-- octets that spell a packet spell no other, and are not refused
pub spelled_alone : (b : List ℕ) (q p : Packet) → Spells q b → ◌≡◌ {A = Result Packet Refused} (Ok q) (Ok p) ↔ Spells p b
spelled_alone b q p s = (
  λ e. let same : q ≡ p = cc in rw same at s,
  λ t. ap (λ (x : Packet). Ok x) (one_packet q p b s t),
)

pub not_refused : (b : List ℕ) (q : Packet) (refused : Refused) → Spells q b
    → ◌≡◌ {A = Result Packet Refused} (Ok q) (Err refused) ↔ (first_wrong b ≡ Some refused)
not_refused b q refused s = let right = spelled_right q b s in (λ e. absurd (cc), λ e. absurd (cc))

-- the packet that octets spell is the one that is read
pub spelled_in : (p : Packet) (b : List ℕ) → Fits p → ((f : PacketField) → value_of p f ≡ number_at b f) → p ≡ packet_in b
unfolding packet_of
spelled_in p b h e =
    let first = e field.First in
    let li : p.li ≡ (packet_in b).li = omega (arith, first, h.version, h.mode) in
    let mode : p.mode ≡ (packet_in b).mode = omega (arith, first, h.mode) in
    one_of p (packet_in b).li (version_in b) (packet_in b).mode (number_at b) li (sym (version_read p b h first)) mode e

pub reading_right : (p : Packet) (b : List ℕ) → Spells p b → Ok p ≡ reading b
unfolding reading
reading_right p b s = rw (spelled_right p b s, spelled_in p b s.fits s.fields) refl

pub reading_wrong : (b : List ℕ) (x : Refused) → first_wrong b ≡ Some x → ◌≡◌ {A = Result Packet Refused} (Err x) (reading b)
unfolding reading
reading_wrong b x wrong = rw wrong refl

pub short_wrong : (b : List ℕ) → length b < PACKET_LENGTH
    → first_wrong b ≡ Some (record { field = wire.NtpLength; offset = length b; cause = cause.Short })
short_wrong b short = rw (lt-ltb (length b) PACKET_LENGTH short) refl
