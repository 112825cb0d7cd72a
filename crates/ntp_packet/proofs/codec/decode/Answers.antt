use Rattle.std.proofs.Common.{◌≡◌, ◌∙◌, ap, sym, Some}
use Rattle.ntp_packet.specs.declared.field.PacketField.TheVariants as field
use Rattle.ntp_packet.specs.Packets.{Spells, is_version, first_wrong}
use Rattle.ntp_packet.proofs.Reading.{version_read, version_right, version_wrong, wrong_version, refused_alone, nothing_spelled, spelled_alone, not_refused, reading_right, reading_wrong, short_wrong}
use Rattle.ntp_packet.proofs.codec.decode.Goals as goal
use Rattle.ntp_packet.proofs.codec.decode.Goals.{Then-not-is_version, Else-not-is_version}

wrong : (c : Then-not-is_version) → first_wrong c.args.b.now ≡ Some wrong_version
wrong c =
    version_wrong c.args.b.now c.if-b-lt-PACKET_LENGTH.false
    (ap is_version (version_read c.read-packet.result c.args.b.now c.read-packet.ensures.fits (c.read-packet.ensures.fields field.First))
    ∙ sym c.is_version.ensures ∙ c.if-not-is_version.true)

spelled : (c : Else-not-is_version) → Spells c.read-packet.result c.args.b.now
spelled c = record {
  whole = c.if-b-lt-PACKET_LENGTH.false;
  fits = c.read-packet.ensures.fits;
  fields = c.read-packet.ensures.fields;
  version = version_right c.read-packet.result.version (sym c.is_version.ensures ∙ c.if-not-is_version.false);
}

pub returns-then-not-is_version-clause-spelled : goal.returns-then-not-is_version-clause-spelled
returns-then-not-is_version-clause-spelled c p = nothing_spelled c.args.b.now wrong_version p (wrong c)

pub returns-then-not-is_version-clause-refused : goal.returns-then-not-is_version-clause-refused
returns-then-not-is_version-clause-refused c refused = refused_alone c.args.b.now wrong_version refused (wrong c)

pub returns-clause-spelled : goal.returns-clause-spelled
returns-clause-spelled c p = spelled_alone c.args.b.now c.read-packet.result p (spelled c)

pub returns-clause-refused : goal.returns-clause-refused
returns-clause-refused c refused = not_refused c.args.b.now c.read-packet.result refused (spelled c)

pub returns-then-not-is_version-clause-value : goal.returns-then-not-is_version-clause-value
returns-then-not-is_version-clause-value c = reading_wrong c.args.b.now wrong_version (wrong c)

pub returns-clause-value : goal.returns-clause-value
returns-clause-value c = reading_right c.read-packet.result c.args.b.now (spelled c)

pub returns-then-b-lt-PACKET_LENGTH-clause-value : goal.returns-then-b-lt-PACKET_LENGTH-clause-value
returns-then-b-lt-PACKET_LENGTH-clause-value c =
    reading_wrong c.args.b.now _ (short_wrong c.args.b.now c.if-b-lt-PACKET_LENGTH.true)
