use Rattle.utc_value.proofs.OctetLaws.{spelled, refused}
use Rattle.utc_value.proofs.Utc.from_bytes.Goals as goal

pub returns-clause-spelled : goal.returns-clause-spelled
returns-clause-spelled c = spelled c.args.octets c.read_octets.result c.read_octets.ensures.ok c.read_octets.ensures.in_range c.read_octets.ensures.reads_back

pub returns-clause-refused : goal.returns-clause-refused
returns-clause-refused c = refused c.args.octets c.read_octets.result c.read_octets.ensures.version c.read_octets.ensures.tdf
