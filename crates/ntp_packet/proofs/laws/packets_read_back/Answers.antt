use Rattle.ntp_packet.proofs.Octets.{spells_back}
use Rattle.ntp_packet.proofs.laws.packets_read_back.Goals as goal

pub returns : goal.returns
returns c = spells_back
