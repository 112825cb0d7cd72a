use Rattle.ntp_packet.proofs.Reading.{one_packet, spelled_right}
use Rattle.ntp_packet.proofs.laws.one_packet_of_octets.Goals as goal

pub returns-clause-one : goal.returns-clause-one
returns-clause-one c = one_packet

pub returns-clause-not_both : goal.returns-clause-not_both
returns-clause-not_both c p octets refused s wrong = let right = spelled_right p octets s in absurd (cc)
