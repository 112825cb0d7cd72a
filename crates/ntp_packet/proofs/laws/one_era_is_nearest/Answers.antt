use Rattle.ntp_packet.proofs.EraLaws.{era_is_nearest, one_era}
use Rattle.ntp_packet.proofs.laws.one_era_is_nearest.Goals as goal

pub returns-clause-some : goal.returns-clause-some
returns-clause-some c = era_is_nearest

pub returns-clause-one : goal.returns-clause-one
returns-clause-one c = one_era
