use Rattle.ntp_packet.specs.Intervals.{sent_in, received_in}
use Rattle.ntp_packet.specs.Eras.{era_of}
use Rattle.ntp_packet.proofs.TrueTime.{low_end, high_end}
use Rattle.ntp_packet.proofs.laws.true_time_is_between.Goals as goal

pub returns-clause-sending : goal.returns-clause-sending
returns-clause-sending c p near time = low_end p (sent_in (era_of p.transmit near) p) time

pub returns-clause-receipt : goal.returns-clause-receipt
returns-clause-receipt c p near time = high_end p (received_in (era_of p.transmit near) p) time
