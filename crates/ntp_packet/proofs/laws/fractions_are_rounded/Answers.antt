use Rattle.ntp_packet.proofs.TrueTime.{floor_is_greatest, floor_is_below, ceiling_is_least, ceiling_is_above}
use Rattle.ntp_packet.proofs.laws.fractions_are_rounded.Goals as goal

pub returns-clause-floor : goal.returns-clause-floor
returns-clause-floor c = floor_is_greatest

pub returns-clause-below : goal.returns-clause-below
returns-clause-below c = floor_is_below

pub returns-clause-ceiling : goal.returns-clause-ceiling
returns-clause-ceiling c = ceiling_is_least

pub returns-clause-above : goal.returns-clause-above
returns-clause-above c = ceiling_is_above
