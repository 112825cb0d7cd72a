use Rattle.sync_rules.proofs.Exact.{reads_give, reads_are_of_one_lane}
use Rattle.sync_rules.proofs.Naming.{named_steps}
use Rattle.sync_rules.proofs.reads_give_readings.Goals as goal

pub returns : goal.returns
returns c = record { give = reads_give; lane = reads_are_of_one_lane; steps = named_steps }
