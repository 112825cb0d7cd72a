use Rattle.capture_replay.proofs.Exclusive.{exclusive}
use Rattle.capture_replay.proofs.laws.one_log_of_a_capture.Goals as goal

pub returns : goal.returns
returns c = exclusive
