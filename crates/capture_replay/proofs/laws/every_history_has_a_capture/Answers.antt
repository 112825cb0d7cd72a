use Rattle.capture_replay.proofs.Writing.{written_is_valid}
use Rattle.capture_replay.proofs.laws.every_history_has_a_capture.Goals as goal

pub returns : goal.returns
returns c = written_is_valid
