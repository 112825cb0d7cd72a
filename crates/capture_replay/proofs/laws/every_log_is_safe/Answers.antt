use Rattle.capture_replay.proofs.SafeLogs.{filters_safely}
use Rattle.capture_replay.proofs.laws.every_log_is_safe.Goals as goal

pub returns : goal.returns
returns c = filters_safely
