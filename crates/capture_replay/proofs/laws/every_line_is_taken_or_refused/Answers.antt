use Rattle.capture_replay.proofs.Totality.{total}
use Rattle.capture_replay.proofs.laws.every_line_is_taken_or_refused.Goals as goal

pub returns : goal.returns
returns c = total
