use Rattle.roster.proofs.Keeping.{keeps}
use Rattle.roster.proofs.laws.rosters_keep_the_limits.Goals as goal

pub returns : goal.returns
returns c = keeps
