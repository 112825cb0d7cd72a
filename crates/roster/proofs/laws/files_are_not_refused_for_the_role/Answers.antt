use Rattle.roster.proofs.Causes.{never_role}
use Rattle.roster.proofs.laws.files_are_not_refused_for_the_role.Goals as goal

pub returns : goal.returns
returns c = never_role
