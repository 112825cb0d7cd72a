use Rattle.roster.proofs.Alone.{file_suffices}
use Rattle.roster.proofs.laws.a_name_is_all_that_a_file_needs.Goals as goal

pub returns : goal.returns
returns c = file_suffices
