use Rattle.node_safety.proofs.Worlds.{exact_worlds_are_honest}
use Rattle.node_safety.proofs.honest_worlds_exist.Goals as goal

pub returns-clause-worlds : goal.returns-clause-worlds
returns-clause-worlds c = exact_worlds_are_honest
