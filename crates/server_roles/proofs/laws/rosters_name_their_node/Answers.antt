use Rattle.server_roles.proofs.Named.{read_is_named, alone_is_named}
use Rattle.server_roles.proofs.laws.rosters_name_their_node.Goals as goal

pub returns : goal.returns
returns c = record { read = read_is_named; alone = alone_is_named }
