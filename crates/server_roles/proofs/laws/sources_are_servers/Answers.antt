use Rattle.server_roles.proofs.Servers.{are_servers, are_distinct}
use Rattle.server_roles.proofs.laws.sources_are_servers.Goals as goal

pub returns : goal.returns
returns c = record { servers = are_servers; distinct = are_distinct }
