use Rattle.server_roles.proofs.Servers.{ntp_alone}
use Rattle.server_roles.proofs.laws.ntp_servers_are_asked_alone.Goals as goal

pub returns : goal.returns
returns c = ntp_alone
