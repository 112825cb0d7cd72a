use Rattle.server_roles.proofs.Brought.{clerk_brings_none, server_brings_its_record, none_without_one}
use Rattle.server_roles.proofs.laws.own_intervals_are_those_of_servers.Goals as goal

pub returns : goal.returns
returns c = record { clerk = clerk_brings_none; server = server_brings_its_record; none = none_without_one }
