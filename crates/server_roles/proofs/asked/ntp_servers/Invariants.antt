use Rattle.std.proofs.Common.{◌≡◌, ◌++◌, drop}
use Rattle.roster.specs.declared.entry.ServerKind.TheVariants as kind
use Rattle.roster.specs.Wrong.{positions_from}
use Rattle.roster.specs.Rosters.{is_kind}
use Rattle.server_roles.specs.Sources.{ntp_servers}
use Rattle.server_roles.proofs.asked.ntp_servers.Given as goal

abbrev pub invariant-loop-peer : goal.invariant-loop-peer
invariant-loop-peer l = ntp_servers l.fn.r ≡ l.peers.items ++ positions_from l.peer (λ e. is_kind kind.Ntp e.kind) (drop l.peer l.fn.r.entries)
