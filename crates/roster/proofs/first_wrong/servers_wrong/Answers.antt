use Rattle.std.proofs.Common.{sym, arith}
use Rattle.std.specs.Prelude.{map}
use Rattle.toml.specs.View.{view}
use Rattle.roster.specs.Wrong.{too_many}
use Rattle.roster.proofs.Walks.{first_some, too_many_is}
use Rattle.roster.proofs.first_wrong.servers_wrong.Goals as goal

pub returns-then-servers-gt-MAX_SERVERS : goal.returns-then-servers-gt-MAX_SERVERS
returns-then-servers-gt-MAX_SERVERS c =
    rw c.top.ensures (sym (first_some (too_many (map view c.args.servers.now)) _ _ (too_many_is c.args.servers.now (omega arith))))
