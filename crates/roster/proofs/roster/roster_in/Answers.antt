use Rattle.std.proofs.Common.{sym, ap, length, arith, subst, map}
use Rattle.std.specs.List.{AllByRecursion}
use Rattle.std.proofs.lemmas.Slice.Zip.{AllZip-long}
use Rattle.toml.specs.View.{view, table_view}
use Rattle.roster.specs.Keys.{asked_of, server_keys}
use Rattle.roster.specs.Rosters.{GivesEntry}
use Rattle.roster.specs.Seen.{IsRight}
use Rattle.roster.proofs.Accepted.{servers_right}
use Rattle.roster.proofs.roster.roster_in.Goals as goal

pub entries-requires : goal.entries-requires
entries-requires c =
    subst (AllByRecursion (IsRight (asked_of server_keys))) (sym c.servers.ensures) (servers_right (table_view c.args.document.now) c.requires).0

pub invariant_of-result : goal.invariant_of-result
invariant_of-result c =
    let few = (servers_right (table_view c.args.document.now) c.requires).1 in
    let long = AllZip-long GivesEntry (map view c.servers.result.now) c.in_ok-entries.field-0.items c.in_ok-entries.ensures in
    let same = ap length c.servers.ensures in
    omega (arith, few, long, same)
