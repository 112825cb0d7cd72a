use Rattle.std.proofs.Common.{◌≡◌, arith, rules, get_or, subst, sym}
use Rattle.toml.specs.View.{view}
use Rattle.roster.specs.Keys.{asked_of, server_keys}
use Rattle.roster.specs.Rosters.{GivesEntry}
use Rattle.roster.specs.Seen.{IsRight}
use Rattle.roster.proofs.Walks.{each_at, zip_more}
use Rattle.roster.proofs.reading.entries.Goals as goal

pub entry-requires : goal.entry-requires
entry-requires c =
    let here = each_at (IsRight (asked_of server_keys)) c.args.servers.now c.loop-server.server-index c.server-item.result c.requires (omega (arith, c.loop-server-test.true)) in
    let same : get_or c.args.servers.now c.loop-server.server-index c.server-item.result ≡ c.server-item.result = search rules in
    subst (λ v. IsRight (asked_of server_keys) (view v)) same here

pub loop-server-preserved : goal.loop-server-preserved
loop-server-preserved c =
    let same : get_or c.args.servers.now c.loop-server.server-index c.server-item.result ≡ c.server-item.result = search rules in
    let one = subst (λ v. GivesEntry (view v) c.in_ok-entry.field-0) (sym same) c.in_ok-entry.ensures in
    rw c.in_ok-push.ensures.items (zip_more GivesEntry c.args.servers.now c.loop-server.server-index c.server-item.result c.loop-server.entries.items c.in_ok-entry.field-0 (omega (arith, c.loop-server-test.true)) c.loop-server.invariant one)
