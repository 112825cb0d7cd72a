use Rattle.std.proofs.Common.{◌∙◌, ap, sym}
use Rattle.std.proofs.lemmas.List.Edits.{map_over_more}
use Rattle.clerk.specs.Queries.{standing}
use Rattle.clerk.proofs.round.stand.Goals as goal
use lib.ListN.{set}

pub loop-query-preserved : goal.loop-query-preserved
loop-query-preserved c =
    let f = standing c.args.peer c.args.state in
    let k = c.loop-query.query-index in
    let queries = c.loop-query.query-items in
    ap (set queries k) (c.standing.ensures ∙ ap f (sym c.query-item.is))
    ∙ map_over_more f c.deref_mut-query-items.result.now queries k c.query-item.result c.loop-query-test.true c.loop-query.invariant c.query-item.is
