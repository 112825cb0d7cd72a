use Rattle.std.proofs.Common.{ap, ◌∙◌, arith, map, length}
use Rattle.std.proofs.lemmas.List.{take_all, length-map}
use Rattle.clerk.specs.Queries.{pending}
use Rattle.clerk.proofs.Stands.{begun_sound}
use Rattle.clerk.proofs.round.Round.begin.Goals as goal

pub invariant_of-result : goal.invariant_of-result
invariant_of-result c =
    let peers = c.args.peers.now in
    let queries = c.loop-peer.queries.items in
    let are = c.loop-peer.invariant ∙ ap (map pending) (take_all c.loop-peer.peer-index peers (omega (arith, c.loop-peer-test.false))) in
    let same = ap length are ∙ length-map peers pending in
    (omega (arith, same, c.requires), omega (arith, same, c.in_ok-sweep.ensures.room), begun_sound c.args.osc peers queries are)
