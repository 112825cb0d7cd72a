use Rattle.std.proofs.Common.{◌≡◌, map, take}
use Rattle.clerk.specs.Queries.{pending}
use Rattle.clerk.proofs.round.Round.begin.Given as goal

abbrev pub invariant-loop-peer : goal.invariant-loop-peer
invariant-loop-peer l = l.queries.items ≡ map pending (take l.peer-index l.peers)
