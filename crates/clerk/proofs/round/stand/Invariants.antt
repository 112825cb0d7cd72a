use Rattle.std.proofs.Common.{◌≡◌, map, take, drop, ◌++◌}
use Rattle.clerk.specs.Queries.{standing}
use Rattle.clerk.proofs.round.stand.Given as goal

abbrev pub invariant-loop-query : goal.invariant-loop-query
invariant-loop-query l = l.query-items ≡ map (standing l.peer l.state) (take l.query-index l.initial.query-items) ++ drop l.query-index l.initial.query-items
