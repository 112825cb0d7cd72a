use Rattle.std.proofs.Common.{◌≡◌, ◌≤◌, map, take, length}
use Rattle.intersection.specs.Adoption.{ends_of}
use Rattle.clerk.specs.Outcome.{answers_at}
use Rattle.clerk.proofs.round.carry.Given as goal

abbrev pub invariant-loop-query : goal.invariant-loop-query
invariant-loop-query l = (l.n ≤ l.query-index)
    × (map ends_of (take l.n l.to) ≡ answers_at l.r l.osc (take l.query-index l.queries))
    × (length l.to ≡ length l.initial.to)
