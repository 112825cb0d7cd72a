use Rattle.std.proofs.Common.{◌≡◌, take}
use Rattle.time_provider.specs.State.{queries_from}
use Rattle.time_provider.specs.Rooms.{listed}
use Rattle.time_provider.proofs.provider.queries_to.Given as goal

abbrev pub invariant-loop-place : goal.invariant-loop-place
invariant-loop-place l = (listed l.queries ≡ queries_from l.word 0 (take l.place l.peers)) × (l.queries.count ≡ l.place)
