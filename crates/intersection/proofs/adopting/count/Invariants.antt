use Rattle.std.proofs.Common.{◌≡◌, ◌≤◌, take}
use Rattle.std.specs.Prelude.{count_by}
use Rattle.intersection.specs.Adoption.{ends_of, holds}
use Rattle.intersection.proofs.adopting.count.Given as goal

abbrev pub invariant-loop-i : goal.invariant-loop-i
invariant-loop-i l = (l.count ≡ count_by (λ i. holds (ends_of i) l.p) (take l.i-index l.s)) × (l.count ≤ l.i-index)
