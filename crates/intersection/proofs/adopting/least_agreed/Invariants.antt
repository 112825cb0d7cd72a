use Rattle.std.proofs.Common.{map, take}
use Rattle.intersection.specs.Adoption.{ends_of}
use Rattle.intersection.proofs.LoopLaws.{IsLeastOf}
use Rattle.intersection.proofs.adopting.least_agreed.Given as goal

abbrev pub invariant-loop-i : goal.invariant-loop-i
invariant-loop-i l = IsLeastOf (map ends_of l.s) (take l.i-index l.s) l.least
