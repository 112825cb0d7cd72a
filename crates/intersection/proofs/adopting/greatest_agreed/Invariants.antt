use Rattle.std.proofs.Common.{map, take}
use Rattle.intersection.specs.Adoption.{ends_of}
use Rattle.intersection.proofs.LoopLaws.{IsGreatestOf}
use Rattle.intersection.proofs.adopting.greatest_agreed.Given as goal

abbrev pub invariant-loop-i : goal.invariant-loop-i
invariant-loop-i l = IsGreatestOf (map ends_of l.s) (take l.i-index l.s) l.greatest
