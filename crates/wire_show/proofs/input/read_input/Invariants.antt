use Rattle.std.proofs.Common.{◌≡◌, ◌+◌, ◌-◌, ℕ, List, Some, length}
use Rattle.wire_show.specs.declared.input.TheConstants.{MAX_INPUT}
use Rattle.wire_show.specs.Showing.{HoldsSome}
use Rattle.wire_show.proofs.input.read_input.Given as goal

abbrev pub invariant-loop-piece : goal.invariant-loop-piece
invariant-loop-piece g l = record {
  reads : (octets : List ℕ) → g.I.Source.left l.fn.input ≡ Some octets → HoldsSome octets (g.I.Source.left l.input) l.held.items;
  kept : g.I.Source.faults l.input ≡ g.I.Source.faults l.fn.input;
}

abbrev pub decreases-loop-piece : goal.decreases-loop-piece
decreases-loop-piece g l = MAX_INPUT + 1 - length l.held.items
