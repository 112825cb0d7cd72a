use Rattle.std.proofs.Common.{◌≡◌, ◌-◌, ℕ, List, Some, length}
use Rattle.utc_order.specs.declared.limits.TheConstants.{MAX_LINES}
use Rattle.utc_order.specs.Keeping.{Reads}
use Rattle.utc_order.proofs.input.read_log.Given as goal

abbrev pub invariant-loop-log : goal.invariant-loop-log
invariant-loop-log g l = record {
  reads : (octets : List ℕ) → g.I.Source.left l.fn.input ≡ Some octets → Reads octets l.reader (g.I.Source.left l.input) l.log;
  kept : g.I.Source.faults l.input ≡ g.I.Source.faults l.fn.input;
}

abbrev pub decreases-loop-log : goal.decreases-loop-log
decreases-loop-log g l = MAX_LINES - length l.log
