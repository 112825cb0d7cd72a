use Rattle.std.proofs.Common.{◌≡◌, ℕ, ◌-◌, ◌≤◌, List, Option}
use Rattle.line_reader.specs.declared.limits.TheConstants.{MAX_LINES}
use Rattle.line_filter.specs.Steps.{Stands}
use Rattle.line_filter.proofs.filter.filter_behind.Given as goal

abbrev pub invariant-loop-text : goal.invariant-loop-text
invariant-loop-text g l = record {
  few : l.before ≤ MAX_LINES;
  standing : (state : g.F.LineFilter.State) × g.F.LineFilter.stands l.filter l.before state;
  stands : (octets : List ℕ) (from : g.F.LineFilter.State) (told : Option (List ℕ))
      → Stands g.F.LineFilter.rules (g.F.LineFilter.stands l.fn.filter l.fn.before) from octets l.fn.before l.fn.reader (g.I.Source.left l.fn.input) told (g.O.Sink.written l.fn.output)
      → Stands g.F.LineFilter.rules (g.F.LineFilter.stands l.filter l.before) from octets l.before l.reader (g.I.Source.left l.input) told (g.O.Sink.written l.output);
  read_kept : g.I.Source.faults l.input ≡ g.I.Source.faults l.fn.input;
  write_kept : g.O.Sink.faults l.output ≡ g.O.Sink.faults l.fn.output;
}

abbrev pub decreases-loop-text : goal.decreases-loop-text
decreases-loop-text g l = MAX_LINES - l.before
