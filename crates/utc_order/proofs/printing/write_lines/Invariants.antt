use Rattle.std.proofs.Common.{◌≡◌, ℕ, List, ◌++◌, drop}
use Rattle.dts_base.specs.Streams.{Wrote}
use Rattle.utc_order.specs.Lines.{LogLine}
use Rattle.utc_order.specs.Places.{lines_at}
use Rattle.utc_order.specs.Marks.{text_behind, text_of}
use Rattle.utc_order.specs.Keeping.{reach_of}
use Rattle.utc_order.proofs.printing.write_lines.Given as goal

abbrev pub invariant-loop-place : goal.invariant-loop-place
invariant-loop-place g l = record {
  printed : List LogLine;
  reach : l.reach ≡ reach_of printed;
  done : List ℕ;
  wrote : Wrote (g.O.Sink.written l.fn.output) (g.O.Sink.written l.output) done;
  all : done ++ (l.text.items ++ text_behind printed (lines_at l.lines (drop l.place-index l.order))) ≡ text_of (lines_at l.lines l.order);
  kept : g.O.Sink.faults l.output ≡ g.O.Sink.faults l.fn.output;
}
