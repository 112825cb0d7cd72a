use Rattle.std.proofs.Common.{◌≡◌, ◌-◌, ◌≤◌, false, length, take}
use Rattle.dts_base.specs.Told.{Told}
use Rattle.line_reader.specs.declared.limits.TheConstants.{ROOM}
use Rattle.line_reader.specs.Lines.{IsLine}
use Rattle.line_reader.proofs.Advancing.{Reads}
use Rattle.line_reader.proofs.reader.LineReader.advance.Given as goal

abbrev pub invariant-loop-searched : goal.invariant-loop-searched
invariant-loop-searched g l = record {
  going : l.self.ended ≡ false;
  searched : l.searched ≤ length l.self.ahead;
  none : IsLine (take l.searched l.self.ahead);
  told : Told (g.I.Source.left l.fn.input) (g.I.Source.left l.input) (Reads l.fn.self l.self);
  kept : g.I.Source.faults l.input ≡ g.I.Source.faults l.fn.input;
}

abbrev pub decreases-loop-searched : goal.decreases-loop-searched
decreases-loop-searched g l = ROOM - length l.self.ahead
