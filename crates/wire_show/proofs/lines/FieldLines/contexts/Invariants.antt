use Rattle.std.proofs.Common.{◌-◌}
use Rattle.ndr.specs.declared.endian.Endian.{Endian}
use Rattle.pdu_fields.specs.Bodies.{context_part}
use Rattle.wire_show.specs.Walking.{WalkedSoFar}
use Rattle.wire_show.proofs.lines.FieldLines.contexts.Given as goal

abbrev pub invariant-loop-done : goal.invariant-loop-done
invariant-loop-done l = (e : Endian) → WalkedSoFar (context_part e) l.fn.count (l.fn.count - l._done) l.fn.self l.self
