use Rattle.time_wire.proofs.Pieces.{Written}
use Rattle.time_wire.proofs.encoding.encoded.Given as goal

abbrev pub invariant-loop-part : goal.invariant-loop-part
invariant-loop-part l = Written l.fn.e l.parts l.part-index l.writer
