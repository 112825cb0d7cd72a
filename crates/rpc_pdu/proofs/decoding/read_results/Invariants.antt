use Rattle.pdu_fields.specs.Bodies.{result_part}
use Rattle.pdu_fields.specs.Parsing.{ReadSoFar}
use Rattle.rpc_pdu.proofs.decoding.read_results.Given as goal

abbrev pub invariant-loop-done : goal.invariant-loop-done
invariant-loop-done l = ReadSoFar (result_part l.fn.endian) l.fn.count l._done l.items l.fn.cursor l.cursor
