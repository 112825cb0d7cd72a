use Rattle.pdu_fields.specs.Bodies.{protocol_part}
use Rattle.pdu_fields.specs.Parsing.{ReadSoFar}
use Rattle.rpc_pdu.proofs.decoding.read_protocols.Given as goal

abbrev pub invariant-loop-done : goal.invariant-loop-done
invariant-loop-done l = ReadSoFar protocol_part l.fn.count l._done l.items l.fn.cursor l.cursor
