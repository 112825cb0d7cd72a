use Rattle.dts_base.specs.declared.wire.Field.TheVariants as field
use Rattle.pdu_fields.specs.Bodies.{syntax_part}
use Rattle.pdu_fields.specs.Parsing.{ReadSoFar}
use Rattle.rpc_pdu.proofs.decoding.read_syntaxes.Given as goal

abbrev pub invariant-loop-done : goal.invariant-loop-done
invariant-loop-done l = ReadSoFar (syntax_part l.fn.endian field.TransferUuid) l.fn.count l._done l.items l.fn.cursor l.cursor
