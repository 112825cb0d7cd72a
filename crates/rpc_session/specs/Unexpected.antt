-- A PDU that does not fit the state of a session.
use Rattle.std.specs.Prelude.{Result, Err}
use Rattle.dts_base.specs.declared.wire.State.{State}
use Rattle.pdu_fields.specs.Headers.{number_of}
use Rattle.pdu_fields.specs.Bodies.{kind_of}
use Rattle.pdu_fields.specs.declared.pdu.Pdu.{Pdu}
use Rattle.rpc_session.specs.declared.fault.SessionFault.{SessionFault}
use Rattle.rpc_session.specs.declared.fault.SessionFault.TheVariants as fault

abbrev pub unexpected : {T : Type 0} → State → Pdu → Result T SessionFault
unexpected s p = Err (fault.Unexpected (number_of (kind_of p.body)) s)
