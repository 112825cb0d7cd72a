-- The first field of a PDU whose value is not right. An octet list has a count where a value has a list.
use Rattle.std.specs.Prelude.{ℕ, Bool, nat_le, if◌then◌else◌, List, [], ◌∷◌, length, Option, Some, None, is_some, is_none}
use Rattle.dts_base.specs.declared.wire.Field.{Field}
use Rattle.dts_base.specs.declared.wire.Field.TheVariants as field
use Rattle.pdu_fields.specs.declared.header.TheConstants.{MAX_MINOR, MAX_CONTEXTS, MAX_TRANSFERS, MAX_RESULT, MAX_REASON, MAX_ADDRESS, MAX_PROTOCOLS}
use Rattle.pdu_fields.specs.declared.pdu.Pdu.{Pdu}
use Rattle.pdu_fields.specs.declared.pdu.Body.{Body}
use Rattle.pdu_fields.specs.declared.pdu.Body.TheVariants as body
use Rattle.pdu_fields.specs.declared.pdu.BindBody.{BindBody}
use Rattle.pdu_fields.specs.declared.pdu.AckBody.{AckBody}
use Rattle.pdu_fields.specs.declared.pdu.Context.{Context}
use Rattle.pdu_fields.specs.declared.pdu.ContextResult.{ContextResult}
use Rattle.pdu_fields.specs.Headers.{between}
use Rattle.pdu_fields.specs.Bodies.{has_object}

-- this field where it is not right, and else the first of the others
abbrev pub unless : Bool → Field → Option Field → Option Field
unless right name others = if right then others else Some name

abbrev pub unsound_contexts : List Context → Option Field
unsound_contexts [] = None
unsound_contexts (c ∷ cs) = unless (between 1 MAX_TRANSFERS (length c.transfers)) field.NTransferSyn (unsound_contexts cs)

abbrev pub unsound_bind : BindBody → Option Field
unsound_bind b = unless (between 1 MAX_CONTEXTS (length b.contexts)) field.NContext (unsound_contexts b.contexts)

abbrev pub unsound_results : List ContextResult → Option Field
unsound_results [] = None
unsound_results (r ∷ rs) =
    unless (between 0 MAX_RESULT r.«result») field.Result
    (unless (between 0 MAX_REASON r.reason) field.Reason (unsound_results rs))

abbrev pub unsound_ack : AckBody → Option Field
unsound_ack a =
    unless (nat_le (length a.address) MAX_ADDRESS) field.SecLength
    (unless (between 1 MAX_CONTEXTS (length a.results)) field.NResults (unsound_results a.results))

-- an object is there exactly where the flag for it is set
abbrev pub agrees : ℕ → Option (List ℕ) → Bool
agrees flags object = if has_object flags then is_some object else is_none object

abbrev pub unsound_body : ℕ → Body → Option Field
unsound_body flags (body.Request hint context opnum object stub) = unless (agrees flags object) field.PfcFlags None
unsound_body flags (body.Response hint context cancels stub) = None
unsound_body flags (body.Fault hint context cancels status) = None
unsound_body flags (body.Bind b) = unsound_bind b
unsound_body flags (body.BindAck a) = unsound_ack a
unsound_body flags (body.BindNak reason protocols) = unless (nat_le (length protocols) MAX_PROTOCOLS) field.NProtocols None
unsound_body flags (body.AlterContext b) = unsound_bind b
unsound_body flags (body.AlterContextResp a) = unsound_ack a
unsound_body flags body.Shutdown = None
unsound_body flags body.CoCancel = None
unsound_body flags body.Orphaned = None

abbrev pub unsound : Pdu → Option Field
unsound v = unless (between 0 MAX_MINOR v.minor) field.RpcVersMinor (unsound_body v.flags v.body)
