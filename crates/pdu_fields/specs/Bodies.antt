-- What the kinds of PDUs have behind the header (C706, chapter 12), a table each.
use Rattle.std.specs.Prelude.{ℕ, Bool, not, ◌==◌, if◌then◌else◌, List, Option, Some, None, bit_and}
use Rattle.dts_base.specs.declared.wire.Field.{Field}
use Rattle.dts_base.specs.declared.wire.Field.TheVariants as field
use Rattle.ndr.specs.declared.endian.Endian.{Endian}
use Rattle.pdu_fields.specs.declared.kind.Ptype.{Ptype}
use Rattle.pdu_fields.specs.declared.kind.Ptype.TheVariants as ptype
use Rattle.pdu_fields.specs.declared.header.Header.{Header}
use Rattle.pdu_fields.specs.declared.header.TheConstants.{OBJECT_UUID, MAX_CONTEXTS, MAX_TRANSFERS, MAX_RESULT, MAX_REASON}
use Rattle.pdu_fields.specs.declared.pdu.Body.{Body}
use Rattle.pdu_fields.specs.declared.pdu.Body.TheVariants as body
use Rattle.pdu_fields.specs.declared.pdu.BindBody.{BindBody}
use Rattle.pdu_fields.specs.declared.pdu.AckBody.{AckBody}
use Rattle.pdu_fields.specs.declared.pdu.Context.{Context}
use Rattle.pdu_fields.specs.declared.pdu.ContextResult.{ContextResult}
use Rattle.pdu_fields.specs.declared.pdu.Syntax.{Syntax}
use Rattle.pdu_fields.specs.declared.pdu.Protocol.{Protocol}
use Rattle.pdu_fields.specs.Tables.{Table, Ends, Kept, Passed, Padded, Rest, octet, number, identifier, octets, repeated}
use Rattle.pdu_fields.specs.Headers.{any, between}

-- a PDU of this header
abbrev pub ends : Header → Body → Table
ends h b = Ends (record { call_id = h.call_id; flags = h.flags; minor = h.minor; endian = h.endian; body = b })

-- an identifier under this name, and a version
abbrev pub syntax_part : Endian → Field → (Syntax → Table) → Table
syntax_part e name more =
    Kept name (identifier e) any (λ uuid.
    Kept field.Version (number e 4) any (λ version.
    more (record { uuid = uuid; version = version })))

abbrev pub context_part : Endian → (Context → Table) → Table
context_part e more =
    Kept field.ContextId (number e 2) any (λ id.
    Kept field.NTransferSyn octet (between 1 MAX_TRANSFERS) (λ count.
    Passed field.Reserved 1 (
    syntax_part e field.AbstractUuid (λ interface.
    repeated (syntax_part e field.TransferUuid) count (λ transfers.
    more (record { id = id; abstract_syntax = interface; transfers = transfers }))))))

-- bind and alter_context
abbrev pub bind_part : Endian → (BindBody → Table) → Table
bind_part e more =
    Kept field.MaxXmit (number e 2) any (λ max_xmit.
    Kept field.MaxRecv (number e 2) any (λ max_recv.
    Kept field.AssocGroup (number e 4) any (λ group.
    Kept field.NContext octet (between 1 MAX_CONTEXTS) (λ count.
    Passed field.Reserved 3 (
    repeated (context_part e) count (λ contexts.
    more (record { max_xmit = max_xmit; max_recv = max_recv; group = group; contexts = contexts })))))))

abbrev pub result_part : Endian → (ContextResult → Table) → Table
result_part e more =
    Kept field.Result (number e 2) (between 0 MAX_RESULT) (λ outcome.
    Kept field.Reason (number e 2) (between 0 MAX_REASON) (λ reason.
    syntax_part e field.TransferUuid (λ transfer.
    more (record { «result» = outcome; reason = reason; transfer = transfer }))))

-- bind_ack and alter_context_resp
abbrev pub ack_part : Endian → (AckBody → Table) → Table
ack_part e more =
    Kept field.MaxXmit (number e 2) any (λ max_xmit.
    Kept field.MaxRecv (number e 2) any (λ max_recv.
    Kept field.AssocGroup (number e 4) any (λ group.
    Kept field.SecLength (number e 2) any (λ count.
    Kept field.SecAddress (octets count) any (λ address.
    Padded field.Padding 4 (
    Kept field.NResults octet (between 1 MAX_CONTEXTS) (λ answers.
    Passed field.Reserved 3 (
    repeated (result_part e) answers (λ results.
    more (record { max_xmit = max_xmit; max_recv = max_recv; group = group; address = address; results = results }))))))))))

abbrev pub protocol_part : (Protocol → Table) → Table
protocol_part more =
    Kept field.Major octet any (λ major.
    Kept field.Minor octet any (λ minor.
    more (record { major = major; minor = minor })))

abbrev pub nak_table : Header → Table
nak_table h =
    Kept field.Reason (number h.endian 2) any (λ reason.
    Kept field.NProtocols octet any (λ count.
    repeated protocol_part count (λ protocols.
    ends h (body.BindNak reason protocols))))

-- the flag that a request names an object
abbrev pub has_object : ℕ → Bool
has_object flags = not (bit_and flags OBJECT_UUID == 0)

-- the identifier of an object exactly where the flag is set
abbrev pub object_part : Header → (Option (List ℕ) → Table) → Table
object_part h more =
    if has_object h.flags then Kept field.ObjectUuid (identifier h.endian) any (λ object. more (Some object)) else more None

abbrev pub request_table : Header → Table
request_table h =
    Kept field.AllocHint (number h.endian 4) any (λ hint.
    Kept field.ContextId (number h.endian 2) any (λ context.
    Kept field.Opnum (number h.endian 2) any (λ opnum.
    object_part h (λ object.
    Rest field.Stub (λ stub.
    ends h (body.Request hint context opnum object stub))))))

abbrev pub response_table : Header → Table
response_table h =
    Kept field.AllocHint (number h.endian 4) any (λ hint.
    Kept field.ContextId (number h.endian 2) any (λ context.
    Kept field.CancelCount octet any (λ cancels.
    Passed field.Reserved 1 (
    Rest field.Stub (λ stub.
    ends h (body.Response hint context cancels stub))))))

abbrev pub fault_table : Header → Table
fault_table h =
    Kept field.AllocHint (number h.endian 4) any (λ hint.
    Kept field.ContextId (number h.endian 2) any (λ context.
    Kept field.CancelCount octet any (λ cancels.
    Passed field.Reserved 1 (
    Kept field.Status (number h.endian 4) any (λ status.
    Passed field.Reserved 4 (
    ends h (body.Fault hint context cancels status)))))))

-- the kind of a body
abbrev pub kind_of : Body → Ptype
kind_of (body.Request hint context opnum object stub) = ptype.Request
kind_of (body.Response hint context cancels stub) = ptype.Response
kind_of (body.Fault hint context cancels status) = ptype.Fault
kind_of (body.Bind b) = ptype.Bind
kind_of (body.BindAck a) = ptype.BindAck
kind_of (body.BindNak reason protocols) = ptype.BindNak
kind_of (body.AlterContext b) = ptype.AlterContext
kind_of (body.AlterContextResp a) = ptype.AlterContextResp
kind_of body.Shutdown = ptype.Shutdown
kind_of body.CoCancel = ptype.CoCancel
kind_of body.Orphaned = ptype.Orphaned

-- the table of a kind
abbrev pub body_of : Ptype → Header → Table
body_of ptype.Request h = request_table h
body_of ptype.Response h = response_table h
body_of ptype.Fault h = fault_table h
body_of ptype.Bind h = bind_part h.endian (λ b. ends h (body.Bind b))
body_of ptype.BindAck h = ack_part h.endian (λ b. ends h (body.BindAck b))
body_of ptype.BindNak h = nak_table h
body_of ptype.AlterContext h = bind_part h.endian (λ b. ends h (body.AlterContext b))
body_of ptype.AlterContextResp h = ack_part h.endian (λ b. ends h (body.AlterContextResp b))
body_of ptype.Shutdown h = ends h body.Shutdown
body_of ptype.CoCancel h = ends h body.CoCancel
body_of ptype.Orphaned h = ends h body.Orphaned
