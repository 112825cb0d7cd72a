-- The canonical spelling of a PDU: 0 in all octets that are passed over, and nothing behind the last field of its table.
use Rattle.std.specs.Prelude.{ℕ, ◌+◌, ◌-◌, ◌^◌, min, nat_lt, if◌then◌else◌, List, [], ◌∷◌, ◌++◌, length, replicate, Option, Some, None, Result, Ok, Err}
use Rattle.std.specs.List.{flat_map}
use Rattle.dts_base.specs.declared.wire.Field.{Field}
use Rattle.ndr.specs.declared.endian.Endian.{Endian}
use Rattle.ndr.specs.declared.endian.Endian.TheVariants.{Big, Little}
use Rattle.ndr.specs.Numbers.{number_octets, gap}
use Rattle.rpc_pdu.specs.declared.fault.EncodeFault.{EncodeFault}
use Rattle.rpc_pdu.specs.declared.fault.EncodeFault.TheVariants as fault
use Rattle.pdu_fields.specs.declared.header.TheConstants.{HEADER_LENGTH, MAX_FRAGMENT, RPC_VERS, BIG_ORDER, LITTLE_ORDER}
use Rattle.pdu_fields.specs.declared.pdu.Pdu.{Pdu}
use Rattle.pdu_fields.specs.declared.pdu.Body.{Body}
use Rattle.pdu_fields.specs.declared.pdu.Body.TheVariants as body
use Rattle.pdu_fields.specs.declared.pdu.BindBody.{BindBody}
use Rattle.pdu_fields.specs.declared.pdu.AckBody.{AckBody}
use Rattle.pdu_fields.specs.declared.pdu.Context.{Context}
use Rattle.pdu_fields.specs.declared.pdu.ContextResult.{ContextResult}
use Rattle.pdu_fields.specs.declared.pdu.Syntax.{Syntax}
use Rattle.pdu_fields.specs.declared.pdu.Protocol.{Protocol}
use Rattle.pdu_fields.specs.Headers.{number_of}
use Rattle.pdu_fields.specs.Bodies.{kind_of}
use Rattle.pdu_fields.specs.Tables.{in_order}
use Rattle.rpc_pdu.specs.Soundness.{unsound}

-- a count of one octet, and so many that are passed over
abbrev pub count_octets : ℕ → ℕ → List ℕ
count_octets count passed = count ∷ replicate passed 0

abbrev pub syntax_octets : Endian → Syntax → List ℕ
syntax_octets e s = in_order e s.uuid ++ number_octets e 4 s.version

abbrev pub context_octets : Endian → Context → List ℕ
context_octets e c =
    number_octets e 2 c.id ++ count_octets (length c.transfers) 1 ++ syntax_octets e c.abstract_syntax
    ++ flat_map (syntax_octets e) c.transfers

abbrev pub bind_octets : Endian → BindBody → List ℕ
bind_octets e b =
    number_octets e 2 b.max_xmit ++ number_octets e 2 b.max_recv ++ number_octets e 4 b.group
    ++ count_octets (length b.contexts) 3 ++ flat_map (context_octets e) b.contexts

abbrev pub result_octets : Endian → ContextResult → List ℕ
result_octets e r = number_octets e 2 r.«result» ++ number_octets e 2 r.reason ++ syntax_octets e r.transfer

-- the octets up to the end of an address, which the next field is aligned behind
abbrev pub address_octets : Endian → AckBody → List ℕ
address_octets e a =
    number_octets e 2 a.max_xmit ++ number_octets e 2 a.max_recv ++ number_octets e 4 a.group
    ++ number_octets e 2 (length a.address) ++ a.address

abbrev pub ack_octets : Endian → AckBody → List ℕ
ack_octets e a =
    address_octets e a ++ replicate (gap 4 (HEADER_LENGTH + length (address_octets e a))) 0
    ++ count_octets (length a.results) 3 ++ flat_map (result_octets e) a.results

abbrev pub protocol_octets : Protocol → List ℕ
protocol_octets p = p.major ∷ p.minor ∷ []

abbrev pub object_octets : Endian → Option (List ℕ) → List ℕ
object_octets e None = []
object_octets e (Some object) = in_order e object

abbrev pub body_octets : Endian → Body → List ℕ
body_octets e (body.Request hint context opnum object stub) =
    number_octets e 4 hint ++ number_octets e 2 context ++ number_octets e 2 opnum ++ object_octets e object ++ stub
body_octets e (body.Response hint context cancels stub) =
    number_octets e 4 hint ++ number_octets e 2 context ++ count_octets cancels 1 ++ stub
body_octets e (body.Fault hint context cancels status) =
    number_octets e 4 hint ++ number_octets e 2 context ++ count_octets cancels 1 ++ number_octets e 4 status ++ replicate 4 0
body_octets e (body.Bind b) = bind_octets e b
body_octets e (body.BindAck a) = ack_octets e a
body_octets e (body.BindNak reason protocols) =
    number_octets e 2 reason ++ count_octets (length protocols) 0 ++ flat_map protocol_octets protocols
body_octets e (body.AlterContext b) = bind_octets e b
body_octets e (body.AlterContextResp a) = ack_octets e a
body_octets e body.Shutdown = []
body_octets e body.CoCancel = []
body_octets e body.Orphaned = []

abbrev pub order_octet : Endian → ℕ
order_octet Big = BIG_ORDER
order_octet Little = LITTLE_ORDER

-- the header of a fragment of this length
abbrev pub header_octets : Pdu → ℕ → List ℕ
header_octets v length =
    RPC_VERS ∷ v.minor ∷ number_of (kind_of v.body) ∷ v.flags ∷ order_octet v.endian ∷ 0 ∷ 0 ∷ 0 ∷ []
    ++ number_octets v.endian 2 length ++ number_octets v.endian 2 0 ++ number_octets v.endian 4 v.call_id

-- how many octets a PDU has
abbrev pub size_of_pdu : Pdu → ℕ
size_of_pdu v = HEADER_LENGTH + length (body_octets v.endian v.body)

abbrev pub spelling : Pdu → List ℕ
spelling v = header_octets v (size_of_pdu v) ++ body_octets v.endian v.body

-- the spelling of a PDU that is right and not too long, or what is wrong with it
abbrev pub unless_long : Pdu → Result (List ℕ) EncodeFault
unless_long v = if nat_lt MAX_FRAGMENT (size_of_pdu v) then Err (fault.TooLong (min (size_of_pdu v) (2 ^ 32 - 1))) else Ok (spelling v)

abbrev pub unless_unsound : Option Field → Pdu → Result (List ℕ) EncodeFault
unless_unsound None v = unless_long v
unless_unsound (Some name) v = Err (fault.Unsound name)

abbrev pub encoding : Pdu → Result (List ℕ) EncodeFault
encoding v = unless_unsound (unsound v) v
