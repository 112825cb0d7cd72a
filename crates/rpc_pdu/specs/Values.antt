-- PDUs whose numbers fit the types of their fields, and whose uuids have 16 octets, as those have that a program holds.
use Rattle.std.specs.Prelude.{◌≡◌, ℕ, ◌^◌, ◌<◌, List, length, slice_index, IfSome}
use Rattle.std.specs.List.{AllByRecursion}
use Rattle.pdu_fields.specs.declared.pdu.Pdu.{Pdu}
use Rattle.pdu_fields.specs.declared.pdu.Body.{Body}
use Rattle.pdu_fields.specs.declared.pdu.Body.TheVariants as body
use Rattle.pdu_fields.specs.declared.pdu.BindBody.{BindBody}
use Rattle.pdu_fields.specs.declared.pdu.AckBody.{AckBody}
use Rattle.pdu_fields.specs.declared.pdu.Context.{Context}
use Rattle.pdu_fields.specs.declared.pdu.ContextResult.{ContextResult}
use Rattle.pdu_fields.specs.declared.pdu.Syntax.{Syntax}

abbrev pub FitsUuid : List ℕ → Type 0
FitsUuid uuid = length uuid ≡ 16

pub record FitsSyntax (s : Syntax) : Type 0 where
  pub uuid : FitsUuid s.uuid
  pub version : s.version < 2 ^ 32

pub record FitsContext (c : Context) : Type 0 where
  pub id : c.id < 2 ^ 16
  pub interface : FitsSyntax c.abstract_syntax
  pub transfers : AllByRecursion FitsSyntax c.transfers

pub record FitsBind (b : BindBody) : Type 0 where
  pub max_xmit : b.max_xmit < 2 ^ 16
  pub max_recv : b.max_recv < 2 ^ 16
  pub group : b.group < 2 ^ 32
  pub contexts : AllByRecursion FitsContext b.contexts

pub record FitsResult (r : ContextResult) : Type 0 where
  pub outcome : r.«result» < 2 ^ 16
  pub reason : r.reason < 2 ^ 16
  pub transfer : FitsSyntax r.transfer

pub record FitsAck (a : AckBody) : Type 0 where
  pub max_xmit : a.max_xmit < 2 ^ 16
  pub max_recv : a.max_recv < 2 ^ 16
  pub group : a.group < 2 ^ 32
  pub results : AllByRecursion FitsResult a.results

abbrev pub FitsBody : Body → Type 0
FitsBody (body.Request hint context opnum object stub) = (hint < 2 ^ 32) × (context < 2 ^ 16) × (opnum < 2 ^ 16) × IfSome object FitsUuid
FitsBody (body.Response hint context cancels stub) = (hint < 2 ^ 32) × (context < 2 ^ 16)
FitsBody (body.Fault hint context cancels status) = (hint < 2 ^ 32) × (context < 2 ^ 16) × (status < 2 ^ 32)
FitsBody (body.Bind b) = FitsBind b
FitsBody (body.BindAck a) = FitsAck a
FitsBody (body.BindNak reason protocols) = reason < 2 ^ 16
FitsBody (body.AlterContext b) = FitsBind b
FitsBody (body.AlterContextResp a) = FitsAck a
FitsBody body.Shutdown = Unit {0}
FitsBody body.CoCancel = Unit {0}
FitsBody body.Orphaned = Unit {0}

pub record FitsPdu (v : Pdu) : Type 0 where
  pub call_id : v.call_id < 2 ^ 32
  pub content : FitsBody v.body

-- numbers below 256
abbrev pub IsOctets : List ℕ → Type 0
IsOctets b = (i : ℕ) → slice_index b i < 256
