-- The common header of all kinds (C706, chapter 12).
use Rattle.std.specs.Prelude.{ℕ, Bool, true, ◌&&◌, ◌==◌, nat_le, if◌then◌else◌, Option, Some, None, is_some}
use Rattle.std.specs.Option.{unwrap_or}
use Rattle.dts_base.specs.declared.wire.Field.{Field}
use Rattle.dts_base.specs.declared.wire.Field.TheVariants as field
use Rattle.ndr.specs.declared.endian.Endian.{Endian}
use Rattle.ndr.specs.declared.endian.Endian.TheVariants.{Big, Little}
use Rattle.pdu_fields.specs.declared.kind.Ptype.{Ptype}
use Rattle.pdu_fields.specs.declared.kind.Ptype.TheVariants as ptype
use Rattle.pdu_fields.specs.declared.header.Header.{Header}
use Rattle.pdu_fields.specs.declared.header.TheConstants.{HEADER_LENGTH, MAX_FRAGMENT, RPC_VERS, MAX_MINOR, BIG_ORDER, LITTLE_ORDER}
use Rattle.pdu_fields.specs.Tables.{Table, Kept, Passed, octet, number}

-- every value is right
abbrev pub any : {A : Type 0} → A → Bool
any value = true

-- a number from the least to the most is right
abbrev pub between : ℕ → ℕ → ℕ → Bool
between least most n = nat_le least n && nat_le n most

abbrev pub exactly : ℕ → ℕ → Bool
exactly expected = between expected expected

-- the kind of a number
abbrev pub ptype_at : ℕ → Option Ptype
ptype_at n =
    if n == 0 then Some ptype.Request
    else if n == 2 then Some ptype.Response
    else if n == 3 then Some ptype.Fault
    else if n == 11 then Some ptype.Bind
    else if n == 12 then Some ptype.BindAck
    else if n == 13 then Some ptype.BindNak
    else if n == 14 then Some ptype.AlterContext
    else if n == 15 then Some ptype.AlterContextResp
    else if n == 17 then Some ptype.Shutdown
    else if n == 18 then Some ptype.CoCancel
    else if n == 19 then Some ptype.Orphaned
    else None

-- the number of a kind
abbrev pub number_of : Ptype → ℕ
number_of ptype.Request = 0
number_of ptype.Response = 2
number_of ptype.Fault = 3
number_of ptype.Bind = 11
number_of ptype.BindAck = 12
number_of ptype.BindNak = 13
number_of ptype.AlterContext = 14
number_of ptype.AlterContextResp = 15
number_of ptype.Shutdown = 17
number_of ptype.CoCancel = 18
number_of ptype.Orphaned = 19

-- The byte order of an octet: its high half is 0 for the highest octet first and 1 for the lowest, and its low half is 0 for
-- the character set ASCII.
abbrev pub order_at : ℕ → Option Endian
order_at n =
    if n == BIG_ORDER then Some Big
    else if n == LITTLE_ORDER then Some Little
    else None

-- An octet that stands for something, and what it stands for. Where it stands for nothing it is not right, and nothing follows.
abbrev pub coded : {A : Type 0} → Field → (ℕ → Option A) → A → (A → Table) → Table
coded name meaning other more = Kept name octet (λ n. is_some (meaning n)) (λ n. more (unwrap_or (meaning n) other))

abbrev pub ptype_part : (Ptype → Table) → Table
ptype_part = coded field.Ptype ptype_at ptype.Orphaned

abbrev pub order_part : (Endian → Table) → Table
order_part = coded field.DrepOrder order_at Big

-- which lengths fit a fragment of so many octets, or of any number where it is not known
abbrev pub fits : Option ℕ → ℕ → Bool
fits (Some size) = exactly size
fits None = any

-- which lengths a fragment may have; a caller may know more of it
abbrev pub is_length : (ℕ → Bool) → ℕ → Bool
is_length right n = between HEADER_LENGTH MAX_FRAGMENT n && right n

abbrev pub length_part : (ℕ → Bool) → Endian → (ℕ → Table) → Table
length_part right e = Kept field.FragLength (number e 2) (is_length right)

-- The header.
abbrev pub header : (ℕ → Bool) → (Header → Table) → Table
header right more =
    Kept field.RpcVers octet (exactly RPC_VERS) (λ vers.
    Kept field.RpcVersMinor octet (between 0 MAX_MINOR) (λ minor.
    ptype_part (λ kind.
    Kept field.PfcFlags octet any (λ flags.
    order_part (λ order.
    Passed field.DrepRest 3 (
    length_part right order (λ length.
    Kept field.AuthLength (number order 2) (exactly 0) (λ auth.
    Kept field.CallId (number order 4) any (λ call_id.
    more (record { minor = minor; ptype = kind; flags = flags; endian = order; length = length; call_id = call_id }))))))))))
