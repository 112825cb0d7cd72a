-- What octets spell is right.
use Rattle.std.proofs.Common.{◌≡◌, ℕ, zero, suc, ◌+◌, ◌<◌, ◌≤◌, Bool, true, false, List, [], ◌∷◌, length, take, drop, Result, Ok, Err, refl, sym, ap, subst, ◌∙◌, arith}
use Rattle.std.specs.Prelude.{if◌then◌else◌, nat_le, nat_lt, is_some, is_none, Option, Some, None, slice_index}
use Rattle.std.specs.Option.{unwrap_or}
use Rattle.std.specs.List.{AllByRecursion}
use Rattle.std.proofs.lemmas.Bool.Decides.{nat_tests}
use Rattle.std.proofs.lemmas.List.{get_or-drop, length-drop, length-take}
use Rattle.dts_base.specs.declared.wire.Field.{Field}
use Rattle.dts_base.specs.declared.wire.Field.TheVariants as field
use Rattle.dts_base.specs.declared.wire.WireCause.TheVariants as cause
use Rattle.ndr.specs.declared.endian.Endian.{Endian}
use Rattle.ndr.specs.declared.endian.Endian.TheVariants.{Big}
use Rattle.ndr.specs.Numbers.{gap}
use Rattle.ndr.specs.Reading.{refusal}
use Rattle.pdu_fields.specs.declared.kind.Ptype.{Ptype}
use Rattle.pdu_fields.specs.declared.kind.Ptype.TheVariants as ptype
use Rattle.pdu_fields.specs.declared.header.Header.{Header}
use Rattle.pdu_fields.specs.declared.header.TheConstants.{MAX_MINOR, MAX_CONTEXTS, MAX_TRANSFERS, MAX_RESULT, MAX_REASON, MAX_ADDRESS, MAX_PROTOCOLS, RPC_VERS}
use Rattle.pdu_fields.specs.declared.pdu.Pdu.{Pdu}
use Rattle.pdu_fields.specs.declared.pdu.Body.{Body}
use Rattle.pdu_fields.specs.declared.pdu.Body.TheVariants as body
use Rattle.pdu_fields.specs.declared.pdu.BindBody.{BindBody}
use Rattle.pdu_fields.specs.declared.pdu.AckBody.{AckBody}
use Rattle.pdu_fields.specs.declared.pdu.Context.{Context}
use Rattle.pdu_fields.specs.declared.pdu.ContextResult.{ContextResult}
use Rattle.pdu_fields.specs.declared.pdu.Syntax.{Syntax}
use Rattle.pdu_fields.specs.Tables.{Table, Ends, Kept, Passed, Padded, Rest, Shape, octet, number, identifier, octets, size_of, value_of, value_in, reading, repeated}
use Rattle.pdu_fields.specs.Headers.{any, between, exactly, header, is_length, ptype_at, order_at, length_part, order_part, ptype_part}
use Rattle.pdu_fields.specs.Bodies.{ack_part, bind_part, body_of, context_part, ends, has_object, object_part, protocol_part, result_part, syntax_part}
use Rattle.pdu_fields.specs.Grammar.{table_of, Spells}
use Rattle.rpc_pdu.specs.Soundness.{unsound, unsound_ack, unsound_bind, unsound_body, unsound_contexts, unsound_results}
use Rattle.rpc_pdu.specs.Values.{IsOctets}

-- some octets, of which there are at most so many, spell this by a table
record Reaches (most : ℕ) (table : Table) (v : Pdu) : Type 0 where
  at : ℕ
  left : List ℕ
  octets : IsOctets left
  short : length left ≤ most
  read : reading table at left ≡ Ok v

guard : {A E : Type 0} (test : Bool) (e : E) (r : Result A E) (v : A) → (if test then Err e else r) ≡ Ok v → r ≡ Ok v
guard true e r v is = absurd (cc)
guard false e r v is = is

accept : {A E : Type 0} (test : Bool) (e : E) (r : Result A E) (v : A) → (if test then r else Err e) ≡ Ok v → (test ≡ true) × (r ≡ Ok v)
accept true e r v is = (refl, is)
accept false e r v is = absurd (cc)

rest_octets : (n : ℕ) (left : List ℕ) → IsOctets left → IsOctets (drop n left)
rest_octets n left small i = subst (λ k. k < 256) (sym (get_or-drop n left i 0)) (small (n + i))

rest_short : (most n : ℕ) (left : List ℕ) → length left ≤ most → length (drop n left) ≤ most
rest_short most n left short = omega (arith, length-drop n left)

kept_reaches : (most : ℕ) (name : Field) (shape : Shape) (right : value_of shape → Bool) (more : value_of shape → Table) (v : Pdu) → Reaches most (Kept name shape right more) v
    → (left : List ℕ) × IsOctets left × (length left ≤ most) × (right (value_in shape left) ≡ true) × Reaches most (more (value_in shape left)) v
unfolding reading
kept_reaches most name shape right more v r =
    let rest = reading (more (value_in shape r.left)) (r.at + size_of shape) (drop (size_of shape) r.left) in
    let g = guard (nat_lt (length r.left) (size_of shape)) (refusal name r.at cause.Short) (if right (value_in shape r.left) then rest else Err (refusal name r.at cause.Value)) v r.read in
    let p = accept (right (value_in shape r.left)) (refusal name r.at cause.Value) rest v g in
    (r.left, r.octets, r.short, p.0, record { at = r.at + size_of shape; left = drop (size_of shape) r.left; octets = rest_octets (size_of shape) r.left r.octets; short = rest_short most (size_of shape) r.left r.short; read = p.1 })

passed_reaches : (most : ℕ) (name : Field) (size : ℕ) (more : Table) (v : Pdu) → Reaches most (Passed name size more) v → Reaches most more v
unfolding reading
passed_reaches most name size more v r =
    record { at = r.at + size; left = drop size r.left; octets = rest_octets size r.left r.octets; short = rest_short most size r.left r.short; read = guard (nat_lt (length r.left) size) (refusal name r.at cause.Short) (reading more (r.at + size) (drop size r.left)) v r.read }

padded_reaches : (most : ℕ) (name : Field) (size : ℕ) (more : Table) (v : Pdu) → Reaches most (Padded name size more) v → Reaches most more v
unfolding reading
padded_reaches most name size more v r =
    let n = gap size r.at in
    record { at = r.at + n; left = drop n r.left; octets = rest_octets n r.left r.octets; short = rest_short most n r.left r.short; read = guard (nat_lt (length r.left) n) (refusal name r.at cause.Short) (reading more (r.at + n) (drop n r.left)) v r.read }

rest_reaches : (most : ℕ) (name : Field) (more : List ℕ → Table) (v : Pdu) → Reaches most (Rest name more) v → (left : List ℕ) × Reaches most (more left) v
unfolding reading
rest_reaches most name more v r = (r.left, record { at = r.at + length r.left; left = []; octets = λ i. omega arith; short = omega arith; read = r.read })

ends_reaches : (most : ℕ) (said v : Pdu) → Reaches most (Ends said) v → said ≡ v
unfolding reading
ends_reaches most said v r = let e = r.read in cc

-- A part gave a value of which something holds.
Inverts : {A : Type 0} → ℕ → ((A → Table) → Table) → (A → Type 0) → Type 0
Inverts {A} most part P = (more : A → Table) (v : Pdu) → Reaches most (part more) v → (x : A) × P x × Reaches most (more x) v

repeated_inverts : {A : Type 0} (most : ℕ) (part : (A → Table) → Table) (P : A → Type 0) → Inverts most part P
    → (count : ℕ) (more : List A → Table) (v : Pdu) → Reaches most (repeated part count more) v → (xs : List A) × (length xs ≡ count) × AllByRecursion P xs × Reaches most (more xs) v
unfolding Inverts
repeated_inverts most part P inverts zero more v r = ([], refl, tt, r)
repeated_inverts most part P inverts (suc n) more v r =
    let f = inverts (λ first. repeated part n (λ others. more (first ∷ others))) v r in
    let g = repeated_inverts most part P inverts n (λ others. more (f.0 ∷ others)) v f.2 in
    (f.0 ∷ g.0, ap suc g.1, (f.1, g.2), g.3)

Anything : {A : Type 0} → A → Type 0
Anything x = Unit {0}

syntax_inverts : (most : ℕ) (e : Endian) (name : Field) → Inverts most (syntax_part e name) Anything
unfolding Inverts Anything
syntax_inverts most e name more v r =
    let u = kept_reaches most name (identifier e) any (λ uuid. Kept field.Version (number e 4) any (λ version. more (record { uuid = uuid; version = version }))) v r in
    let uuid = value_in (identifier e) u.0 in
    let n = kept_reaches most field.Version (number e 4) any (λ version. more (record { uuid = uuid; version = version })) v u.4 in
    (record { uuid = uuid; version = value_in (number e 4) n.0 }, tt, n.4)

-- a list of a right count is right
counted : {A : Type 0} (xs : List A) (count most : ℕ) → length xs ≡ count → between 1 most count ≡ true → between 1 most (length xs) ≡ true
counted xs count most is right = ap (between 1 most) is ∙ right

RightCount : Context → Type 0
RightCount c = between 1 MAX_TRANSFERS (length c.transfers) ≡ true

right_contexts : (cs : List Context) → AllByRecursion RightCount cs → unsound_contexts cs ≡ None
unfolding RightCount
right_contexts [] all = refl
right_contexts (c ∷ cs) all = rw all.0 (right_contexts cs all.1)

context_inverts : (most : ℕ) (e : Endian) → Inverts most (context_part e) RightCount
unfolding Inverts RightCount
context_inverts most e more v r =
    let syntaxes = λ (id count : ℕ) (interface : Syntax). repeated (syntax_part e field.TransferUuid) count (λ transfers. more (record { id = id; abstract_syntax = interface; transfers = transfers })) in
    let behind_count = λ (id count : ℕ). Passed field.Reserved 1 (syntax_part e field.AbstractUuid (syntaxes id count)) in
    let i = kept_reaches most field.ContextId (number e 2) any (λ id. Kept field.NTransferSyn octet (between 1 MAX_TRANSFERS) (behind_count id)) v r in
    let id = value_in (number e 2) i.0 in
    let n = kept_reaches most field.NTransferSyn octet (between 1 MAX_TRANSFERS) (behind_count id) v i.4 in
    let count = slice_index n.0 0 in
    let s = syntax_inverts most e field.AbstractUuid (syntaxes id count) v (passed_reaches most field.Reserved 1 (syntax_part e field.AbstractUuid (syntaxes id count)) v n.4) in
    let t = repeated_inverts most (syntax_part e field.TransferUuid) Anything (syntax_inverts most e field.TransferUuid) count (λ transfers. more (record { id = id; abstract_syntax = s.0; transfers = transfers })) v s.2 in
    (record { id = id; abstract_syntax = s.0; transfers = t.0 }, counted t.0 count MAX_TRANSFERS t.1 n.3, t.3)

SoundBind : BindBody → Type 0
SoundBind b = unsound_bind b ≡ None

bind_inverts : (most : ℕ) (e : Endian) → Inverts most (bind_part e) SoundBind
unfolding Inverts SoundBind
bind_inverts most e more v r =
    let contexts = λ (xmit recv group count : ℕ). repeated (context_part e) count (λ cs. more (record { max_xmit = xmit; max_recv = recv; group = group; contexts = cs })) in
    let x = kept_reaches most field.MaxXmit (number e 2) any (λ xmit. Kept field.MaxRecv (number e 2) any (λ recv. Kept field.AssocGroup (number e 4) any (λ group. Kept field.NContext octet (between 1 MAX_CONTEXTS) (λ count. Passed field.Reserved 3 (contexts xmit recv group count))))) v r in
    let xmit = value_in (number e 2) x.0 in
    let y = kept_reaches most field.MaxRecv (number e 2) any (λ recv. Kept field.AssocGroup (number e 4) any (λ group. Kept field.NContext octet (between 1 MAX_CONTEXTS) (λ count. Passed field.Reserved 3 (contexts xmit recv group count)))) v x.4 in
    let recv = value_in (number e 2) y.0 in
    let g = kept_reaches most field.AssocGroup (number e 4) any (λ group. Kept field.NContext octet (between 1 MAX_CONTEXTS) (λ count. Passed field.Reserved 3 (contexts xmit recv group count))) v y.4 in
    let group = value_in (number e 4) g.0 in
    let n = kept_reaches most field.NContext octet (between 1 MAX_CONTEXTS) (λ count. Passed field.Reserved 3 (contexts xmit recv group count)) v g.4 in
    let count = slice_index n.0 0 in
    let c = repeated_inverts most (context_part e) RightCount (context_inverts most e) count (λ cs. more (record { max_xmit = xmit; max_recv = recv; group = group; contexts = cs })) v (passed_reaches most field.Reserved 3 (contexts xmit recv group count) v n.4) in
    let right : between 1 MAX_CONTEXTS (length c.0) ≡ true = counted c.0 count MAX_CONTEXTS c.1 n.3 in
    (record { max_xmit = xmit; max_recv = recv; group = group; contexts = c.0 }, rw right (right_contexts c.0 c.2), c.3)

RightResult : ContextResult → Type 0
RightResult r = (between 0 MAX_RESULT r.«result» ≡ true) × (between 0 MAX_REASON r.reason ≡ true)

right_results : (rs : List ContextResult) → AllByRecursion RightResult rs → unsound_results rs ≡ None
unfolding RightResult
right_results [] all = refl
right_results (r ∷ rs) all = let a = all.0 in let first = a.0 in let second = a.1 in rw (first, second) (right_results rs all.1)

result_inverts : (most : ℕ) (e : Endian) → Inverts most (result_part e) RightResult
unfolding Inverts RightResult
result_inverts most e more v r =
    let transfer = λ (outcome reason : ℕ). syntax_part e field.TransferUuid (λ t. more (record { «result» = outcome; reason = reason; transfer = t })) in
    let o = kept_reaches most field.Result (number e 2) (between 0 MAX_RESULT) (λ outcome. Kept field.Reason (number e 2) (between 0 MAX_REASON) (transfer outcome)) v r in
    let outcome = value_in (number e 2) o.0 in
    let w = kept_reaches most field.Reason (number e 2) (between 0 MAX_REASON) (transfer outcome) v o.4 in
    let reason = value_in (number e 2) w.0 in
    let t = syntax_inverts most e field.TransferUuid (λ x. more (record { «result» = outcome; reason = reason; transfer = x })) v w.4 in
    (record { «result» = outcome; reason = reason; transfer = t.0 }, (o.3, w.3), t.2)

few_protocols : (n count : ℕ) → n ≡ count → count < 256 → nat_le n MAX_PROTOCOLS ≡ true
few_protocols n count is small = grind (arith, nat_tests)

SoundAck : AckBody → Type 0
SoundAck a = unsound_ack a ≡ None

not_long : (most count : ℕ) (left : List ℕ) → most ≤ MAX_ADDRESS → length left ≤ most → nat_le (length (take count left)) MAX_ADDRESS ≡ true
not_long most count left few short = grind (arith, nat_tests, length-take count left)

ack_inverts : (most : ℕ) (e : Endian) → most ≤ MAX_ADDRESS → Inverts most (ack_part e) SoundAck
unfolding Inverts SoundAck
ack_inverts most e few more v r =
    let results = λ (xmit recv group : ℕ) (address : List ℕ) (count : ℕ). repeated (result_part e) count (λ rs. more (record { max_xmit = xmit; max_recv = recv; group = group; address = address; results = rs })) in
    let behind_address = λ (xmit recv group : ℕ) (address : List ℕ). Padded field.Padding 4 (Kept field.NResults octet (between 1 MAX_CONTEXTS) (λ count. Passed field.Reserved 3 (results xmit recv group address count))) in
    let behind_group = λ (xmit recv group : ℕ). Kept field.SecLength (number e 2) any (λ size. Kept field.SecAddress (octets size) any (behind_address xmit recv group)) in
    let x = kept_reaches most field.MaxXmit (number e 2) any (λ xmit. Kept field.MaxRecv (number e 2) any (λ recv. Kept field.AssocGroup (number e 4) any (behind_group xmit recv))) v r in
    let xmit = value_in (number e 2) x.0 in
    let y = kept_reaches most field.MaxRecv (number e 2) any (λ recv. Kept field.AssocGroup (number e 4) any (behind_group xmit recv)) v x.4 in
    let recv = value_in (number e 2) y.0 in
    let g = kept_reaches most field.AssocGroup (number e 4) any (behind_group xmit recv) v y.4 in
    let group = value_in (number e 4) g.0 in
    let s = kept_reaches most field.SecLength (number e 2) any (λ size. Kept field.SecAddress (octets size) any (behind_address xmit recv group)) v g.4 in
    let size = value_in (number e 2) s.0 in
    let a = kept_reaches most field.SecAddress (octets size) (any {A = List ℕ}) (behind_address xmit recv group) v s.4 in
    let address = take size a.0 in
    let n = kept_reaches most field.NResults octet (between 1 MAX_CONTEXTS) (λ count. Passed field.Reserved 3 (results xmit recv group address count)) v (padded_reaches most field.Padding 4 (Kept field.NResults octet (between 1 MAX_CONTEXTS) (λ count. Passed field.Reserved 3 (results xmit recv group address count))) v a.4) in
    let count = slice_index n.0 0 in
    let t = repeated_inverts most (result_part e) RightResult (result_inverts most e) count (λ rs. more (record { max_xmit = xmit; max_recv = recv; group = group; address = address; results = rs })) v (passed_reaches most field.Reserved 3 (results xmit recv group address count) v n.4) in
    let right : between 1 MAX_CONTEXTS (length t.0) ≡ true = counted t.0 count MAX_CONTEXTS t.1 n.3 in
    let fits : nat_le (length address) MAX_ADDRESS ≡ true = not_long most size a.0 few a.2 in
    (record { max_xmit = xmit; max_recv = recv; group = group; address = address; results = t.0 }, rw (fits, right) (right_results t.0 t.2), t.3)

protocol_inverts : (most : ℕ) → Inverts most protocol_part Anything
unfolding Inverts Anything
protocol_inverts most more v r =
    let a = kept_reaches most field.Major octet any (λ major. Kept field.Minor octet any (λ minor. more (record { major = major; minor = minor }))) v r in
    let major = slice_index a.0 0 in
    let b = kept_reaches most field.Minor octet any (λ minor. more (record { major = major; minor = minor })) v a.4 in
    (record { major = major; minor = slice_index b.0 0 }, tt, b.4)

object_inverts : (most : ℕ) (e : Endian) (has : Bool) (more : Option (List ℕ) → Table) (v : Pdu) → Reaches most (if has then Kept field.ObjectUuid (identifier e) any (λ u. more (Some u)) else more None) v
    → (o : Option (List ℕ)) × ((if has then is_some o else is_none o) ≡ true) × Reaches most (more o) v
object_inverts most e true more v r = let k = kept_reaches most field.ObjectUuid (identifier e) any (λ u. more (Some u)) v r in (Some (value_in (identifier e) k.0), refl, k.4)
object_inverts most e false more v r = (None, refl, r)

abbrev pdu_of : Header → Body → Pdu
pdu_of h b = record { call_id = h.call_id; flags = h.flags; minor = h.minor; endian = h.endian; body = b }

end_sound : (most : ℕ) (h : Header) (b : Body) (v : Pdu) → between 0 MAX_MINOR h.minor ≡ true → unsound_body h.flags b ≡ None → Reaches most (ends h b) v → unsound v ≡ None
end_sound most h b v minor sound r = subst (λ (w : Pdu). unsound w ≡ None) (ends_reaches most (pdu_of h b) v r) (rw minor sound)

body_sound : (most : ℕ) (p : Ptype) (h : Header) (v : Pdu) → most ≤ MAX_ADDRESS → between 0 MAX_MINOR h.minor ≡ true → Reaches most (body_of p h) v → unsound v ≡ None
unfolding Inverts Anything SoundBind SoundAck
body_sound most ptype.Request h v few minor r =
    let e = h.endian in
    let stubs = λ (hint context opnum : ℕ) (o : Option (List ℕ)). Rest field.Stub (λ stub. ends h (body.Request hint context opnum o stub)) in
    let a = kept_reaches most field.AllocHint (number e 4) any (λ hint. Kept field.ContextId (number e 2) any (λ context. Kept field.Opnum (number e 2) any (λ opnum. object_part h (stubs hint context opnum)))) v r in
    let hint = value_in (number e 4) a.0 in
    let b = kept_reaches most field.ContextId (number e 2) any (λ context. Kept field.Opnum (number e 2) any (λ opnum. object_part h (stubs hint context opnum))) v a.4 in
    let context = value_in (number e 2) b.0 in
    let c = kept_reaches most field.Opnum (number e 2) any (λ opnum. object_part h (stubs hint context opnum)) v b.4 in
    let opnum = value_in (number e 2) c.0 in
    let o = object_inverts most e (has_object h.flags) (stubs hint context opnum) v c.4 in
    let s = rest_reaches most field.Stub (λ stub. ends h (body.Request hint context opnum o.0 stub)) v o.2 in
    let agree = o.1 in
    end_sound most h (body.Request hint context opnum o.0 s.0) v minor (rw agree refl) s.1
body_sound most ptype.Response h v few minor r =
    let e = h.endian in
    let stubs = λ (hint context cancels : ℕ). Rest field.Stub (λ stub. ends h (body.Response hint context cancels stub)) in
    let a = kept_reaches most field.AllocHint (number e 4) any (λ hint. Kept field.ContextId (number e 2) any (λ context. Kept field.CancelCount octet any (λ cancels. Passed field.Reserved 1 (stubs hint context cancels)))) v r in
    let hint = value_in (number e 4) a.0 in
    let b = kept_reaches most field.ContextId (number e 2) any (λ context. Kept field.CancelCount octet any (λ cancels. Passed field.Reserved 1 (stubs hint context cancels))) v a.4 in
    let context = value_in (number e 2) b.0 in
    let c = kept_reaches most field.CancelCount octet any (λ cancels. Passed field.Reserved 1 (stubs hint context cancels)) v b.4 in
    let cancels = slice_index c.0 0 in
    let s = rest_reaches most field.Stub (λ stub. ends h (body.Response hint context cancels stub)) v (passed_reaches most field.Reserved 1 (stubs hint context cancels) v c.4) in
    end_sound most h (body.Response hint context cancels s.0) v minor refl s.1
body_sound most ptype.Fault h v few minor r =
    let e = h.endian in
    let statuses = λ (hint context cancels : ℕ). Kept field.Status (number e 4) any (λ status. Passed field.Reserved 4 (ends h (body.Fault hint context cancels status))) in
    let a = kept_reaches most field.AllocHint (number e 4) any (λ hint. Kept field.ContextId (number e 2) any (λ context. Kept field.CancelCount octet any (λ cancels. Passed field.Reserved 1 (statuses hint context cancels)))) v r in
    let hint = value_in (number e 4) a.0 in
    let b = kept_reaches most field.ContextId (number e 2) any (λ context. Kept field.CancelCount octet any (λ cancels. Passed field.Reserved 1 (statuses hint context cancels))) v a.4 in
    let context = value_in (number e 2) b.0 in
    let c = kept_reaches most field.CancelCount octet any (λ cancels. Passed field.Reserved 1 (statuses hint context cancels)) v b.4 in
    let cancels = slice_index c.0 0 in
    let s = kept_reaches most field.Status (number e 4) any (λ status. Passed field.Reserved 4 (ends h (body.Fault hint context cancels status))) v (passed_reaches most field.Reserved 1 (statuses hint context cancels) v c.4) in
    let status = value_in (number e 4) s.0 in
    end_sound most h (body.Fault hint context cancels status) v minor refl (passed_reaches most field.Reserved 4 (ends h (body.Fault hint context cancels status)) v s.4)
body_sound most ptype.Bind h v few minor r =
    let b = bind_inverts most h.endian (λ x. ends h (body.Bind x)) v r in
    end_sound most h (body.Bind b.0) v minor b.1 b.2
body_sound most ptype.BindAck h v few minor r =
    let a = ack_inverts most h.endian few (λ x. ends h (body.BindAck x)) v r in
    end_sound most h (body.BindAck a.0) v minor a.1 a.2
body_sound most ptype.BindNak h v few minor r =
    let e = h.endian in
    let a = kept_reaches most field.Reason (number e 2) any (λ reason. Kept field.NProtocols octet any (λ count. repeated protocol_part count (λ protocols. ends h (body.BindNak reason protocols)))) v r in
    let reason = value_in (number e 2) a.0 in
    let n = kept_reaches most field.NProtocols octet any (λ count. repeated protocol_part count (λ protocols. ends h (body.BindNak reason protocols))) v a.4 in
    let p = repeated_inverts most protocol_part Anything (protocol_inverts most) (slice_index n.0 0) (λ protocols. ends h (body.BindNak reason protocols)) v n.4 in
    let right : nat_le (length p.0) MAX_PROTOCOLS ≡ true = few_protocols (length p.0) (slice_index n.0 0) p.1 (n.1 0) in
    end_sound most h (body.BindNak reason p.0) v minor (rw right refl) p.3
body_sound most ptype.AlterContext h v few minor r =
    let b = bind_inverts most h.endian (λ x. ends h (body.AlterContext x)) v r in
    end_sound most h (body.AlterContext b.0) v minor b.1 b.2
body_sound most ptype.AlterContextResp h v few minor r =
    let a = ack_inverts most h.endian few (λ x. ends h (body.AlterContextResp x)) v r in
    end_sound most h (body.AlterContextResp a.0) v minor a.1 a.2
body_sound most ptype.Shutdown h v few minor r = end_sound most h body.Shutdown v minor refl r
body_sound most ptype.CoCancel h v few minor r = end_sound most h body.CoCancel v minor refl r
body_sound most ptype.Orphaned h v few minor r = end_sound most h body.Orphaned v minor refl r

-- what is left of the header's table behind some of its fields
abbrev after_size : (Header → Table) → ℕ → Ptype → ℕ → Endian → ℕ → Table
after_size more minor kind flags order size = Kept field.AuthLength (number order 2) (exactly 0) (λ auth. Kept field.CallId (number order 4) any (λ id. more (record { minor = minor; ptype = kind; flags = flags; endian = order; length = size; call_id = id })))

abbrev after_order : (ℕ → Bool) → (Header → Table) → ℕ → Ptype → ℕ → Endian → Table
after_order fits more minor kind flags order = Passed field.DrepRest 3 (length_part fits order (after_size more minor kind flags order))

abbrev after_kind : (ℕ → Bool) → (Header → Table) → ℕ → Ptype → Table
after_kind fits more minor kind = Kept field.PfcFlags octet any (λ flags. order_part (after_order fits more minor kind flags))

abbrev after_vers : (ℕ → Bool) → (Header → Table) → Table
after_vers fits more = Kept field.RpcVersMinor octet (between 0 MAX_MINOR) (λ minor. ptype_part (after_kind fits more minor))

header_reaches : (most : ℕ) (fits : ℕ → Bool) (more : Header → Table) (v : Pdu) → Reaches most (header fits more) v
    → (h : Header) × (between 0 MAX_MINOR h.minor ≡ true) × (is_length fits h.length ≡ true) × Reaches most (more h) v
header_reaches most fits more v r =
    let a = kept_reaches most field.RpcVers octet (exactly RPC_VERS) (λ vers. after_vers fits more) v r in
    let b = kept_reaches most field.RpcVersMinor octet (between 0 MAX_MINOR) (λ minor. ptype_part (after_kind fits more minor)) v a.4 in
    let minor = slice_index b.0 0 in
    let c = kept_reaches most field.Ptype octet (λ n. is_some (ptype_at n)) (λ n. after_kind fits more minor (unwrap_or (ptype_at n) ptype.Orphaned)) v b.4 in
    let kind = unwrap_or (ptype_at (slice_index c.0 0)) ptype.Orphaned in
    let d = kept_reaches most field.PfcFlags octet any (λ flags. order_part (after_order fits more minor kind flags)) v c.4 in
    let flags = slice_index d.0 0 in
    let o = kept_reaches most field.DrepOrder octet (λ n. is_some (order_at n)) (λ n. after_order fits more minor kind flags (unwrap_or (order_at n) Big)) v d.4 in
    let order = unwrap_or (order_at (slice_index o.0 0)) Big in
    let s = kept_reaches most field.FragLength (number order 2) (is_length fits) (after_size more minor kind flags order) v (passed_reaches most field.DrepRest 3 (length_part fits order (after_size more minor kind flags order)) v o.4) in
    let size = value_in (number order 2) s.0 in
    let t = kept_reaches most field.AuthLength (number order 2) (exactly 0) (λ auth. Kept field.CallId (number order 4) any (λ id. more (record { minor = minor; ptype = kind; flags = flags; endian = order; length = size; call_id = id }))) v s.4 in
    let i = kept_reaches most field.CallId (number order 4) any (λ id. more (record { minor = minor; ptype = kind; flags = flags; endian = order; length = size; call_id = id })) v t.4 in
    (record { minor = minor; ptype = kind; flags = flags; endian = order; length = size; call_id = value_in (number order 4) i.0 }, b.3, s.3, i.4)

short_enough : (size n : ℕ) → is_length (exactly size) n ≡ true → size ≤ MAX_ADDRESS
short_enough size n fits = grind (arith, nat_tests)

pub spelled_is_sound : (b : List ℕ) (v : Pdu) → IsOctets b → Spells v b → unsound v ≡ None
spelled_is_sound b v octets_are spelled =
    let start : Reaches (length b) (table_of (length b)) v = record { at = 0; left = b; octets = octets_are; short = omega arith; read = spelled } in
    let h = header_reaches (length b) (exactly (length b)) (λ x. body_of x.ptype x) v start in
    body_sound (length b) h.0.ptype h.0 v (short_enough (length b) h.0.length h.2) h.1 h.3
