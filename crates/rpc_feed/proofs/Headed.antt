-- What a header that was read says of its octets.
use Rattle.std.proofs.Common.{◌≡◌, ℕ, ◌+◌, Bool, true, false, List, [], ◌∷◌, subst, drop, Result, Ok, Err, refl, sym, ap, ◌∙◌}
use Rattle.std.specs.Prelude.{if◌then◌else◌, nat_lt, is_some, length, slice_index, None}
use Rattle.std.specs.Option.{unwrap_or}
use Rattle.dts_base.specs.declared.wire.Field.{Field}
use Rattle.dts_base.specs.declared.wire.Field.TheVariants as field
use Rattle.dts_base.specs.declared.wire.WireCause.TheVariants as cause
use Rattle.ndr.specs.declared.endian.Endian.{Endian}
use Rattle.ndr.specs.declared.endian.Endian.TheVariants.{Big}
use Rattle.ndr.specs.Reading.{refusal}
use Rattle.pdu_fields.specs.declared.kind.Ptype.{Ptype}
use Rattle.pdu_fields.specs.declared.kind.Ptype.TheVariants as ptype
use Rattle.pdu_fields.specs.declared.header.Header.{Header}
use Rattle.pdu_fields.specs.declared.header.TheConstants.{MAX_MINOR, RPC_VERS}
use Rattle.pdu_fields.specs.declared.pdu.Pdu.{Pdu}
use Rattle.pdu_fields.specs.Tables.{Table, Ends, Kept, Passed, Shape, octet, number, size_of, value_of, value_in, reading}
use Rattle.ndr.specs.declared.fault.DecodeFault.{DecodeFault}
use Rattle.ndr.specs.declared.fault.DecodeFault.TheVariants as fault
use Rattle.pdu_fields.specs.declared.pdu.Body.TheVariants as body
use Rattle.pdu_fields.specs.Bodies.{ends}
use Rattle.pdu_fields.specs.Parsing.{Place, Parses}
use Rattle.pdu_fields.specs.Headers.{any, fits, between, exactly, header, is_length, ptype_at, order_at, length_part, order_part, ptype_part}
use Rattle.ndr.specs.Numbers.{number_in}
use Rattle.rpc_feed.specs.Pieces.{length_in, length_offset, order_offset}
use Rattle.rpc_feed.specs.Standing.{Names}

guard : {A E : Type 0} (test : Bool) (e : E) (r : Result A E) (v : A) → (if test then Err e else r) ≡ Ok v → r ≡ Ok v
guard true e r v is = absurd (cc)
guard false e r v is = is

accept : {A E : Type 0} (test : Bool) (e : E) (r : Result A E) (v : A) → (if test then r else Err e) ≡ Ok v → (test ≡ true) × (r ≡ Ok v)
accept true e r v is = (refl, is)
accept false e r v is = absurd (cc)

-- a field of octets that spell something
pub kept_is : (name : Field) (shape : Shape) (right : value_of shape → Bool) (more : value_of shape → Table) (at : ℕ) (left : List ℕ) (v : Pdu) → reading (Kept name shape right more) at left ≡ Ok v
    → (right (value_in shape left) ≡ true) × (reading (more (value_in shape left)) (at + size_of shape) (drop (size_of shape) left) ≡ Ok v)
unfolding reading
kept_is name shape right more at left v is =
    let rest = reading (more (value_in shape left)) (at + size_of shape) (drop (size_of shape) left) in
    accept (right (value_in shape left)) (refusal name at cause.Value) rest v (guard (nat_lt (length left) (size_of shape)) (refusal name at cause.Short) (if right (value_in shape left) then rest else Err (refusal name at cause.Value)) v is)

pub passed_is : (name : Field) (size : ℕ) (more : Table) (at : ℕ) (left : List ℕ) (v : Pdu) → reading (Passed name size more) at left ≡ Ok v → reading more (at + size) (drop size left) ≡ Ok v
unfolding reading
passed_is name size more at left v is = guard (nat_lt (length left) size) (refusal name at cause.Short) (reading more (at + size) (drop size left)) v is

-- what is left of the header's table behind some of its fields
abbrev pub after_size : (Header → Table) → ℕ → Ptype → ℕ → Endian → ℕ → Table
after_size more minor kind flags order size = Kept field.AuthLength (number order 2) (exactly 0) (λ auth. Kept field.CallId (number order 4) any (λ id. more (record { minor = minor; ptype = kind; flags = flags; endian = order; length = size; call_id = id })))

abbrev pub after_order : (ℕ → Bool) → (Header → Table) → ℕ → Ptype → ℕ → Endian → Table
after_order fits more minor kind flags order = Passed field.DrepRest 3 (length_part fits order (after_size more minor kind flags order))

abbrev pub after_kind : (ℕ → Bool) → (Header → Table) → ℕ → Ptype → Table
after_kind fits more minor kind = Kept field.PfcFlags octet any (λ flags. order_part (after_order fits more minor kind flags))

abbrev pub after_vers : (ℕ → Bool) → (Header → Table) → Table
after_vers fits more = Kept field.RpcVersMinor octet (between 0 MAX_MINOR) (λ minor. ptype_part (after_kind fits more minor))

-- the places of the byte order and of the length
fifth_octet : (b : List ℕ) → slice_index (drop 1 (drop 1 (drop 1 (drop 1 b)))) 0 ≡ slice_index b order_offset
fifth_octet [] = refl
fifth_octet (o ∷ []) = refl
fifth_octet (o ∷ p ∷ []) = refl
fifth_octet (o ∷ p ∷ q ∷ []) = refl
fifth_octet (o ∷ p ∷ q ∷ r ∷ b) = refl

behind_eight : (b : List ℕ) → drop 3 (drop 1 (drop 1 (drop 1 (drop 1 (drop 1 b))))) ≡ drop length_offset b
behind_eight [] = refl
behind_eight (o ∷ []) = refl
behind_eight (o ∷ p ∷ []) = refl
behind_eight (o ∷ p ∷ q ∷ []) = refl
behind_eight (o ∷ p ∷ q ∷ r ∷ []) = refl
behind_eight (o ∷ p ∷ q ∷ r ∷ s ∷ b) = refl

-- A header of octets that spell something: its length is right, and is the one that stands at its place.
pub header_is : (fits : ℕ → Bool) (more : Header → Table) (b : List ℕ) (v : Pdu) → reading (header fits more) 0 b ≡ Ok v
    → (h : Header) × (is_length fits h.length ≡ true) × (h.length ≡ length_in b) × (at : ℕ) × (left : List ℕ) × (reading (more h) at left ≡ Ok v)
header_is fits more b v is =
    let a = kept_is field.RpcVers octet (exactly RPC_VERS) (λ vers. after_vers fits more) 0 b v is in
    let b1 = drop 1 b in
    let m = kept_is field.RpcVersMinor octet (between 0 MAX_MINOR) (λ minor. ptype_part (after_kind fits more minor)) 1 b1 v a.1 in
    let minor = slice_index b1 0 in
    let b2 = drop 1 b1 in
    let k = kept_is field.Ptype octet (λ n. is_some (ptype_at n)) (λ n. after_kind fits more minor (unwrap_or (ptype_at n) ptype.Orphaned)) 2 b2 v m.1 in
    let kind = unwrap_or (ptype_at (slice_index b2 0)) ptype.Orphaned in
    let b3 = drop 1 b2 in
    let f = kept_is field.PfcFlags octet any (λ flags. order_part (after_order fits more minor kind flags)) 3 b3 v k.1 in
    let flags = slice_index b3 0 in
    let b4 = drop 1 b3 in
    let o = kept_is field.DrepOrder octet (λ n. is_some (order_at n)) (λ n. after_order fits more minor kind flags (unwrap_or (order_at n) Big)) 4 b4 v f.1 in
    let order = unwrap_or (order_at (slice_index b4 0)) Big in
    let b5 = drop 1 b4 in
    let s = kept_is field.FragLength (number order 2) (is_length fits) (after_size more minor kind flags order) 8 (drop 3 b5) v (passed_is field.DrepRest 3 (length_part fits order (after_size more minor kind flags order)) 5 b5 v o.1) in
    let size = value_in (number order 2) (drop 3 b5) in
    let b10 = drop 2 (drop 3 b5) in
    let t = kept_is field.AuthLength (number order 2) (exactly 0) (λ auth. Kept field.CallId (number order 4) any (λ id. more (record { minor = minor; ptype = kind; flags = flags; endian = order; length = size; call_id = id }))) 10 b10 v s.1 in
    let b12 = drop 2 b10 in
    let i = kept_is field.CallId (number order 4) any (λ id. more (record { minor = minor; ptype = kind; flags = flags; endian = order; length = size; call_id = id })) 12 b12 v t.1 in
    let h : Header = record { minor = minor; ptype = kind; flags = flags; endian = order; length = size; call_id = value_in (number order 4) b12 } in
    let named : size ≡ length_in b = ap (λ (left : List ℕ). number_in order 2 left) (behind_eight b) ∙ ap (λ (octet : ℕ). number_in (unwrap_or (order_at octet) Big) 2 (drop length_offset b)) (fifth_octet b) in
    (h, s.0, named, 16, drop 4 b12, i.1)

-- a PDU that holds a length
length_pdu : ℕ → Pdu
length_pdu size = record { call_id = size; flags = 0; minor = 0; endian = Big; body = body.Shutdown }

length_of_pdu : (at : ℕ) (left : List ℕ) (n m : ℕ) → reading (Ends (length_pdu n)) at left ≡ Ok (length_pdu m) → n ≡ m
unfolding reading length_pdu
length_of_pdu at left n m is = let same : length_pdu n ≡ length_pdu m = cc in ap (λ (p : Pdu). p.call_id) same

-- A header was read, whatever follows it: it is right, and its length is the one that stands at its place.
pub named : (head : List ℕ) (start new : Place) (h : Header) → start ≡ record { at = 0; left = head }
    → ((more : Header → Table) (r : Result Pdu DecodeFault) → Parses (more h) new r → Parses (header (fits None) more) start r) → Names head (Ok h.length)
unfolding Parses reading
named head start new h starts reads =
    let read = subst (λ (p : Place). (more : Header → Table) (r : Result Pdu DecodeFault) → Parses (more h) new r → Parses (header (fits None) more) p r) starts reads in
    let found = header_is any (λ x. Ends (length_pdu x.length)) head (length_pdu h.length) (read (λ x. Ends (length_pdu x.length)) (Ok (length_pdu h.length)) refl) in
    let v : Pdu = record { call_id = h.call_id; flags = h.flags; minor = h.minor; endian = h.endian; body = body.Shutdown } in
    (sym (length_of_pdu found.3 found.4 found.0.length h.length found.5) ∙ found.2, (v, read (λ x. ends x body.Shutdown) (Ok v) refl))

pub not_named : (head : List ℕ) (start : Place) (f : DecodeFault) → start ≡ record { at = 0; left = head }
    → ((more : Header → Table) → Parses (header (fits None) more) start (Err f)) → Names head (Err f)
unfolding Parses
not_named head start (fault.Wrong refused) starts wrong = subst (λ (p : Place). Parses (header any (λ x. ends x body.Shutdown)) p (Err (fault.Wrong refused))) starts (wrong (λ x. ends x body.Shutdown))
not_named head start fault.NoMemory starts wrong = tt
