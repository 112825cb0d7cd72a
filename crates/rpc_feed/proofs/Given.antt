-- A fragment that spells a PDU is given, whatever follows it.
use Rattle.std.proofs.Common.{◌≡◌, ℕ, suc, ◌≤◌, Bool, true, false, List, [], ◌∷◌, ◌++◌, length, take, Result, Ok, refl, sym, ap, subst, ◌∙◌, arith}
use Rattle.std.specs.Prelude.{nat_lt, is_some}
use Rattle.std.specs.Option.{unwrap_or}
use Rattle.std.proofs.lemmas.Bool.Decides.{nat_tests}
use Rattle.std.proofs.lemmas.List.{length-append, take-append-le}
use Rattle.std.proofs.Math.Seq.{take-append_seam, drop-append_seam}
use Rattle.dts_base.specs.declared.wire.Refused.{Refused}
use Rattle.dts_base.specs.declared.wire.Field.TheVariants as field
use Rattle.ndr.specs.declared.endian.Endian.{Endian}
use Rattle.ndr.specs.declared.endian.Endian.TheVariants.{Big, Little}
use Rattle.ndr.specs.Numbers.{number_in}
use Rattle.pdu_fields.specs.declared.kind.Ptype.TheVariants as ptype
use Rattle.pdu_fields.specs.declared.header.Header.{Header}
use Rattle.pdu_fields.specs.declared.header.TheConstants.{HEADER_LENGTH, MAX_MINOR, RPC_VERS}
use Rattle.pdu_fields.specs.declared.pdu.Pdu.{Pdu}
use Rattle.pdu_fields.specs.declared.pdu.Body.TheVariants as body
use Rattle.pdu_fields.specs.Tables.{Table, Kept, octet, number, reading}
use Rattle.pdu_fields.specs.Headers.{any, between, exactly, header, is_length, ptype_at, order_at, length_part, order_part, ptype_part}
use Rattle.pdu_fields.specs.Bodies.{body_of, ends}
use Rattle.pdu_fields.specs.Grammar.{Spells}
use Rattle.pdu_fields.proofs.Parsed.{kept_reading}
use Rattle.rpc_feed.specs.Pieces.{whole, header_table, length_in, fragment, front_of, front}
use Rattle.rpc_feed.proofs.Headed.{kept_is, passed_is, after_size, after_order, after_kind, after_vers, header_is}

-- a list of sixteen octets at least, taken apart
uncons : (n : ℕ) (b : List ℕ) → suc n ≤ length b → (o : ℕ) × (rest : List ℕ) × (b ≡ o ∷ rest) × (n ≤ length rest)
uncons n [] long = absurd (omega (arith, long))
uncons n (o ∷ rest) long = (o, rest, refl, omega (arith, long))

-- a number of two octets
two_octets : (e : Endian) (o p : ℕ) (left other : List ℕ) → number_in e 2 (o ∷ p ∷ left) ≡ number_in e 2 (o ∷ p ∷ other)
two_octets Big o p left other = refl
two_octets Little o p left other = refl

any_length : (right : ℕ → Bool) (n : ℕ) → is_length right n ≡ true → is_length any n ≡ true
any_length right n is = grind (arith, nat_tests)

exact_length : (size n : ℕ) → is_length (exactly size) n ≡ true → (n ≡ size) × (HEADER_LENGTH ≤ size)
exact_length size n is = grind (arith, nat_tests)

-- the header of octets that spell something is right alone
header_alone : (o0 o1 o2 o3 o4 o5 o6 o7 o8 o9 o10 o11 o12 o13 o14 o15 : ℕ) (rest : List ℕ) (right : ℕ → Bool) (more : Header → Table) (v : Pdu) → reading (header right more) 0 (o0 ∷ o1 ∷ o2 ∷ o3 ∷ o4 ∷ o5 ∷ o6 ∷ o7 ∷ o8 ∷ o9 ∷ o10 ∷ o11 ∷ o12 ∷ o13 ∷ o14 ∷ o15 ∷ rest) ≡ Ok v
    → (w : Pdu) × (reading header_table 0 (o0 ∷ o1 ∷ o2 ∷ o3 ∷ o4 ∷ o5 ∷ o6 ∷ o7 ∷ o8 ∷ o9 ∷ o10 ∷ o11 ∷ o12 ∷ o13 ∷ o14 ∷ o15 ∷ []) ≡ Ok w)
unfolding reading
header_alone o0 o1 o2 o3 o4 o5 o6 o7 o8 o9 o10 o11 o12 o13 o14 o15 rest right more v is =
    let a = kept_is field.RpcVers octet (exactly RPC_VERS) (λ vers. after_vers right more) 0 (o0 ∷ o1 ∷ o2 ∷ o3 ∷ o4 ∷ o5 ∷ o6 ∷ o7 ∷ o8 ∷ o9 ∷ o10 ∷ o11 ∷ o12 ∷ o13 ∷ o14 ∷ o15 ∷ rest) v is in
    let m = kept_is field.RpcVersMinor octet (between 0 MAX_MINOR) (λ minor. ptype_part (after_kind right more minor)) 1 (o1 ∷ o2 ∷ o3 ∷ o4 ∷ o5 ∷ o6 ∷ o7 ∷ o8 ∷ o9 ∷ o10 ∷ o11 ∷ o12 ∷ o13 ∷ o14 ∷ o15 ∷ rest) v a.1 in
    let k = kept_is field.Ptype octet (λ n. is_some (ptype_at n)) (λ n. after_kind right more o1 (unwrap_or (ptype_at n) ptype.Orphaned)) 2 (o2 ∷ o3 ∷ o4 ∷ o5 ∷ o6 ∷ o7 ∷ o8 ∷ o9 ∷ o10 ∷ o11 ∷ o12 ∷ o13 ∷ o14 ∷ o15 ∷ rest) v m.1 in
    let kind = unwrap_or (ptype_at o2) ptype.Orphaned in
    let f = kept_is field.PfcFlags octet any (λ flags. order_part (after_order right more o1 kind flags)) 3 (o3 ∷ o4 ∷ o5 ∷ o6 ∷ o7 ∷ o8 ∷ o9 ∷ o10 ∷ o11 ∷ o12 ∷ o13 ∷ o14 ∷ o15 ∷ rest) v k.1 in
    let o = kept_is field.DrepOrder octet (λ n. is_some (order_at n)) (λ n. after_order right more o1 kind o3 (unwrap_or (order_at n) Big)) 4 (o4 ∷ o5 ∷ o6 ∷ o7 ∷ o8 ∷ o9 ∷ o10 ∷ o11 ∷ o12 ∷ o13 ∷ o14 ∷ o15 ∷ rest) v f.1 in
    let e = unwrap_or (order_at o4) Big in
    let t = kept_is field.FragLength (number e 2) (is_length right) (after_size more o1 kind o3 e) 8 (o8 ∷ o9 ∷ o10 ∷ o11 ∷ o12 ∷ o13 ∷ o14 ∷ o15 ∷ rest) v (passed_is field.DrepRest 3 (length_part right e (after_size more o1 kind o3 e)) 5 (o5 ∷ o6 ∷ o7 ∷ o8 ∷ o9 ∷ o10 ∷ o11 ∷ o12 ∷ o13 ∷ o14 ∷ o15 ∷ rest) v o.1) in
    let size = number_in e 2 (o8 ∷ o9 ∷ o10 ∷ o11 ∷ o12 ∷ o13 ∷ o14 ∷ o15 ∷ rest) in
    let c = kept_is field.AuthLength (number e 2) (exactly 0) (λ auth. Kept field.CallId (number e 4) any (λ id. more (record { minor = o1; ptype = kind; flags = o3; endian = e; length = size; call_id = id }))) 10 (o10 ∷ o11 ∷ o12 ∷ o13 ∷ o14 ∷ o15 ∷ rest) v t.1 in
    let alone = λ (h : Header). ends h body.Shutdown in
    let n = number_in e 2 (o8 ∷ o9 ∷ o10 ∷ o11 ∷ o12 ∷ o13 ∷ o14 ∷ o15 ∷ []) in
    let n_right : is_length any n ≡ true = ap (is_length any) (two_octets e o8 o9 (o10 ∷ o11 ∷ o12 ∷ o13 ∷ o14 ∷ o15 ∷ []) (o10 ∷ o11 ∷ o12 ∷ o13 ∷ o14 ∷ o15 ∷ rest)) ∙ any_length right size t.0 in
    let auth = number_in e 2 (o10 ∷ o11 ∷ o12 ∷ o13 ∷ o14 ∷ o15 ∷ []) in
    let auth_right : exactly 0 auth ≡ true = ap (exactly 0) (two_octets e o10 o11 (o12 ∷ o13 ∷ o14 ∷ o15 ∷ []) (o12 ∷ o13 ∷ o14 ∷ o15 ∷ rest)) ∙ c.0 in
    let w : Pdu = record { call_id = number_in e 4 (o12 ∷ o13 ∷ o14 ∷ o15 ∷ []); flags = o3; minor = o1; endian = e; body = body.Shutdown } in (
      w,
      kept_reading field.RpcVers octet (exactly RPC_VERS) (λ vers. after_vers any alone) 0 (o0 ∷ o1 ∷ o2 ∷ o3 ∷ o4 ∷ o5 ∷ o6 ∷ o7 ∷ o8 ∷ o9 ∷ o10 ∷ o11 ∷ o12 ∷ o13 ∷ o14 ∷ o15 ∷ []) o0 (omega arith) refl a.0
          ∙ kept_reading field.RpcVersMinor octet (between 0 MAX_MINOR) (λ minor. ptype_part (after_kind any alone minor)) 1 (o1 ∷ o2 ∷ o3 ∷ o4 ∷ o5 ∷ o6 ∷ o7 ∷ o8 ∷ o9 ∷ o10 ∷ o11 ∷ o12 ∷ o13 ∷ o14 ∷ o15 ∷ []) o1 (omega arith) refl m.0
          ∙ kept_reading field.Ptype octet (λ x. is_some (ptype_at x)) (λ x. after_kind any alone o1 (unwrap_or (ptype_at x) ptype.Orphaned)) 2 (o2 ∷ o3 ∷ o4 ∷ o5 ∷ o6 ∷ o7 ∷ o8 ∷ o9 ∷ o10 ∷ o11 ∷ o12 ∷ o13 ∷ o14 ∷ o15 ∷ []) o2 (omega arith) refl k.0
          ∙ kept_reading field.PfcFlags octet any (λ flags. order_part (after_order any alone o1 kind flags)) 3 (o3 ∷ o4 ∷ o5 ∷ o6 ∷ o7 ∷ o8 ∷ o9 ∷ o10 ∷ o11 ∷ o12 ∷ o13 ∷ o14 ∷ o15 ∷ []) o3 (omega arith) refl refl
          ∙ kept_reading field.DrepOrder octet (λ x. is_some (order_at x)) (λ x. after_order any alone o1 kind o3 (unwrap_or (order_at x) Big)) 4 (o4 ∷ o5 ∷ o6 ∷ o7 ∷ o8 ∷ o9 ∷ o10 ∷ o11 ∷ o12 ∷ o13 ∷ o14 ∷ o15 ∷ []) o4 (omega arith) refl o.0
          ∙ kept_reading field.FragLength (number e 2) (is_length any) (after_size alone o1 kind o3 e) 8 (o8 ∷ o9 ∷ o10 ∷ o11 ∷ o12 ∷ o13 ∷ o14 ∷ o15 ∷ []) n (omega arith) refl n_right
          ∙ kept_reading field.AuthLength (number e 2) (exactly 0) (λ x. Kept field.CallId (number e 4) any (λ id. alone (record { minor = o1; ptype = kind; flags = o3; endian = e; length = n; call_id = id }))) 10 (o10 ∷ o11 ∷ o12 ∷ o13 ∷ o14 ∷ o15 ∷ []) auth (omega arith) refl auth_right
          ∙ kept_reading field.CallId (number e 4) any (λ id. alone (record { minor = o1; ptype = kind; flags = o3; endian = e; length = n; call_id = id })) 12 (o12 ∷ o13 ∷ o14 ∷ o15 ∷ []) (number_in e 4 (o12 ∷ o13 ∷ o14 ∷ o15 ∷ [])) (omega arith) refl refl,
    )

length_alone : (o0 o1 o2 o3 o4 o5 o6 o7 o8 o9 o10 o11 o12 o13 o14 o15 : ℕ) (rest : List ℕ) → length_in (o0 ∷ o1 ∷ o2 ∷ o3 ∷ o4 ∷ o5 ∷ o6 ∷ o7 ∷ o8 ∷ o9 ∷ o10 ∷ o11 ∷ o12 ∷ o13 ∷ o14 ∷ o15 ∷ []) ≡ length_in (o0 ∷ o1 ∷ o2 ∷ o3 ∷ o4 ∷ o5 ∷ o6 ∷ o7 ∷ o8 ∷ o9 ∷ o10 ∷ o11 ∷ o12 ∷ o13 ∷ o14 ∷ o15 ∷ rest)
length_alone o0 o1 o2 o3 o4 o5 o6 o7 o8 o9 o10 o11 o12 o13 o14 o15 rest = two_octets (unwrap_or (order_at o4) Big) o8 o9 (o10 ∷ o11 ∷ o12 ∷ o13 ∷ o14 ∷ o15 ∷ []) (o10 ∷ o11 ∷ o12 ∷ o13 ∷ o14 ∷ o15 ∷ rest)

-- the first sixteen octets of a fragment
record RightHeader (b : List ℕ) : Type 0 where
  said : Pdu
  read : reading header_table 0 (take HEADER_LENGTH b) ≡ Ok said
  size : length_in (take HEADER_LENGTH b) ≡ length_in b

right_header : (b : List ℕ) (right : ℕ → Bool) (more : Header → Table) (v : Pdu) → HEADER_LENGTH ≤ length b → reading (header right more) 0 b ≡ Ok v → RightHeader b
right_header b right more v long is =
    let u0 = uncons 15 b long in
    let u1 = uncons 14 u0.1 u0.3 in
    let u2 = uncons 13 u1.1 u1.3 in
    let u3 = uncons 12 u2.1 u2.3 in
    let u4 = uncons 11 u3.1 u3.3 in
    let u5 = uncons 10 u4.1 u4.3 in
    let u6 = uncons 9 u5.1 u5.3 in
    let u7 = uncons 8 u6.1 u6.3 in
    let u8 = uncons 7 u7.1 u7.3 in
    let u9 = uncons 6 u8.1 u8.3 in
    let u10 = uncons 5 u9.1 u9.3 in
    let u11 = uncons 4 u10.1 u10.3 in
    let u12 = uncons 3 u11.1 u11.3 in
    let u13 = uncons 2 u12.1 u12.3 in
    let u14 = uncons 1 u13.1 u13.3 in
    let u15 = uncons 0 u14.1 u14.3 in
    let apart : b ≡ u0.0 ∷ u1.0 ∷ u2.0 ∷ u3.0 ∷ u4.0 ∷ u5.0 ∷ u6.0 ∷ u7.0 ∷ u8.0 ∷ u9.0 ∷ u10.0 ∷ u11.0 ∷ u12.0 ∷ u13.0 ∷ u14.0 ∷ u15.0 ∷ u15.1 = (u0.2 ∙ ap (λ (xs : List ℕ). u0.0 ∷ xs) (u1.2 ∙ ap (λ (xs : List ℕ). u1.0 ∷ xs) (u2.2 ∙ ap (λ (xs : List ℕ). u2.0 ∷ xs) (u3.2 ∙ ap (λ (xs : List ℕ). u3.0 ∷ xs) (u4.2 ∙ ap (λ (xs : List ℕ). u4.0 ∷ xs) (u5.2 ∙ ap (λ (xs : List ℕ). u5.0 ∷ xs) (u6.2 ∙ ap (λ (xs : List ℕ). u6.0 ∷ xs) (u7.2 ∙ ap (λ (xs : List ℕ). u7.0 ∷ xs) (u8.2 ∙ ap (λ (xs : List ℕ). u8.0 ∷ xs) (u9.2 ∙ ap (λ (xs : List ℕ). u9.0 ∷ xs) (u10.2 ∙ ap (λ (xs : List ℕ). u10.0 ∷ xs) (u11.2 ∙ ap (λ (xs : List ℕ). u11.0 ∷ xs) (u12.2 ∙ ap (λ (xs : List ℕ). u12.0 ∷ xs) (u13.2 ∙ ap (λ (xs : List ℕ). u13.0 ∷ xs) (u14.2 ∙ ap (λ (xs : List ℕ). u14.0 ∷ xs) u15.2))))))))))))))) in
    let alone = header_alone u0.0 u1.0 u2.0 u3.0 u4.0 u5.0 u6.0 u7.0 u8.0 u9.0 u10.0 u11.0 u12.0 u13.0 u14.0 u15.0 u15.1 right more v (subst (λ (xs : List ℕ). reading (header right more) 0 xs ≡ Ok v) apart is) in
    subst RightHeader (sym apart) (record { said = alone.0; read = alone.1; size = length_alone u0.0 u1.0 u2.0 u3.0 u4.0 u5.0 u6.0 u7.0 u8.0 u9.0 u10.0 u11.0 u12.0 u13.0 u14.0 u15.0 u15.1 })

enough : (n m : ℕ) → m ≤ n → nat_lt n m ≡ false
enough n m h = grind (arith, nat_tests)

given_of : (first behind : List ℕ) (v : Pdu) → Spells v first → front_of (length first) (first ++ behind) ≡ whole v behind
given_of first behind v spells =
    let test = enough (length (first ++ behind)) (length first) (omega (arith, length-append first behind)) in
    rw (test, take-append_seam first behind, drop-append_seam first behind) (ap (λ (r : Result Pdu Refused). fragment r behind) spells)

pub spelled_is_given : (v : Pdu) (first behind : List ℕ) → Spells v first → front (first ++ behind) ≡ whole v behind
spelled_is_given v first behind spells =
    let h = header_is (exactly (length first)) (λ x. body_of x.ptype x) first v spells in
    let exact = exact_length (length first) h.0.length h.1 in
    let right = right_header first (exactly (length first)) (λ x. body_of x.ptype x) v exact.1 spells in
    let b = first ++ behind in
    let test = enough (length b) HEADER_LENGTH (omega (arith, length-append first behind, exact.1)) in
    let head : take HEADER_LENGTH b ≡ take HEADER_LENGTH first = take-append-le HEADER_LENGTH first behind exact.1 in
    let size : length_in (take HEADER_LENGTH first) ≡ length first = right.size ∙ sym h.2 ∙ exact.0 in
    rw (test, head, right.read, size) (given_of first behind v spells)
