-- What is encoded reads back as the value.
use Rattle.std.proofs.Common.{◌≡◌, ℕ, ◌+◌, ◌<◌, ◌≤◌, ◌^◌, Bool, true, false, List, [], ◌∷◌, ◌++◌, length, take, replicate, Ok, Err, refl, sym, ap, subst, ◌∙◌, append_assoc, arith}
use Rattle.std.specs.Prelude.{if◌then◌else◌, nat_le, nat_lt, is_some, is_none, Option, Some, None, IfSome}
use Rattle.std.specs.Option.{unwrap_or}
use Rattle.std.specs.List.{flat_map, AllByRecursion}
use Rattle.std.proofs.lemmas.Bool.Decides.{nat_tests}
use Rattle.std.proofs.lemmas.List.{length-append, length-replicate, append-nil, drop_at}
use Rattle.dts_base.specs.declared.wire.Field.{Field}
use Rattle.dts_base.specs.declared.wire.Field.TheVariants as field
use Rattle.ndr.specs.declared.endian.Endian.{Endian}
use Rattle.ndr.specs.declared.endian.Endian.TheVariants.{Big, Little}
use Rattle.ndr.specs.Numbers.{number_octets, gap}
use Rattle.ndr.proofs.NumberFacts.{length-number_octets, number_in-number_octets, take-front}
use Rattle.uuid.proofs.RoundTrips.{swap_twice}
use Rattle.pdu_fields.specs.declared.kind.Ptype.{Ptype}
use Rattle.pdu_fields.specs.declared.kind.Ptype.TheVariants as ptype
use Rattle.pdu_fields.specs.declared.header.Header.{Header}
use Rattle.pdu_fields.specs.declared.header.TheConstants.{HEADER_LENGTH, MAX_FRAGMENT, RPC_VERS, MAX_MINOR, MAX_CONTEXTS, MAX_TRANSFERS, MAX_RESULT, MAX_REASON, MAX_ADDRESS}
use Rattle.pdu_fields.specs.declared.pdu.Pdu.{Pdu}
use Rattle.pdu_fields.specs.declared.pdu.Body.{Body}
use Rattle.pdu_fields.specs.declared.pdu.Body.TheVariants as body
use Rattle.pdu_fields.specs.declared.pdu.BindBody.{BindBody}
use Rattle.pdu_fields.specs.declared.pdu.AckBody.{AckBody}
use Rattle.pdu_fields.specs.declared.pdu.Context.{Context}
use Rattle.pdu_fields.specs.declared.pdu.ContextResult.{ContextResult}
use Rattle.pdu_fields.specs.declared.pdu.Syntax.{Syntax}
use Rattle.pdu_fields.specs.declared.pdu.Protocol.{Protocol}
use Rattle.pdu_fields.specs.Tables.{Table, Ends, Kept, Passed, Padded, Rest, Shape, octet, number, identifier, octets, size_of, value_of, value_in, in_order, reading, repeated}
use Rattle.pdu_fields.specs.Headers.{any, between, exactly, header, is_length, number_of, ptype_at, order_at, coded, length_part, order_part, ptype_part}
use Rattle.pdu_fields.specs.Bodies.{ack_part, bind_part, body_of, context_part, ends, fault_table, has_object, kind_of, nak_table, protocol_part, request_table, response_table, result_part, syntax_part}
use Rattle.pdu_fields.specs.Grammar.{table_of, Spells}
use Rattle.rpc_pdu.specs.Soundness.{unless, unsound, unsound_ack, unsound_bind, unsound_body, unsound_contexts, unsound_results}
use Rattle.rpc_pdu.specs.Spelling.{ack_octets, address_octets, bind_octets, body_octets, context_octets, count_octets, encoding, header_octets, object_octets, order_octet, protocol_octets, result_octets, size_of_pdu, spelling, syntax_octets, unless_long, unless_unsound}
use Rattle.rpc_pdu.specs.Values.{FitsUuid, FitsSyntax, FitsContext, FitsBind, FitsResult, FitsAck, FitsBody, FitsPdu}
use Rattle.pdu_fields.proofs.Parsed.{kept_reading}

-- a field whose octets stand in front
field_back : (name : Field) (shape : Shape) (right : value_of shape → Bool) (more : value_of shape → Table) (x : value_of shape) (piece rest : List ℕ) (at : ℕ) (v : Pdu)
    → length piece ≡ size_of shape → value_in shape (piece ++ rest) ≡ x → right x ≡ true → reading (more x) (at + size_of shape) rest ≡ Ok v → reading (Kept name shape right more) at (piece ++ rest) ≡ Ok v
field_back name shape right more x piece rest at v long is fits behind =
    let whole : size_of shape ≤ length (piece ++ rest) = omega (arith, length-append piece rest, long) in
    kept_reading name shape right more at (piece ++ rest) x whole (sym is) fits
    ∙ ap (reading (more x) (at + size_of shape)) (drop_at piece rest (size_of shape) long)
    ∙ behind

number_back : (name : Field) (e : Endian) (size : ℕ) (right : ℕ → Bool) (more : ℕ → Table) (n : ℕ) (rest : List ℕ) (at : ℕ) (v : Pdu)
    → n < 256 ^ size → right n ≡ true → reading (more n) (at + size) rest ≡ Ok v → reading (Kept name (number e size) right more) at (number_octets e size n ++ rest) ≡ Ok v
number_back name e size right more n rest at v small fits behind =
    field_back name (number e size) right more n (number_octets e size n) rest at v (length-number_octets e size n) (number_in-number_octets e size n rest small) fits behind

octet_back : (name : Field) (right : ℕ → Bool) (more : ℕ → Table) (n : ℕ) (rest : List ℕ) (at : ℕ) (v : Pdu)
    → right n ≡ true → reading (more n) (at + 1) rest ≡ Ok v → reading (Kept name octet right more) at (n ∷ rest) ≡ Ok v
octet_back name right more n rest at v fits behind = field_back name octet right more n (n ∷ []) rest at v refl refl fits behind

turned_length : (e : Endian) (u : List ℕ) → length u ≡ 16 → length (in_order e u) ≡ 16
turned_length Big u long = long
turned_length Little u long = refl

turned_twice : (e : Endian) (u : List ℕ) → length u ≡ 16 → in_order e (in_order e u) ≡ u
turned_twice Big u long = refl
turned_twice Little u long = swap_twice u long

uuid_back : (name : Field) (e : Endian) (more : List ℕ → Table) (u rest : List ℕ) (at : ℕ) (v : Pdu)
    → length u ≡ 16 → reading (more u) (at + 16) rest ≡ Ok v → reading (Kept name (identifier e) any more) at (in_order e u ++ rest) ≡ Ok v
uuid_back name e more u rest at v long behind =
    let is : in_order e (take 16 (in_order e u ++ rest)) ≡ u = ap (in_order e) (take-front (in_order e u) rest 16 (turned_length e u long)) ∙ turned_twice e u long in
    field_back name (identifier e) any more u (in_order e u) rest at v (turned_length e u long) is refl behind

octets_back : (name : Field) (more : List ℕ → Table) (xs rest : List ℕ) (at : ℕ) (v : Pdu)
    → reading (more xs) (at + length xs) rest ≡ Ok v → reading (Kept name (octets (length xs)) any more) at (xs ++ rest) ≡ Ok v
octets_back name more xs rest at v behind = field_back name (octets (length xs)) any more xs xs rest at v refl (take-front xs rest (length xs) refl) refl behind

enough : (size : ℕ) (left : List ℕ) → size ≤ length left → nat_lt (length left) size ≡ false
enough size left h = grind (arith, nat_tests)

passed_back : (name : Field) (count : ℕ) (more : Table) (rest : List ℕ) (at : ℕ) (v : Pdu)
    → reading more (at + count) rest ≡ Ok v → reading (Passed name count more) at (replicate count 0 ++ rest) ≡ Ok v
unfolding reading
passed_back name count more rest at v behind =
    let zeros : List ℕ = replicate count 0 in
    let long : length zeros ≡ count = length-replicate count 0 in
    let whole : count ≤ length (zeros ++ rest) = omega (arith, length-append zeros rest, long) in
    rw (enough count (zeros ++ rest) whole) (ap (reading more (at + count)) (drop_at zeros rest count long) ∙ behind)

padded_back : (name : Field) (size count : ℕ) (more : Table) (rest : List ℕ) (at : ℕ) (v : Pdu)
    → count ≡ gap size at → reading more (at + count) rest ≡ Ok v → reading (Padded name size more) at (replicate count 0 ++ rest) ≡ Ok v
unfolding reading
padded_back name size count more rest at v is behind =
    let zeros : List ℕ = replicate count 0 in
    let long : length zeros ≡ gap size at = length-replicate count 0 ∙ is in
    let whole : gap size at ≤ length (zeros ++ rest) = omega (arith, length-append zeros rest, long) in
    rw (enough (gap size at) (zeros ++ rest) whole) (ap (reading more (at + gap size at)) (drop_at zeros rest (gap size at) long) ∙ ap (λ k. reading more (at + k) rest) (sym is) ∙ behind)

rest_back : (name : Field) (more : List ℕ → Table) (left : List ℕ) (at : ℕ) (v : Pdu) → reading (more left) (at + length left) [] ≡ Ok v → reading (Rest name more) at left ≡ Ok v
unfolding reading
rest_back name more left at v behind = behind

ends_back : (said : Pdu) (at : ℕ) (left : List ℕ) → reading (Ends said) at left ≡ Ok said
unfolding reading
ends_back said at left = refl

-- a count and what is passed over behind it
count_back : (name : Field) (right : ℕ → Bool) (passed : ℕ) (more : ℕ → Table) (n : ℕ) (rest : List ℕ) (at : ℕ) (v : Pdu)
    → right n ≡ true → reading (more n) (at + 1 + passed) rest ≡ Ok v → reading (Kept name octet right (λ k. Passed field.Reserved passed (more k))) at (count_octets n passed ++ rest) ≡ Ok v
count_back name right passed more n rest at v fits behind =
    octet_back name right (λ k. Passed field.Reserved passed (more k)) n (replicate passed 0 ++ rest) at v fits (passed_back field.Reserved passed (more n) rest (at + 1) v behind)

-- A part reads back, wherever it stands, where what follows it does.
Back : {A : Type 0} → ((A → Table) → Table) → List ℕ → A → Type 0
Back {A} part piece x = (more : A → Table) (rest : List ℕ) (at : ℕ) (v : Pdu) → ((place : ℕ) → reading (more x) place rest ≡ Ok v) → reading (part more) at (piece ++ rest) ≡ Ok v

syntax_back : (e : Endian) (name : Field) (s : Syntax) → FitsSyntax s → Back (syntax_part e name) (syntax_octets e s) s
unfolding Back
syntax_back e name s fits more rest at v behind =
    ap (reading (syntax_part e name more) at) (append_assoc (in_order e s.uuid) (number_octets e 4 s.version) rest)
    ∙ uuid_back name e _ s.uuid _ at v fits.uuid (number_back field.Version e 4 any _ s.version rest _ v fits.version refl (behind _))

repeated_back : {A : Type 0} (part : (A → Table) → Table) (spelled : A → List ℕ) (P : A → Type 0) → ((x : A) → P x → Back part (spelled x) x)
    → (xs : List A) → AllByRecursion P xs → Back (repeated part (length xs)) (flat_map spelled xs) xs
unfolding Back
repeated_back part spelled P back [] all more rest at v behind = behind at
repeated_back part spelled P back (x ∷ xs) all more rest at v behind =
    ap (reading (repeated part (length (x ∷ xs)) more) at) (append_assoc (spelled x) (flat_map spelled xs) rest)
    ∙ back x all.0 (λ first. repeated part (length xs) (λ others. more (first ∷ others))) (flat_map spelled xs ++ rest) at v (λ place. repeated_back part spelled P back xs all.1 (λ others. more (x ∷ others)) rest place v behind)

-- pieces one behind the other
regroup3 : (a b c rest : List ℕ) → ((a ++ b) ++ c) ++ rest ≡ a ++ (b ++ (c ++ rest))
regroup3 a b c rest = simp append_assoc

regroup4 : (a b c d rest : List ℕ) → (((a ++ b) ++ c) ++ d) ++ rest ≡ a ++ (b ++ (c ++ (d ++ rest)))
regroup4 a b c d rest = simp append_assoc

regroup5 : (a b c d f rest : List ℕ) → ((((a ++ b) ++ c) ++ d) ++ f) ++ rest ≡ a ++ (b ++ (c ++ (d ++ (f ++ rest))))
regroup5 a b c d f rest = simp append_assoc

regroup8 : (a b c d f g h i rest : List ℕ) → (((((((a ++ b) ++ c) ++ d) ++ f) ++ g) ++ h) ++ i) ++ rest ≡ a ++ (b ++ (c ++ (d ++ (f ++ (g ++ (h ++ (i ++ rest)))))))
regroup8 a b c d f g h i rest = simp append_assoc

-- tests of numbers
is_right_length : (size : ℕ) → HEADER_LENGTH ≤ size → size ≤ MAX_FRAGMENT → is_length (exactly size) size ≡ true
is_right_length size lo hi = grind (arith, nat_tests)

not_above : (most n : ℕ) → nat_lt most n ≡ false → n ≤ most
not_above most n h = grind (arith, nat_tests)

-- members of a list that fit their types and are right
RightContext : Context → Type 0
RightContext c = FitsContext c × (between 1 MAX_TRANSFERS (length c.transfers) ≡ true)

RightResult : ContextResult → Type 0
RightResult r = FitsResult r × ((between 0 MAX_RESULT r.«result» ≡ true) × (between 0 MAX_REASON r.reason ≡ true))

-- what is right, and of what follows it
unless_none : (right : Bool) (name : Field) (others : Option Field) → unless right name others ≡ None → (right ≡ true) × (others ≡ None)
unless_none true name others is = (refl, is)
unless_none false name others is = absurd (cc)

both_fit : (cs : List Context) → AllByRecursion FitsContext cs → unsound_contexts cs ≡ None → AllByRecursion RightContext cs
unfolding RightContext
both_fit [] all sound = tt
both_fit (c ∷ cs) all sound = let u = unless_none _ _ _ sound in ((all.0, u.0), both_fit cs all.1 u.1)

context_back : (e : Endian) (c : Context) → RightContext c → Back (context_part e) (context_octets e c) c
unfolding Back RightContext
context_back e c fits more rest at v behind =
    let id = number_octets e 2 c.id in
    let count = count_octets (length c.transfers) 1 in
    let interface = syntax_octets e c.abstract_syntax in
    let transfers = flat_map (syntax_octets e) c.transfers in
    ap (reading (context_part e more) at) (regroup4 id count interface transfers rest)
    ∙ number_back field.ContextId e 2 any _ c.id (count ++ (interface ++ (transfers ++ rest))) at v fits.0.id refl
    (count_back field.NTransferSyn (between 1 MAX_TRANSFERS) 1 _ (length c.transfers) (interface ++ (transfers ++ rest)) (at + 2) v fits.1
    (syntax_back e field.AbstractUuid c.abstract_syntax fits.0.interface (λ x. repeated (syntax_part e field.TransferUuid) (length c.transfers) (λ xs. more (record { id = c.id; abstract_syntax = x; transfers = xs }))) (transfers ++ rest) (at + 2 + 1 + 1) v (λ place.
    repeated_back (syntax_part e field.TransferUuid) (syntax_octets e) FitsSyntax (syntax_back e field.TransferUuid) c.transfers fits.0.transfers (λ xs. more (record { id = c.id; abstract_syntax = c.abstract_syntax; transfers = xs })) rest place v behind)))

bind_back : (e : Endian) (b : BindBody) → FitsBind b → unsound_bind b ≡ None → Back (bind_part e) (bind_octets e b) b
unfolding Back
bind_back e b fits sound more rest at v behind =
    let u = unless_none _ _ _ sound in
    let xmit = number_octets e 2 b.max_xmit in
    let recv = number_octets e 2 b.max_recv in
    let group = number_octets e 4 b.group in
    let count = count_octets (length b.contexts) 3 in
    let contexts = flat_map (context_octets e) b.contexts in
    ap (reading (bind_part e more) at) (regroup5 xmit recv group count contexts rest)
    ∙ number_back field.MaxXmit e 2 any _ b.max_xmit (recv ++ (group ++ (count ++ (contexts ++ rest)))) at v fits.max_xmit refl
    (number_back field.MaxRecv e 2 any _ b.max_recv (group ++ (count ++ (contexts ++ rest))) (at + 2) v fits.max_recv refl
    (number_back field.AssocGroup e 4 any _ b.group (count ++ (contexts ++ rest)) (at + 2 + 2) v fits.group refl
    (count_back field.NContext (between 1 MAX_CONTEXTS) 3 _ (length b.contexts) (contexts ++ rest) (at + 2 + 2 + 4) v u.0
    (repeated_back (context_part e) (context_octets e) RightContext (context_back e) b.contexts (both_fit b.contexts fits.contexts u.1) _ rest (at + 2 + 2 + 4 + 1 + 3) v behind))))

results_fit : (rs : List ContextResult) → AllByRecursion FitsResult rs → unsound_results rs ≡ None → AllByRecursion RightResult rs
unfolding RightResult
results_fit [] all sound = tt
results_fit (r ∷ rs) all sound =
    let u = unless_none _ _ _ sound in
    let w = unless_none _ _ _ u.1 in
    ((all.0, (u.0, w.0)), results_fit rs all.1 w.1)

result_back : (e : Endian) (r : ContextResult) → RightResult r → Back (result_part e) (result_octets e r) r
unfolding Back RightResult
result_back e r fits more rest at v behind =
    let outcome = number_octets e 2 r.«result» in
    let reason = number_octets e 2 r.reason in
    let transfer = syntax_octets e r.transfer in
    ap (reading (result_part e more) at) (regroup3 outcome reason transfer rest)
    ∙ number_back field.Result e 2 (between 0 MAX_RESULT) _ r.«result» (reason ++ (transfer ++ rest)) at v fits.0.outcome fits.1.0
    (number_back field.Reason e 2 (between 0 MAX_REASON) _ r.reason (transfer ++ rest) (at + 2) v fits.0.reason fits.1.1
    (syntax_back e field.TransferUuid r.transfer fits.0.transfer (λ x. more (record { «result» = r.«result»; reason = r.reason; transfer = x })) rest (at + 2 + 2) v behind))

protocol_back : (p : Protocol) → Unit {0} → Back protocol_part (protocol_octets p) p
unfolding Back
protocol_back p fits more rest at v behind =
    octet_back field.Major any _ p.major (p.minor ∷ rest) at v refl (octet_back field.Minor any _ p.minor rest (at + 1) v refl (behind (at + 1 + 1)))

all_protocols : (ps : List Protocol) → AllByRecursion (λ p. Unit {0}) ps
all_protocols [] = tt
all_protocols (p ∷ ps) = (tt, all_protocols ps)

address_length : (e : Endian) (a : AckBody) → HEADER_LENGTH + length (address_octets e a) ≡ 26 + length a.address
address_length e a =
    let xmit = number_octets e 2 a.max_xmit in
    let recv = number_octets e 2 a.max_recv in
    let group = number_octets e 4 a.group in
    let count = number_octets e 2 (length a.address) in
    omega (arith, length-append (xmit ++ recv ++ group ++ count) a.address, length-append (xmit ++ recv ++ group) count, length-append (xmit ++ recv) group, length-append xmit recv, length-number_octets e 2 a.max_xmit, length-number_octets e 2 a.max_recv, length-number_octets e 4 a.group, length-number_octets e 2 (length a.address))

ack_back : (e : Endian) (a : AckBody) → FitsAck a → unsound_ack a ≡ None → (more : AckBody → Table) (rest : List ℕ) (v : Pdu) → ((place : ℕ) → reading (more a) place rest ≡ Ok v) → reading (ack_part e more) 16 (ack_octets e a ++ rest) ≡ Ok v
unfolding Back
ack_back e a fits sound more rest v behind =
    let u : (nat_le (length a.address) MAX_ADDRESS ≡ true) × (unless (between 1 MAX_CONTEXTS (length a.results)) field.NResults (unsound_results a.results) ≡ None) = unless_none _ _ _ sound in
    let w : (between 1 MAX_CONTEXTS (length a.results) ≡ true) × (unsound_results a.results ≡ None) = unless_none _ _ _ u.1 in
    let xmit = number_octets e 2 a.max_xmit in
    let recv = number_octets e 2 a.max_recv in
    let group = number_octets e 4 a.group in
    let count = number_octets e 2 (length a.address) in
    let gap_size = gap 4 (HEADER_LENGTH + length (address_octets e a)) in
    let zeros : List ℕ = replicate gap_size 0 in
    let answers = count_octets (length a.results) 3 in
    let results = flat_map (result_octets e) a.results in
    let short : length a.address < 256 ^ 2 = grind (arith, nat_tests, u.0) in
    ap (reading (ack_part e more) 16) (regroup8 xmit recv group count a.address zeros answers results rest)
    ∙ number_back field.MaxXmit e 2 any _ a.max_xmit (recv ++ (group ++ (count ++ (a.address ++ (zeros ++ (answers ++ (results ++ rest))))))) 16 v fits.max_xmit refl
    (number_back field.MaxRecv e 2 any _ a.max_recv (group ++ (count ++ (a.address ++ (zeros ++ (answers ++ (results ++ rest)))))) 18 v fits.max_recv refl
    (number_back field.AssocGroup e 4 any _ a.group (count ++ (a.address ++ (zeros ++ (answers ++ (results ++ rest))))) 20 v fits.group refl
    (number_back field.SecLength e 2 any _ (length a.address) (a.address ++ (zeros ++ (answers ++ (results ++ rest)))) 24 v short refl
    (octets_back field.SecAddress _ a.address (zeros ++ (answers ++ (results ++ rest))) 26 v
    (padded_back field.Padding 4 gap_size _ (answers ++ (results ++ rest)) (26 + length a.address) v (ap (gap 4) (address_length e a))
    (count_back field.NResults (between 1 MAX_CONTEXTS) 3 _ (length a.results) (results ++ rest) (26 + length a.address + gap_size) v w.0
    (repeated_back (result_part e) (result_octets e) RightResult (result_back e) a.results (results_fit a.results fits.results w.1) _ rest (26 + length a.address + gap_size + 1 + 3) v behind)))))))

object_back : (e : Endian) (has : Bool) (object : Option (List ℕ)) → IfSome object FitsUuid → (if has then is_some object else is_none object) ≡ true
    → (more : Option (List ℕ) → Table) (rest : List ℕ) (at : ℕ) (v : Pdu) → ((place : ℕ) → reading (more object) place rest ≡ Ok v)
    → reading (if has then Kept field.ObjectUuid (identifier e) any (λ u. more (Some u)) else more None) at (object_octets e object ++ rest) ≡ Ok v
object_back e true (Some u) fits agree more rest at v behind = uuid_back field.ObjectUuid e (λ x. more (Some x)) u rest at v fits (behind (at + 16))
object_back e true None fits agree more rest at v behind = absurd (cc)
object_back e false (Some u) fits agree more rest at v behind = absurd (cc)
object_back e false None fits agree more rest at v behind = behind at

-- the PDU of a header and a body
abbrev pdu_of : Header → Body → Pdu
pdu_of h b = record { call_id = h.call_id; flags = h.flags; minor = h.minor; endian = h.endian; body = b }

body_back : (h : Header) (b : Body) → FitsBody b → unsound_body h.flags b ≡ None → reading (body_of (kind_of b) h) 16 (body_octets h.endian b) ≡ Ok (pdu_of h b)
unfolding Back
body_back h (body.Request hint context opnum object stub) fits sound =
    let e = h.endian in
    let v = pdu_of h (body.Request hint context opnum object stub) in
    let hints = number_octets e 4 hint in
    let contexts = number_octets e 2 context in
    let opnums = number_octets e 2 opnum in
    let objects = object_octets e object in
    ap (reading (request_table h) 16) (regroup4 hints contexts opnums objects stub)
    ∙ number_back field.AllocHint e 4 any _ hint (contexts ++ (opnums ++ (objects ++ stub))) 16 v fits.0 refl
    (number_back field.ContextId e 2 any _ context (opnums ++ (objects ++ stub)) 20 v fits.1 refl
    (number_back field.Opnum e 2 any _ opnum (objects ++ stub) 22 v fits.2 refl
    (object_back e (has_object h.flags) object fits.3 (unless_none _ _ _ sound).0 (λ o. Rest field.Stub (λ xs. ends h (body.Request hint context opnum o xs))) stub 24 v (λ place.
    rest_back field.Stub (λ xs. ends h (body.Request hint context opnum object xs)) stub place v (ends_back v (place + length stub) [])))))
body_back h (body.Response hint context cancels stub) fits sound =
    let e = h.endian in
    let v = pdu_of h (body.Response hint context cancels stub) in
    let hints = number_octets e 4 hint in
    let contexts = number_octets e 2 context in
    let count = count_octets cancels 1 in
    ap (reading (response_table h) 16) (regroup3 hints contexts count stub)
    ∙ number_back field.AllocHint e 4 any _ hint (contexts ++ (count ++ stub)) 16 v fits.0 refl
    (number_back field.ContextId e 2 any _ context (count ++ stub) 20 v fits.1 refl
    (count_back field.CancelCount any 1 _ cancels stub 22 v refl
    (rest_back field.Stub _ stub 24 v (ends_back v (24 + length stub) []))))
body_back h (body.Fault hint context cancels status) fits sound =
    let e = h.endian in
    let v = pdu_of h (body.Fault hint context cancels status) in
    let hints = number_octets e 4 hint in
    let contexts = number_octets e 2 context in
    let count = count_octets cancels 1 in
    let statuses = number_octets e 4 status in
    let zeros : List ℕ = replicate 4 0 in
    ap (reading (fault_table h) 16) (regroup4 hints contexts count statuses zeros)
    ∙ number_back field.AllocHint e 4 any _ hint (contexts ++ (count ++ (statuses ++ zeros))) 16 v fits.0 refl
    (number_back field.ContextId e 2 any _ context (count ++ (statuses ++ zeros)) 20 v fits.1 refl
    (count_back field.CancelCount any 1 _ cancels (statuses ++ zeros) 22 v refl
    (number_back field.Status e 4 any _ status zeros 24 v fits.2 refl
    (passed_back field.Reserved 4 _ [] 28 v (ends_back v 32 [])))))
body_back h (body.Bind b) fits sound =
    let t = bind_part h.endian (λ x. ends h (body.Bind x)) in
    ap (reading t 16) (sym (append-nil (bind_octets h.endian b))) ∙ bind_back h.endian b fits sound (λ x. ends h (body.Bind x)) [] 16 (pdu_of h (body.Bind b)) (λ place. ends_back (pdu_of h (body.Bind b)) place [])
body_back h (body.BindAck a) fits sound =
    let t = ack_part h.endian (λ x. ends h (body.BindAck x)) in
    ap (reading t 16) (sym (append-nil (ack_octets h.endian a))) ∙ ack_back h.endian a fits sound (λ x. ends h (body.BindAck x)) [] (pdu_of h (body.BindAck a)) (λ place. ends_back (pdu_of h (body.BindAck a)) place [])
body_back h (body.BindNak reason protocols) fits sound =
    let e = h.endian in
    let v = pdu_of h (body.BindNak reason protocols) in
    let reasons = number_octets e 2 reason in
    let offered = flat_map protocol_octets protocols in
    ap (reading (nak_table h) 16) (append_assoc reasons (length protocols ∷ []) offered ∙ ap (λ xs. reasons ++ (length protocols ∷ xs)) (sym (append-nil offered)))
    ∙ number_back field.Reason e 2 any _ reason (length protocols ∷ (offered ++ [])) 16 v fits refl
    (octet_back field.NProtocols any _ (length protocols) (offered ++ []) 18 v refl
    (repeated_back protocol_part protocol_octets (λ p. Unit {0}) protocol_back protocols (all_protocols protocols) _ [] 19 v (λ place. ends_back v place [])))
body_back h (body.AlterContext b) fits sound =
    let t = bind_part h.endian (λ x. ends h (body.AlterContext x)) in
    ap (reading t 16) (sym (append-nil (bind_octets h.endian b))) ∙ bind_back h.endian b fits sound (λ x. ends h (body.AlterContext x)) [] 16 (pdu_of h (body.AlterContext b)) (λ place. ends_back (pdu_of h (body.AlterContext b)) place [])
body_back h (body.AlterContextResp a) fits sound =
    let t = ack_part h.endian (λ x. ends h (body.AlterContextResp x)) in
    ap (reading t 16) (sym (append-nil (ack_octets h.endian a))) ∙ ack_back h.endian a fits sound (λ x. ends h (body.AlterContextResp x)) [] (pdu_of h (body.AlterContextResp a)) (λ place. ends_back (pdu_of h (body.AlterContextResp a)) place [])
body_back h body.Shutdown fits sound = ends_back (pdu_of h body.Shutdown) 16 []
body_back h body.CoCancel fits sound = ends_back (pdu_of h body.CoCancel) 16 []
body_back h body.Orphaned fits sound = ends_back (pdu_of h body.Orphaned) 16 []

-- the header of a PDU of this length
abbrev header_of : Pdu → ℕ → Header
header_of v size = record { minor = v.minor; ptype = kind_of v.body; flags = v.flags; endian = v.endian; length = size; call_id = v.call_id }

code_back : {A : Type 0} (name : Field) (meaning : ℕ → Option A) (other : A) (more : A → Table) (n : ℕ) (x : A) (rest : List ℕ) (at : ℕ) (v : Pdu)
    → meaning n ≡ Some x → reading (more x) (at + 1) rest ≡ Ok v → reading (coded name meaning other more) at (n ∷ rest) ≡ Ok v
code_back name meaning other more n x rest at v is behind =
    octet_back name (λ k. is_some (meaning k)) (λ k. more (unwrap_or (meaning k) other)) n rest at v (ap is_some is) (ap (λ (o : Option _). reading (more (unwrap_or o other)) (at + 1) rest) is ∙ behind)

kind_again : (p : Ptype) → ptype_at (number_of p) ≡ Some p
kind_again ptype.Request = refl
kind_again ptype.Response = refl
kind_again ptype.Fault = refl
kind_again ptype.Bind = refl
kind_again ptype.BindAck = refl
kind_again ptype.BindNak = refl
kind_again ptype.AlterContext = refl
kind_again ptype.AlterContextResp = refl
kind_again ptype.Shutdown = refl
kind_again ptype.CoCancel = refl
kind_again ptype.Orphaned = refl

order_again : (e : Endian) → order_at (order_octet e) ≡ Some e
order_again Big = refl
order_again Little = refl

-- what is left of the header's table behind some of its fields
abbrev after_auth : (Header → Table) → ℕ → Ptype → ℕ → Endian → ℕ → Table
after_auth more minor kind flags order size = Kept field.CallId (number order 4) any (λ id. more (record { minor = minor; ptype = kind; flags = flags; endian = order; length = size; call_id = id }))

abbrev after_size : (Header → Table) → ℕ → Ptype → ℕ → Endian → ℕ → Table
after_size more minor kind flags order size = Kept field.AuthLength (number order 2) (exactly 0) (λ auth. after_auth more minor kind flags order size)

abbrev after_order : (ℕ → Bool) → (Header → Table) → ℕ → Ptype → ℕ → Endian → Table
after_order fits more minor kind flags order = Passed field.DrepRest 3 (length_part fits order (after_size more minor kind flags order))

abbrev after_kind : (ℕ → Bool) → (Header → Table) → ℕ → Ptype → Table
after_kind fits more minor kind = Kept field.PfcFlags octet any (λ flags. order_part (after_order fits more minor kind flags))

header_back : (v : Pdu) (fits : ℕ → Bool) (size : ℕ) (more : Header → Table) (left : List ℕ) → between 0 MAX_MINOR v.minor ≡ true → size < 256 ^ 2 → is_length fits size ≡ true → v.call_id < 256 ^ 4
    → reading (more (header_of v size)) 16 left ≡ Ok v → reading (header fits more) 0 (header_octets v size ++ left) ≡ Ok v
header_back v fits size more left minor small right id behind =
    let e = v.endian in
    let kind = kind_of v.body in
    let sizes = number_octets e 2 size in
    let auths = number_octets e 2 0 in
    let ids = number_octets e 4 v.call_id in
    ap (reading (header fits more) 0) (regroup3 (RPC_VERS ∷ v.minor ∷ number_of (kind) ∷ v.flags ∷ order_octet e ∷ 0 ∷ 0 ∷ 0 ∷ sizes) auths ids left)
    ∙ octet_back field.RpcVers (exactly RPC_VERS) (λ vers. Kept field.RpcVersMinor octet (between 0 MAX_MINOR) (λ minor. ptype_part (after_kind fits more minor))) RPC_VERS (v.minor ∷ number_of (kind) ∷ v.flags ∷ order_octet e ∷ 0 ∷ 0 ∷ 0 ∷ (sizes ++ (auths ++ (ids ++ left)))) 0 v refl
    (octet_back field.RpcVersMinor (between 0 MAX_MINOR) (λ minor. ptype_part (after_kind fits more minor)) v.minor (number_of (kind) ∷ v.flags ∷ order_octet e ∷ 0 ∷ 0 ∷ 0 ∷ (sizes ++ (auths ++ (ids ++ left)))) 1 v minor
    (code_back field.Ptype ptype_at ptype.Orphaned (after_kind fits more v.minor) (number_of (kind)) (kind) (v.flags ∷ order_octet e ∷ 0 ∷ 0 ∷ 0 ∷ (sizes ++ (auths ++ (ids ++ left)))) 2 v (kind_again (kind))
    (octet_back field.PfcFlags any (λ flags. order_part (after_order fits more v.minor kind flags)) v.flags (order_octet e ∷ 0 ∷ 0 ∷ 0 ∷ (sizes ++ (auths ++ (ids ++ left)))) 3 v refl
    (code_back field.DrepOrder order_at Big (after_order fits more v.minor kind v.flags) (order_octet e) e (0 ∷ 0 ∷ 0 ∷ (sizes ++ (auths ++ (ids ++ left)))) 4 v (order_again e)
    (passed_back field.DrepRest 3 (length_part fits e (after_size more v.minor kind v.flags e)) (sizes ++ (auths ++ (ids ++ left))) 5 v
    (number_back field.FragLength e 2 (is_length fits) (after_size more v.minor kind v.flags e) size (auths ++ (ids ++ left)) 8 v small right
    (number_back field.AuthLength e 2 (exactly 0) (λ auth. after_auth more v.minor kind v.flags e size) 0 (ids ++ left) 10 v (omega arith) refl
    (number_back field.CallId e 4 any (λ id. more (record { minor = v.minor; ptype = kind; flags = v.flags; endian = e; length = size; call_id = id })) v.call_id left 12 v id refl behind))))))))

header_length : (v : Pdu) (size : ℕ) → length (header_octets v size) ≡ HEADER_LENGTH
header_length v size =
    let e = v.endian in
    let front = RPC_VERS ∷ v.minor ∷ number_of (kind_of v.body) ∷ v.flags ∷ order_octet e ∷ 0 ∷ 0 ∷ 0 ∷ number_octets e 2 size in
    omega (arith, length-append (front ++ number_octets e 2 0) (number_octets e 4 v.call_id), length-append front (number_octets e 2 0), length-number_octets e 2 size, length-number_octets e 2 0, length-number_octets e 4 v.call_id)

-- what an encoding says of the value
chosen_ok : {A E : Type 0} (test : Bool) (fault : E) (x y : A) → (if test then Err fault else Ok x) ≡ Ok y → (test ≡ false) × (x ≡ y)
chosen_ok true fault x y is = absurd (cc)
chosen_ok false fault x y is = (refl, cc)

sound_ok : (o : Option Field) (v : Pdu) (b : List ℕ) → unless_unsound o v ≡ Ok b → (o ≡ None) × (unless_long v ≡ Ok b)
sound_ok None v b is = (refl, is)
sound_ok (Some name) v b is = absurd (cc)

spelled_back : (v : Pdu) → FitsPdu v → unsound v ≡ None → size_of_pdu v ≤ MAX_FRAGMENT → Spells v (spelling v)
spelled_back v fits sound short =
    let u : (between 0 MAX_MINOR v.minor ≡ true) × (unsound_body v.flags v.body ≡ None) = unless_none _ _ _ sound in
    let size = size_of_pdu v in
    let octets_are = body_octets v.endian v.body in
    let long : length (spelling v) ≡ size = omega (arith, length-append (header_octets v size) octets_are, header_length v size) in
    let right : is_length (exactly size) size ≡ true = is_right_length size (omega arith) short in
    ap (λ n. reading (table_of n) 0 (spelling v)) long
    ∙ header_back v (exactly size) size (λ h. body_of h.ptype h) octets_are u.0 (omega arith) right fits.call_id (body_back (header_of v size) v.body fits.content u.1)

pub reads_back : (v : Pdu) (b : List ℕ) → FitsPdu v → encoding v ≡ Ok b → Spells v b
reads_back v b fits is =
    let s = sound_ok (unsound v) v b is in
    let t = chosen_ok (nat_lt MAX_FRAGMENT (size_of_pdu v)) _ (spelling v) b s.1 in
    let short : size_of_pdu v ≤ MAX_FRAGMENT = not_above MAX_FRAGMENT (size_of_pdu v) t.0 in
    subst (λ (xs : List ℕ). Spells v xs) t.1 (spelled_back v fits s.0 short)
