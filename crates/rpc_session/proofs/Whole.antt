-- The fragments of a message are gathered to its stub, at both ends.
use Rattle.std.proofs.Common.{◌≡◌, ◌≤◌, ◌+◌, ℕ, zero, suc, true, false, List, [], ◌∷◌, ◌++◌, length, take, drop, Some, None, Ok, refl, sym, ap, ◌∙◌, append_assoc, arith}
use Rattle.std.specs.Prelude.{nat_lt, ◌==◌}
use Rattle.std.proofs.lemmas.Bool.Decides.{nat_tests}
use Rattle.std.proofs.lemmas.List.{length-append, take-append-drop}
use Rattle.dts_base.specs.declared.wire.State.TheVariants as state
use Rattle.ndr.specs.declared.endian.Endian.{Endian}
use Rattle.pdu_fields.specs.declared.pdu.Pdu.{Pdu}
use Rattle.pdu_fields.specs.declared.pdu.Body.{Body}
use Rattle.pdu_fields.specs.declared.pdu.Body.TheVariants as body
use Rattle.rpc_session.specs.declared.fragments.TheConstants.{MAX_STUB}
use Rattle.rpc_session.specs.declared.fragments.Message.{Message}
use Rattle.rpc_session.specs.declared.fragments.Direction.TheVariants as direction
use Rattle.rpc_session.specs.declared.client.ClientOut.TheVariants as out
use Rattle.rpc_session.specs.declared.client.OpenCall.{OpenCall}
use Rattle.rpc_session.specs.declared.client.OpenCall.TheVariants as opened
use Rattle.rpc_session.specs.declared.server.TheConstants.{LAST_OPERATION}
use Rattle.rpc_session.specs.declared.server.Out.TheVariants as given
use Rattle.rpc_session.specs.declared.server.CallHead.{CallHead}
use Rattle.rpc_session.specs.declared.server.Phase.{Phase}
use Rattle.rpc_session.specs.declared.server.Phase.TheVariants as phase
use Rattle.rpc_session.specs.Contexts.{holds}
use Rattle.rpc_session.specs.Fragments.{flags_of, fragment, fragments}
use Rattle.rpc_session.specs.Unexpected.{unexpected}
use Rattle.rpc_session.specs.Client.{ClientHistory, Took, client_answer, gathered, last_call, open_call, open_after, order_of, taken}
use Rattle.rpc_session.specs.Server.{ServerHistory, Received, accepted, answered, connection, phase_after, request_octets, server_answer, server_limit, serving}
use Rattle.rpc_session.specs.Runs.{client_answers, server_answers, then_last}

same : (n : ℕ) → (n == n) ≡ true
same n = grind (arith, nat_tests)

within : (n m : ℕ) → n ≤ m → nat_lt m n ≡ false
within n m few = grind (arith, nat_tests)

abbrev response : ℕ → ℕ → Endian → Message
response id context e = record { call_id = id; context = context; endian = e; direction = direction.Response }

-- a fragment to a client
taken_is : (h : ClientHistory) (p : Pdu) (last : ℕ) (o : OpenCall) (octets : List ℕ) → last_call h ≡ last → open_call h ≡ o
    → gathered h ≡ octets → taken h p ≡ client_answer last o octets p
taken_is h p last o octets at opens has =
    ap (λ n. client_answer n (open_call h) (gathered h) p) at
    ∙ ap (λ q. client_answer last q (gathered h) p) opens
    ∙ ap (λ g. client_answer last o g p) has

first_part : (id context hint : ℕ) (e : Endian) (octets piece : List ℕ) → length octets + length piece ≤ MAX_STUB
    → client_answer id (opened.Request None) octets (fragment (response id context e) (flags_of true false) hint piece) ≡ Ok out.Partial
first_part id context hint e octets piece few = rw (same id, within (length octets + length piece) MAX_STUB few) refl

next_part : (id context hint : ℕ) (e : Endian) (octets piece : List ℕ) → length octets + length piece ≤ MAX_STUB
    → client_answer id (opened.Request (Some e)) octets (fragment (response id context e) (flags_of false false) hint piece)
    ≡ Ok out.Partial
next_part id context hint e octets piece few = rw (same id, within (length octets + length piece) MAX_STUB few) refl

only_part : (id context hint : ℕ) (e : Endian) (octets piece : List ℕ) → length octets + length piece ≤ MAX_STUB
    → client_answer id (opened.Request None) octets (fragment (response id context e) (flags_of true true) hint piece)
    ≡ Ok (out.Reply id (octets ++ piece) e)
only_part id context hint e octets piece few = rw (same id, within (length octets + length piece) MAX_STUB few) refl

last_part : (id context hint : ℕ) (e : Endian) (octets piece : List ℕ) → length octets + length piece ≤ MAX_STUB
    → client_answer id (opened.Request (Some e)) octets (fragment (response id context e) (flags_of false true) hint piece)
    ≡ Ok (out.Reply id (octets ++ piece) e)
last_part id context hint e octets piece few = rw (same id, within (length octets + length piece) MAX_STUB few) refl

-- a part and what is behind it are the whole
parted : (size : ℕ) (octets xs : List ℕ) → (octets ++ take size xs) ++ drop size xs ≡ octets ++ xs
parted size octets xs = append_assoc octets (take size xs) (drop size xs) ∙ ap (λ ys. octets ++ ys) (take-append-drop size xs)

part_fits : (size most : ℕ) (octets xs : List ℕ) → length octets + length xs ≤ most → length octets + length (take size xs) ≤ most
part_fits size most octets xs few = let both = sym (length-append (take size xs) (drop size xs))
    ∙ ap length (take-append-drop size xs) in omega (arith, both, few)

rest_fits : (size most : ℕ) (octets xs : List ℕ) → length octets + length xs ≤ most
    → length (octets ++ take size xs) + length (drop size xs) ≤ most
rest_fits size most octets xs few =
    let all = sym (length-append (octets ++ take size xs) (drop size xs)) ∙ ap length (parted size octets xs) ∙ length-append octets xs in
    omega (arith, all, few)

-- the fragments behind the first
rest_replied : (full size id context : ℕ) (e : Endian) (xs octets : List ℕ) (h : ClientHistory) → last_call h ≡ id
    → open_call h ≡ opened.Request (Some e) → gathered h ≡ octets → length octets + length xs ≤ MAX_STUB
    → client_answers h (fragments (response id context e) size false full xs)
    ≡ then_last full (Ok out.Partial) (Ok (out.Reply id (octets ++ xs) e))
rest_replied zero size id context e xs octets h at opens has few =
    ap (λ a. a ∷ []) (taken_is h (fragment (response id context e) (flags_of false true) (length xs) xs) id (opened.Request (Some e))
    octets at opens has ∙ last_part id context (length xs) e octets xs few)
rest_replied (suc full) size id context e xs octets h at opens has few =
    let p = fragment (response id context e) (flags_of false false) (length xs) (take size xs) in
    let others = fragments (response id context e) size false full (drop size xs) in
    let is = taken_is h p id (opened.Request (Some e)) octets at opens has
    ∙ next_part id context (length xs) e octets (take size xs) (part_fits size MAX_STUB octets xs few) in
    let later = rest_replied full size id context e (drop size xs) (octets ++ take size xs) (Took h p (Ok out.Partial)) at
    (ap (λ o. opened.Request (Some (order_of o p))) opens) (ap (λ g. g ++ take size xs) has)
    (rest_fits size MAX_STUB octets xs few) in
    ap (λ a. a ∷ client_answers (Took h p a) others) is
    ∙ ap (λ ys. Ok out.Partial ∷ ys) (later
    ∙ ap (λ zs. then_last full (Ok out.Partial) (Ok (out.Reply id zs e))) (parted size octets xs))

-- all fragments of a response to the open request
pub all_replied : (full size id context : ℕ) (e : Endian) (xs octets : List ℕ) (h : ClientHistory) → last_call h ≡ id
    → open_call h ≡ opened.Request None → gathered h ≡ octets → length octets + length xs ≤ MAX_STUB
    → client_answers h (fragments (response id context e) size true full xs)
    ≡ then_last full (Ok out.Partial) (Ok (out.Reply id (octets ++ xs) e))
all_replied zero size id context e xs octets h at opens has few =
    ap (λ a. a ∷ []) (taken_is h (fragment (response id context e) (flags_of true true) (length xs) xs) id (opened.Request None)
    octets at opens has ∙ only_part id context (length xs) e octets xs few)
all_replied (suc full) size id context e xs octets h at opens has few =
    let p = fragment (response id context e) (flags_of true false) (length xs) (take size xs) in
    let others = fragments (response id context e) size false full (drop size xs) in
    let is = taken_is h p id (opened.Request None) octets at opens has
    ∙ first_part id context (length xs) e octets (take size xs) (part_fits size MAX_STUB octets xs few) in
    let later = rest_replied full size id context e (drop size xs) (octets ++ take size xs) (Took h p (Ok out.Partial)) at
    (ap (λ o. opened.Request (Some (order_of o p))) opens) (ap (λ g. g ++ take size xs) has)
    (rest_fits size MAX_STUB octets xs few) in
    ap (λ a. a ∷ client_answers (Took h p a) others) is
    ∙ ap (λ ys. Ok out.Partial ∷ ys) (later
    ∙ ap (λ zs. then_last full (Ok out.Partial) (Ok (out.Reply id zs e))) (parted size octets xs))

-- a fragment to a server
abbrev request : ℕ → ℕ → ℕ → Endian → Message
request id context opnum e = record { call_id = id; context = context; endian = e; direction = direction.Request opnum }

abbrev head : ℕ → ℕ → ℕ → Endian → CallHead
head id context opnum e = record { call_id = id; context = context; opnum = opnum; maybe = false; endian = e }

answered_is : (h : ServerHistory) (p : Pdu) (now : Phase) (ids octets : List ℕ) → serving h ≡ now → accepted h ≡ ids
    → request_octets h ≡ octets → answered h p ≡ server_answer (connection h) now ids octets (server_limit h) p p.body
answered_is h p now ids octets serves holds_these has =
    ap (λ q. server_answer (connection h) q (accepted h) (request_octets h) (server_limit h) p p.body) serves
    ∙ ap (λ i. server_answer (connection h) now i (request_octets h) (server_limit h) p p.body) holds_these
    ∙ ap (λ g. server_answer (connection h) now ids g (server_limit h) p p.body) has

-- an operation on an accepted context
pub record Allowed (ids : List ℕ) (context opnum : ℕ) : Type 0 where
  pub context_held : holds ids context ≡ true
  pub opnum_known : nat_lt LAST_OPERATION opnum ≡ false

first_asked : (conn limit id context opnum hint : ℕ) (e : Endian) (ids octets piece : List ℕ) → length octets + length piece ≤ MAX_STUB
    → server_answer conn phase.Bound ids octets limit (fragment (request id context opnum e) (flags_of true false) hint piece)
    (body.Request hint context opnum None piece) ≡ Ok []
first_asked conn limit id context opnum hint e ids octets piece few = rw (within (length octets + length piece) MAX_STUB few) refl

next_asked : (conn limit id context opnum hint : ℕ) (e : Endian) (ids octets piece : List ℕ) → length octets + length piece ≤ MAX_STUB
    → server_answer conn (phase.Gathering (head id context opnum e)) ids octets limit
    (fragment (request id context opnum e) (flags_of false false) hint piece) (body.Request hint context opnum None piece) ≡ Ok []
next_asked conn limit id context opnum hint e ids octets piece few = rw (same id, within (length octets + length piece) MAX_STUB few) refl

only_asked : (conn limit id context opnum hint : ℕ) (e : Endian) (ids octets piece : List ℕ) → Allowed ids context opnum
    → length octets + length piece ≤ MAX_STUB
    → server_answer conn phase.Bound ids octets limit (fragment (request id context opnum e) (flags_of true true) hint piece)
    (body.Request hint context opnum None piece) ≡ Ok (given.Call id context opnum (octets ++ piece) e false ∷ [])
only_asked conn limit id context opnum hint e ids octets piece allowed few = rw
    (within (length octets + length piece) MAX_STUB few, allowed.context_held, allowed.opnum_known) refl

last_asked : (conn limit id context opnum hint : ℕ) (e : Endian) (ids octets piece : List ℕ) → Allowed ids context opnum
    → length octets + length piece ≤ MAX_STUB
    → server_answer conn (phase.Gathering (head id context opnum e)) ids octets limit
    (fragment (request id context opnum e) (flags_of false true) hint piece) (body.Request hint context opnum None piece)
    ≡ Ok (given.Call id context opnum (octets ++ piece) e false ∷ [])
last_asked conn limit id context opnum hint e ids octets piece allowed few = rw
    (same id, within (length octets + length piece) MAX_STUB few, allowed.context_held, allowed.opnum_known) refl

-- behind a fragment that is not the last its call is gathered
first_gathers : (h : ServerHistory) (id context opnum hint : ℕ) (e : Endian) (piece : List ℕ) → serving h ≡ phase.Bound
    → serving (Received h (fragment (request id context opnum e) (flags_of true false) hint piece) (Ok []))
    ≡ phase.Gathering (head id context opnum e)
first_gathers h id context opnum hint e piece serves = ap
    (λ q. phase_after q (fragment (request id context opnum e) (flags_of true false) hint piece) (Ok [])) serves

next_gathers : (h : ServerHistory) (id context opnum hint : ℕ) (e : Endian) (piece : List ℕ)
    → serving h ≡ phase.Gathering (head id context opnum e)
    → serving (Received h (fragment (request id context opnum e) (flags_of false false) hint piece) (Ok []))
    ≡ phase.Gathering (head id context opnum e)
next_gathers h id context opnum hint e piece serves = ap
    (λ q. phase_after q (fragment (request id context opnum e) (flags_of false false) hint piece) (Ok [])) serves ∙ rw (same id) refl

rest_called : (full size id context opnum : ℕ) (e : Endian) (xs octets ids : List ℕ) (h : ServerHistory)
    → serving h ≡ phase.Gathering (head id context opnum e) → accepted h ≡ ids → request_octets h ≡ octets → Allowed ids context opnum
    → length octets + length xs ≤ MAX_STUB
    → server_answers h (fragments (request id context opnum e) size false full xs)
    ≡ then_last full (Ok []) (Ok (given.Call id context opnum (octets ++ xs) e false ∷ []))
rest_called zero size id context opnum e xs octets ids h serves holds_these has allowed few =
    ap (λ a. a ∷ []) (answered_is h (fragment (request id context opnum e) (flags_of false true) (length xs) xs)
    (phase.Gathering (head id context opnum e)) ids octets serves holds_these has
    ∙ last_asked (connection h) (server_limit h) id context opnum (length xs) e ids octets xs allowed few)
rest_called (suc full) size id context opnum e xs octets ids h serves holds_these has allowed few =
    let p = fragment (request id context opnum e) (flags_of false false) (length xs) (take size xs) in
    let others = fragments (request id context opnum e) size false full (drop size xs) in
    let is = answered_is h p (phase.Gathering (head id context opnum e)) ids octets serves holds_these has
    ∙ next_asked (connection h) (server_limit h) id context opnum (length xs) e ids octets (take size xs)
    (part_fits size MAX_STUB octets xs few) in
    let later = rest_called full size id context opnum e (drop size xs) (octets ++ take size xs) ids (Received h p (Ok []))
    (next_gathers h id context opnum (length xs) e (take size xs) serves) holds_these (ap (λ g. g ++ take size xs) has) allowed
    (rest_fits size MAX_STUB octets xs few) in
    ap (λ a. a ∷ server_answers (Received h p a) others) is
    ∙ ap (λ ys. Ok [] ∷ ys) (later
    ∙ ap (λ zs. then_last full (Ok []) (Ok (given.Call id context opnum zs e false ∷ []))) (parted size octets xs))

-- all fragments of a request to a server that gathers nothing
pub all_called : (full size id context opnum : ℕ) (e : Endian) (xs octets ids : List ℕ) (h : ServerHistory) → serving h ≡ phase.Bound
    → accepted h ≡ ids → request_octets h ≡ octets → Allowed ids context opnum → length octets + length xs ≤ MAX_STUB
    → server_answers h (fragments (request id context opnum e) size true full xs)
    ≡ then_last full (Ok []) (Ok (given.Call id context opnum (octets ++ xs) e false ∷ []))
all_called zero size id context opnum e xs octets ids h serves holds_these has allowed few =
    ap (λ a. a ∷ []) (answered_is h (fragment (request id context opnum e) (flags_of true true) (length xs) xs) phase.Bound ids octets
    serves holds_these has
    ∙ only_asked (connection h) (server_limit h) id context opnum (length xs) e ids octets xs allowed few)
all_called (suc full) size id context opnum e xs octets ids h serves holds_these has allowed few =
    let p = fragment (request id context opnum e) (flags_of true false) (length xs) (take size xs) in
    let others = fragments (request id context opnum e) size false full (drop size xs) in
    let is = answered_is h p phase.Bound ids octets serves holds_these has
    ∙ first_asked (connection h) (server_limit h) id context opnum (length xs) e ids octets (take size xs)
    (part_fits size MAX_STUB octets xs few) in
    let later = rest_called full size id context opnum e (drop size xs) (octets ++ take size xs) ids (Received h p (Ok []))
    (first_gathers h id context opnum (length xs) e (take size xs) serves) holds_these (ap (λ g. g ++ take size xs) has) allowed
    (rest_fits size MAX_STUB octets xs few) in
    ap (λ a. a ∷ server_answers (Received h p a) others) is
    ∙ ap (λ ys. Ok [] ∷ ys) (later
    ∙ ap (λ zs. then_last full (Ok []) (Ok (given.Call id context opnum zs e false ∷ []))) (parted size octets xs))

-- a dead session takes nothing
pub dead_client : (h : ClientHistory) (p : Pdu) → open_call h ≡ opened.Ended → taken h p ≡ unexpected state.Dead p
dead_client h p ended = ap (λ o. client_answer (last_call h) o (gathered h) p) ended

pub dead_client_stays : (h : ClientHistory) (p : Pdu) → open_call h ≡ opened.Ended → open_call (Took h p (taken h p)) ≡ opened.Ended
dead_client_stays h p ended = ap (open_after (open_call h) p) (dead_client h p ended)

dead_answers : (conn limit : ℕ) (ids octets : List ℕ) (p : Pdu) (b : Body) → p.body ≡ b
    → phase_after phase.Dead p (server_answer conn phase.Dead ids octets limit p b) ≡ phase.Dead
dead_answers conn limit ids octets p (body.Request hint context opnum object stub) is = refl
dead_answers conn limit ids octets p (body.Response hint context cancels stub) is = refl
dead_answers conn limit ids octets p (body.Fault hint context cancels status) is = refl
dead_answers conn limit ids octets p (body.Bind b) is = refl
dead_answers conn limit ids octets p (body.BindAck a) is = refl
dead_answers conn limit ids octets p (body.BindNak reason protocols) is = refl
dead_answers conn limit ids octets p (body.AlterContext b) is = refl
dead_answers conn limit ids octets p (body.AlterContextResp a) is = refl
dead_answers conn limit ids octets p body.Shutdown is = refl
dead_answers conn limit ids octets p body.CoCancel is = rw is refl
dead_answers conn limit ids octets p body.Orphaned is = rw is refl

pub dead_server_stays : (h : ServerHistory) (p : Pdu) → serving h ≡ phase.Dead → serving (Received h p (answered h p)) ≡ phase.Dead
dead_server_stays h p dead =
    ap (λ q. phase_after q p (server_answer (connection h) q (accepted h) (request_octets h) (server_limit h) p p.body)) dead
    ∙ dead_answers (connection h) (server_limit h) (accepted h) (request_octets h) p p.body refl

pub known_operation : (opnum : ℕ) → opnum ≤ LAST_OPERATION → nat_lt LAST_OPERATION opnum ≡ false
known_operation opnum known = within opnum LAST_OPERATION known
