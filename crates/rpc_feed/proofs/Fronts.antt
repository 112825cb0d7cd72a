-- The front of a stream stays as it is, whatever follows.
use Rattle.std.proofs.Common.{◌≡◌, ℕ, ◌<◌, ◌≤◌, Bool, true, false, List, ◌++◌, length, take, drop, Result, Ok, Err, refl, sym, ap, subst, ◌∙◌, arith}
use Rattle.std.specs.Prelude.{if◌then◌else◌, nat_lt}
use Rattle.std.proofs.lemmas.Bool.Decides.{nat_tests}
use Rattle.std.proofs.lemmas.List.{length-append, length-drop, take-append-le, drop-append-le, take-append-drop}
use Rattle.dts_base.specs.declared.wire.Refused.{Refused}
use Rattle.pdu_fields.specs.declared.header.TheConstants.{HEADER_LENGTH, MAX_FRAGMENT}
use Rattle.pdu_fields.specs.declared.pdu.Pdu.{Pdu}
use Rattle.pdu_fields.specs.declared.pdu.Body.TheVariants as body
use Rattle.pdu_fields.specs.Tables.{reading}
use Rattle.pdu_fields.specs.Headers.{any, is_length}
use Rattle.pdu_fields.specs.Bodies.{ends}
use Rattle.pdu_fields.specs.Grammar.{table_of, Spells}
use Rattle.rpc_feed.specs.Pieces.{Front, partial, whole, wrong, header_table, length_in, fragment, front_of, behind_header, front}
use Rattle.rpc_feed.proofs.Headed.{header_is}

-- a front that is known, and that further octets leave as it is
unfoldable pub Settled : Front → Type 0
Settled partial = ⊥
Settled (whole v behind) = Unit {0}
Settled (wrong refused) = Unit {0}

unfoldable pub grown : Front → List ℕ → Front
grown partial more = partial
grown (whole v behind) more = whole v (behind ++ more)
grown (wrong refused) more = wrong refused

settled_test : (test : Bool) (f : Front) → Settled (if test then partial else f) → test ≡ false
unfolding Settled
settled_test true f is = absurd is
settled_test false f is = refl

not_less : (n m : ℕ) → nat_lt n m ≡ false → m ≤ n
not_less n m is = grind (arith, nat_tests)

less : (n m : ℕ) → nat_lt n m ≡ true → n < m
less n m is = grind (arith, nat_tests)

no_less : (n m : ℕ) → m ≤ n → nat_lt n m ≡ false
no_less n m is = grind (arith, nat_tests)

longer : (b more : List ℕ) (n : ℕ) → n ≤ length b → n ≤ length (b ++ more)
longer b more n h = omega (arith, length-append b more)

fragment_grows : (r : Result Pdu Refused) (behind more : List ℕ) → fragment r (behind ++ more) ≡ grown (fragment r behind) more
unfolding grown
fragment_grows (Ok v) behind more = refl
fragment_grows (Err refused) behind more = refl

front_of_grows : (size : ℕ) (b more : List ℕ) → Settled (front_of size b) → front_of size (b ++ more) ≡ grown (front_of size b) more
front_of_grows size b more settled =
    let first = take size b in
    let test = settled_test (nat_lt (length b) size) (fragment (reading (table_of (length first)) 0 first) (drop size b)) settled in
    let enough = not_less (length b) size test in
    let test_more = no_less (length (b ++ more)) size (longer b more size enough) in
    rw (test, test_more, take-append-le size b more enough, drop-append-le size b more enough) (fragment_grows (reading (table_of (length first)) 0 first) (drop size b) more)

behind_header_grows : (r : Result Pdu Refused) (head b more : List ℕ) → Settled (behind_header r head b) → behind_header r head (b ++ more) ≡ grown (behind_header r head b) more
unfolding grown
behind_header_grows (Ok right) head b more settled = front_of_grows (length_in head) b more settled
behind_header_grows (Err refused) head b more settled = refl

pub front_grows : (b more : List ℕ) → Settled (front b) → front (b ++ more) ≡ grown (front b) more
front_grows b more settled =
    let head = take HEADER_LENGTH b in
    let r = reading header_table 0 head in
    let test = settled_test (nat_lt (length b) HEADER_LENGTH) (behind_header r head b) settled in
    let enough = not_less (length b) HEADER_LENGTH test in
    let test_more = no_less (length (b ++ more)) HEADER_LENGTH (longer b more HEADER_LENGTH enough) in
    let inner : Settled (behind_header r head b) = subst (λ (t : Bool). Settled (if t then partial else behind_header r head b)) test settled in
    rw (test, test_more, take-append-le HEADER_LENGTH b more enough) (behind_header_grows r head b more inner)

-- what a whole fragment is, and that the header's length is right
pub record IsFragment (b : List ℕ) (v : Pdu) (behind : List ℕ) : Type 0 where
  size : ℕ
  least : HEADER_LENGTH ≤ size
  enough : size ≤ length b
  spells : Spells v (take size b)
  rest : behind ≡ drop size b

right_length : (n : ℕ) → is_length any n ≡ true → (HEADER_LENGTH ≤ n) × (n ≤ MAX_FRAGMENT)
right_length n is = grind (arith, nat_tests)

header_length : (head : List ℕ) (right : Pdu) → reading header_table 0 head ≡ Ok right → (HEADER_LENGTH ≤ length_in head) × (length_in head ≤ MAX_FRAGMENT)
header_length head right read =
    let h = header_is any (λ x. ends x body.Shutdown) head right read in
    subst (λ (n : ℕ). (HEADER_LENGTH ≤ n) × (n ≤ MAX_FRAGMENT)) h.2 (right_length h.0.length h.1)

whole_fragment : (size : ℕ) (b : List ℕ) (r : Result Pdu Refused) (v : Pdu) (behind : List ℕ) → HEADER_LENGTH ≤ size → size ≤ length b → r ≡ reading (table_of (length (take size b))) 0 (take size b) → fragment r (drop size b) ≡ whole v behind → IsFragment b v behind
whole_fragment size b (Ok w) v behind least enough read is =
    let same : w ≡ v = cc in
    let rest : drop size b ≡ behind = cc in
    record { size = size; least = least; enough = enough; spells = sym read ∙ ap Ok same; rest = sym rest }
whole_fragment size b (Err refused) v behind least enough read is = absurd (cc)

whole_sized : (size : ℕ) (b : List ℕ) (test : Bool) (v : Pdu) (behind : List ℕ) → HEADER_LENGTH ≤ size → nat_lt (length b) size ≡ test
    → (if test then partial else fragment (reading (table_of (length (take size b))) 0 (take size b)) (drop size b)) ≡ whole v behind → IsFragment b v behind
whole_sized size b true v behind least tested is = absurd (cc)
whole_sized size b false v behind least tested is = whole_fragment size b (reading (table_of (length (take size b))) 0 (take size b)) v behind least (not_less (length b) size tested) refl is

whole_headed : (r : Result Pdu Refused) (head b : List ℕ) (v : Pdu) (behind : List ℕ) → reading header_table 0 head ≡ r → behind_header r head b ≡ whole v behind → IsFragment b v behind
whole_headed (Ok right) head b v behind read is = whole_sized (length_in head) b (nat_lt (length b) (length_in head)) v behind (header_length head right read).0 refl is
whole_headed (Err refused) head b v behind read is = absurd (cc)

whole_tested : (test : Bool) (b : List ℕ) (v : Pdu) (behind : List ℕ) → (if test then partial else behind_header (reading header_table 0 (take HEADER_LENGTH b)) (take HEADER_LENGTH b) b) ≡ whole v behind → IsFragment b v behind
whole_tested true b v behind is = absurd (cc)
whole_tested false b v behind is = whole_headed (reading header_table 0 (take HEADER_LENGTH b)) (take HEADER_LENGTH b) b v behind refl is

-- a PDU at the front is spelled by a fragment of 16 octets at least
pub is_whole : (b : List ℕ) (v : Pdu) (behind : List ℕ) → front b ≡ whole v behind → IsFragment b v behind
is_whole b v behind is = whole_tested (nat_lt (length b) HEADER_LENGTH) b v behind is

pub shorter : (b : List ℕ) (v : Pdu) (behind : List ℕ) → front b ≡ whole v behind → length behind < length b
shorter b v behind is =
    let f = is_whole b v behind is in
    omega (arith, ap length f.rest, length-drop f.size b, f.least, f.enough)

pub first_spells : (b : List ℕ) (v : Pdu) (behind : List ℕ) → front b ≡ whole v behind → (first : List ℕ) × (b ≡ first ++ behind) × Spells v first
first_spells b v behind is =
    let f = is_whole b v behind is in
    (take f.size b, sym (take-append-drop f.size b) ∙ ap (λ (xs : List ℕ). take f.size b ++ xs) (sym f.rest), f.spells)

-- octets that are no whole fragment are fewer than the greatest has
partial_fragment : (r : Result Pdu Refused) (behind : List ℕ) → fragment r behind ≡ partial → ⊥
partial_fragment (Ok v) behind is = cc
partial_fragment (Err refused) behind is = cc

partial_sized : (size : ℕ) (b : List ℕ) (test : Bool) → size ≤ MAX_FRAGMENT → nat_lt (length b) size ≡ test
    → (if test then partial else fragment (reading (table_of (length (take size b))) 0 (take size b)) (drop size b)) ≡ partial → length b < MAX_FRAGMENT
partial_sized size b true most tested is = omega (arith, less (length b) size tested, most)
partial_sized size b false most tested is = absurd (partial_fragment (reading (table_of (length (take size b))) 0 (take size b)) (drop size b) is)

partial_headed : (r : Result Pdu Refused) (head b : List ℕ) → reading header_table 0 head ≡ r → behind_header r head b ≡ partial → length b < MAX_FRAGMENT
partial_headed (Ok right) head b read is = partial_sized (length_in head) b (nat_lt (length b) (length_in head)) (header_length head right read).1 refl is
partial_headed (Err refused) head b read is = absurd (cc)

partial_tested : (test : Bool) (b : List ℕ) → nat_lt (length b) HEADER_LENGTH ≡ test → (if test then partial else behind_header (reading header_table 0 (take HEADER_LENGTH b)) (take HEADER_LENGTH b) b) ≡ partial → length b < MAX_FRAGMENT
partial_tested true b tested is = omega (arith, less (length b) HEADER_LENGTH tested)
partial_tested false b tested is = partial_headed (reading header_table 0 (take HEADER_LENGTH b)) (take HEADER_LENGTH b) b refl is

pub partial_short : (b : List ℕ) → front b ≡ partial → length b < MAX_FRAGMENT
partial_short b is = partial_tested (nat_lt (length b) HEADER_LENGTH) b refl is
