-- What the address of a text is, computed.
use Rattle.std.proofs.Common.{◌≡◌, ℕ, ◌+◌, ◌<◌, ◌≤◌, Bool, true, false, ◌&&◌, nat_lt, nat_le, le-leb, List, ◌∷◌, ◌++◌, length, drop, Some, None, refl, sym, ap, ◌∙◌, arith}
use Rattle.std.specs.Prelude.{decimal, bytes_eq, ◌==◌, if◌then◌else◌}
use Rattle.std.specs.List.{list_all, before_first, after_first}
use Rattle.std.specs.Str.Parse.{digits_value}
use Rattle.std.proofs.lemmas.Bool.{and_parts, lt-ltb, ltb-true, leb-true}
use Rattle.std.proofs.lemmas.List.Sums.{AllPass-from_list_all}
use Rattle.std.proofs.lemmas.Bool.Decides.{nat_tests}
use Rattle.std.proofs.lemmas.Fmt.{decimal_is_IsNumeral}
use Rattle.std.proofs.lemmas.Option.{same_Some}
use Rattle.std.proofs.lemmas.Slice.Eq.{bytes_eq-Decides}
use Rattle.std.proofs.Math.Seq.{drop-append-add}
use Rattle.dts_base.specs.declared.address.Address.{Address}
use Rattle.dts_base.specs.Addresses.{Spells, address_text}
use Rattle.dts_base.specs.Cutting.{IsMark}
use Rattle.dts_base.proofs.AddressFacts.{parts, point, colon}
use Rattle.dts_base.proofs.Decimals.{first_mark, before_mark}
use Rattle.roster.specs.declared.limits.TheConstants.{DEFAULT_LISTEN_IP, DEFAULT_LISTEN_PORT, GREATEST_LISTEN_PORT}
use Rattle.roster.specs.Values.{numbers_of, address_up_to}

-- what stands behind the first mark
after_mark : (n c : ℕ) (rest text : List ℕ) → n < 256 → IsMark c → text ≡ decimal n ++ c ∷ rest → after_first (λ b. b == c) text ≡ rest
after_mark n c rest text h m e =
    let first = first_mark n c rest (omega arith) m in
    ap (after_first (λ b. b == c)) e ∙ ap (λ i. drop (i + 1) (decimal n ++ c ∷ rest)) first ∙ drop-append-add (decimal n) (c ∷ rest) 1

-- the number in front of it
number_before : (n c : ℕ) (rest text : List ℕ) → n < 256 → IsMark c → text ≡ decimal n ++ c ∷ rest → digits_value 10 (before_first (λ b. b == c) text) ≡ n
number_before n c rest text h m e =
    ap (digits_value 10) (before_mark n c rest text (omega arith) m e) ∙ (decimal_is_IsNumeral n (omega arith)).1

same_parts : (ip ip' : List ℕ) (port port' : ℕ) → ip ≡ ip' → port ≡ port' → let a : Address = record { ip = ip; port = port } in let b : Address = record { ip = ip'; port = port' } in a ≡ b
same_parts ip ip' port port' e f = cc

-- the numbers of an address's text are the address
numbers_are : (text : List ℕ) (a : Address) → Spells text a → numbers_of text ≡ a
numbers_are text a s =
    let p = parts text a s in
    let one = after_mark p.w 46 _ text p.w_fits point p.whole in
    let two = after_mark p.x 46 _ _ p.x_fits point one in
    let three = after_mark p.y 46 _ _ p.y_fits point two in
    let four = after_mark p.z 58 _ _ p.z_fits colon three in
    let w = number_before p.w 46 _ text p.w_fits point p.whole in
    let x = number_before p.x 46 _ _ p.x_fits point one in
    let y = number_before p.y 46 _ _ p.y_fits point two in
    let z = number_before p.z 58 _ _ p.z_fits colon three in
    let port : digits_value 10 (after_first (λ c. c == 58) (after_first (λ c. c == 46) (after_first (λ c. c == 46) (after_first (λ c. c == 46) text)))) ≡ a.port = ap (digits_value 10) four ∙ (decimal_is_IsNumeral a.port (omega (arith, s.1.3))).1 in
    same_parts _ a.ip _ a.port (rw (w, x, y, z) (sym p.ip)) port

abbrev passes : Address → ℕ → List ℕ → Bool
passes a greatest text = ((list_all (λ octet. nat_lt octet 256) a.ip && nat_lt 0 a.port) && nat_le a.port greatest) && bytes_eq (address_text a) text

octets_fit : (text : List ℕ) (a : Address) → Spells text a → list_all (λ octet. nat_lt octet 256) a.ip ≡ true
octets_fit text a s = let p = parts text a s in rw p.ip (grind (arith, nat_tests, p.w_fits, p.x_fits, p.y_fits, p.z_fits))

taken : (a b : Address) (greatest : ℕ) (text : List ℕ) → b ≡ a → passes a greatest text ≡ true → Some a ≡ (if passes b greatest text then Some b else None)
taken a b greatest text same right = rw (same, right)

left_out : (a b : Address) (greatest : ℕ) (text : List ℕ) → b ≡ a → passes a greatest text ≡ false → None ≡ (if passes b greatest text then Some b else None)
left_out a b greatest text same wrong = rw (same, wrong)

all_true : (a b c d : Bool) → a ≡ true → b ≡ true → c ≡ true → d ≡ true → (((a && b) && c) && d) ≡ true
all_true a b c d e f g h = rw (e, f, g, h)

third_false : (a b c d : Bool) → c ≡ false → (((a && b) && c) && d) ≡ false
third_false true true c d e = rw e
third_false true false c d e = refl
third_false false b c d e = refl

-- a text that spells an address is that one, where its port is not too great
pub spelled_is : (text : List ℕ) (a : Address) (greatest : ℕ) → Spells text a → a.port ≤ greatest → Some a ≡ address_up_to greatest text
spelled_is text a greatest s h =
    taken a (numbers_of text) greatest text (numbers_are text a s)
    (all_true _ _ _ _ (octets_fit text a s) (lt-ltb 0 a.port s.1.2) (le-leb a.port greatest h) ((bytes_eq-Decides (address_text a) text).1 (sym s.0)))

pub too_great_is : (text : List ℕ) (a : Address) (greatest : ℕ) → Spells text a → greatest < a.port → None ≡ address_up_to greatest text
too_great_is text a greatest s h =
    left_out a (numbers_of text) greatest text (numbers_are text a s) (third_false (list_all (λ octet. nat_lt octet 256) a.ip) (nat_lt 0 a.port) (nat_le a.port greatest) (bytes_eq (address_text a) text) (grind (arith, nat_tests, h)))

within_at : (n a : Address) (greatest : ℕ) (text : List ℕ) (b : Bool) → passes n greatest text ≡ b → (if b then Some n else None) ≡ Some a → a.port ≤ greatest
within_at n a greatest text false p e = cc
within_at n a greatest text true p e =
    let (front, whole) = and_parts ((list_all (λ octet. nat_lt octet 256) n.ip && nat_lt 0 n.port) && nat_le n.port greatest) (bytes_eq (address_text n) text) p in
    let (ranges, most) = and_parts (list_all (λ octet. nat_lt octet 256) n.ip && nat_lt 0 n.port) (nat_le n.port greatest) front in
    rw (← same_Some n a e) (leb-true n.port greatest most)

-- the port of an address is not too great
pub port_within : (text : List ℕ) (greatest : ℕ) (a : Address) → address_up_to greatest text ≡ Some a → a.port ≤ greatest
port_within text greatest a e = within_at (numbers_of text) a greatest text (passes (numbers_of text) greatest text) refl e

unspelled_at : (text : List ℕ) (greatest : ℕ) (a : Address) → greatest < 65536 → length a.ip ≡ 4 → ((b : Address) → Spells text b → ⊥) → (b : Bool) → passes a greatest text ≡ b → None ≡ (if b then Some a else None)
unspelled_at text greatest a fits four none false e = refl
unspelled_at text greatest a fits four none true e =
    let (front, whole) = and_parts ((list_all (λ octet. nat_lt octet 256) a.ip && nat_lt 0 a.port) && nat_le a.port greatest) (bytes_eq (address_text a) text) e in
    let (ranges, most) = and_parts (list_all (λ octet. nat_lt octet 256) a.ip && nat_lt 0 a.port) (nat_le a.port greatest) front in
    let (octets, some) = and_parts (list_all (λ octet. nat_lt octet 256) a.ip) (nat_lt 0 a.port) ranges in
    let below : a.port ≤ greatest = leb-true a.port greatest most in
    let each = AllPass-from_list_all (λ octet. nat_lt octet 256) a.ip octets in
    absurd (none a (sym ((bytes_eq-Decides (address_text a) text).0 whole), (four, λ k d h. ltb-true _ 256 (each k d h), ltb-true 0 a.port some, omega arith)))

pub unspelled_is : (text : List ℕ) (greatest : ℕ) → greatest < 65536 → ((a : Address) → Spells text a → ⊥) → None ≡ address_up_to greatest text
unspelled_is text greatest fits none = unspelled_at text greatest (numbers_of text) fits refl none (passes (numbers_of text) greatest text) refl

-- where a node listens by default
abbrev pub default_listen : Address
default_listen = record { ip = DEFAULT_LISTEN_IP; port = DEFAULT_LISTEN_PORT }

default_spelled : Spells (address_text default_listen) default_listen
default_spelled = (refl, (refl, λ k d h. ltb-true _ 256 (AllPass-from_list_all (λ octet. nat_lt octet 256) DEFAULT_LISTEN_IP refl k d h), omega arith, omega arith))

pub default_is : address_up_to GREATEST_LISTEN_PORT (address_text default_listen) ≡ Some default_listen
default_is = sym (spelled_is (address_text default_listen) default_listen GREATEST_LISTEN_PORT default_spelled (omega arith))
