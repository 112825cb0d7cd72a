-- Octets above a space: those of words, of numbers and of hex digits.
use Rattle.std.proofs.Common.{◌≡◌, ℕ, ◌<◌, Bool, true, ◌&&◌, List, [], ◌∷◌, refl, arith}
use Rattle.std.specs.Prelude.{nat_lt}
use Rattle.std.specs.List.{AllPass}
use Rattle.std.specs.Str.{all_ascii_digits}
use Rattle.std.proofs.lemmas.Bool.{and_parts}
use Rattle.std.proofs.lemmas.List.Elements.{All-head, All-tail}
use Rattle.std.proofs.lemmas.Str.Parse.{tells_all_ascii_digits}
use Rattle.hex.specs.Hex.{is_hex_digit}
use Rattle.line_reader.specs.Fields.{text_of}
use Rattle.line_reader.specs.Laws.{HasNoSpace, HaveNoSpace}
use Rattle.line_reader.specs.Lines.{IsLine}
use Rattle.line_reader.proofs.LineFacts.{IsLine-append}

-- each octet is above a space
abbrev pub are_graphic : List ℕ → Bool
are_graphic [] = true
are_graphic (octet ∷ octets) = nat_lt 32 octet && are_graphic octets

abbrev pub AreGraphic : List (List ℕ) → Type 0
AreGraphic [] = Unit {0}
AreGraphic (field ∷ fields) = (are_graphic field ≡ true) × AreGraphic fields

above_space : (octet : ℕ) → 32 < octet → nat_lt 32 octet ≡ true
above_space octet h = grind (arith)

is_above_space : (octet : ℕ) → nat_lt 32 octet ≡ true → 32 < octet
is_above_space octet h = grind (arith)

graphic_cons : (octet : ℕ) (octets : List ℕ) → 32 < octet → are_graphic octets ≡ true → are_graphic (octet ∷ octets) ≡ true
graphic_cons octet octets above h = rw (above_space octet above) h

pub digits_graphic : (digits : List ℕ) → all_ascii_digits digits ≡ true → are_graphic digits ≡ true
digits_graphic [] each = refl
digits_graphic (x ∷ digits) each =
    let p = tells_all_ascii_digits.parts x digits each in
    graphic_cons x digits (let q = p.0 in omega (arith, q.0)) (digits_graphic digits p.1)

hex_digit_above : (c : ℕ) → is_hex_digit c ≡ true → 32 < c
hex_digit_above c h = grind (arith)

pub hex_graphic : (field : List ℕ) → AllPass is_hex_digit field → are_graphic field ≡ true
hex_graphic [] all = refl
hex_graphic (c ∷ field) all =
    graphic_cons c field (hex_digit_above c (All-head (λ x. is_hex_digit x ≡ true) c field all))
    (hex_graphic field (All-tail (λ x. is_hex_digit x ≡ true) c field all))

-- they are no spaces, and no line feeds
no_space : (field : List ℕ) → are_graphic field ≡ true → HasNoSpace field
no_space [] h = tt
no_space (octet ∷ field) h =
    let p = and_parts (nat_lt 32 octet) (are_graphic field) h in
    let above = is_above_space octet p.0 in
    (λ e. omega (arith, above, e), no_space field p.1)

pub no_spaces : (fields : List (List ℕ)) → AreGraphic fields → HaveNoSpace fields
no_spaces [] h = tt
no_spaces (field ∷ fields) (h, more) = (no_space field h, no_spaces fields more)

no_feed : (field : List ℕ) → are_graphic field ≡ true → IsLine field
no_feed [] h = tt
no_feed (octet ∷ field) h =
    let p = and_parts (nat_lt 32 octet) (are_graphic field) h in
    let above = is_above_space octet p.0 in
    (λ e. omega (arith, above, e), no_feed field p.1)

pub text_no_feed : (fields : List (List ℕ)) → AreGraphic fields → IsLine (text_of fields)
text_no_feed [] h = tt
text_no_feed (field ∷ []) (h, more) = no_feed field h
text_no_feed (field ∷ next ∷ fields) (h, more) =
    IsLine-append field (32 ∷ text_of (next ∷ fields)) (no_feed field h) (λ e. omega (arith, e), text_no_feed (next ∷ fields) more)
