-- Texts that a string can hold are UTF-8.
use Rattle.std.proofs.Common.{◌≡◌, ℕ, ◌<◌, true, false, List, [], ◌∷◌, arith, get_or, zero, suc}
use Rattle.std.specs.List.{list_all}
use Rattle.std.specs.Str.{IsUtf8}
use Rattle.std.proofs.lemmas.Bool.Decides.{nat_tests}
use Rattle.std.proofs.lemmas.Str.{IsUtf8-from_ascii}
use Rattle.time_wire.proofs.Booleans.{both, fails}
use Rattle.ndr.specs.Strings.{is_printed, is_text}

printed_is_ascii : (text : List ℕ) → list_all is_printed text ≡ true → (i : ℕ) → get_or text i 0 < 128
printed_is_ascii [] e i = omega arith
printed_is_ascii (x ∷ xs) e zero =
    let first : is_printed x ≡ true = (both (is_printed x) (list_all is_printed xs) e).0 in
    grind (arith, nat_tests, first)
printed_is_ascii (x ∷ xs) e (suc i) = printed_is_ascii xs (both (is_printed x) (list_all is_printed xs) e).1 i

text_is_utf8 : (text : List ℕ) → is_text text ≡ true → IsUtf8 text
text_is_utf8 text e = IsUtf8-from_ascii text (printed_is_ascii text (both _ (list_all is_printed text) e).1)

-- what is no UTF-8 is no text
pub not_utf8 : (text : List ℕ) → ¬ IsUtf8 text → is_text text ≡ false
not_utf8 text h = fails (is_text text) (λ e. h (text_is_utf8 text e))
