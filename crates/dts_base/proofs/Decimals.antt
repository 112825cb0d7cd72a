-- Numbers in decimal, in front of a mark or alone.
use Rattle.std.proofs.Common.{◌≡◌, ◌≢◌, ℕ, zero, suc, ◌<◌, ◌≤◌, ◌^◌, List, [], ◌∷◌, ◌++◌, length, take, Option, Some, None, Result, Ok, Err, MatchOption, inl, inr, refl, sym, ap, ◌∙◌, arith, rules, Bor}
use Rattle.std.specs.Prelude.{decimal, ◌==◌}
use Rattle.std.specs.List.{position_or_len, before_first}
use Rattle.std.specs.Result.{result_ok}
use Rattle.std.specs.Str.Parse.{ParsesUnsigned, AllDigits, digits_value}
use Rattle.std.proofs.lemmas.Bool.Decides.{nat_tests}
use Rattle.std.proofs.lemmas.List.{take-append-le, length-append, append_cancel_left}
use Rattle.std.proofs.Math.Seq.{take-length}
use Rattle.std.proofs.lemmas.Str.Pattern.{IsSplitOnceResult, split_once_first}
use Rattle.std.proofs.lemmas.Str.Parse.{IsNumeralModel, IsDigitsTest, numerals_by_value, tells_digits, parse_plain}
use Rattle.std.proofs.lemmas.Fmt.{decimal_digit, first_decimal, decimal-digits_value, parse-decimal, digits_decimal, decimal_injective}
use Rattle.std.proofs.lemmas.Result.{OkIff-at_ok}
use Rattle.dts_base.specs.Cutting.{IsPlain, IsMark}

-- std's digits and their value
own : IsNumeralModel (AllDigits 10) (digits_value 10)
own = numerals_by_value (AllDigits 10) tells_digits

-- what is written of a number has neither a plus nor a leading zero
pub decimal_plain : (n : ℕ) → n < 2 ^ 64 → IsPlain (decimal n)
decimal_plain zero h = rw (decimal_digit 0 (omega arith)) (λ e. absurd (omega (arith, e)), λ _. refl)
decimal_plain (suc n) h = let f = first_decimal (suc n) (omega arith) h in (λ e. omega (arith, f, e), λ e. absurd (omega (arith, f, e)))

-- a plain text that is read as a number is what is written of it
plain_read : {E : Type 0} (text : List ℕ) (r : Result ℕ E) (n : ℕ) → ParsesUnsigned 64 10 text r → IsPlain text → r ≡ Ok n → text ≡ decimal n
plain_read text r n parses plain is =
    let p = OkIff-at_ok r _ _ n (parse_plain own 64 text r parses plain.0) is in
    sym (rw p.1 (decimal-digits_value own text p.0.0 p.0.1 plain.1 p.0.2))

-- the number that a plain text is
pub number_read : {E : Type 0} (text : List ℕ) (r : Result ℕ E) (o : Option ℕ) → IsPlain text → ParsesUnsigned 64 10 text r → o ≡ result_ok r → MatchOption o ((n : ℕ) → n < 2 ^ 64 → text ≢ decimal n) (λ n. text ≡ decimal n)
number_read {E} text (Ok n) o plain parses is = rw is (plain_read {E = E} text (Ok n) n parses plain refl)
number_read {E} text (Err y) o plain parses is = rw is (λ n h e. let bad = parse-decimal {E = E} 64 n text (Err y) h h e parses in cc)

-- digits, one by one
abbrev Digits : List ℕ → Type 0
Digits [] = Unit {0}
Digits (d ∷ ds) = (48 ≤ d) × (d ≤ 57) × Digits ds

tells : IsDigitsTest Digits
tells = search rules

-- the first mark stands behind the digits
mark_behind : (c : ℕ) (ds rest : List ℕ) → IsMark c → Digits ds → position_or_len (λ b. b == c) (ds ++ c ∷ rest) ≡ length ds
mark_behind c [] rest m h = grind (arith, nat_tests)
mark_behind c (d ∷ ds) rest m h =
    let ih = mark_behind c ds rest m h.2 in
    let other : d ≢ c = elim m [ inl e ↦ omega arith | inr e ↦ omega arith ] in
    grind (arith, nat_tests)

pub first_mark : (n c : ℕ) (rest : List ℕ) → n < 2 ^ 64 → IsMark c → position_or_len (λ b. b == c) (decimal n ++ c ∷ rest) ≡ length (decimal n)
first_mark n c rest h m = mark_behind c (decimal n) rest m (digits_decimal (numerals_by_value Digits tells) n h)

-- a mark in front of which a number stands is found
pub mark_found : (n c : ℕ) (rest text : List ℕ) → n < 2 ^ 64 → IsMark c → text ≡ decimal n ++ c ∷ rest → position_or_len (λ b. b == c) text ≢ length text
mark_found n c rest text h m e p =
    let first = first_mark n c rest h m in
    let same : length (decimal n) ≡ length (decimal n ++ c ∷ rest) = sym first ∙ ap (position_or_len (λ b. b == c)) (sym e) ∙ p ∙ ap length e in
    omega (arith, length-append (decimal n) (c ∷ rest))

-- what stands before it is the number
pub before_mark : (n c : ℕ) (rest text : List ℕ) → n < 2 ^ 64 → IsMark c → text ≡ decimal n ++ c ∷ rest → before_first (λ b. b == c) text ≡ decimal n
before_mark n c rest text h m e =
    let first = first_mark n c rest h m in
    ap (before_first (λ b. b == c)) e ∙ ap (λ i. take i (decimal n ++ c ∷ rest)) first ∙ take-append-le (length (decimal n)) (decimal n) (c ∷ rest) (omega arith) ∙ take-length (decimal n)

-- a number in front of a mark, and what follows it, are told apart
pub number_cut : (m n c : ℕ) (p q : List ℕ) → m < 2 ^ 64 → n < 2 ^ 64 → IsMark c → decimal m ++ c ∷ p ≡ decimal n ++ c ∷ q → (m ≡ n) × (p ≡ q)
number_cut m n c p q hm hn mark e =
    let same : decimal m ≡ decimal n = sym (before_mark m c p _ hm mark refl) ∙ before_mark n c q _ hn mark e in
    let rest = append_cancel_left (decimal n) (c ∷ p) (c ∷ q) (ap (λ ds. ds ++ c ∷ p) (sym same) ∙ e) in
    (decimal_injective m n hm hn same, cc)

-- a mark is ASCII
below : {c : ℕ} → IsMark c → c < 128
below m = elim m [ inl e ↦ omega arith | inr e ↦ omega arith ]

-- where nothing is cut no number stands in front of a mark
pub cut_missing : (c : ℕ) (text : List ℕ) (r : Option (Bor (List ℕ) × Bor (List ℕ))) → IsMark c → IsSplitOnceResult c text r → r ≡ None → (n : ℕ) (rest : List ℕ) → n < 2 ^ 64 → text ≢ decimal n ++ c ∷ rest
cut_missing c text r mark cases is n rest h e =
    let p = rw is at (split_once_first c text r cases (below mark)) in
    mark_found n c rest text h mark e p

-- what is cut is the number in front of the mark
pub cut_before : (c : ℕ) (text : List ℕ) (r : Option (Bor (List ℕ) × Bor (List ℕ))) (x : Bor (List ℕ) × Bor (List ℕ)) → IsMark c → IsSplitOnceResult c text r → r ≡ Some x → (n : ℕ) (rest : List ℕ) → n < 2 ^ 64 → text ≡ decimal n ++ c ∷ rest → x.0.now ≡ decimal n
cut_before c text r x mark cases is n rest h e =
    let p = rw is at (split_once_first c text r cases (below mark)) in
    p.1 ∙ before_mark n c rest text h mark e
