-- Runs of digits and the numbers that they write.
use Rattle.std.proofs.Common.{◌≡◌, ℕ, zero, suc, ◌+◌, ◌-◌, ◌*◌, ◌^◌, ◌<◌, ◌≤◌, Bool, true, false, cond, List, [], ◌∷◌, length, get_or, take, drop, refl, sym, ap, ◌∙◌, arith}
use Rattle.std.proofs.lemmas.Bool.Decides.{nat_tests}
use Rattle.std.proofs.lemmas.Nat.{pow-add}
use Rattle.std.proofs.Math.Nat.{mul-le-mul, one-le-pow, pow-le-pow_right}
use Rattle.std.proofs.lemmas.Int.Digits.{digits_value-lt}
use Rattle.std.specs.List.{prefix_len}
use Rattle.std.specs.Char.{digit_value, is_ascii_digit}
use Rattle.std.specs.Str.Parse.{AllDigits, digits_value}
use Rattle.utc_text.specs.Grammar.{BeginsNot}

pub digit_octet : (c : ℕ) → digit_value c < 10 → (48 ≤ c) × (c ≤ 57) × (digit_value c ≡ c - 48)
digit_octet c h = grind (arith, nat_tests)

pub digit_tested : (c : ℕ) → is_ascii_digit c ≡ true → digit_value c < 10
digit_tested c h = grind (arith, nat_tests)

pub AllDigits-at : (ds : List ℕ) (i : ℕ) → AllDigits 10 ds → i < length ds → digit_value (get_or ds i 0) < 10
AllDigits-at [] i h lt = absurd (omega arith)
AllDigits-at (d ∷ ds) zero h lt = h.0
AllDigits-at (d ∷ ds) (suc i) h lt = AllDigits-at ds i h.1 (omega arith)

pub AllDigits-take : (n : ℕ) (ds : List ℕ) → AllDigits 10 ds → AllDigits 10 (take n ds)
AllDigits-take zero ds h = tt
AllDigits-take (suc n) [] h = tt
AllDigits-take (suc n) (d ∷ ds) h = (h.0, AllDigits-take n ds h.1)

run_from : (bs : List ℕ) (x : ℕ) (b : Bool) → is_ascii_digit x ≡ b → AllDigits 10 (take (prefix_len is_ascii_digit bs) bs)
    → AllDigits 10 (take (cond b (1 + prefix_len is_ascii_digit bs) 0) (x ∷ bs))
run_from bs x true e h =
    let n : 1 + prefix_len is_ascii_digit bs ≡ suc (prefix_len is_ascii_digit bs) = omega arith in rw n (digit_tested x e, h)
run_from bs x false e h = tt

-- the digits at the front are digits
pub AllDigits-run : (bs : List ℕ) → AllDigits 10 (take (prefix_len is_ascii_digit bs) bs)
AllDigits-run [] = tt
AllDigits-run (x ∷ bs) = run_from bs x (is_ascii_digit x) refl (AllDigits-run bs)

ends_from : (bs : List ℕ) (x : ℕ) (b : Bool) → is_ascii_digit x ≡ b
    → BeginsNot is_ascii_digit (drop (prefix_len is_ascii_digit bs) bs)
    → BeginsNot is_ascii_digit (drop (cond b (1 + prefix_len is_ascii_digit bs) 0) (x ∷ bs))
ends_from bs x true e h = let n : 1 + prefix_len is_ascii_digit bs ≡ suc (prefix_len is_ascii_digit bs) = omega arith in rw n h
ends_from bs x false e h = e

-- and behind them stands no digit
pub run_ends : (bs : List ℕ) → BeginsNot is_ascii_digit (drop (prefix_len is_ascii_digit bs) bs)
run_ends [] = tt
run_ends (x ∷ bs) = ends_from bs x (is_ascii_digit x) refl (run_ends bs)

pub number_below : (ds : List ℕ) (k : ℕ) → AllDigits 10 ds → length ds ≤ k → digits_value 10 ds < 10 ^ k
number_below ds k h le =
    let pos10 : 0 < 10 = omega arith in
    let grows : 10 ^ length ds ≤ 10 ^ k = pow-le-pow_right pos10 le in
    omega (arith, digits_value-lt 10 ds h, grows)

-- the units behind a point are less than a second
pub units_below : (n k p : ℕ) → n < 10 ^ k → k ≤ 7 → p ≡ 10 ^ (7 - k) → n * p < 10_000_000
units_below n k p lt le e =
    let whole : k + (7 - k) ≡ 7 = omega arith in
    let split : 10 ^ k * 10 ^ (7 - k) ≡ 10_000_000 = sym (pow-add 10 k (7 - k)) ∙ ap (λ (x : ℕ). 10 ^ x) whole in
    let scaled : 10 ^ k * p ≡ 10_000_000 = ap (λ (x : ℕ). 10 ^ k * x) e ∙ split in
    let some : 1 ≤ p = rw e (one-le-pow (7 - k) 10 (omega arith)) in
    let up : n + 1 ≤ 10 ^ k = omega arith in
    let same : p ≤ p = omega arith in
    let more : (n + 1) * p ≤ 10 ^ k * p = mul-le-mul up same in
    omega (arith, more, scaled, some)
