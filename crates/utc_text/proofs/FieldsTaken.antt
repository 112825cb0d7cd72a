-- What is read of single fields is spelled by the grammar.
use Rattle.std.proofs.Common.{◌≡◌, ℕ, ◌+◌, ◌-◌, ◌*◌, ◌/◌, ◌%◌, ◌<◌, ◌≤◌, Bool, true, false, cond, nat_eq, nat_le, List, [], ◌∷◌, ◌++◌, length, take, drop, Option, Some, None, refl, sym, ap, subst, ◌∙◌, arith}
use Rattle.std.proofs.lemmas.Bool.{leb-true, eqb-true, and_parts}
use Rattle.std.proofs.lemmas.Bool.Decides.{nat_tests}
use Rattle.std.proofs.lemmas.List.{take-append-drop}
use Rattle.std.proofs.lemmas.List.Folds.{length-prefix_len}
use Rattle.std.specs.Int.{IsInRange}
use Rattle.std.specs.List.{prefix_len}
use Rattle.std.specs.Char.{is_ascii_digit}
use Rattle.std.specs.Str.Parse.{AllDigits}
use Rattle.utc_text.specs.Fields.{behind, two_digits, part_at, year_at, digits_at, fraction_at, tdf_hour_at, seconds_at, stated_at, inaccuracy_at, days_at}
use Rattle.utc_text.specs.Grammar.{units_of, digits, fraction_text, IsFraction, fraction_units, BeginsNot, EndsFraction}
use Rattle.utc_text.specs.Fields as fields
use Rattle.utc_text.proofs.DigitLemmas.{AllDigits-run, run_ends}
use Rattle.utc_text.proofs.Steps.{guard_some, bind_some, some_first, some_second}
use Rattle.utc_text.proofs.Regrouped.{cons_spelled}

-- the octets of digits
digit_range : (c : ℕ) → is_ascii_digit c ≡ true → (48 ≤ c) × (c ≤ 57)
digit_range c h = grind (arith, nat_tests)

-- two octets that write a number are its digits
digit_parts : (a b n : ℕ) → 48 ≤ a → a ≤ 57 → 48 ≤ b → b ≤ 57 → (a - 48) * 10 + (b - 48) ≡ n
    → (a ≡ 48 + n / 10 % 10) × (b ≡ 48 + n % 10) × (n < 100)
digit_parts a b n h k l m e = (omega arith, omega arith, omega arith)

-- two digits that are read are those of their number
pub two_digits_takes : (bs : List ℕ) (n : ℕ) (rest : List ℕ) → two_digits bs ≡ Some (n, rest)
    → (bs ≡ digits 2 n ++ rest) × (n < 100)
unfolding two_digits digits
two_digits_takes [] n rest e = absurd cc
two_digits_takes (a ∷ []) n rest e = absurd cc
two_digits_takes (a ∷ b ∷ left) n rest e =
    let g = guard_some _ _ _ e in
    let both = and_parts (is_ascii_digit a) (is_ascii_digit b) g.0 in
    let tens = digit_range a both.0 in
    let ones = digit_range b both.1 in
    let value : (a - 48) * 10 + (b - 48) ≡ n = ap (λ (p : ℕ × List ℕ). p.0) g.1 in
    let same : left ≡ rest = ap (λ (p : ℕ × List ℕ). p.1) g.1 in
    let parts = digit_parts a b n tens.0 tens.1 ones.0 ones.1 value in
    let spelled : a ∷ b ∷ left ≡ (48 + n / 10 % 10) ∷ (48 + n % 10) ∷ rest = cc in
    (spelled, parts.2)

-- an octet that is passed over stood there
behind_takes : (octet : ℕ) (bs rest : List ℕ) → behind octet bs ≡ Some rest → bs ≡ octet ∷ rest
unfolding behind
behind_takes octet [] rest e = absurd cc
behind_takes octet (b ∷ left) rest e =
    let g = guard_some _ _ _ e in
    let same : b ≡ octet = eqb-true b octet g.0 in
    let after = g.1 in
    cc

-- a separator and two digits
pub part_takes : (separator low high : ℕ) (bs : List ℕ) (n : ℕ) (rest : List ℕ) → part_at separator low high bs ≡ Some (n, rest)
    → (bs ≡ separator ∷ digits 2 n ++ rest) × (low ≤ n) × (n ≤ high)
unfolding part_at
part_takes separator low high bs n rest e =
    let a = bind_some _ _ (n, rest) e in
    let b = bind_some _ _ (n, rest) a.2 in
    let g = guard_some _ _ _ b.2 in
    let tests = and_parts (nat_le low b.0.0) (nat_le b.0.0 high) g.0 in
    let number : two_digits a.0 ≡ Some (n, rest) = b.1 ∙ ap (λ (p : ℕ × List ℕ). Some p) g.1 in
    let taken = two_digits_takes a.0 n rest number in
    let value : b.0.0 ≡ n = ap (λ (p : ℕ × List ℕ). p.0) g.1 in
    (behind_takes separator bs a.0 a.1 ∙ ap (λ (x : List ℕ). separator ∷ x) taken.0, rw value at (leb-true low b.0.0 tests.0), rw value at (leb-true b.0.0 high tests.1))

-- four digits that write a year are its own
year_parts : (c y n : ℕ) → c < 100 → y < 100 → c * 100 + y ≡ n
    → (c / 10 % 10 ≡ n / 10 / 10 / 10 % 10) × (c % 10 ≡ n / 10 / 10 % 10) × (y / 10 % 10 ≡ n / 10 % 10) × (y % 10 ≡ n % 10)
year_parts c y n h k e = (omega arith, omega arith, omega arith, omega arith)

-- a year
pub year_takes : (bs : List ℕ) (n : ℕ) (rest : List ℕ) → year_at bs ≡ Some (n, rest)
    → (bs ≡ digits 4 n ++ rest) × IsInRange 1582 9999 n
unfolding year_at digits
year_takes bs n rest e =
    let a =
    bind_some (two_digits bs) (λ century. fields.◌>>=◌ (two_digits century.1) (λ left. cond (nat_le 1582 (century.0 * 100 + left.0)) (Some (century.0 * 100 + left.0, left.1)) None)) (n, rest) e in
    let b =
    bind_some (two_digits a.0.1) (λ left. cond (nat_le 1582 (a.0.0 * 100 + left.0)) (Some (a.0.0 * 100 + left.0, left.1)) None) (n, rest) a.2 in
    let g = guard_some (nat_le 1582 (a.0.0 * 100 + b.0.0)) (a.0.0 * 100 + b.0.0, b.0.1) (n, rest) b.2 in
    let value : a.0.0 * 100 + b.0.0 ≡ n = ap (λ (p : ℕ × List ℕ). p.0) g.1 in
    let same : b.0.1 ≡ rest = ap (λ (p : ℕ × List ℕ). p.1) g.1 in
    let high = two_digits_takes bs a.0.0 a.0.1 a.1 in
    let low = two_digits_takes a.0.1 b.0.0 b.0.1 b.1 in
    let parts = year_parts a.0.0 b.0.0 n high.1 low.1 value in
    let spelled : digits 2 a.0.0 ++ (digits 2 b.0.0 ++ b.0.1) ≡ digits 4 n ++ rest = rw (parts.0, parts.1, parts.2, parts.3, same) refl in
    (high.0 ∙ ap (λ (x : List ℕ). digits 2 a.0.0 ++ x) low.0 ∙ spelled, (omega (arith, leb-true 1582 (a.0.0 * 100 + b.0.0) g.0, value), omega (arith, high.1, low.1, value)))

-- a run of digits, with no digit behind it
pub digits_takes : (most : ℕ) (bs ds rest : List ℕ) → digits_at most bs ≡ Some (ds, rest)
    → (bs ≡ ds ++ rest) × AllDigits 10 ds × (length ds ≤ most) × BeginsNot is_ascii_digit rest
unfolding digits_at
digits_takes most bs ds rest e =
    let n = prefix_len is_ascii_digit bs in
    let g = guard_some _ _ _ e in
    let front : take n bs ≡ ds = ap (λ (p : List ℕ × List ℕ). p.0) g.1 in
    let back : drop n bs ≡ rest = ap (λ (p : List ℕ × List ℕ). p.1) g.1 in
    let few : n ≤ most = leb-true n most g.0 in
    let all = AllDigits-run bs in
    let len = length-prefix_len is_ascii_digit bs in
    let whole : take n bs ++ drop n bs ≡ bs = take-append-drop n bs in
    let spelled : bs ≡ ds ++ rest = rw (← front, ← back) (sym whole) in
    (spelled, rw front at all, rw (← front) (omega (arith, len)), subst (λ (x : List ℕ). BeginsNot is_ascii_digit x) back (run_ends bs))

-- the text of a field, and what it says
pub record FractionTaken (bs : List ℕ) (units : ℕ) (rest : List ℕ) : Type 0 where
  pub fraction : Option (List ℕ)
  pub right : IsFraction fraction
  pub ends : EndsFraction fraction rest
  pub spelled : bs ≡ fraction_text fraction ++ rest
  pub said : units ≡ fraction_units fraction

-- a fraction behind its first octet
fraction_there : (first : ℕ) (left : List ℕ) (test : Bool) (u : ℕ) (rest : List ℕ) → nat_eq first 46 ≡ test
    → cond test (fields.◌>>=◌ {B = ℕ × List ℕ} (digits_at 7 left) (λ ds. Some (units_of ds.0, ds.1))) (Some (0, first ∷ left)) ≡ Some (u, rest)
    → FractionTaken (first ∷ left) u rest
fraction_there first left true u rest t e =
    let a = bind_some _ _ (u, rest) e in
    let taken = digits_takes 7 left a.0.0 a.0.1 a.1 in
    let made : Option (ℕ × List ℕ) = Some (units_of a.0.0, a.0.1) in
    let same : a.0.1 ≡ rest = some_second _ _ _ _ a.2 in
    let value : units_of a.0.0 ≡ u = some_first _ _ _ _ a.2 in
    let point : first ≡ 46 = eqb-true first 46 t in
    record {
      fraction = Some a.0.0;
      right = (taken.1, taken.2);
      ends = subst (λ (x : List ℕ). BeginsNot is_ascii_digit x) same taken.3;
      spelled = cons_spelled first 46 left a.0.0 a.0.1 rest point taken.0 same;
      said = sym value;
    }
fraction_there first left false u rest t e =
    let same : first ∷ left ≡ rest = some_second _ _ _ _ e in
    let value : 0 ≡ u = some_first _ _ _ _ e in
    record { fraction = None; right = tt; ends = subst (λ (x : List ℕ). EndsFraction None x) same t; spelled = same; said = sym value }

-- a fraction
pub fraction_takes : (bs : List ℕ) (u : ℕ) (rest : List ℕ) → fraction_at bs ≡ Some (u, rest) → FractionTaken bs u rest
unfolding fraction_at
fraction_takes [] u rest e =
    let same : [] ≡ rest = some_second _ _ _ _ e in
    let value : 0 ≡ u = some_first _ _ _ _ e in
    record { fraction = None; right = tt; ends = subst (λ (x : List ℕ). EndsFraction None x) same tt; spelled = same; said = sym value }
fraction_takes (first ∷ left) u rest e = fraction_there first left (nat_eq first 46) u rest refl e
