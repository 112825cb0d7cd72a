-- What is read of an inaccuracy is spelled by the grammar.
use Rattle.std.proofs.Common.{◌≡◌, ℕ, ◌+◌, ◌-◌, ◌*◌, ◌^◌, ◌≤◌, Bool, true, false, cond, nat_eq, nat_le, List, [], ◌∷◌, ◌++◌, length, take, drop, Option, Some, None, Ok, Err, refl, sym, ap, subst, ◌∙◌}
use Rattle.std.proofs.lemmas.Bool.{leb-true, eqb-true, and_parts}
use Rattle.std.proofs.lemmas.List.{append-nil, take-append-drop, nil_from_length}
use Rattle.std.specs.List.{starts_with}
use Rattle.std.specs.Char.{is_ascii_digit}
use Rattle.std.specs.Prelude.{codes}
use Rattle.std.specs.Cmp.Lexicographic.{bytes_decides, pointwise}
use Rattle.std.specs.Str.Parse.{digits_value}
use Rattle.utc_text.specs.declared.fault.TextFault.{TextFault}
use Rattle.utc_text.specs.Fields.{seconds_at, stated_at, inaccuracy_at}
use Rattle.utc_text.specs.Grammar.{InaccuracyField, Unstated, Dashes, Infinite, Seconds, inaccuracy_text, seconds_units, IsInaccuracyField, inaccuracy_said, BeginsNot, EndsInaccuracy}
use Rattle.utc_text.specs.Reading.{end_of}
use Rattle.utc_text.proofs.Steps.{guard_some, bind_some, ok_is, some_first, some_second, right_ok, bind_ok}
use Rattle.utc_text.proofs.Regrouped.{seconds_spelled}
use Rattle.utc_text.proofs.FieldsTaken.{digits_takes, fraction_takes}

-- an inaccuracy that was read: the field that spells it
pub record InaccuracyTaken (left : List ℕ) (inaccuracy : Option ℕ) (rest : List ℕ) : Type 0 where
  pub field : InaccuracyField
  pub right : IsInaccuracyField field
  pub ends : EndsInaccuracy field rest
  pub spelled : left ≡ inaccuracy_text field ++ rest
  pub said : inaccuracy ≡ inaccuracy_said field

-- seconds behind the letter
seconds_taken : (first : ℕ) (left : List ℕ) (v : Option ℕ) (rest : List ℕ) → first ≡ 73 → seconds_at left ≡ Some (v, rest)
    → InaccuracyTaken (first ∷ left) v rest
unfolding seconds_at
seconds_taken first left v rest letter e =
    let a = bind_some _ _ (v, rest) e in
    let b = bind_some _ _ (v, rest) a.2 in
    let g = guard_some _ _ _ b.2 in
    let tests = and_parts (nat_le 1 (length a.0.0)) (nat_le (digits_value 10 a.0.0 * 10_000_000 + b.0.0) (2 ^ 48 - 2)) g.0 in
    let whole = digits_takes 9 left a.0.0 a.0.1 a.1 in
    let part = fraction_takes a.0.1 b.0.0 b.0.1 b.1 in
    let value : Some (digits_value 10 a.0.0 * 10_000_000 + b.0.0) ≡ v = ap (λ (p : Option ℕ × List ℕ). p.0) g.1 in
    let same : b.0.1 ≡ rest = ap (λ (p : Option ℕ × List ℕ). p.1) g.1 in
    let field : InaccuracyField = Seconds a.0.0 part.fraction in
    let most : seconds_units a.0.0 part.fraction ≤ 2 ^ 48 - 2 =
    rw part.said at (leb-true (digits_value 10 a.0.0 * 10_000_000 + b.0.0) (2 ^ 48 - 2) tests.1) in
    record {
      field = field;
      right = (whole.1, leb-true 1 (length a.0.0) tests.0, whole.2, part.right, most);
      ends = subst (λ (x : List ℕ). EndsInaccuracy field x) same (subst (λ (x : List ℕ). BeginsNot is_ascii_digit x) part.spelled whole.3, part.ends);
      spelled = seconds_spelled first left a.0.0 a.0.1 b.0.1 rest part.fraction letter whole.0 part.spelled same;
      said = sym value ∙ ap (λ (n : ℕ). Some (digits_value 10 a.0.0 * 10_000_000 + n)) part.said;
    }

-- octets that a text begins with stand at its front
front_is : (needle left : List ℕ) (n : ℕ) → pointwise nat_eq needle (take n left) ≡ true → left ≡ needle ++ drop n left
front_is needle left n e =
    let same : needle ≡ take n left = (bytes_decides needle (take n left)).0 e in
    sym (take-append-drop n left) ∙ ap (λ (x : List ℕ). x ++ drop n left) (sym same)

-- what stands behind the letter, by what it begins with
stated_tested : (first : ℕ) (left : List ℕ) (dashes letters : Bool) (v : Option ℕ) (rest : List ℕ) → first ≡ 73
    → starts_with nat_eq left (codes "-----") ≡ dashes → starts_with nat_eq left (codes "inf") ≡ letters
    → cond dashes (Some (None, drop 5 left)) (cond letters (Some (None, drop 3 left)) (seconds_at left)) ≡ Some (v, rest)
    → InaccuracyTaken (first ∷ left) v rest
stated_tested first left true letters v rest letter d l e =
    let same : drop 5 left ≡ rest = some_second _ _ _ _ e in
    let value : None ≡ v = some_first _ _ _ _ e in
    record {
      field = Dashes;
      right = tt;
      ends = tt;
      spelled = rw letter (ap (λ (x : List ℕ). 73 ∷ x) (front_is (codes "-----") left 5 d ∙ ap (λ (x : List ℕ). codes "-----" ++ x) same));
      said = sym value;
    }
stated_tested first left false true v rest letter d l e =
    let same : drop 3 left ≡ rest = some_second _ _ _ _ e in
    let value : None ≡ v = some_first _ _ _ _ e in
    record {
      field = Infinite;
      right = tt;
      ends = tt;
      spelled = rw letter (ap (λ (x : List ℕ). 73 ∷ x) (front_is (codes "inf") left 3 l ∙ ap (λ (x : List ℕ). codes "inf" ++ x) same));
      said = sym value;
    }
stated_tested first left false false v rest letter d l e = seconds_taken first left v rest letter e

-- what stands behind the letter
stated_takes : (first : ℕ) (left : List ℕ) (v : Option ℕ) (rest : List ℕ) → first ≡ 73 → stated_at left ≡ Some (v, rest)
    → InaccuracyTaken (first ∷ left) v rest
unfolding stated_at
stated_takes first left v rest letter e =
    stated_tested first left (starts_with nat_eq left (codes "-----")) (starts_with nat_eq left (codes "inf")) v rest letter refl refl e

-- an inaccuracy behind its first octet
inaccuracy_tested : (first : ℕ) (left : List ℕ) (test : Bool) (v : Option ℕ) (rest : List ℕ) → nat_eq first 73 ≡ test
    → cond test (stated_at left) (Some (None, first ∷ left)) ≡ Some (v, rest) → InaccuracyTaken (first ∷ left) v rest
inaccuracy_tested first left true v rest t e = stated_takes first left v rest (eqb-true first 73 t) e
inaccuracy_tested first left false v rest t e =
    let same : first ∷ left ≡ rest = some_second _ _ _ _ e in
    let value : None ≡ v = some_first _ _ _ _ e in
    record {
      field = Unstated;
      right = tt;
      ends = subst (λ (x : List ℕ). EndsInaccuracy Unstated x) same t;
      spelled = same;
      said = sym value;
    }

-- an inaccuracy
pub inaccuracy_takes : (left : List ℕ) (v : Option ℕ) (rest : List ℕ) → inaccuracy_at left ≡ Some (v, rest)
    → InaccuracyTaken left v rest
unfolding inaccuracy_at
inaccuracy_takes [] v rest e =
    let same : [] ≡ rest = some_second _ _ _ _ e in
    let value : None ≡ v = some_first _ _ _ _ e in
    record {
      field = Unstated;
      right = tt;
      ends = subst (λ (x : List ℕ). EndsInaccuracy Unstated x) same tt;
      spelled = same;
      said = sym value;
    }
inaccuracy_takes (first ∷ left) v rest e = inaccuracy_tested first left (nat_eq first 73) v rest refl e

-- a guarded result that succeeded passed its test
guard_ended : {A : Type 0} (b : Bool) (d : TextFault) (x y : A) → cond b (Ok x) (Err d) ≡ Ok y → (b ≡ true) × (x ≡ y)
guard_ended true d x y e = (refl, ok_is _ _ e)
guard_ended false d x y e = absurd cc

-- the end of a text that was read: the field that spells it
pub record EndTaken (left : List ℕ) (inaccuracy : Option ℕ) : Type 0 where
  pub field : InaccuracyField
  pub right : IsInaccuracyField field
  pub spelled : left ≡ inaccuracy_text field
  pub said : inaccuracy ≡ inaccuracy_said field

-- an inaccuracy that ends a text
pub end_takes : (text left : List ℕ) (v : Option ℕ) → end_of text left ≡ Ok v → EndTaken left v
unfolding end_of
end_takes text left v e =
    let a = bind_ok _ _ v e in
    let g = guard_ended _ _ _ _ a.2 in
    let taken = inaccuracy_takes left a.0.0 a.0.1 (right_ok _ _ _ _ _ a.1) in
    let nothing : a.0.1 ≡ [] = nil_from_length a.0.1 (eqb-true (length a.0.1) 0 g.0) in
    record {
      field = taken.field;
      right = taken.right;
      spelled = taken.spelled ∙ ap (λ (x : List ℕ). inaccuracy_text taken.field ++ x) nothing ∙ append-nil (inaccuracy_text taken.field);
      said = sym g.1 ∙ taken.said;
    }
