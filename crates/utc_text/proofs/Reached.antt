-- How far a text stands by the grammar, and the first field that does not.
use Rattle.std.proofs.Common.{◌≡◌, ℕ, false, cond, nat_eq, List, [], ◌∷◌, ◌++◌, length, Option, Some, None, Result, Ok, Err, refl, sym, ap, subst, ◌∙◌, arith}
use Rattle.std.proofs.lemmas.Bool.{ne_eqb}
use Rattle.utc_text.specs.declared.fault.TextField.{TextField}
use Rattle.utc_text.specs.declared.fault.TextField.TheVariants.{Hour, Minute, Second, Fraction, Tail}
use Rattle.utc_text.specs.declared.fault.TextFault.{TextFault}
use Rattle.utc_text.specs.Fields.{part_at, fraction_at}
use Rattle.utc_text.specs.Reading.{Clock, right_at}
use Rattle.utc_text.specs.FirstWrong.{fault_at, IsFirstWrong}
use Rattle.utc_text.specs.Grammar.{Stand}
use Rattle.utc_text.specs.Reading as reading

abbrev pub Stands : Type 0 → Type 1
Stands F = TextField → F → List ℕ → List ℕ → Type 0

pub split : {F : Type 0} (stands : Stands F) (front back : List TextField) (f : F) (here rest : List ℕ)
    → Stand stands (front ++ back) f here rest
    → (middle : List ℕ) × Stand stands front f here middle × Stand stands back f middle rest
split stands [] back f here rest s = (here, refl, s)
split stands (field ∷ front) back f here rest s =
    let p = split stands front back f s.0 rest s.2 in
    (p.0, (s.0, s.1, p.1), p.2)

pub joined : {F : Type 0} (stands : Stands F) (front back : List TextField) (f : F) (here middle rest : List ℕ)
    → Stand stands front f here middle → Stand stands back f middle rest → Stand stands (front ++ back) f here rest
joined stands [] back f here middle rest s t = subst (λ (x : List ℕ). Stand stands back f x rest) (sym s) t
joined stands (field ∷ front) back f here middle rest s t = (s.0, s.1, joined stands front back f s.0 middle rest s.2 t)

-- one more field
pub extended : {F : Type 0} (stands : Stands F) (front : List TextField) (field : TextField) (f : F) (here middle rest : List ℕ)
    → Stand stands front f here middle → stands field f middle rest → Stand stands (front ++ field ∷ []) f here rest
extended stands front field f here middle rest s t = joined stands front (field ∷ []) f here middle rest s (rest, t, refl)

-- The fields of `front` stand in the text. In whatever way they do, they leave `left` of it, and `agrees` holds of their values.
pub record Reached {F : Type 0} (stands : Stands F) (front : List TextField) (text left : List ℕ) (agrees : F → Type 0) : Type 0 where
  pub fields : F
  pub before : Stand stands front fields text left
  pub same : (other : F) (rest : List ℕ) → Stand stands front other text rest → (rest ≡ left) × agrees other

-- where the next field stands, that is what is read of it
abbrev pub Reads : {F V : Type 0} → Stands F → TextField → List ℕ → (F → Type 0) → (F → V) → Option (V × List ℕ) → Type 0
Reads {F} stands field left agrees said o =
    (other : F) (rest : List ℕ) → agrees other → stands field other left rest → o ≡ Some (said other, rest)

abbrev refused : {A : Type 0} → TextFault → Result A TextFault
refused x = Err x

abbrev both_in : {A B : Type 0} → A → B → Option (A × B)
both_in x r = Some (x, r)

both_same : {A B : Type 0} (x y : A) (r s : B) → both_in x r ≡ both_in y s → (x ≡ y) × (r ≡ s)
both_same {A} {B} x y r s e =
    let pair : (x, r) ≡ (y, s) = cc in
    (ap (λ (p : A × B). p.0) pair, ap (λ (p : A × B). p.1) pair)

pub err_is : {A : Type 0} {x y : TextFault} → refused {A = A} x ≡ refused y → x ≡ y
err_is e = cc

-- what is left behind the last field
pub tail_left : (text : List ℕ) (said : Option ℕ) (left : List ℕ) (d : TextFault)
    → cond (nat_eq (length left) 0) (Ok said) (Err (fault_at text Tail left)) ≡ Err d
    → (left ≡ [] → ⊥) × (d ≡ fault_at text Tail left)
tail_left text said [] d e = absurd cc
tail_left text said (octet ∷ left) d e =
    let more : nat_eq (length (octet ∷ left)) 0 ≡ false = ne_eqb (length (octet ∷ left)) 0 (λ n. omega arith) in
    (λ n. absurd cc, sym (err_is (rw more at e)))

none_is : {A : Type 0} (o : Option A) (x : A) → o ≡ None → o ≡ Some x → ⊥
none_is o x none some = cc

next_read : {F V : Type 0} (stands : Stands F) (front : List TextField) (field : TextField) (text left : List ℕ) (agrees : F → Type 0) (said : F → V) (o : Option (V × List ℕ))
    → Reached stands front text left agrees → Reads stands field left agrees said o → (other : F) (rest : List ℕ)
    → Stand stands (front ++ field ∷ []) other text rest → agrees other × (o ≡ Some (said other, rest))
next_read {F} {V} stands front field text left agrees said o r reads other rest s =
    let p = split stands front (field ∷ []) other text rest s in
    let q = r.same other p.0 p.1 in
    let here : stands field other left rest =
    subst (λ (x : List ℕ). stands field other left x) p.2.2 (subst (λ (x : List ℕ). stands field other x p.2.0) q.0 p.2.1) in
    (q.1, reads other rest q.1 here)

-- a field that is not read does not stand
pub stuck : {F V : Type 0} (stands : Stands F) (front : List TextField) (field : TextField) (text left : List ℕ) (agrees : F → Type 0) (said : F → V) (o : Option (V × List ℕ))
    → Reached stands front text left agrees → Reads stands field left agrees said o → o ≡ None → (other : F) (rest : List ℕ)
    → Stand stands (front ++ field ∷ []) other text rest → ⊥
stuck stands front field text left agrees said o r reads none other rest s =
    none_is o (said other, rest) none (next_read stands front field text left agrees said o r reads other rest s).1

-- one that is read does, with these values of the fields
pub further : {F V : Type 0} {stands : Stands F} {front : List TextField} {text left : List ℕ} {agrees more : F → Type 0} {o : Option (V × List ℕ)} {x : V × List ℕ} (field : TextField) (said : F → V)
    → Reached stands front text left agrees → Reads stands field left agrees said o → o ≡ Some x
    → ((f : F) → agrees f → said f ≡ x.0 → more f) → (fields : F) → Stand stands front fields text left
    → stands field fields left x.1 → Reached stands (front ++ field ∷ []) text x.1 more
further {stands =
    stands} {front = front} {text = text} {left = left} {agrees = agrees} {o = o} {x = x} field said r reads some adds fields before here = record {
      fields = fields;
      before = extended stands front field fields text left x.1 before here;
      same = λ other rest s.
          let p = next_read stands front field text left agrees said o r reads other rest s in
          let e = both_same (said other) x.0 rest x.1 (sym p.1 ∙ some) in
          (e.1, adds other p.0 e.0);
    }

-- A fault that names the first wrong field. In whatever way the fields before it stand, they leave the same.
pub record Names {F : Type 0} (stands : Stands F) (order : List TextField) (text : List ℕ) (fault : TextFault) : Type 0 where
  pub left : List ℕ
  pub wrong : IsFirstWrong stands order text fault.field left
  pub same : (other : F) (rest : List ℕ) → Stand stands wrong.front other text rest → rest ≡ left
  pub is : fault ≡ fault_at text fault.field left

-- the field that is not read behind those that stand
pub unread : {F V : Type 0} {stands : Stands F} {front : List TextField} {text left : List ℕ} {agrees : F → Type 0} {o : Option (V × List ℕ)} {order : List TextField} {fault : TextFault} (field : TextField) (back : List TextField) (said : F → V)
    → Reached stands front text left agrees → Reads stands field left agrees said o → o ≡ None → order ≡ front ++ field ∷ back
    → fault ≡ fault_at text field left → Names stands order text fault
unfolding fault_at
unread {stands =
    stands} {front = front} {text = text} {left = left} {agrees = agrees} {o = o} {order = order} {fault = fault} field back said r reads none at is =
    let wrong : IsFirstWrong stands order text field left =
    record {
      front = front;
      back = back;
      order_is = at;
      fields = r.fields;
      before = r.before;
      wrong = stuck stands front field text left agrees said o r reads none;
    } in
    let its : Names stands order text (fault_at text field left) =
    record { left = left; wrong = wrong; same = λ other rest s. (r.same other rest s).0; is = refl } in
    subst (λ (x : TextFault). Names stands order text x) (sym is) its

-- what is made of a value that was read is no fault
pub err_kept : {A B : Type 0} (r : Result A TextFault) (f : A → B) (d : TextFault) → reading.◌>>=◌ r (λ x. Ok (f x)) ≡ Err d
    → r ≡ Err d
err_kept (Ok x) f d e = absurd cc
err_kept (Err x) f d e = ap (λ (y : TextFault). Err y) (err_is e)

pub err_regrouped : {A B C : Type 0} (r : Result A TextFault) (f : A → Result B TextFault) (g : B → Result C TextFault) (d : TextFault)
    → reading.◌>>=◌ (reading.◌>>=◌ r f) g ≡ Err d → reading.◌>>=◌ r (λ x. reading.◌>>=◌ (f x) g) ≡ Err d
err_regrouped (Ok x) f g d e = e
err_regrouped (Err x) f g d e = e

-- ---- the time of day, read from each of its fields on

abbrev pub units_read : List ℕ → ℕ → ℕ → ℕ → List ℕ → Option (ℕ × List ℕ) → Result (Clock × List ℕ) TextFault
units_read text hour minute second left o = reading.◌>>=◌ (right_at text Fraction left o) (λ units. Ok (
  record {
    hour = hour;
    minute = minute;
    second = second;
    units = units.0;
  },
  units.1,
))

abbrev pub second_read : List ℕ → ℕ → ℕ → List ℕ → Option (ℕ × List ℕ) → Result (Clock × List ℕ) TextFault
second_read text hour minute left o =
    reading.◌>>=◌ (right_at text Second left o) (λ second. units_read text hour minute second.0 second.1 (fraction_at second.1))

abbrev pub minute_read : List ℕ → ℕ → List ℕ → Option (ℕ × List ℕ) → Result (Clock × List ℕ) TextFault
minute_read text hour left o =
    reading.◌>>=◌ (right_at text Minute left o) (λ minute. second_read text hour minute.0 minute.1 (part_at 58 0 59 minute.1))

abbrev pub hour_read : List ℕ → List ℕ → Option (ℕ × List ℕ) → Result (Clock × List ℕ) TextFault
hour_read text left o = reading.◌>>=◌ (right_at text Hour left o) (λ hour. minute_read text hour.0 hour.1 (part_at 58 0 59 hour.1))
