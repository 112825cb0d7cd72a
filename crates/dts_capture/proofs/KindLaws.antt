-- A field has one value at most, is not both right and wrong, and is wrong in one way.
use Rattle.std.proofs.Common.{◌≡◌, inl, inr, ℕ, ◌<◌, ℤ, pos, List, [], ◌∷◌, length, Bool, Some, None, Result, Ok, sym, ap, ◌∙◌, subst, arith}
use Rattle.std.specs.Prelude.{◌≤ℤ◌, codes}
use Rattle.std.specs.Int.{from_be_bytes, w64}
use Rattle.std.proofs.Props.{props}
use Rattle.std.proofs.lemmas.Int.{ints}
use Rattle.line_reader.specs.declared.number.NumberFault.TheVariants as fault
use Rattle.line_reader.proofs.Decimals.{one_number, no_number, one_fault}
use Rattle.hex.specs.Hex.{decode_of, decode_sized, decode_pairs}
use Rattle.dts_base.specs.declared.interval.Interval.{Interval}
use Rattle.dts_capture.specs.declared.line.LineCause.{LineCause}
use Rattle.dts_capture.specs.Kinds.{greatest_record, greatest_count, Kind, Natural, RecordNumber, Count, NotBelow, Word, Octets, value_of, IsNumber, Reads, WrongNumber, WrongText, Wrong}

order_prop : (a b : ℤ) (p q : a ≤ℤ b) → p ≡ q
order_prop a b = let only : IsProp (a ≤ℤ b) = hlevel props in only

-- intervals with the same ends are one
pub same_interval : (i j : Interval) → i.lo ≡ j.lo → i.hi ≡ j.hi → i ≡ j
same_interval i j low high =
    let AtLow : ℤ → Type 0 = λ x. (o : x ≤ℤ i.hi) → i ≡ record { lo = x; hi = i.hi; ordered = o } in
    let at_low : AtLow j.lo = subst AtLow low (λ o. ap (λ (w : i.lo ≤ℤ i.hi). record { lo = i.lo; hi = i.hi; ordered = w }) (order_prop i.lo i.hi i.ordered o)) in
    let AtHigh : ℤ → Type 0 = λ x. (o : j.lo ≤ℤ x) → i ≡ record { lo = j.lo; hi = x; ordered = o } in
    subst AtHigh high at_low j.ordered

pub same_number : (from to from' to' : ℕ) (field : List ℕ) (m n : ℕ) → IsNumber from to field m → IsNumber from' to' field n → m ≡ n
same_number from to from' to' field m n h k = let same = one_number field (pos m) (pos n) h.0 k.0 in cc

-- one dash is the hex text of no octets
dash_is_no_hex : (b : List ℕ) → decode_of (codes "-") ≡ Ok b → ⊥
dash_is_no_hex b h = cc

ok_one : {E : Type 0} (b c : List ℕ) (r : Result (List ℕ) E) → r ≡ Ok b → r ≡ Ok c → b ≡ c
ok_one b c r h k = cc

one_octets : (e : Bool) (field b c : List ℕ) → Reads (Octets e) field b → Reads (Octets e) field c → b ≡ c
one_octets e field b c (inl h) (inl k) = h.2 ∙ sym k.2
one_octets e field b c (inl h) (inr k) = absurd (dash_is_no_hex c (ap decode_of (sym h.1) ∙ k.1))
one_octets e field b c (inr h) (inl k) = absurd (dash_is_no_hex b (ap decode_of (sym k.1) ∙ h.1))
one_octets e field b c (inr h) (inr k) = ok_one b c (decode_of field) h.1 k.1

-- a field has one value at most
pub reads_unique : (kind : Kind) (field : List ℕ) (v w : value_of kind) → Reads kind field v → Reads kind field w → v ≡ w
reads_unique (Natural from to) field v w h k = same_number from to from to field v w h k
reads_unique (RecordNumber expected) field v w h k = same_number 0 greatest_record 0 greatest_record field v w h.0 k.0
reads_unique Count field v w (m, h, e) (n, k, f) = e ∙ ap pos (same_number 0 greatest_count 0 greatest_count field m n h k) ∙ sym f
reads_unique (NotBelow lo) field i j (m, h, e, f) (n, k, e', f') =
    same_interval i j (e ∙ sym e') (f ∙ ap pos (same_number 0 greatest_count 0 greatest_count field m n h k) ∙ sym f')
reads_unique Word field v w (a, h, e) (b, k, f) = e ∙ ap (from_be_bytes w64) (ok_one a b (decode_sized field 8) h k) ∙ sym f
reads_unique (Octets may_be_empty) field b c h k = one_octets may_be_empty field b c h k

-- a number that is right is not wrong
right_number : (from to : ℕ) (field : List ℕ) (n : ℕ) (why : LineCause) → IsNumber from to field n → WrongNumber from to field why → ⊥
right_number from to field n why h (inl w) = no_number field (pos from) (pos to) (pos n) fault.Form w.1 h.0 h.1
right_number from to field n why h (inr w) = no_number field (pos from) (pos to) (pos n) fault.Range w.1 h.0 h.1

-- no octets in hex are none
empty_hex : (b : List ℕ) → (0 < length b) × (decode_of [] ≡ Ok b) → ⊥
unfolding decode_pairs
empty_hex [] h = absurd (omega (arith, h.0))
empty_hex (octet ∷ octets) h = let e = h.1 in cc

-- an empty field is the text of no value
not_empty : (kind : Kind) (v : value_of kind) → Reads kind [] v → ⊥
not_empty (Natural from to) v h = absurd (omega (arith, h.0.some))
not_empty (RecordNumber expected) v h = absurd (omega (arith, h.0.0.some))
not_empty Count v (n, h, e) = absurd (omega (arith, h.0.some))
not_empty (NotBelow lo) v (n, h, e, f) = absurd (omega (arith, h.0.some))
not_empty Word v (octets, h, e) = cc
not_empty (Octets may_be_empty) v (inl h) = let e = h.1 in cc
not_empty (Octets may_be_empty) v (inr h) = empty_hex v h

some_one : (e k : ℕ) → Some e ≡ Some k → e ≡ k
some_one e k h = cc

right_text : (kind : Kind) (field : List ℕ) (v : value_of kind) (why : LineCause) → Reads kind field v → WrongText kind field why → ⊥
right_text (Natural from to) field v why h w = right_number from to field v why h w
right_text (RecordNumber expected) field v why h (inl w) = right_number 0 greatest_record field v why h.0 w
right_text (RecordNumber None) field v why h (inr (is, (n, k, number, some, other))) = cc
right_text (RecordNumber (Some e)) field v why h (inr (is, (n, k, number, some, other))) =
    other (same_number 0 greatest_record 0 greatest_record field n v number h.0 ∙ h.1 ∙ some_one e k some)
right_text Count field v why (n, h, e) w = right_number 0 greatest_count field n why h w
right_text (NotBelow lo) field i why (n, h, e, f) (inl w) = right_number 0 greatest_count field n why h w
right_text (NotBelow lo) field i why (n, h, e, f) (inr (is, (m, number, below))) =
    let same = same_number 0 greatest_count 0 greatest_count field m n number h in
    let ordered = i.ordered in
    omega (arith, ints, same, ordered, below, e, f)
right_text Word field v why h w = w.1 v h
right_text (Octets may_be_empty) field v why h w = w.1 v h

-- a field is not both right and wrong
pub right_is_not_wrong : (kind : Kind) (field : List ℕ) (v : value_of kind) (why : LineCause) → Reads kind field v → Wrong kind field why → ⊥
right_is_not_wrong kind [] v why h w = not_empty kind v h
right_is_not_wrong kind (octet ∷ octets) v why h w = right_text kind (octet ∷ octets) v why h w

-- a field is wrong in one way
one_wrong_number : (from to : ℕ) (field : List ℕ) (why other : LineCause) → WrongNumber from to field why → WrongNumber from to field other → why ≡ other
one_wrong_number from to field why other (inl w) (inl v) = w.0 ∙ sym v.0
one_wrong_number from to field why other (inl w) (inr v) = absurd (let same = one_fault field (pos from) (pos to) fault.Form fault.Range w.1 v.1 in cc)
one_wrong_number from to field why other (inr w) (inl v) = absurd (let same = one_fault field (pos from) (pos to) fault.Range fault.Form w.1 v.1 in cc)
one_wrong_number from to field why other (inr w) (inr v) = w.0 ∙ sym v.0

one_wrong_text : (kind : Kind) (field : List ℕ) (why other : LineCause) → WrongText kind field why → WrongText kind field other → why ≡ other
one_wrong_text (Natural from to) field why other w v = one_wrong_number from to field why other w v
one_wrong_text (RecordNumber expected) field why other (inl w) (inl v) = one_wrong_number 0 greatest_record field why other w v
one_wrong_text (RecordNumber expected) field why other (inl w) (inr (is, (n, k, number, some, ne))) = absurd (right_number 0 greatest_record field n why number w)
one_wrong_text (RecordNumber expected) field why other (inr (is, (n, k, number, some, ne))) (inl v) = absurd (right_number 0 greatest_record field n other number v)
one_wrong_text (RecordNumber expected) field why other (inr w) (inr v) = w.0 ∙ sym v.0
one_wrong_text Count field why other w v = one_wrong_number 0 greatest_count field why other w v
one_wrong_text (NotBelow lo) field why other (inl w) (inl v) = one_wrong_number 0 greatest_count field why other w v
one_wrong_text (NotBelow lo) field why other (inl w) (inr (is, (n, number, below))) = absurd (right_number 0 greatest_count field n why number w)
one_wrong_text (NotBelow lo) field why other (inr (is, (n, number, below))) (inl v) = absurd (right_number 0 greatest_count field n other number v)
one_wrong_text (NotBelow lo) field why other (inr w) (inr v) = w.0 ∙ sym v.0
one_wrong_text Word field why other w v = w.0 ∙ sym v.0
one_wrong_text (Octets may_be_empty) field why other w v = w.0 ∙ sym v.0

pub one_wrong : (kind : Kind) (field : List ℕ) (why other : LineCause) → Wrong kind field why → Wrong kind field other → why ≡ other
one_wrong kind [] why other w v = w ∙ sym v
one_wrong kind (octet ∷ octets) why other w v = one_wrong_text kind (octet ∷ octets) why other w v
