-- What was written as a list of fields reads back as that list.
use Rattle.std.proofs.Common.{◌≡◌, ℕ, ◌+◌, ◌-◌, ◌<◌, ◌≤◌, ◌^◌, Bool, true, List, [], ◌∷◌, ◌++◌, length, take, drop, get_or, replicate, Result, Ok, refl, sym, ap, ◌∙◌, append_assoc, arith}
use Rattle.std.specs.Prelude.{◌&&◌, nat_le, min, slice_index}
use Rattle.std.specs.Int.{next_multiple_of}
use Rattle.std.specs.List.{list_all}
use Rattle.std.proofs.lemmas.Bool.{le-leb, leb-true}
use Rattle.std.proofs.lemmas.Bool.Decides.{nat_tests}
use Rattle.std.proofs.lemmas.List.{length-append, length-replicate, append-nil}
use Rattle.std.proofs.Math.Seq.{drop-append_seam, get_or-append_seam}
use Rattle.dts_base.specs.declared.wire.Field.{Field}
use Rattle.dts_base.specs.declared.wire.Field.TheVariants as field
use Rattle.dts_base.specs.declared.wire.Refused.{Refused}
use Rattle.ndr.specs.declared.endian.Endian.{Endian}
use Rattle.ndr.specs.Numbers.{number_octets, number_in, aligned_octets, gap}
use Rattle.ndr.specs.Strings.{is_printed, is_text, is_terminated, string_octets}
use Rattle.ndr.specs.Reading.{Cursor, read_number, read_octets, read_count, read_text, read_string, after, checked, finish}
use Rattle.ndr.specs.Stubs.{Entry, Shape, Value, number, octets, string, a_number, some_octets, place_of, read_shape, read_entry, read_entries, read_stub, value_octets, stub_octets, Fits, AllFit}
use Rattle.ndr.proofs.NumberFacts.{length-number_octets, number_in-number_octets, take-front}

abbrev cursor : Endian → List ℕ → ℕ → Cursor
cursor e stub at = record { endian = e; stub = stub; at = at }

-- octets that stand at a place
reads_octets : (f : Field) (e : Endian) (os front rest stub : List ℕ) (at : ℕ) → at ≡ length front → stub ≡ front ++ (os ++ rest) → read_octets f (length os) (cursor e stub at) ≡ Ok (os, cursor e stub (at + length os))
reads_octets f e os front rest stub at p is =
    let fits : at + length os ≤ length stub = omega (arith, ap length is, length-append front (os ++ rest), length-append os rest) in
    let room : nat_le (at + length os) (length stub) ≡ true = le-leb _ _ fits in
    let found : take (length os) (drop at stub) ≡ os = ap (λ k. take (length os) (drop k stub)) p ∙ ap (λ s. take (length os) (drop (length front) s)) is ∙ ap (take (length os)) (drop-append_seam front (os ++ rest)) ∙ take-front os rest (length os) refl in
    rw (room, found) refl

pub length-aligned_octets : (e : Endian) (size at n : ℕ) → length (aligned_octets e size at n) ≡ gap size at + size
length-aligned_octets e size at n =
    length-append (replicate (gap size at) 0) (number_octets e size n) ∙ ap (λ k. k + length (number_octets e size n)) (length-replicate (gap size at) 0) ∙ ap (λ k. gap size at + k) (length-number_octets e size n)

-- a number behind its gap
reads_number : (f : Field) (e : Endian) (size n : ℕ) (front rest stub : List ℕ) (at : ℕ) → n < 256 ^ size → at ≡ length front → stub ≡ front ++ (aligned_octets e size at n ++ rest) → read_number f size (cursor e stub at) ≡ Ok (n, cursor e stub (at + gap size at + size))
reads_number f e size n front rest stub at h p is =
    let zeros = replicate (gap size at) 0 in
    let digits = number_octets e size n in
    let zeros_are : length zeros ≡ gap size at = length-replicate (gap size at) 0 in
    let fits : at + gap size at + size ≤ length stub = omega (arith, ap length is, length-append front (aligned_octets e size at n ++ rest), length-append (aligned_octets e size at n) rest, length-aligned_octets e size at n) in
    let room : nat_le (at + gap size at + size) (length stub) ≡ true = le-leb _ _ fits in
    let place : at + gap size at ≡ length (front ++ zeros) = omega (arith, length-append front zeros, zeros_are) in
    let regroup : front ++ ((zeros ++ digits) ++ rest) ≡ (front ++ zeros) ++ (digits ++ rest) = ap (λ x. front ++ x) (append_assoc zeros digits rest) ∙ sym (append_assoc front zeros (digits ++ rest)) in
    let behind : drop (at + gap size at) stub ≡ digits ++ rest = ap (λ k. drop k stub) place ∙ ap (drop (length (front ++ zeros))) (is ∙ regroup) ∙ drop-append_seam (front ++ zeros) (digits ++ rest) in
    let value : number_in e size (drop (at + gap size at) stub) ≡ n = ap (number_in e size) behind ∙ number_in-number_octets e size n rest h in
    rw (room, value) refl

-- a number where no gap is
reads_next : (f : Field) (e : Endian) (n : ℕ) (front rest stub : List ℕ) (at : ℕ) → gap 4 at ≡ 0 → n < 256 ^ 4 → at ≡ length front → stub ≡ front ++ (number_octets e 4 n ++ rest) → read_number f 4 (cursor e stub at) ≡ Ok (n, cursor e stub (at + 4))
reads_next f e n front rest stub at none h p is =
    let piece : aligned_octets e 4 at n ≡ number_octets e 4 n = ap (λ k. replicate k 0 ++ number_octets e 4 n) none in
    let r = reads_number f e 4 n front rest stub at h p (is ∙ ap (λ x. front ++ (x ++ rest)) (sym piece)) in
    let end : at + gap 4 at + 4 ≡ at + 4 = omega (arith, none) in
    let given : ℕ → Result (ℕ × Cursor) Refused = λ k. Ok (n, cursor e stub k) in
    r ∙ ap given end

-- a count that is in its range
reads_count : (f : Field) (least most n : ℕ) (c c' : Cursor) → read_number f 4 c ≡ Ok (n, c') → least ≤ n → n ≤ most → read_count f least most c ≡ Ok (n, c')
reads_count f least most n c c' read lo hi =
    let test : (nat_le least n && nat_le n most) ≡ true = grind (arith, nat_tests) in
    let counted : Result (ℕ × Cursor) Refused → Result (ℕ × Cursor) Refused = λ r. after r (λ v. checked (nat_le least v.0 && nat_le v.0 most) f (next_multiple_of c.at 4) v) in
    let right : Bool → Result (ℕ × Cursor) Refused = λ b. checked b f (next_multiple_of c.at 4) (n, c') in
    ap counted read ∙ ap right test

-- behind an aligned number of four octets no gap of that size is needed
no_gap : (at : ℕ) → gap 4 (at + gap 4 at + 4) ≡ 0
no_gap at = omega arith

-- the octets of a string and its last 0
reads_text : (e : Endian) (text front rest stub : List ℕ) (at : ℕ) → list_all is_printed text ≡ true → at ≡ length front → stub ≡ front ++ ((text ++ 0 ∷ []) ++ rest) → read_text (length text + 1) (cursor e stub at) ≡ Ok (text, cursor e stub (at + (length text + 1)))
reads_text e text front rest stub at printed p is =
    let n = length text + 1 in
    let os = text ++ 0 ∷ [] in
    let many : length os ≡ n = length-append text (0 ∷ []) in
    let counted : ℕ → Result (List ℕ × Cursor) Refused = λ k. read_octets field.StringOctets k (cursor e stub at) in
    let given : ℕ → Result (List ℕ × Cursor) Refused = λ k. Ok (os, cursor e stub (at + k)) in
    let read : read_octets field.StringOctets n (cursor e stub at) ≡ Ok (os, cursor e stub (at + n)) = ap counted (sym many) ∙ reads_octets field.StringOctets e os front rest stub at p is ∙ ap given many in
    let last : n - 1 ≡ length text = omega arith in
    let text_is : take (n - 1) os ≡ text = take-front text (0 ∷ []) (n - 1) (sym last) in
    let zero_is : slice_index os (n - 1) ≡ 0 = ap (λ k. get_or os k 0) last ∙ get_or-append_seam text 0 [] 0 in
    let test : is_terminated n os ≡ true = rw (zero_is, text_is) printed in
    let checks : Result (List ℕ × Cursor) Refused → Result (List ℕ × Cursor) Refused = λ r. after r (λ v. checked (is_terminated n v.0) field.StringOctets at (take (n - 1) v.0, v.1)) in
    let right : Bool → Result (List ℕ × Cursor) Refused = λ b. checked b field.StringOctets at (take (n - 1) os, cursor e stub (at + n)) in
    let text_given : List ℕ → Result (List ℕ × Cursor) Refused = λ t. Ok (t, cursor e stub (at + n)) in
    ap checks read ∙ ap right test ∙ ap text_given text_is

pub length-string_octets : (e : Endian) (at : ℕ) (text : List ℕ) → length (string_octets e at text) ≡ gap 4 at + 12 + (length text + 1)
length-string_octets e at text =
    let n = length text + 1 in
    let a = aligned_octets e 4 at n in
    let z = number_octets e 4 0 in
    let d = number_octets e 4 n in
    omega (arith, length-append (a ++ z ++ d ++ text) (0 ∷ []), length-append (a ++ z ++ d) text, length-append (a ++ z) d, length-append a z, length-aligned_octets e 4 at n, length-number_octets e 4 0, length-number_octets e 4 n)

-- three counts and what they count
reads_parts : (e : Endian) (text front rest stub : List ℕ) (at : ℕ) → is_text text ≡ true → at ≡ length front → stub ≡ front ++ (string_octets e at text ++ rest) → read_string (cursor e stub at) ≡ Ok (text, cursor e stub (at + gap 4 at + 12 + (length text + 1)))
reads_parts e text front rest stub at fits p is =
    let n = length text + 1 in
    let a = aligned_octets e 4 at n in
    let z = number_octets e 4 0 in
    let d = number_octets e 4 n in
    let os = text ++ 0 ∷ [] in
    let small : n ≤ 1024 = leb-true n 1024 (grind arith) in
    let printed : list_all is_printed text ≡ true = grind arith in
    let whole : stub ≡ front ++ (a ++ (z ++ (d ++ (os ++ rest)))) = is ∙ simp append_assoc in
    let at1 = at + gap 4 at + 4 in
    let front1 = front ++ a in
    let is1 : stub ≡ front1 ++ (z ++ (d ++ (os ++ rest))) = whole ∙ sym (append_assoc front a (z ++ (d ++ (os ++ rest)))) in
    let p1 : at1 ≡ length front1 = omega (arith, length-append front a, length-aligned_octets e 4 at n) in
    let front2 = front1 ++ z in
    let is2 : stub ≡ front2 ++ (d ++ (os ++ rest)) = is1 ∙ sym (append_assoc front1 z (d ++ (os ++ rest))) in
    let p2 : at1 + 4 ≡ length front2 = omega (arith, p1, length-append front1 z, length-number_octets e 4 0) in
    let front3 = front2 ++ d in
    let is3 : stub ≡ front3 ++ (os ++ rest) = is2 ∙ sym (append_assoc front2 d (os ++ rest)) in
    let p3 : at1 + 4 + 4 ≡ length front3 = omega (arith, p2, length-append front2 d, length-number_octets e 4 n) in
    let none1 : gap 4 at1 ≡ 0 = no_gap at in
    let none2 : gap 4 (at1 + 4) ≡ 0 = omega (arith, none1) in
    let r1 = reads_count field.MaxCount 1 (2 ^ 32 - 1) n (cursor e stub at) (cursor e stub at1) (reads_number field.MaxCount e 4 n front (z ++ (d ++ (os ++ rest))) stub at (omega arith) p whole) (omega arith) (omega arith) in
    let r2 = reads_count field.StringOffset 0 0 0 (cursor e stub at1) (cursor e stub (at1 + 4)) (reads_next field.StringOffset e 0 front1 (d ++ (os ++ rest)) stub at1 none1 (omega arith) p1 is1) (omega arith) (omega arith) in
    let r3 = reads_count field.ActualCount 1 (min n 1024) n (cursor e stub (at1 + 4)) (cursor e stub (at1 + 4 + 4)) (reads_next field.ActualCount e n front2 (os ++ rest) stub (at1 + 4) none2 (omega arith) p2 is2) (omega arith) (omega arith) in
    let r4 = reads_text e text front3 rest stub (at1 + 4 + 4) printed p3 is3 in
    let end : at1 + 4 + 4 + n ≡ at + gap 4 at + 12 + n = omega arith in
    let given : ℕ → Result (List ℕ × Cursor) Refused = λ k. Ok (text, cursor e stub k) in
    rw (r1, r2, r3, r4) (ap given end)

-- a value of a shape
reads_shape : (f : Field) (e : Endian) (shape : Shape) (value : Value) (front rest stub : List ℕ) (at : ℕ) → Fits shape value → at ≡ length front → stub ≡ front ++ (value_octets e at shape value ++ rest) → read_shape f shape (cursor e stub at) ≡ Ok (value, cursor e stub (at + length (value_octets e at shape value)))
reads_shape f e (number size) (a_number n) front rest stub at fits p is =
    let read = reads_number f e size n front rest stub at fits.1 p is in
    let wrap : Result (ℕ × Cursor) Refused → Result (Value × Cursor) Refused = λ r. after r (λ v. Ok (a_number v.0, v.1)) in
    let given : ℕ → Result (Value × Cursor) Refused = λ k. Ok (a_number n, cursor e stub k) in
    let end : at + gap size at + size ≡ at + length (aligned_octets e size at n) = omega (arith, length-aligned_octets e size at n) in
    ap wrap read ∙ ap given end
reads_shape f e (octets count) (some_octets os) front rest stub at fits p is =
    let wrap : Result (List ℕ × Cursor) Refused → Result (Value × Cursor) Refused = λ r. after r (λ v. Ok (some_octets v.0, v.1)) in
    let counted : ℕ → Result (Value × Cursor) Refused = λ k. wrap (read_octets f k (cursor e stub at)) in
    ap counted (sym fits) ∙ ap wrap (reads_octets f e os front rest stub at p is)
reads_shape f e string (some_octets os) front rest stub at fits p is =
    let read = reads_parts e os front rest stub at fits p is in
    let wrap : Result (List ℕ × Cursor) Refused → Result (Value × Cursor) Refused = λ r. after r (λ v. Ok (some_octets v.0, v.1)) in
    let given : ℕ → Result (Value × Cursor) Refused = λ k. Ok (some_octets os, cursor e stub k) in
    let end : at + gap 4 at + 12 + (length os + 1) ≡ at + length (string_octets e at os) = omega (arith, length-string_octets e at os) in
    ap wrap read ∙ ap given end
reads_shape f e (number size) (some_octets os) front rest stub at fits p is = absurd fits
reads_shape f e (octets count) (a_number n) front rest stub at fits p is = absurd fits
reads_shape f e string (a_number n) front rest stub at fits p is = absurd fits

-- a field
reads_entry : (e : Endian) (entry : Entry) (value : Value) (front rest stub : List ℕ) (at : ℕ) → Fits entry.shape value → entry.right value ≡ true → at ≡ length front → stub ≡ front ++ (value_octets e at entry.shape value ++ rest) → read_entry entry (cursor e stub at) ≡ Ok (value, cursor e stub (at + length (value_octets e at entry.shape value)))
reads_entry e entry value front rest stub at fits right p is =
    let checks : Result (Value × Cursor) Refused → Result (Value × Cursor) Refused = λ r. after r (λ v. checked (entry.right v.0) entry.field (place_of entry.shape at) v) in
    let tests : Bool → Result (Value × Cursor) Refused = λ b. checked b entry.field (place_of entry.shape at) (value, cursor e stub (at + length (value_octets e at entry.shape value))) in
    ap checks (reads_shape entry.field e entry.shape value front rest stub at fits p is) ∙ ap tests right

-- all fields behind a place
reads_entries : (e : Endian) (entries : List Entry) (values : List Value) (front rest stub : List ℕ) (at : ℕ) → AllFit entries values → at ≡ length front → stub ≡ front ++ (stub_octets e at entries values ++ rest) → read_entries entries (cursor e stub at) ≡ Ok (values, cursor e stub (at + length (stub_octets e at entries values)))
reads_entries e [] [] front rest stub at fit p is =
    let given : ℕ → Result (List Value × Cursor) Refused = λ k. Ok ([], cursor e stub k) in
    let end : at ≡ at + 0 = omega arith in
    ap given end
reads_entries e (entry ∷ entries) (value ∷ values) front rest stub at fit p is =
    let piece = value_octets e at entry.shape value in
    let at1 = at + length piece in
    let more = stub_octets e at1 entries values in
    let whole : stub ≡ front ++ (piece ++ (more ++ rest)) = is ∙ ap (λ x. front ++ x) (append_assoc piece more rest) in
    let first = reads_entry e entry value front (more ++ rest) stub at fit.0 fit.1 p whole in
    let front1 = front ++ piece in
    let p1 : at1 ≡ length front1 = omega (arith, length-append front piece) in
    let others = reads_entries e entries values front1 rest stub at1 fit.2 p1 (whole ∙ sym (append_assoc front piece (more ++ rest))) in
    let read : Result (Value × Cursor) Refused → Result (List Value × Cursor) Refused = λ r. after r (λ v. after (read_entries entries v.1) (λ vs. Ok (v.0 ∷ vs.0, vs.1))) in
    let join : Result (List Value × Cursor) Refused → Result (List Value × Cursor) Refused = λ r. after r (λ vs. Ok (value ∷ vs.0, vs.1)) in
    let given : ℕ → Result (List Value × Cursor) Refused = λ k. Ok (value ∷ values, cursor e stub k) in
    let end : at1 + length more ≡ at + length (piece ++ more) = omega (arith, length-append piece more) in
    ap read first ∙ ap join others ∙ ap given end
reads_entries e [] (value ∷ values) front rest stub at fit p is = absurd fit
reads_entries e (entry ∷ entries) [] front rest stub at fit p is = absurd fit

pub reads_stub : (e : Endian) (entries : List Entry) (values : List Value) → AllFit entries values → read_stub entries e (stub_octets e 0 entries values) ≡ Ok values
reads_stub e entries values fit =
    let stub = stub_octets e 0 entries values in
    let whole : stub ≡ [] ++ (stub ++ []) = sym (append-nil stub) in
    let read = reads_entries e entries values [] [] stub 0 fit refl whole in
    let ends : Result (List Value × Cursor) Refused → Result (List Value) Refused = λ r. after r (λ v. after (finish v.1) (λ _. Ok v.0)) in
    let test : nat_le (length stub) (0 + length stub) ≡ true = le-leb _ _ (omega arith) in
    ap ends read ∙ rw test refl
