-- The texts of a kind's values: their values are in range, they have one length, and each value in range has a printed one.
use Rattle.std.proofs.Common.{◌≡◌, inl, inr, ℕ, zero, suc, ◌^◌, ◌<◌, ◌≤◌, ℤ, pos, negsuc, Bool, true, not, List, [], ◌∷◌, length, Option, Ok, refl, sym, ap, ◌∙◌, subst, arith}
use Rattle.std.specs.Prelude.{decimal}
use Rattle.std.specs.Int.{from_be_bytes, to_be_bytes, w64}
use Rattle.std.specs.Fmt.{signed_decimal}
use Rattle.std.specs.Str.{all_ascii_digits}
use Rattle.std.proofs.lemmas.Bool.{false≢true}
use Rattle.std.proofs.lemmas.Int.{ints}
use Rattle.std.proofs.lemmas.Nat.{from_be_bytes-to_be_bytes_8}
use Rattle.line_reader.proofs.Decimals.{decimal_is, whole_written}
use Rattle.hex.specs.Hex.{IsBytes, decode_of, decode_sized, encode_lower, lower_digits}
use Rattle.hex.proofs.HexLemmas.{decode_of-ok, decode_of-encode_lower, decode_sized-ok, decode_sized-twice, length-encode_with}
use Rattle.dts_base.specs.declared.interval.Interval.{Interval}
use Rattle.dts_capture.specs.Kinds.{greatest_record, greatest_count, Kind, Natural, RecordNumber, Count, NotBelow, Word, Octets, value_of, IsNumber, Reads}
use Rattle.dts_capture.specs.Ranges.{IsOfKind}
use Rattle.dts_capture.specs.Log.{hex_or_dash}
use Rattle.dts_capture.proofs.Graphic.{are_graphic, digits_graphic, hex_graphic}

-- numbers of more than 64 bits are in no range
abbrev pub IsNarrow : Kind → Type 0
IsNarrow (Natural from to) = to < 2 ^ 64
IsNarrow _ = Unit {0}

-- ---- a text's value is in range

number_range : (from to : ℕ) (field : List ℕ) (n : ℕ) → IsNumber from to field n → (from ≤ n) × (n ≤ to)
number_range from to field n h = (omega (arith, ints, h.1.0), omega (arith, ints, h.1.1))

word_small : (b : List ℕ) → IsBytes b → from_be_bytes w64 b < 2 ^ 64
word_small b small = omega (arith, small 0, small 1, small 2, small 3, small 4, small 5, small 6, small 7)

word_octets : (field octets : List ℕ) → decode_sized field 8 ≡ Ok octets → decode_of field ≡ Ok octets
word_octets field octets h = sym (decode_sized-twice field 8 (decode_sized-ok field 8 octets h)) ∙ h

pub kind_range : (kind : Kind) (field : List ℕ) (v : value_of kind) → Reads kind field v → IsOfKind kind v
kind_range (Natural from to) field n h = number_range from to field n h
kind_range (RecordNumber expected) field n h = ((number_range 0 greatest_record field n h.0).1, h.1)
kind_range Count field t (n, h, is) =
    let r = number_range 0 greatest_count field n h in (omega (arith, ints, is), omega (arith, ints, is, r.1))
kind_range (NotBelow lo) field i (n, h, low, high) =
    let r = number_range 0 greatest_count field n h in (low, omega (arith, ints, high), omega (arith, ints, high, r.1))
kind_range Word field w (octets, h, is) =
    let small = word_small octets (decode_of-ok field octets (word_octets field octets h)).3 in rw is small
kind_range (Octets may_be_empty) field b (inl h) = (rw h.2 (λ i. omega arith), λ e. h.0)
kind_range (Octets may_be_empty) field b (inr h) = ((decode_of-ok field b h.1).3, λ e. absurd (omega (arith, h.0, ap length e)))

-- ---- a text has no spaces

pub kind_graphic : (kind : Kind) (field : List ℕ) (v : value_of kind) → Reads kind field v → are_graphic field ≡ true
kind_graphic (Natural from to) field n h = digits_graphic field h.0.each
kind_graphic (RecordNumber expected) field n h = digits_graphic field h.0.0.each
kind_graphic Count field t (n, h, is) = digits_graphic field h.0.each
kind_graphic (NotBelow lo) field i (n, h, low, high) = digits_graphic field h.0.each
kind_graphic Word field w (octets, h, is) = hex_graphic field (decode_of-ok field octets (word_octets field octets h)).1
kind_graphic (Octets may_be_empty) field b (inl h) = rw h.1 refl
kind_graphic (Octets may_be_empty) field b (inr h) = hex_graphic field (decode_of-ok field b h.1).1

-- ---- the texts of a value have one length

one_number_text : (from to : ℕ) (f g : List ℕ) (n : ℕ) → to < 2 ^ 64 → IsNumber from to f n → IsNumber from to g n → f ≡ g
one_number_text from to f g n small h k =
    let r = number_range from to f n h in
    (whole_written f (pos n) (omega (arith, r.1))).0 h.0 ∙ sym ((whole_written g (pos n) (omega (arith, r.1))).0 k.0)

same_count : (f g : List ℕ) (m n : ℕ) → pos m ≡ pos n → IsNumber 0 greatest_count f m → IsNumber 0 greatest_count g n → f ≡ g
same_count f g m n same h k =
    let e : n ≡ m = omega (arith, ints, same) in
    one_number_text 0 greatest_count f g m (omega arith) h (subst (IsNumber 0 greatest_count g) e k)

octets_length : (may_be_empty : Bool) (f g b : List ℕ) → Reads (Octets may_be_empty) f b → Reads (Octets may_be_empty) g b
    → length f ≡ length g
octets_length may_be_empty f g b (inl h) (inl k) = ap length (h.1 ∙ sym k.1)
octets_length may_be_empty f g b (inl h) (inr k) = absurd (omega (arith, k.0, ap length h.2))
octets_length may_be_empty f g b (inr h) (inl k) = absurd (omega (arith, h.0, ap length k.2))
octets_length may_be_empty f g b (inr h) (inr k) = (decode_of-ok f b h.1).2 ∙ sym (decode_of-ok g b k.1).2

pub kind_length : (kind : Kind) (f g : List ℕ) (v : value_of kind) → IsNarrow kind → Reads kind f v → Reads kind g v → length f ≡ length g
kind_length (Natural from to) f g n small h k = ap length (one_number_text from to f g n small h k)
kind_length (RecordNumber expected) f g n small h k = ap length (one_number_text 0 greatest_record f g n (omega arith) h.0 k.0)
kind_length Count f g t small (m, h, is) (n, k, also) = ap length (same_count f g m n (sym is ∙ also) h k)
kind_length (NotBelow lo) f g i small (m, h, low, high) (n, k, also_low, also_high) =
    ap length (same_count f g m n (sym high ∙ also_high) h k)
kind_length Word f g w small (a, h, is) (b, k, also) = decode_sized-ok f 8 a h ∙ sym (decode_sized-ok g 8 b k)
kind_length (Octets may_be_empty) f g b small h k = octets_length may_be_empty f g b h k

-- ---- printed texts

-- the text that is printed of a value
abbrev pub printed : (kind : Kind) → value_of kind → List ℕ
printed (Natural from to) n = decimal n
printed (RecordNumber expected) n = decimal n
printed Count t = signed_decimal t
printed (NotBelow lo) i = signed_decimal i.hi
printed Word w = encode_lower (to_be_bytes w64 w)
printed (Octets may_be_empty) b = hex_or_dash b

natural_text : (from to n : ℕ) → to < 2 ^ 64 → IsOfKind (Natural from to) n → Reads (Natural from to) (decimal n) n
natural_text from to n small h = (decimal_is n (omega (arith, h.1)), (omega (arith, ints, h.0), omega (arith, ints, h.1)))

record_text : (expected : Option ℕ) (n : ℕ) → IsOfKind (RecordNumber expected) n → Reads (RecordNumber expected) (decimal n) n
record_text expected n h = (natural_text 0 greatest_record n (omega arith) (omega arith, h.0), h.1)

count_text : (t : ℤ) → IsOfKind Count t → Reads Count (signed_decimal t) t
count_text (pos n) h = (n, natural_text 0 greatest_count n (omega arith) (omega arith, omega (arith, ints, h.1)), refl)
count_text (negsuc n) h = absurd (omega (arith, ints, h.0))

high_text : (lo z : ℤ) (i : Interval) → z ≡ i.hi → IsOfKind (NotBelow lo) i → Reads (NotBelow lo) (signed_decimal z) i
high_text lo (pos n) i is h = (n, natural_text 0 greatest_count n (omega arith) (omega arith, omega (arith, ints, is, h.2)), h.0, sym is)
high_text lo (negsuc n) i is h = absurd (omega (arith, ints, is, h.1))

not_below_text : (lo : ℤ) (i : Interval) → IsOfKind (NotBelow lo) i → Reads (NotBelow lo) (signed_decimal i.hi) i
not_below_text lo i h = high_text lo i.hi i refl h

word_bytes : (n : ℕ) → IsBytes (to_be_bytes w64 n)
word_bytes n zero = omega arith
word_bytes n (suc zero) = omega arith
word_bytes n (suc (suc zero)) = omega arith
word_bytes n (suc (suc (suc zero))) = omega arith
word_bytes n (suc (suc (suc (suc zero)))) = omega arith
word_bytes n (suc (suc (suc (suc (suc zero))))) = omega arith
word_bytes n (suc (suc (suc (suc (suc (suc zero)))))) = omega arith
word_bytes n (suc (suc (suc (suc (suc (suc (suc zero))))))) = omega arith
word_bytes n (suc (suc (suc (suc (suc (suc (suc (suc i)))))))) = omega arith

word_text : (w : ℕ) → IsOfKind Word w → Reads Word (encode_lower (to_be_bytes w64 w)) w
word_text w small =
    let octets = to_be_bytes w64 w in
    let text = encode_lower octets in (
      octets,
      decode_sized-twice text 8 (length-encode_with lower_digits octets)
          ∙ decode_of-encode_lower octets (word_bytes w),
      sym (from_be_bytes-to_be_bytes_8 w small),
    )

octets_text : (may_be_empty : Bool) (b : List ℕ) → IsOfKind (Octets may_be_empty) b → Reads (Octets may_be_empty) (hex_or_dash b) b
octets_text may_be_empty [] h = inl (h.1 refl, refl, refl)
octets_text may_be_empty (octet ∷ octets) h = inr (omega arith, decode_of-encode_lower (octet ∷ octets) h.0)

pub printed_text : (kind : Kind) (v : value_of kind) → IsNarrow kind → IsOfKind kind v → Reads kind (printed kind v) v
printed_text (Natural from to) n small h = natural_text from to n small h
printed_text (RecordNumber expected) n small h = record_text expected n h
printed_text Count t small h = count_text t h
printed_text (NotBelow lo) i small h = not_below_text lo i h
printed_text Word w small h = word_text w h
printed_text (Octets may_be_empty) b small h = octets_text may_be_empty b h

-- a time count is all digits
pub count_digits : (t : ℤ) → IsOfKind Count t → all_ascii_digits (signed_decimal t) ≡ true
count_digits (pos n) h = (decimal_is n (omega (arith, ints, h.1))).each
count_digits (negsuc n) h = absurd (omega (arith, ints, h.0))

pub differs_from_digits : (word digits : List ℕ) → not (all_ascii_digits word) ≡ true → digits ≡ word → all_ascii_digits digits ≡ true → ⊥
differs_from_digits word digits h same each = false≢true (ap not (sym each ∙ ap all_ascii_digits same) ∙ h)
