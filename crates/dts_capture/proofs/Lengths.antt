-- A line in range with few enough octets is not too long.
use Rattle.std.proofs.Common.{◌≡◌, inl, inr, ℕ, ◌+◌, ◌-◌, ◌*◌, ◌≤◌, ◌^◌, ℤ, pos, negsuc, List, [], ◌∷◌, length, Option, Some, refl, sym, subst, arith, length-append}
use Rattle.std.specs.Prelude.{◌≤ℤ◌, codes, decimal}
use Rattle.std.specs.Int.{to_be_bytes, w64}
use Rattle.std.specs.Fmt.{signed_decimal}
use Rattle.std.proofs.lemmas.Fmt.{length-decimal-le}
use Rattle.std.proofs.lemmas.Int.{ints}
use Rattle.hex.specs.Hex.{encode_lower, lower_digits}
use Rattle.hex.proofs.HexLemmas.{length-encode_with}
use Rattle.line_reader.specs.declared.limits.TheConstants.{MAX_LINE}
use Rattle.line_reader.specs.Fields.{text_of}
use Rattle.slew_clock.specs.declared.limits.TheConstants.{GREATEST_OSC}
use Rattle.dts_capture.specs.declared.line.Line.{Line}
use Rattle.dts_capture.specs.declared.line.Line.TheVariants as line
use Rattle.dts_capture.specs.Kinds.{greatest_count, greatest_record}
use Rattle.dts_capture.specs.Grammar.{line_forms, peer_forms, direct_forms, serve_forms}
use Rattle.dts_capture.specs.Log.{hex_or_dash}
use Rattle.dts_capture.specs.Printing.{line_text}
use Rattle.dts_capture.specs.Ranges.{IsLineOf, IsLineInRange, octets_of, most_octets}

-- the fields, and a space between two
abbrev total : List (List ℕ) → ℕ
total [] = 0
total (field ∷ []) = length field
total (field ∷ next ∷ fields) = length field + 1 + total (next ∷ fields)

text_length : (fields : List (List ℕ)) → length (text_of fields) ≡ total fields
text_length [] = refl
text_length (field ∷ []) = refl
text_length (field ∷ next ∷ fields) =
    let more = text_length (next ∷ fields) in
    let first = length-append field (32 ∷ text_of (next ∷ fields)) in
    omega (arith, more, first)

osc_length : (n : ℕ) → n ≤ GREATEST_OSC → length (decimal n) ≤ 19
osc_length n h = length-decimal-le 19 n (omega arith) (omega arith) (omega arith)

number_length : (n : ℕ) → n ≤ 2 ^ 32 - 1 → length (decimal n) ≤ 10
number_length n h = length-decimal-le 10 n (omega arith) (omega arith) (omega arith)

record_length : (n : ℕ) → n ≤ greatest_record → length (decimal n) ≤ 20
record_length n h = length-decimal-le 20 n (omega arith) (omega arith) (omega arith)

time_length : (t : ℤ) → pos 0 ≤ℤ t → t ≤ℤ pos greatest_count → length (signed_decimal t) ≤ 19
time_length (pos n) low high =
    let small : n ≤ greatest_count = omega (arith, ints, high) in length-decimal-le 19 n (omega arith) (omega arith) (omega arith)
time_length (negsuc n) low high = absurd (omega (arith, ints, low))

hex_length : (octets : List ℕ) → length (hex_or_dash octets) ≤ 2 * length octets + 1
hex_length [] = omega arith
hex_length (octet ∷ octets) = let e = length-encode_with lower_digits (octet ∷ octets) in omega (arith, e)

word_length : (w : ℕ) → length (encode_lower (to_be_bytes w64 w)) ≡ 16
word_length w = length-encode_with lower_digits (to_be_bytes w64 w)

-- the line is not too long where what it says is not
abbrev Fits : Line → Type 0
Fits l = length (octets_of l) ≤ most_octets → length (line_text l) ≤ MAX_LINE

at : (l said : Line) → l ≡ said → Fits said → Fits l
at l said is fits = subst Fits (sym is) fits

-- lines of octets, with the number of their record and without
served_octets_fit : (k osc conn : ℕ) (b : List ℕ) → k ≤ greatest_record → osc ≤ GREATEST_OSC → conn ≤ 2 ^ 32 - 1 → length b ≤ most_octets
    → length (text_of (codes "at" ∷ decimal k ∷ codes "ask" ∷ decimal osc ∷ decimal conn ∷ hex_or_dash b ∷ [])) ≤ MAX_LINE
served_octets_fit k osc conn b hk ho hp few =
    omega (
      arith,
      few,
      text_length (codes "at" ∷ decimal k ∷ codes "ask" ∷ decimal osc ∷ decimal conn ∷ hex_or_dash b ∷ []),
      record_length k hk,
      osc_length osc ho,
      number_length conn hp,
      hex_length b,
    )

octets_fit : (osc peer : ℕ) (b : List ℕ) (word : List ℕ) → length word ≤ 4 → osc ≤ GREATEST_OSC → peer ≤ 2 ^ 32 - 1 → length b ≤ most_octets
    → length (text_of (word ∷ decimal osc ∷ decimal peer ∷ hex_or_dash b ∷ [])) ≤ MAX_LINE
octets_fit osc peer b word short ho hp few =
    omega (
      arith,
      short,
      few,
      text_length (word ∷ decimal osc ∷ decimal peer ∷ hex_or_dash b ∷ []),
      osc_length osc ho,
      number_length peer hp,
      hex_length b,
    )

-- a line of two numbers behind a word, and with the number of its record
numbers_fit : (osc number : ℕ) (word : List ℕ) → length word ≤ 6 → osc ≤ GREATEST_OSC → number ≤ 2 ^ 32 - 1
    → length (text_of (word ∷ decimal osc ∷ decimal number ∷ [])) ≤ MAX_LINE
numbers_fit osc number word short ho hn =
    omega (arith, short, text_length (word ∷ decimal osc ∷ decimal number ∷ []), osc_length osc ho, number_length number hn)

served_fit : (k osc peer : ℕ) (word : List ℕ) → length word ≤ 6 → k ≤ greatest_record → osc ≤ GREATEST_OSC → peer ≤ 2 ^ 32 - 1
    → length (text_of (codes "at" ∷ decimal k ∷ word ∷ decimal osc ∷ decimal peer ∷ [])) ≤ MAX_LINE
served_fit k osc peer word short hk ho hp =
    omega (
      arith,
      short,
      text_length (codes "at" ∷ decimal k ∷ word ∷ decimal osc ∷ decimal peer ∷ []),
      record_length k hk,
      osc_length osc ho,
      number_length peer hp,
    )

serve_fits : (k : ℕ) (l : Line) → k ≤ greatest_record → IsLineOf (serve_forms (Some k)) l → Fits l
serve_fits k l hk (inl (osc, ho, is)) =
    at l _ is (λ few. omega (
      arith,
      text_length (codes "at" ∷ decimal k ∷ codes "read" ∷ decimal osc ∷ []),
      record_length k hk,
      osc_length osc ho.1,
    ))
serve_fits k l hk (inr (inl (osc, ho, (conn, hc, (b, hb, is))))) = at l _ is (served_octets_fit k osc conn b hk ho.1 hc.1)
serve_fits k l hk (inr (inr (inl (osc, ho, (peer, hp, (client, is)))))) =
    at l _ is (λ few. served_fit k osc peer (codes "lost") (omega arith) hk ho.1 hp.1)
serve_fits k l hk (inr (inr (inr (inl (osc, ho, (peer, hp, (client, is))))))) =
    at l _ is (λ few. served_fit k osc peer (codes "unsent") (omega arith) hk ho.1 hp.1)
serve_fits k l hk (inr (inr (inr (inr d)))) = absurd d

direct_fits : (current : Option ℕ) (l : Line) → IsLineOf (direct_forms current) l → Fits l
direct_fits current l (inl (osc, ho, (tag, ht, is))) = at l _ is (λ few. numbers_fit osc tag (codes "query") (omega arith) ho.1 ht.1)
direct_fits current l (inr (inl (osc, ho, (tag, ht, (lo, hl, (i, hi, is)))))) =
    let low : length (signed_decimal i.lo) ≤ 19 = subst (λ z. length (signed_decimal z) ≤ 19) (sym hi.0) (time_length lo hl.0 hl.1) in
    let high = time_length i.hi hi.1 hi.2 in
    at l _ is
    (λ few. omega (
      arith,
      text_length (codes "source" ∷ decimal osc ∷ decimal tag ∷ signed_decimal i.lo ∷ signed_decimal i.hi ∷ []),
      osc_length osc ho.1,
      number_length tag ht.1,
      low,
      high,
    ))
direct_fits current l (inr (inr (inl (osc, ho, (required, hr, is))))) =
    at l _ is (λ few. numbers_fit osc required (codes "adopt") (omega arith) ho.1 (omega (arith, hr.1)))
direct_fits current l (inr (inr (inr (inl (k, hk, d))))) = serve_fits k l hk.0 d
direct_fits current l (inr (inr (inr (inr d)))) = absurd d

peer_fits : (current : Option ℕ) (l : Line) → IsLineOf (peer_forms current) l → Fits l
peer_fits current l (inl (osc, ho, (peer, hp, (b, hb, is)))) = at l _ is (octets_fit osc peer b (codes "data") (omega arith) ho.1 hp.1)
peer_fits current l (inr (inl (osc, ho, (peer, hp, (b, hb, is))))) =
    at l _ is (octets_fit osc peer b (codes "gram") (omega arith) ho.1 hp.1)
peer_fits current l (inr (inr (inl (osc, ho, (peer, hp, is))))) =
    at l _ is (λ few. numbers_fit osc peer (codes "lost") (omega arith) ho.1 hp.1)
peer_fits current l (inr (inr (inr (inl (osc, ho, (peer, hp, is)))))) =
    at l _ is (λ few. numbers_fit osc peer (codes "unsent") (omega arith) ho.1 hp.1)
peer_fits current l (inr (inr (inr (inr d)))) = direct_fits current l d

line_fits : (current : Option ℕ) (l : Line) → IsLineOf (line_forms current) l → Fits l
line_fits current l (inl (osc, ho, (value, hv, inl is))) =
    at l _ is (λ few. omega (
      arith,
      text_length (codes "start" ∷ decimal osc ∷ signed_decimal value ∷ codes "unknown" ∷ []),
      osc_length osc ho.1,
      time_length value hv.0 hv.1,
    ))
line_fits current l (inl (osc, ho, (value, hv, inr (lo, hl, (i, hi, is))))) =
    let low : length (signed_decimal i.lo) ≤ 19 = subst (λ z. length (signed_decimal z) ≤ 19) (sym hi.0) (time_length lo hl.0 hl.1) in
    let high = time_length i.hi hi.1 hi.2 in
    at l _ is
    (λ few. omega (
      arith,
      text_length
          (codes "start" ∷ decimal osc ∷ signed_decimal value ∷ signed_decimal i.lo ∷ signed_decimal i.hi ∷ []),
      osc_length osc ho.1,
      time_length value hv.0 hv.1,
      low,
      high,
    ))
line_fits current l (inr (inl (osc, ho, (w, hw, is)))) =
    at l _ is (λ few. omega (
      arith,
      text_length (codes "tick" ∷ decimal osc ∷ encode_lower (to_be_bytes w64 w) ∷ []),
      osc_length osc ho.1,
      word_length w,
    ))
line_fits current l (inr (inr (inl (osc, ho, is)))) =
    at l _ is (λ few. omega (arith, text_length (codes "read" ∷ decimal osc ∷ []), osc_length osc ho.1))
line_fits current l (inr (inr (inr (inl (osc, ho, (conn, hc, (b, hb, is))))))) =
    at l _ is (octets_fit osc conn b (codes "ask") (omega arith) ho.1 hc.1)
line_fits current l (inr (inr (inr (inr d)))) = peer_fits current l d

pub fits : (current : Option ℕ) (l : Line) → IsLineInRange current l → length (octets_of l) ≤ most_octets → length (line_text l) ≤ MAX_LINE
fits current l (inl is) few = at l line.Blank is (λ few. omega arith) few
fits current l (inr d) few = line_fits current l d few
