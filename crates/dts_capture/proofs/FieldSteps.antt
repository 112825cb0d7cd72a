-- What a field's reading needs: a number of a range, and octets in hex.
use Rattle.std.proofs.Common.{◌≡◌, ◌≢◌, ◌⊎◌, inl, inr, ℕ, ◌<◌, ℤ, pos, negsuc, Bool, true, false, cond, List, [], ◌∷◌, length, Result, Ok, Err, refl, arith}
use Rattle.std.specs.Prelude.{◌≤ℤ◌, unsigned_abs, codes}
use Rattle.std.proofs.lemmas.Int.{ints}
use Rattle.line_reader.specs.Numbers.{IsWhole, IsNumberFault}
use Rattle.line_reader.specs.declared.number.NumberFault.{NumberFault}
use Rattle.line_reader.specs.declared.number.NumberFault.TheVariants as fault
use Rattle.hex.specs.Hex.{decode_of, decode_pairs, ◌>>=◌}
use Rattle.hex.specs.declared.error.FromHexError.{FromHexError}
use Rattle.dts_capture.specs.Kinds.{IsNumber, WrongNumber, Octets, Reads}
use Rattle.dts_capture.specs.Parsing.{Place, Parses, number_cause, HexFault}
use Rattle.dts_capture.specs.Grammar.{Form, Field}
use Rattle.dts_capture.specs.declared.line.LineFault.{LineFault}
use Rattle.dts_capture.specs.declared.line.LineCause.TheVariants as cause
use Rattle.hex.specs.declared.error.FromHexError.TheVariants as hex
use Rattle.dts_capture.proofs.Parsed.{field_wrong}

pub whole_number : (from to : ℕ) (field : List ℕ) (z : ℤ) → IsWhole field z → pos from ≤ℤ z → z ≤ℤ pos to → IsNumber from to field (unsigned_abs z)
whole_number from to field (pos n) whole low high = (whole, (low, high))
whole_number from to field (negsuc n) whole low high = absurd (omega (arith, ints, low))

pub wrong_number : (from to : ℕ) (field : List ℕ) (why : NumberFault) → IsNumberFault (pos from) (pos to) field why → WrongNumber from to field (number_cause why)
wrong_number from to field fault.Form h = inl (refl, h)
wrong_number from to field fault.Range h = inr (refl, h)

some_pair : (p : Result ℕ FromHexError) (q : Result (List ℕ) FromHexError) (b : List ℕ) → (p >>= λ (byte : ℕ). (q >>= λ (bytes : List ℕ). Ok (byte ∷ bytes))) ≡ Ok b → 0 < length b
some_pair (Err e) q b h = absurd (cc)
some_pair (Ok byte) (Err e) b h = absurd (cc)
some_pair (Ok byte) (Ok bytes) [] h = absurd (cc)
some_pair (Ok byte) (Ok bytes) (x ∷ b) h = omega arith

not_odd : (odd : Bool) (e : FromHexError) (r : Result (List ℕ) FromHexError) (b : List ℕ) → cond odd (Err e) r ≡ Ok b → r ≡ Ok b
not_odd true e r b h = absurd (cc)
not_odd false e r b h = h

some_octets : (field : List ℕ) (b : List ℕ) → field ≢ [] → decode_pairs 0 field ≡ Ok b → 0 < length b
unfolding decode_pairs
some_octets [] b some h = absurd (some refl)
some_octets (x ∷ []) b some h = absurd (cc)
some_octets (x ∷ y ∷ field) b some h = some_pair _ _ b h

-- a field of octets in hex has some
pub hex_octets : (field : List ℕ) (b : List ℕ) → field ≢ [] → decode_of field ≡ Ok b → 0 < length b
hex_octets field b some h = some_octets field b some (not_odd _ _ _ b h)

ok_is_no_error : (r : Result (List ℕ) FromHexError) (b : List ℕ) (e : FromHexError) → r ≡ Ok b → r ≡ Err e → ⊥
ok_is_no_error r b e h k = cc

-- a field that is neither the dash for no octets nor hex is the text of no octets
pub no_octets : (may_be_empty : Bool) (field : List ℕ) (e : FromHexError) → ((may_be_empty ≡ true) × (field ≡ codes "-") → ⊥) → decode_of field ≡ Err e → (b : List ℕ) → Reads (Octets may_be_empty) field b → ⊥
no_octets may_be_empty field e none wrong b (inl h) = none (h.0, h.1)
no_octets may_be_empty field e none wrong b (inr h) = ok_is_no_error _ b e h.1 wrong

-- what is said of octets that no memory was found for, or that are no hex text
pub hex_wrong : (may_be_empty : Bool) (more : List ℕ → Form) (place : Place) (field : List ℕ) (rest : List (List ℕ)) (e : FromHexError) (f : LineFault)
    → place.left ≡ field ∷ rest → field ≢ [] → ((may_be_empty ≡ true) × (field ≡ codes "-") → ⊥) → (e ≡ hex.OutOfMemory) ⊎ (decode_of field ≡ Err e) → HexFault place e f → Parses (Field (Octets may_be_empty) more) place (Err f)
unfolding Parses
hex_wrong may_be_empty more place field rest e f here some none why (inl told) = rw told.1 tt
hex_wrong may_be_empty more place field rest e f here some none (inl memory) (inr told) = absurd (told.0 memory)
hex_wrong may_be_empty more place field rest e f here some none (inr wrong) (inr told) =
    rw told.1 (field_wrong (Octets may_be_empty) more place field rest cause.Hex here some (refl, no_octets may_be_empty field e none wrong))
