-- A line that asks for an operation is not refused in reading.
use Rattle.std.proofs.Common.{◌≡◌, ◌⊎◌, inl, inr, ℕ, List, [], ◌∷◌, map, codes, Result, Ok, refl, sym, ◌∙◌, arith, ℤ, pos, negsuc}
use Rattle.utc_value.specs.declared.BytesFault.{BytesFault}
use Rattle.utc_value.specs.Stamp.{Stamp}
use Rattle.utc_value.specs.Octets.{octets_of, RefusesOctets}
use Rattle.utc_value.proofs.OctetLaws.{octets_right}
use Rattle.line_reader.specs.Numbers.{IsWhole}
use Rattle.utc_text.specs.declared.fault.TextFault.{TextFault}
use Rattle.utc_text.specs.Texts.{SpellsAbsolute, SpellsRelative}
use Rattle.utc_text.proofs.ReadLaws.{absolute_only, relative_only}
use Rattle.utc_text.proofs.TextLaws.{absolute_not_both, relative_not_both}
use Rattle.utc_text.specs.Reading.{absolute_of, relative_of, moment_of, length_of, date_of, right_at, sign_at}
use Rattle.utc_text.specs.Reading as reading
use Rattle.utc_text.specs.Fields.{year_at, two_digits, days_at, digits_at}
use Rattle.utc_calculator.specs.declared.cause.UtcRefusal.{UtcRefusal}
use Rattle.utc_calculator.specs.declared.operation.Operation.{Operation}
use Rattle.utc_calculator.specs.declared.operation.Operation.TheVariants as op
use Rattle.utc_calculator.specs.Operations.{Operand, Time, Number, Minutes, Octets, OperandKind, TimeKind, OctetsKind, kind_of, word_of, operands_of, Reads, ReadEach, IsOfTimestamp, Spells, IsNoTime, IsNextWrong, IsFirstWrong, RefusesFields, RefusesReading}
use Rattle.utc_calculator.proofs.Operands.{any}
use Rattle.utc_calculator.proofs.Unique.{same_kinds, same_operands}

-- no octets are no time
abbrev read : Stamp → Result Stamp TextFault
read s = Ok s

no_absolute : (s : Stamp) → SpellsAbsolute [] s → ⊥
unfolding absolute_of moment_of date_of right_at year_at two_digits
no_absolute s h = let e : absolute_of [] ≡ read s = absolute_only [] s h in cc

no_relative : (s : Stamp) → SpellsRelative [] s → ⊥
unfolding relative_of length_of right_at sign_at reading.time_of days_at digits_at
no_relative s h = let e : relative_of [] ≡ read s = relative_only [] s h in cc

-- and no number
no_number : (k : ℤ) → IsWhole [] k → ⊥
no_number (pos n) h = omega (arith, h.some)
no_number (negsuc n) (digits, e, _) = absurd cc

no_operand : (x : Operand) → Reads [] x → ⊥
no_operand (Time s) (inl h) = no_absolute s h
no_operand (Time s) (inr h) = no_relative s h
no_operand (Number k) h = no_number k h.0
no_operand (Minutes t) h = no_number t h.0
no_operand (Octets octets) h = absurd cc

-- a time is no text that is told of as none
no_fault : (field : List ℕ) (s : Stamp) (fault : TextFault) → SpellsAbsolute field s ⊎ SpellsRelative field s → IsNoTime field fault → ⊥
no_fault field s fault (inl h) wrong = absolute_not_both field s wrong.absolute h wrong.as_absolute
no_fault field s fault (inr h) wrong = relative_not_both field s wrong.relative h wrong.as_relative

-- a field that is right as an operand is not wrong
pub next_right : (x : Operand) (field line : List ℕ) (fields : List (List ℕ)) (c : UtcRefusal) → Reads field x → IsNextWrong (kind_of x) line (field ∷ fields) c → ⊥
next_right x [] line fields c h wrong = no_operand x h
next_right (Time s) (octet ∷ octets) line fields c h (fault, wrong, _) = no_fault (octet ∷ octets) s fault h wrong
next_right (Number k) (octet ∷ octets) line fields c h (never, _) = never k h
next_right (Minutes t) (octet ∷ octets) line fields c h (never, _) = never t h
next_right (Octets read) (octet ∷ octets) line fields c h (never, _) = never read h

pub all_right : (xs : List Operand) (line : List ℕ) (fields : List (List ℕ)) (c : UtcRefusal) → ReadEach fields xs → IsFirstWrong (map kind_of xs) line fields c → ⊥
all_right [] line [] c h wrong = wrong
all_right [] line (field ∷ fields) c h wrong = h
all_right (x ∷ xs) line [] c h wrong = h
all_right (x ∷ xs) line (field ∷ fields) c h (inl wrong) = next_right x field line fields c h.0 wrong
all_right (x ∷ xs) line (field ∷ fields) c h (inr (y, rest, kind, (first, cut, read), wrong)) =
    let same : fields ≡ rest = cc in
    all_right xs line rest c (rw same at h.1) wrong

-- the other operations begin with a time
no_octets : (kinds : List OperandKind) → TimeKind ∷ kinds ≡ OctetsKind ∷ [] → ⊥
no_octets kinds e = cc

-- an operation with the word `text` is one of a timestamp's octets
text_right : (o : Operation) (fields : List (List ℕ)) (octets : List ℕ) (fault : BytesFault) → word_of o ≡ codes "text" → ReadEach fields (operands_of o) → IsOfTimestamp o → ReadEach fields (Octets octets ∷ []) → RefusesOctets octets fault → ⊥
text_right (op.Text a) fields octets fault e h ranges read refused =
    let same = same_operands fields (operands_of (op.Text a)) (Octets octets ∷ []) refl h read in
    let given : octets ≡ octets_of a = cc in
    octets_right a fault ranges (rw given at refused)
text_right o fields octets fault e h ranges read refused = no_octets _ (same_kinds o (op.Text any) e)

fields_right : (o : Operation) (line : List ℕ) (fields : List (List ℕ)) (c : UtcRefusal) → ReadEach fields (operands_of o) → IsOfTimestamp o → RefusesFields (word_of o) line fields c → ⊥
fields_right o line fields c h ranges (inl (unknown, _)) = unknown o refl
fields_right o line fields c h ranges (inr (inl (p, e, wrong))) = all_right (operands_of o) line fields c h (rw (same_kinds p o e) at wrong)
fields_right o line fields c h ranges (inr (inr (octets, fault, e, read, refused, _))) = text_right o fields octets fault e h ranges read refused

-- a line that asks for an operation is not refused in reading
pub reading_right : (line : List ℕ) (o : Operation) (c : UtcRefusal) → Spells line o → RefusesReading line c → ⊥
reading_right line o c (fields, cut, read, ranges) (word, others, cut', refused) =
    let both : word ∷ others ≡ word_of o ∷ fields = sym cut' ∙ cut in
    let words : word ≡ word_of o = cc in
    let same : others ≡ fields = cc in
    fields_right o line fields c read ranges (rw (words, same) at refused)
