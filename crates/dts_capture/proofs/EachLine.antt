-- Each text spells a line, or is wrong somewhere.
use Rattle.std.proofs.Common.{◌≡◌, ◌≢◌, ◌⊎◌, inl, inr, ℕ, ◌+◌, ℤ, pos, Bool, true, false, List, [], ◌∷◌, length, Option, Some, None, Result, Ok, Err, refl}
use Rattle.std.specs.Prelude.{codes, unsigned_abs}
use Rattle.std.specs.Int.{from_be_bytes, w64}
use Rattle.std.proofs.lemmas.Bool.{cases_Bool, cases_eq, cases_lt, false≢true}
use Rattle.std.proofs.lemmas.Int.{by_lt_z}
use Rattle.line_reader.specs.declared.limits.TheConstants.{MAX_LINE}
use Rattle.line_reader.specs.Fields.{fields_of, column_of}
use Rattle.line_reader.proofs.Deciding.{number_or_fault}
use Rattle.hex.specs.Hex.{decode_of, decode_sized}
use Rattle.hex.specs.declared.error.FromHexError.{FromHexError}
use Rattle.dts_capture.specs.declared.line.Line.{Line}
use Rattle.dts_capture.specs.declared.line.Line.TheVariants as line
use Rattle.dts_capture.specs.declared.line.LineCause.{LineCause}
use Rattle.dts_capture.specs.declared.line.LineCause.TheVariants as cause
use Rattle.dts_capture.specs.Kinds.{greatest_record, greatest_count, Kind, Natural, RecordNumber, Count, NotBelow, Word, Octets, value_of, IsNumber, Reads, WrongNumber, WrongText, Wrong}
use Rattle.dts_capture.specs.Grammar.{Form, Ends, Field, Choice, NoWord, FromHere, Served, Makes, Fails, Fault, left_over, no_word, first_connection, line_forms}
use Rattle.dts_capture.specs.Spelling.{is_blank, Spells, IsWrongAt}
use Rattle.dts_capture.specs.Parsing.{number_cause}
use Rattle.dts_capture.proofs.FieldSteps.{whole_number, wrong_number, hex_octets, no_octets}

same_or_other : (xs ys : List ℕ) → (xs ≡ ys) ⊎ (xs ≢ ys)
same_or_other [] [] = inl refl
same_or_other [] (y ∷ ys) = inr (λ e. cc)
same_or_other (x ∷ xs) [] = inr (λ e. cc)
same_or_other (x ∷ xs) (y ∷ ys) =
    elim (cases_eq x y) [
      | inr other ↦ inr (λ e. other (let head : x ≡ y = cc in head))
      | inl head ↦ elim (same_or_other xs ys) [ inl tail ↦ inl cc | inr other ↦ inr (λ e. other (let tail : xs ≡ ys = cc in tail)) ]
    ]

-- ---- each field is the text of a value, or wrong

abbrev NumberOrWrong : ℕ → ℕ → List ℕ → Type 0
NumberOrWrong from to field = ((n : ℕ) × IsNumber from to field n) ⊎ ((why : LineCause) × WrongNumber from to field why)

number_or_wrong : (from to : ℕ) (field : List ℕ) → NumberOrWrong from to field
number_or_wrong from to field =
    elim (number_or_fault field (pos from) (pos to)) [
      | inl (z, whole, within) ↦ inl (unsigned_abs z, whole_number from to field z whole within.0 within.1)
      | inr (f, wrong) ↦ inr (number_cause f, wrong_number from to field f wrong)
    ]

abbrev TextOrWrong : Kind → List ℕ → Type 0
TextOrWrong kind field = ((v : value_of kind) × Reads kind field v) ⊎ ((why : LineCause) × WrongText kind field why)

record_or_wrong : (expected : Option ℕ) (field : List ℕ) → NumberOrWrong 0 greatest_record field → TextOrWrong (RecordNumber expected) field
record_or_wrong expected field (inr (why, wrong)) = inr (why, inl wrong)
record_or_wrong None field (inl (n, number)) = inl (n, (number, tt))
record_or_wrong (Some k) field (inl (n, number)) =
    elim (cases_eq n k) [ inl same ↦ inl (n, (number, same)) | inr other ↦ inr (cause.At, inr (refl, (n, k, number, refl, other))) ]

high_or_wrong : (lo : ℤ) (field : List ℕ) → NumberOrWrong 0 greatest_count field → TextOrWrong (NotBelow lo) field
high_or_wrong lo field (inr (why, wrong)) = inr (why, inl wrong)
high_or_wrong lo field (inl (n, number)) =
    by_lt_z (pos n) lo
    (λ below. inr (cause.Order, inr (refl, (n, number, below))))
    (λ ordered. inl (record { lo = lo; hi = pos n; ordered = ordered }, (n, number, refl, refl)))

word_or_wrong : (field : List ℕ) (r : Result (List ℕ) FromHexError) → decode_sized field 8 ≡ r → TextOrWrong Word field
word_or_wrong field (Ok octets) is = inl (from_be_bytes w64 octets, (octets, is, refl))
word_or_wrong field (Err e) is = inr (cause.Hex, (refl, λ w reads. let d = reads.1 in cc))

dash_or_wrong : (may_be_empty : Bool) (field : List ℕ) (e : FromHexError) → decode_of field ≡ Err e
    → TextOrWrong (Octets may_be_empty) field
dash_or_wrong false field e is = inr (cause.Hex, (refl, no_octets false field e (λ h. false≢true h.0) is))
dash_or_wrong true field e is =
    elim (same_or_other field (codes "-")) [
      | inl dash ↦ inl ([], inl (refl, dash, refl))
      | inr other ↦ inr (cause.Hex, (refl, no_octets true field e (λ h. other h.1) is))
    ]

octets_or_wrong : (may_be_empty : Bool) (field : List ℕ) (r : Result (List ℕ) FromHexError) → field ≢ [] → decode_of field ≡ r
    → TextOrWrong (Octets may_be_empty) field
octets_or_wrong may_be_empty field (Ok b) some is = inl (b, inr (hex_octets field b some is, is))
octets_or_wrong may_be_empty field (Err e) some is = dash_or_wrong may_be_empty field e is

text_or_wrong : (kind : Kind) (field : List ℕ) → field ≢ [] → TextOrWrong kind field
text_or_wrong (Natural from to) field some = number_or_wrong from to field
text_or_wrong (RecordNumber expected) field some = record_or_wrong expected field (number_or_wrong 0 greatest_record field)
text_or_wrong Count field some =
    elim (number_or_wrong 0 greatest_count field) [ inl (n, number) ↦ inl (pos n, (n, number, refl)) | inr wrong ↦ inr wrong ]
text_or_wrong (NotBelow lo) field some = high_or_wrong lo field (number_or_wrong 0 greatest_count field)
text_or_wrong Word field some = word_or_wrong field (decode_sized field 8) refl
text_or_wrong (Octets may_be_empty) field some = octets_or_wrong may_be_empty field (decode_of field) some refl

field_or_wrong : (kind : Kind) (field : List ℕ) → ((v : value_of kind) × Reads kind field v) ⊎ ((why : LineCause) × Wrong kind field why)
field_or_wrong kind [] = inr (cause.Missing, refl)
field_or_wrong kind (octet ∷ octets) = text_or_wrong kind (octet ∷ octets) (λ e. cc)

-- ---- fields make a line of a form, or fail it

abbrev MakesOrFails : Form → List ℕ → ℕ → List (List ℕ) → Type 0
MakesOrFails form line word fields = ((l : Line) × Makes form fields l) ⊎ ((f : Fault) × Fails form line word fields f)

makes_or_fails : (form : Form) (line : List ℕ) (word : ℕ) (fields : List (List ℕ)) → MakesOrFails form line word fields
makes_or_fails (Ends said) line word [] = inl (said, refl)
makes_or_fails (Ends said) line word (field ∷ fields) =
    inr (record { column = column_of line (field ∷ fields); why = left_over field }, refl)
makes_or_fails (Field kind more) line word [] = inr (record { column = column_of line []; why = cause.Missing }, refl)
makes_or_fails (Field kind more) line word (field ∷ fields) =
    elim (field_or_wrong kind field) [
      | inl (v, reads) ↦
          elim (makes_or_fails (more v) line word fields) [
            | inl (l, makes) ↦ inl (l, (v, reads, makes))
            | inr (f, fails) ↦ inr (f, inr (v, reads, fails))
          ]
      | inr (why, wrong) ↦ inr (record { column = column_of line (field ∷ fields); why = why }, inl (why, wrong, refl))
    ]
makes_or_fails (Choice text chosen other) line word [] = inr (record { column = column_of line []; why = cause.Missing }, refl)
makes_or_fails (Choice text chosen other) line word (field ∷ fields) =
    elim (same_or_other field text) [
      | inl same ↦
          elim (makes_or_fails chosen line word fields) [
            | inl (l, makes) ↦ inl (l, inl (same, makes))
            | inr (f, fails) ↦ inr (f, inl (same, fails))
          ]
      | inr differs ↦
          elim (makes_or_fails other line word (field ∷ fields)) [
            | inl (l, makes) ↦ inl (l, inr (differs, makes))
            | inr (f, fails) ↦ inr (f, inr (differs, fails))
          ]
    ]
makes_or_fails (NoWord empty unknown) line word [] = inr (record { column = column_of line []; why = cause.Missing }, refl)
makes_or_fails (NoWord empty unknown) line word (field ∷ fields) =
    inr (record { column = column_of line (field ∷ fields); why = no_word empty unknown field }, refl)
makes_or_fails (FromHere form) line word fields = makes_or_fails form line (column_of line fields) fields
makes_or_fails (Served peer form) line word fields =
    elim (cases_lt peer first_connection) [
      | inl server ↦ inr (record { column = word; why = cause.At }, inl (server, refl))
      | inr client ↦
          elim (makes_or_fails form line word fields) [
            | inl (l, makes) ↦ inl (l, (client, makes))
            | inr (f, fails) ↦ inr (f, inr (client, fails))
          ]
    ]

-- ---- each line

pub each_line : (current : Option ℕ) (text : List ℕ) → ((l : Line) × Spells current text l) ⊎ ((f : Fault) × IsWrongAt current text f)
each_line current text =
    elim (cases_lt MAX_LINE (length text)) [
      | inl long ↦ inr (record { column = MAX_LINE + 1; why = cause.Long }, inl (long, refl))
      | inr short ↦
          elim (cases_Bool (is_blank text)) [
            | inl blank ↦ inl (line.Blank, record { short = short; says = inl (blank, refl) })
            | inr some ↦
                elim (makes_or_fails (line_forms current) text 1 (fields_of text)) [
                  | inl (l, makes) ↦ inl (l, record { short = short; says = inr (some, makes) })
                  | inr (f, fails) ↦ inr (f, inr (short, some, fails))
                ]
          ]
    ]
