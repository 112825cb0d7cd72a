-- Laws of fields.
use Rattle.std.proofs.Common.{◌≡◌, ◌≢◌, ℕ, ◌-◌, true, false, cond, List, [], ◌∷◌, ◌++◌, length, take, drop, eqb, refl, sym, ap, ◌∙◌, append_assoc, length-append, arith}
use Rattle.std.specs.Prelude.{◌==◌}
use Rattle.std.specs.List.{slice_split, onto_first}
use Rattle.std.proofs.lemmas.Bool.{eqb-true}
use Rattle.std.proofs.Math.Seq.{drop-append_seam, take-append_seam, take-length}
use Rattle.std.proofs.lemmas.List.Splits.{join_with_byte-slice_split}
use Rattle.line_reader.specs.Fields.{text_of, fields_of, column_of}
use Rattle.line_reader.specs.Laws.{HasNoSpace, HaveNoSpace}

-- the fields of a text, joined by spaces, are the text
pub text_of-fields_of : (text : List ℕ) → text_of (fields_of text) ≡ text
unfolding fields_of
text_of-fields_of text = join_with_byte-slice_split 32 text

-- an octet that is no space fails the test for one
no_space : (octet : ℕ) → octet ≢ 32 → eqb octet 32 ≡ false
no_space octet ne = elim (eqb octet 32) as (λ b. eqb octet 32 ≡ b → b ≡ false) [ true ↦ λ e. absurd (ne (eqb-true octet 32 e)) | false ↦ λ e. refl ] refl

one_field : (field : List ℕ) → HasNoSpace field → fields_of field ≡ field ∷ []
unfolding fields_of
one_field [] has = refl
one_field (octet ∷ field) (ne, has) =
    ap (λ b. cond b ([] ∷ slice_split (λ x. x == 32) field) (onto_first octet (slice_split (λ x. x == 32) field))) (no_space octet ne) ∙ ap (onto_first octet) (one_field field has)

first_field : (field rest : List ℕ) → HasNoSpace field → fields_of (field ++ 32 ∷ rest) ≡ field ∷ fields_of rest
unfolding fields_of
first_field [] rest has = refl
first_field (octet ∷ field) rest (ne, has) =
    let more = slice_split (λ x. x == 32) (field ++ 32 ∷ rest) in
    ap (λ b. cond b ([] ∷ more) (onto_first octet more)) (no_space octet ne) ∙ ap (onto_first octet) (first_field field rest has)

-- fields without spaces are those of their text
pub fields_of-text_of : (field : List ℕ) (fields : List (List ℕ)) → HaveNoSpace (field ∷ fields) → fields_of (text_of (field ∷ fields)) ≡ field ∷ fields
fields_of-text_of field [] (has, have) = one_field field has
fields_of-text_of field (next ∷ fields) (has, have) = first_field field (text_of (next ∷ fields)) has ∙ ap (λ fs. field ∷ fs) (fields_of-text_of next fields have)

-- what stands in front of a field
in_front : (front : List (List ℕ)) (field : List ℕ) (rest : List (List ℕ)) → (octets : List ℕ) × (text_of (front ++ field ∷ rest) ≡ octets ++ text_of (field ∷ rest))
in_front [] field rest = ([], refl)
in_front (first ∷ []) field rest = (first ++ 32 ∷ [], sym (append_assoc first (32 ∷ []) (text_of (field ∷ rest))))
in_front (first ∷ next ∷ front) field rest =
    let more = in_front (next ∷ front) field rest in
    (first ++ 32 ∷ more.0, ap (λ o. first ++ 32 ∷ o) more.1 ∙ sym (append_assoc first (32 ∷ more.0) (text_of (field ∷ rest))))

-- a text begins with its first field
begins_with_first : (field : List ℕ) (rest : List (List ℕ)) → take (length field) (text_of (field ∷ rest)) ≡ field
begins_with_first field [] = take-length field
begins_with_first field (next ∷ rest) = take-append_seam field (32 ∷ text_of (next ∷ rest))

-- a field stands at its column
pub at_column : (line : List ℕ) (front : List (List ℕ)) (field : List ℕ) (rest : List (List ℕ)) → fields_of line ≡ front ++ field ∷ rest → take (length field) (drop (column_of line (field ∷ rest) - 1) line) ≡ field
at_column line front field rest cut =
    let f = in_front front field rest in
    let all : line ≡ f.0 ++ text_of (field ∷ rest) = sym (text_of-fields_of line) ∙ ap text_of cut ∙ f.1 in
    let column : column_of line (field ∷ rest) - 1 ≡ length f.0 = omega (arith, ap length all, length-append f.0 (text_of (field ∷ rest))) in
    ap (λ k. take (length field) (drop k line)) column ∙ ap (λ o. take (length field) (drop (length f.0) o)) all ∙ ap (take (length field)) (drop-append_seam f.0 (text_of (field ∷ rest))) ∙ begins_with_first field rest
