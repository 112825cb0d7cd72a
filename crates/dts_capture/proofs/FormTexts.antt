-- What a form makes is in range and of fields without spaces, and each line of it in range has printed fields, as long as any others.
use Rattle.std.proofs.Common.{◌≡◌, ◌≢◌, inl, inr, ℕ, Bool, true, false, not, ◌&&◌, ◌||◌, ◌==◌, List, [], ◌∷◌, length, refl, sym, ap, ◌∙◌, subst, arith, eq-eqb, length-append}
use Rattle.std.specs.Str.{all_ascii_digits}
use Rattle.std.proofs.lemmas.Bool.{and_parts, false≢true}
use Rattle.line_reader.specs.Fields.{text_of}
use Rattle.dts_capture.specs.declared.line.Line.{Line}
use Rattle.dts_capture.specs.Kinds.{Natural, RecordNumber, Count, NotBelow, Word, Octets, value_of}
use Rattle.dts_capture.specs.Grammar.{Form, Ends, Field, Choice, NoWord, FromHere, Served, Makes}
use Rattle.dts_capture.specs.Ranges.{IsLineOf}
use Rattle.dts_capture.proofs.Graphic.{are_graphic, AreGraphic}
use Rattle.dts_capture.proofs.KindTexts.{IsNarrow, kind_range, kind_graphic, kind_length, printed, printed_text, count_digits, differs_from_digits}

-- two words differ
abbrev differs : List ℕ → List ℕ → Bool
differs [] [] = false
differs [] (y ∷ ys) = true
differs (x ∷ xs) [] = true
differs (x ∷ xs) (y ∷ ys) = not (x == y) || differs xs ys

-- no line of the form begins with this word
abbrev avoids : List ℕ → Form → Bool
avoids word (Ends said) = false
avoids word (Field Count more) = not (all_ascii_digits word)
avoids word (Field kind more) = false
avoids word (Choice other chosen more) = differs other word && avoids word more
avoids word (NoWord empty unknown) = true
avoids word (FromHere form) = avoids word form
avoids word (Served peer form) = avoids word form

-- the words of a form have no spaces and differ, and its numbers have 64 bits at most
abbrev pub IsPlain : Form → Type 0
IsPlain (Ends said) = Unit {0}
IsPlain (Field kind more) = IsNarrow kind × ((v : value_of kind) → IsPlain (more v))
IsPlain (Choice word chosen other) = (are_graphic word && avoids word other ≡ true) × IsPlain chosen × IsPlain other
IsPlain (NoWord empty unknown) = Unit {0}
IsPlain (FromHere form) = IsPlain form
IsPlain (Served peer form) = IsPlain form

pub makes_range : (form : Form) (fields : List (List ℕ)) (l : Line) → Makes form fields l → IsLineOf form l
makes_range (Ends said) [] l h = h
makes_range (Ends said) (field ∷ fields) l h = absurd h
makes_range (Field kind more) [] l h = absurd h
makes_range (Field kind more) (field ∷ fields) l (v, r, h) = (v, kind_range kind field v r, makes_range (more v) fields l h)
makes_range (Choice word chosen other) [] l h = absurd h
makes_range (Choice word chosen other) (field ∷ fields) l (inl h) = inl (makes_range chosen fields l h.1)
makes_range (Choice word chosen other) (field ∷ fields) l (inr h) = inr (makes_range other (field ∷ fields) l h.1)
makes_range (NoWord empty unknown) fields l h = absurd h
makes_range (FromHere form) fields l h = makes_range form fields l h
makes_range (Served peer form) fields l h = (h.0, makes_range form fields l h.1)

pub makes_graphic : (form : Form) (fields : List (List ℕ)) (l : Line) → IsPlain form → Makes form fields l → AreGraphic fields
makes_graphic (Ends said) [] l plain h = tt
makes_graphic (Ends said) (field ∷ fields) l plain h = absurd h
makes_graphic (Field kind more) [] l plain h = absurd h
makes_graphic (Field kind more) (field ∷ fields) l plain (v, r, h) =
    (kind_graphic kind field v r, makes_graphic (more v) fields l (plain.1 v) h)
makes_graphic (Choice word chosen other) [] l plain h = absurd h
makes_graphic (Choice word chosen other) (field ∷ fields) l plain (inl h) =
    (ap are_graphic h.0 ∙ (and_parts (are_graphic word) (avoids word other) plain.0).0, makes_graphic chosen fields l plain.1 h.1)
makes_graphic (Choice word chosen other) (field ∷ fields) l plain (inr h) = makes_graphic other (field ∷ fields) l plain.2 h.1
makes_graphic (NoWord empty unknown) fields l plain h = absurd h
makes_graphic (FromHere form) fields l plain h = makes_graphic form fields l plain h
makes_graphic (Served peer form) fields l plain h = makes_graphic form fields l plain h.1

-- fields of the same lengths, one by one
abbrev pub AreAsLong : List (List ℕ) → List (List ℕ) → Type 0
AreAsLong [] [] = Unit {0}
AreAsLong [] (g ∷ gs) = ⊥
AreAsLong (f ∷ fs) [] = ⊥
AreAsLong (f ∷ fs) (g ∷ gs) = (length f ≡ length g) × AreAsLong fs gs

pub same_length : (fs gs : List (List ℕ)) → AreAsLong fs gs → length (text_of fs) ≡ length (text_of gs)
same_length [] [] h = refl
same_length [] (g ∷ gs) h = absurd h
same_length (f ∷ fs) [] h = absurd h
same_length (f ∷ []) (g ∷ []) h = h.0
same_length (f ∷ []) (g ∷ g' ∷ gs) h = absurd h.1
same_length (f ∷ f' ∷ fs) (g ∷ []) h = absurd h.1
same_length (f ∷ f' ∷ fs) (g ∷ g' ∷ gs) h =
    let more = same_length (f' ∷ fs) (g' ∷ gs) h.1 in
    length-append f (32 ∷ text_of (f' ∷ fs)) ∙ (let first =
    h.0 in omega (arith, more, first)) ∙ sym (length-append g (32 ∷ text_of (g' ∷ gs)))

-- the printed fields of a line, on one way through the form
abbrev pub fields_on : (form : Form) (l : Line) → IsLineOf form l → List (List ℕ)
fields_on (Ends said) l d = []
fields_on (Field kind more) l (v, of_kind, d) = printed kind v ∷ fields_on (more v) l d
fields_on (Choice word chosen other) l (inl d) = word ∷ fields_on chosen l d
fields_on (Choice word chosen other) l (inr d) = fields_on other l d
fields_on (NoWord empty unknown) l d = []
fields_on (FromHere form) l d = fields_on form l d
fields_on (Served peer form) l (client, d) = fields_on form l d

differs_not_self : (xs : List ℕ) → differs xs xs ≡ true → ⊥
differs_not_self [] h = false≢true h
differs_not_self (x ∷ xs) h = let same = eq-eqb x x refl in differs_not_self xs (rw same at h)

-- some field stands first, and it is not this word
record BeginsOtherwise (word : List ℕ) (fields : List (List ℕ)) : Type 0 where
  first : List ℕ
  rest : List (List ℕ)
  are : fields ≡ first ∷ rest
  other : first ≢ word

begins_otherwise : (word : List ℕ) (form : Form) (l : Line) (d : IsLineOf form l) → avoids word form ≡ true
    → BeginsOtherwise word (fields_on form l d)
begins_otherwise word (Ends said) l d h = absurd (false≢true h)
begins_otherwise word (Field Count more) l (v, of_kind, d) h = record {
  first = printed Count v;
  rest = fields_on (more v) l d;
  are = refl;
  other = λ e. differs_from_digits word (printed Count v) h e (count_digits v of_kind);
}
begins_otherwise word (Field (Natural from to) more) l d h = absurd (false≢true h)
begins_otherwise word (Field (RecordNumber expected) more) l d h = absurd (false≢true h)
begins_otherwise word (Field (NotBelow lo) more) l d h = absurd (false≢true h)
begins_otherwise word (Field Word more) l d h = absurd (false≢true h)
begins_otherwise word (Field (Octets may_be_empty) more) l d h = absurd (false≢true h)
begins_otherwise word (Choice text chosen more) l (inl d) h = record {
  first = text;
  rest = fields_on chosen l d;
  are = refl;
  other = λ e. differs_not_self word (subst (λ t. differs t word ≡ true) e (and_parts (differs text word) (avoids word more) h).0);
}
begins_otherwise word (Choice text chosen more) l (inr d) h =
    begins_otherwise word more l d (and_parts (differs text word) (avoids word more) h).1
begins_otherwise word (NoWord empty unknown) l d h = absurd d
begins_otherwise word (FromHere form) l d h = begins_otherwise word form l d h
begins_otherwise word (Served peer form) l (client, d) h = begins_otherwise word form l d h

-- the form makes its lines in range of their printed fields
makes_other : (word : List ℕ) (chosen other : Form) (fields : List (List ℕ)) (l : Line) → BeginsOtherwise word fields
    → Makes other fields l → Makes (Choice word chosen other) fields l
makes_other word chosen other fields l b h =
    subst (λ fs. Makes (Choice word chosen other) fs l) (sym b.are) (inr (b.other, subst (λ fs. Makes other fs l) b.are h))

pub makes_printed : (form : Form) (l : Line) (d : IsLineOf form l) → IsPlain form → Makes form (fields_on form l d) l
makes_printed (Ends said) l d plain = d
makes_printed (Field kind more) l (v, of_kind, d) plain = (v, printed_text kind v plain.0 of_kind, makes_printed (more v) l d (plain.1 v))
makes_printed (Choice word chosen other) l (inl d) plain = inl (refl, makes_printed chosen l d plain.1)
makes_printed (Choice word chosen other) l (inr d) plain =
    makes_other word chosen other (fields_on other l d) l
    (begins_otherwise word other l d (and_parts (are_graphic word) (avoids word other) plain.0).1)
    (makes_printed other l d plain.2)
makes_printed (NoWord empty unknown) l d plain = absurd d
makes_printed (FromHere form) l d plain = makes_printed form l d plain
makes_printed (Served peer form) l (client, d) plain = (client, makes_printed form l d plain)

-- and they are as long as any others
pub printed_as_long : (form : Form) (fields : List (List ℕ)) (l : Line) → IsPlain form → (h : Makes form fields l)
    → AreAsLong fields (fields_on form l (makes_range form fields l h))
unfolding makes_range
printed_as_long (Ends said) [] l plain h = tt
printed_as_long (Ends said) (field ∷ fields) l plain h = absurd h
printed_as_long (Field kind more) [] l plain h = absurd h
printed_as_long (Field kind more) (field ∷ fields) l plain (v, r, h) = (
  kind_length kind field (printed kind v) v plain.0 r (printed_text kind v plain.0 (kind_range kind field v r)),
  printed_as_long (more v) fields l (plain.1 v) h,
)
printed_as_long (Choice word chosen other) [] l plain h = absurd h
printed_as_long (Choice word chosen other) (field ∷ fields) l plain (inl h) = (ap length h.0, printed_as_long chosen fields l plain.1 h.1)
printed_as_long (Choice word chosen other) (field ∷ fields) l plain (inr h) = printed_as_long other (field ∷ fields) l plain.2 h.1
printed_as_long (NoWord empty unknown) fields l plain h = absurd h
printed_as_long (FromHere form) fields l plain h = printed_as_long form fields l plain h
printed_as_long (Served peer form) fields l plain h = printed_as_long form fields l plain h.1
