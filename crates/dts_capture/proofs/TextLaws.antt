-- A text says one line at most, is wrong in one way at most, and not both; and what that tells of an answer.
use Rattle.std.proofs.Common.{◌≡◌, ◌⊎◌, inl, inr, ℕ, ◌≤◌, true, false, List, length, Option, Result, Ok, Err, refl, sym, ap, ◌∙◌, arith}
use Rattle.std.specs.Prelude.{IfOk, IfErr}
use Rattle.std.proofs.lemmas.Bool.{false≢true}
use Rattle.line_reader.specs.declared.limits.TheConstants.{MAX_LINE}
use Rattle.line_reader.specs.Fields.{fields_of}
use Rattle.dts_capture.specs.declared.line.Line.{Line}
use Rattle.dts_capture.specs.declared.line.LineFault.{LineFault}
use Rattle.dts_capture.specs.declared.line.LineFault.TheVariants as fault
use Rattle.dts_capture.specs.declared.line.Line.TheVariants as line
use Rattle.dts_capture.specs.Grammar.{Fault, Makes, line_forms}
use Rattle.dts_capture.specs.Spelling.{is_blank, Spells, IsWrongAt, IsFaultOf}
use Rattle.dts_capture.specs.Parsing.{Parses}
use Rattle.dts_capture.proofs.FormLaws.{makes_one, makes_or_fails, fails_one}

-- what a text says
abbrev Says : Option ℕ → List ℕ → Line → Type 0
Says current text l = ((is_blank text ≡ true) × (l ≡ line.Blank)) ⊎ ((is_blank text ≡ false) × Makes (line_forms current) (fields_of text) l)

one_said : (current : Option ℕ) (text : List ℕ) (l m : Line) → Says current text l → Says current text m → l ≡ m
one_said current text l m (inl h) (inl k) = h.1 ∙ sym k.1
one_said current text l m (inl h) (inr k) = absurd (false≢true (sym k.0 ∙ h.0))
one_said current text l m (inr h) (inl k) = absurd (false≢true (sym h.0 ∙ k.0))
one_said current text l m (inr h) (inr k) = makes_one (line_forms current) (fields_of text) l m h.1 k.1

pub one_line : (current : Option ℕ) (text : List ℕ) (l m : Line) → Spells current text l → Spells current text m → l ≡ m
one_line current text l m h k = one_said current text l m h.says k.says

said_or_wrong : (current : Option ℕ) (text : List ℕ) (l : Line) (f : Fault) → length text ≤ MAX_LINE → Says current text l → IsWrongAt current text f → ⊥
said_or_wrong current text l f short says (inl k) = omega (arith, short, k.0)
said_or_wrong current text l f short (inl h) (inr k) = false≢true (sym k.1 ∙ h.0)
said_or_wrong current text l f short (inr h) (inr k) = makes_or_fails (line_forms current) text 1 (fields_of text) l f h.1 k.2

pub spelled_or_wrong : (current : Option ℕ) (text : List ℕ) (l : Line) (f : Fault) → Spells current text l → IsWrongAt current text f → ⊥
spelled_or_wrong current text l f h k = said_or_wrong current text l f h.short h.says k

pub one_wrong_place : (current : Option ℕ) (text : List ℕ) (f g : Fault) → IsWrongAt current text f → IsWrongAt current text g → f ≡ g
one_wrong_place current text f g (inl h) (inl k) = h.1 ∙ sym k.1
one_wrong_place current text f g (inl h) (inr k) = absurd (omega (arith, h.0, k.0))
one_wrong_place current text f g (inr h) (inl k) = absurd (omega (arith, h.0, k.0))
one_wrong_place current text f g (inr h) (inr k) = fails_one (line_forms current) text 1 (fields_of text) f g h.2 k.2

-- what the reading of all fields gives is what the text says
pub parsed_line : (current : Option ℕ) (text : List ℕ) (r : Result Line LineFault) → length text ≤ MAX_LINE → is_blank text ≡ false
    → Parses (line_forms current) (record { line = text; left = fields_of text; word = 1 }) r → IfOk r (Spells current text)
unfolding Parses
parsed_line current text (Ok l) short blank h = record { short = short; says = inr (blank, h) }
parsed_line current text (Err f) short blank h = tt

pub parsed_fault : (current : Option ℕ) (text : List ℕ) (r : Result Line LineFault) → length text ≤ MAX_LINE → is_blank text ≡ false
    → Parses (line_forms current) (record { line = text; left = fields_of text; word = 1 }) r → IfErr r (IsFaultOf current text)
unfolding Parses
parsed_fault current text (Ok l) short blank h = tt
parsed_fault current text (Err (fault.Wrong column why)) short blank h = inr (short, blank, h)
parsed_fault current text (Err fault.NoMemory) short blank h = tt

-- the answer for a text that says a line, and for one that is wrong
pub only_line : (current : Option ℕ) (text : List ℕ) (r : Result Line LineFault) → IfOk r (Spells current text) → IfErr r (IsFaultOf current text)
    → (l : Line) → Spells current text l → (r ≡ Ok l) ⊎ (r ≡ Err fault.NoMemory)
only_line current text (Ok m) found wrong l says = inl (ap Ok (one_line current text m l found says))
only_line current text (Err (fault.Wrong column why)) found wrong l says = absurd (spelled_or_wrong current text l _ says wrong)
only_line current text (Err fault.NoMemory) found wrong l says = inr refl

pub only_fault : (current : Option ℕ) (text : List ℕ) (r : Result Line LineFault) → IfOk r (Spells current text) → IfErr r (IsFaultOf current text)
    → (f : Fault) → IsWrongAt current text f → (r ≡ Err (fault.Wrong f.column f.why)) ⊎ (r ≡ Err fault.NoMemory)
only_fault current text (Ok m) found wrong f is = absurd (spelled_or_wrong current text m f found is)
only_fault current text (Err (fault.Wrong column why)) found wrong f is =
    inl (ap (λ (g : Fault). Err (fault.Wrong g.column g.why)) (one_wrong_place current text (record { column = column; why = why }) f wrong is))
only_fault current text (Err fault.NoMemory) found wrong f is = inr refl
