-- A line in range has a printed text that spells it and is as long as any other, and only such a line has a text.
use Rattle.std.proofs.Common.{◌≡◌, ◌⊎◌, inl, inr, ℕ, ◌≤◌, true, false, List, [], ◌∷◌, length, Option, Some, None, refl, sym, ap, ◌∙◌, subst, arith}
use Rattle.line_reader.specs.declared.limits.TheConstants.{MAX_LINE}
use Rattle.line_reader.specs.Fields.{fields_of, text_of}
use Rattle.line_reader.specs.Lines.{IsLine}
use Rattle.line_reader.proofs.FieldFacts.{text_of-fields_of, fields_of-text_of}
use Rattle.dts_capture.specs.declared.event.Event.TheVariants as event
use Rattle.dts_capture.specs.declared.line.Line.{Line}
use Rattle.dts_capture.specs.declared.line.Line.TheVariants as line
use Rattle.dts_capture.specs.Grammar.{Makes, line_forms}
use Rattle.dts_capture.specs.Spelling.{is_blank, Spells}
use Rattle.dts_capture.specs.Printing.{line_fields, line_text}
use Rattle.dts_capture.specs.Ranges.{IsLineOf, IsLineInRange, IsSpellable}
use Rattle.dts_capture.proofs.Graphic.{no_spaces, text_no_feed}
use Rattle.dts_capture.proofs.FormTexts.{makes_range, makes_graphic, same_length, AreAsLong, makes_printed, printed_as_long}
use Rattle.dts_capture.proofs.Printed.{lines_plain, printed_fields}

makes_fields : (current : Option ℕ) (l : Line) → IsLineOf (line_forms current) l → Makes (line_forms current) (line_fields l) l
makes_fields current l d =
    subst (λ fs. Makes (line_forms current) fs l) (printed_fields current l d)
    (makes_printed (line_forms current) l d (lines_plain current))

-- the fields are cut again as they were joined
cut_again : (current : Option ℕ) (fields : List (List ℕ)) (l : Line) → Makes (line_forms current) fields l
    → fields_of (text_of fields) ≡ fields
cut_again current [] l h = absurd h
cut_again current (field ∷ fields) l h =
    fields_of-text_of field fields
    (no_spaces (field ∷ fields) (makes_graphic (line_forms current) (field ∷ fields) l (lines_plain current) h))

not_blank : (current : Option ℕ) (l : Line) → Makes (line_forms current) (line_fields l) l → is_blank (line_text l) ≡ false
not_blank current line.Blank h = absurd h
not_blank current (line.Start osc value None) h = refl
not_blank current (line.Start osc value (Some i)) h = refl
not_blank current (line.Event None (event.Tick osc word)) h = refl
not_blank current (line.Event None (event.Stream osc peer bytes)) h = refl
not_blank current (line.Event None (event.Gram osc peer bytes)) h = refl
not_blank current (line.Event None (event.Lost osc peer)) h = refl
not_blank current (line.Event None (event.Unsent osc peer)) h = refl
not_blank current (line.Event None (event.Read osc)) h = refl
not_blank current (line.Event None (event.Ask osc conn bytes)) h = refl
not_blank current (line.Event None (event.Query osc tag)) h = refl
not_blank current (line.Event None (event.Source osc tag i)) h = refl
not_blank current (line.Event None (event.Adopt osc required)) h = refl
not_blank current (line.Event (Some k) e) h = refl

-- nothing prints as an empty line
nothing_printed : (l : Line) → l ≡ line.Blank → line_text l ≡ []
nothing_printed l is = ap line_text is

says_printed : (current : Option ℕ) (l : Line) → IsLineInRange current l
    → ((is_blank (line_text l) ≡ true) × (l ≡ line.Blank))
    ⊎ ((is_blank (line_text l) ≡ false) × Makes (line_forms current) (fields_of (line_text l)) l)
says_printed current l (inl is) = inl (ap is_blank (nothing_printed l is), is)
says_printed current l (inr d) =
    let makes = makes_fields current l d in
    inr (not_blank current l makes, subst (λ fs. Makes (line_forms current) fs l) (sym (cut_again current (line_fields l) l makes)) makes)

pub spelled : (current : Option ℕ) (l : Line) → IsSpellable current l → Spells current (line_text l) l
spelled current l can = record { short = can.short; says = says_printed current l can.range }

-- a text and the printed one are as long
as_long : (current : Option ℕ) (text : List ℕ) (l : Line) → Makes (line_forms current) (fields_of text) l
    → length text ≡ length (line_text l)
as_long current text l makes =
    let d = makes_range (line_forms current) (fields_of text) l makes in
    let same = subst (AreAsLong (fields_of text)) (printed_fields current l d)
    (printed_as_long (line_forms current) (fields_of text) l (lines_plain current) makes) in
    ap length (sym (text_of-fields_of text)) ∙ same_length (fields_of text) (line_fields l) same

said_only : (current : Option ℕ) (text : List ℕ) (l : Line) → length text ≤ MAX_LINE
    → ((is_blank text ≡ true) × (l ≡ line.Blank)) ⊎ ((is_blank text ≡ false) × Makes (line_forms current) (fields_of text) l)
    → IsSpellable current l
said_only current text l short (inl h) = record { range = inl h.1; short = omega (arith, ap length (nothing_printed l h.1)) }
said_only current text l short (inr h) =
    record {
      range = inr (makes_range (line_forms current) (fields_of text) l h.1);
      short = omega
          (arith, short, as_long current text l h.1);
    }

pub spelled_only : (current : Option ℕ) (text : List ℕ) (l : Line) → Spells current text l → IsSpellable current l
spelled_only current text l h = said_only current text l h.short h.says

-- the printed text is cut into its fields again
pub printed_cut : (current : Option ℕ) (l : Line) → IsLineOf (line_forms current) l → fields_of (line_text l) ≡ line_fields l
printed_cut current l d = cut_again current (line_fields l) l (makes_fields current l d)

-- so the printed text of a line spells it where any text does
pub reads_back : (l : Line) (text : List ℕ) → text ≡ line_text l → (current : Option ℕ) (written : List ℕ) → Spells current written l
    → Spells current text l
reads_back l text is current written h = subst (λ t. Spells current t l) (sym is) (spelled current l (spelled_only current written l h))

-- and it has no line feed
no_feed : (current : Option ℕ) (l : Line) → IsLineInRange current l → IsLine (line_text l)
no_feed current l (inl is) = subst IsLine (sym (nothing_printed l is)) tt
no_feed current l (inr d) =
    text_no_feed (line_fields l) (makes_graphic (line_forms current) (line_fields l) l (lines_plain current) (makes_fields current l d))

pub printed_is_line : (current : Option ℕ) (l : Line) → IsSpellable current l → IsLine (line_text l)
printed_is_line current l can = no_feed current l can.range
