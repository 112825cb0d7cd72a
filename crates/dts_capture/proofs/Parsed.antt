-- What one step of reading says of a form.
use Rattle.std.proofs.Common.{◌≡◌, ◌≢◌, inl, inr, ℕ, List, [], ◌∷◌, Result, Ok, Err, refl, sym, subst}
use Rattle.std.specs.Prelude.{MatchResult, IsErrAnd}
use Rattle.std.proofs.lemmas.Result.{err_from_is_err_and}
use Rattle.line_reader.specs.Fields.{column_of}
use Rattle.dts_capture.specs.declared.line.Line.{Line}
use Rattle.dts_capture.specs.declared.line.LineCause.{LineCause}
use Rattle.dts_capture.specs.declared.line.LineCause.TheVariants as cause
use Rattle.dts_capture.specs.declared.line.LineFault.{LineFault}
use Rattle.dts_capture.specs.declared.line.LineFault.TheVariants as fault
use Rattle.dts_capture.specs.Kinds.{Kind, value_of, Reads, Wrong, WrongText}
use Rattle.dts_capture.specs.Grammar.{Form, Field, Fails}
use Rattle.dts_capture.specs.Parsing.{Place, Parses}

-- a field that is read, and then what follows it
read_along : (kind : Kind) (more : value_of kind → Form) (line field : List ℕ) (rest : List (List ℕ)) (word : ℕ) (v : value_of kind) (r : Result Line LineFault)
    → Reads kind field v → Parses (more v) (record { line = line; left = rest; word = word }) r → Parses (Field kind more) (record { line = line; left = field ∷ rest; word = word }) r
unfolding Parses
read_along kind more line field rest word v (Ok l) reads parses = (v, reads, parses)
read_along kind more line field rest word v (Err (fault.Wrong column why)) reads parses = inr (v, reads, parses)
read_along kind more line field rest word v (Err fault.NoMemory) reads parses = tt

pub field_read : (kind : Kind) (more : value_of kind → Form) (old new : Place) (field : List ℕ) (rest : List (List ℕ)) (v : value_of kind) (r : Result Line LineFault)
    → old.left ≡ field ∷ rest → new ≡ record old { left = rest } → Reads kind field v → Parses (more v) new r → Parses (Field kind more) old r
unfolding Parses
field_read kind more old new field rest v r here then reads parses =
    subst (λ (left : List (List ℕ)). Parses (Field kind more) (record { line = old.line; left = left; word = old.word }) r) (sym here)
    (read_along kind more old.line field rest old.word v r reads (subst (λ (p : Place). Parses (more v) p r) then parses))

-- a field that is wrong
wrong_text : (kind : Kind) (field : List ℕ) (why : LineCause) → field ≢ [] → WrongText kind field why → Wrong kind field why
wrong_text kind [] why some w = absurd (some refl)
wrong_text kind (octet ∷ octets) why some w = w

pub field_wrong : (kind : Kind) (more : value_of kind → Form) (place : Place) (field : List ℕ) (rest : List (List ℕ)) (why : LineCause)
    → place.left ≡ field ∷ rest → field ≢ [] → WrongText kind field why → Parses (Field kind more) place (Err (fault.Wrong (column_of place.line place.left) why))
unfolding Parses
field_wrong kind more place field rest why here some wrong =
    subst (λ (left : List (List ℕ)). Fails (Field kind more) place.line place.word left (record { column = column_of place.line left; why = why })) (sym here)
    (inl (why, wrong_text kind field why some wrong, refl))

-- a field that is missing, or empty
pub field_missing : (kind : Kind) (more : value_of kind → Form) (place : Place) → place.left ≡ [] → Parses (Field kind more) place (Err (fault.Wrong (column_of place.line place.left) cause.Missing))
unfolding Parses
field_missing kind more place none =
    subst (λ (left : List (List ℕ)). Fails (Field kind more) place.line place.word left (record { column = column_of place.line left; why = cause.Missing })) (sym none) refl

pub field_empty : (kind : Kind) (more : value_of kind → Form) (place : Place) (rest : List (List ℕ)) → place.left ≡ [] ∷ rest → Parses (Field kind more) place (Err (fault.Wrong (column_of place.line place.left) cause.Missing))
unfolding Parses
field_empty kind more place rest here =
    subst (λ (left : List (List ℕ)). Fails (Field kind more) place.line place.word left (record { column = column_of place.line left; why = cause.Missing })) (sym here) (inl (cause.Missing, refl, refl))

-- what an exit of a `?` returns
pub exit : {T E : Type 0} (P : T → Type 0) (Q F : E → Type 0) (r : Result T E) → IsErrAnd r F → ((y : E) → F y → Q y) → MatchResult r P Q
exit P Q F r h then = let p = err_from_is_err_and r h in rw p.1 (then p.0 p.2)
