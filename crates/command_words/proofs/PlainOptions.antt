-- What clap makes of options in plain form.
use Rattle.std.proofs.Common.{append-nil, ◌≡◌, ◌∙◌, ◌&&◌, ◌||◌, ℕ, Bool, true, false, List, [], ◌∷◌, ◌++◌, Some, None, refl, sym, ap, codes, if◌then◌else◌, true≢false}
use Rattle.std.specs.Prelude.{bytes_eq}
use Rattle.clap.specs.Words.{Row, Rule, Shape, Text}
use Rattle.clap.specs.Lexer.{long_of}
use Rattle.clap.specs.Walk.{Held, Waiting, idle, long_or_other, next, option, plain_word, settled, short_or_plain, trailing, walk_from, word_met, subcommand_or_other, has_row, at_row, more_values, with_values, without}
use Rattle.clap.specs.ValueTests.{is_unsigned_in}
use Rattle.clap.specs.Faults.{settle_fault, turn_fault}
use Rattle.clap.specs.Kinds.{or_else}
use Rattle.clap.specs.declared.error.ErrorKind.TheVariants as kind
use Rattle.clap.specs.declared.builder.value_parser.Reading.TheVariants as reading
use Rattle.clap.specs.declared.parser.matches.ValueSource.TheVariants as source
use Rattle.clap.proofs.OnLiterals.{clap_on_literals}
use Rattle.command_words.specs.Plain.{Given, HalfOption, is_of_clerk, least_of, most_of, name_of, turns, start, inaccuracy, workers}
use Rattle.command_words.proofs.PlainValues.{IsValue}
use Rattle.command_words.proofs.Leaves.{clerk_leaf, server_leaf}

-- ---- words that are no option

pub no_option : (c : List Rule) (waiting : Waiting) (position : ℕ) (word : Text) (h : Held) → IsValue word → subcommand_or_other c None waiting position word h ≡ plain_word c waiting word h
no_option c waiting position word h v =
    ap (λ b. if b then (h, trailing position) else long_or_other c waiting word (long_of word) h) v.dashes
    ∙ ap (λ l. long_or_other c waiting word l h) v.long ∙ ap (λ s. short_or_plain c waiting word s h) v.short

-- ---- one option

-- what is held when an option waits for its value, and when it has it
abbrev pub held_waiting : List Row → Text → Held
held_waiting rows name = record { rows = rows; pending = Some (name, []); skip = 0 }

abbrev pub held_with : List Row → Text → Text → Held
held_with rows name text = record { rows = rows; pending = Some (name, text ∷ []); skip = 0 }

-- the word of an option's name
abbrev pub dashed : HalfOption → Text
dashed o = codes "--" ++ name_of o

-- clap reads the option's name, and then its value
pub record Reads (c : List Rule) (o : HalfOption) : Type 0 where
  pub name : (h : Held) → word_met c [] false idle 1 (dashed o) h ≡ (record (settled c h) { pending = Some (name_of o, []) }, next (option (name_of o)))
  pub value : (rows : List Row) (word : Text) → plain_word c (option (name_of o)) word (held_waiting rows (name_of o)) ≡ (held_with rows (name_of o) word, next idle)

pub server_reads : (o : HalfOption) → Reads server_leaf.rules o
unfolding clap_on_literals
server_reads turns = record { name = λ h. refl; value = λ rows word. refl }
server_reads start = record { name = λ h. refl; value = λ rows word. refl }
server_reads inaccuracy = record { name = λ h. refl; value = λ rows word. refl }
server_reads workers = record { name = λ h. refl; value = λ rows word. refl }

pub clerk_reads : (o : HalfOption) → is_of_clerk o ≡ true → Reads clerk_leaf.rules o
unfolding clap_on_literals
clerk_reads turns e = record { name = λ h. refl; value = λ rows word. refl }
clerk_reads start e = record { name = λ h. refl; value = λ rows word. refl }
clerk_reads inaccuracy e = record { name = λ h. refl; value = λ rows word. refl }
clerk_reads workers e = absurd (true≢false (sym e))

-- and finds no fault in them but that of the option before
pub record Faults (s : Shape) (o : HalfOption) : Type 0 where
  pub name : (h : Held) → turn_fault s [] (walk_from h) (dashed o) ≡ or_else (settle_fault s.rules s.args_override_self h) []
  pub settle : (rows : List Row) (word : Text) → settle_fault s.rules s.args_override_self (held_with rows (name_of o) word)
      ≡ or_else (if has_row (name_of o) rows && true then kind.ArgumentConflict ∷ [] else []) (or_else (if is_unsigned_in (least_of o) (most_of o) word then [] else kind.ValueValidation ∷ []) [])
  pub settled : (rows : List Row) (word : Text) → (settled s.rules (held_with rows (name_of o) word)).rows ≡ with_values (name_of o) reading.AsWritten source.CommandLine (word ∷ []) (without (name_of o) rows)

pub server_faults : (o : HalfOption) → Faults server_leaf o
unfolding clap_on_literals
server_faults turns = record { name = λ h. refl; settle = λ rows word. refl; settled = λ rows word. refl }
server_faults start = record { name = λ h. refl; settle = λ rows word. refl; settled = λ rows word. refl }
server_faults inaccuracy = record { name = λ h. refl; settle = λ rows word. refl; settled = λ rows word. refl }
server_faults workers = record { name = λ h. refl; settle = λ rows word. refl; settled = λ rows word. refl }

pub clerk_faults : (o : HalfOption) → is_of_clerk o ≡ true → Faults clerk_leaf o
unfolding clap_on_literals
clerk_faults turns e = record { name = λ h. refl; settle = λ rows word. refl; settled = λ rows word. refl }
clerk_faults start e = record { name = λ h. refl; settle = λ rows word. refl; settled = λ rows word. refl }
clerk_faults inaccuracy e = record { name = λ h. refl; settle = λ rows word. refl; settled = λ rows word. refl }
clerk_faults workers e = absurd (true≢false (sym e))

-- ---- rows

pub right_false : (a b : Bool) → (a || b) ≡ false → b ≡ false
right_false true b e = absurd (true≢false e)
right_false false b e = e

-- no row has the id
pub at_no_row : (id : Text) (change : Row → List Row) (missing rows : List Row) → has_row id rows ≡ false → at_row id change missing rows ≡ rows ++ missing
at_no_row id change missing [] e = refl
at_no_row id change missing (r ∷ rows) e = go (bytes_eq r.id id) e (at_no_row id change missing rows (right_false (bytes_eq r.id id) (has_row id rows) e))
  where
    go : (b : Bool) → (b || has_row id rows) ≡ false → at_row id change missing rows ≡ rows ++ missing → (if b then change r ++ rows else r ∷ at_row id change missing rows) ≡ r ∷ (rows ++ missing)
    go true e same = absurd (true≢false e)
    go false e same = ap (λ x. r ∷ x) same

-- the row of an option that is given
abbrev pub row_for : Given → Row
row_for g = record { id = name_of g.option; values = g.text ∷ []; count = None; source = Some source.CommandLine; reading = reading.AsWritten }

pub new_row : (g : Given) (rows : List Row) → has_row (name_of g.option) rows ≡ false
    → with_values (name_of g.option) reading.AsWritten source.CommandLine (g.text ∷ []) (without (name_of g.option) rows) ≡ rows ++ row_for g ∷ []
new_row g rows e =
    ap (with_values (name_of g.option) reading.AsWritten source.CommandLine (g.text ∷ [])) (at_no_row (name_of g.option) (λ _. []) [] rows e ∙ append-nil rows)
    ∙ at_no_row (name_of g.option) (more_values source.CommandLine (g.text ∷ [])) (row_for g ∷ []) rows e
