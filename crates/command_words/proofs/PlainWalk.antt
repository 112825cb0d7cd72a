-- The walk of clap over options in plain form.
use Rattle.std.proofs.Common.{◌≡◌, ◌∙◌, ◌&&◌, true, false, List, [], ◌∷◌, ◌++◌, map, Option, Some, None, refl, ap, ap₂, fold, if◌then◌else◌}
use Rattle.std.specs.Option.{option_map_or}
use Rattle.std.proofs.lemmas.List.{append_assoc}
use Rattle.clap.specs.Words.{Row, Shape, Text}
use Rattle.clap.specs.Lexer.{long_of}
use Rattle.clap.specs.Walk.{Held, Walk, after_step, has_row, nothing_held, option, settled, walk_from, walked}
use Rattle.clap.specs.ValueTests.{is_unsigned_in}
use Rattle.clap.specs.Kinds.{or_else}
use Rattle.clap.specs.Faults.{bundle_fault, flag_word_fault, settle_fault, step_fault, turn_fault, walk_fault}
use Rattle.clap.specs.declared.error.ErrorKind.TheVariants as kind
use Rattle.command_words.specs.Plain.{Given, HalfOption, least_of, most_of, name_of, option_words}
use Rattle.command_words.proofs.PlainValues.{IsValue}
use Rattle.command_words.proofs.PlainOptions.{Faults, Reads, dashed, held_waiting, held_with, new_row, no_option, row_for}

-- what clap does at each option of a command
pub record Takes (s : Shape) (o : HalfOption) : Type 0 where
  pub reads : Reads s.rules o
  pub faults : Faults s o

-- the walk behind a name, and behind its value
abbrev waiting_at : List Row → Text → Walk
waiting_at rows name = record { held = held_waiting rows name; waiting = option name; position = 1; is_trailing = false; stopped = None }

abbrev held_at : List Row → Option (Text × List Text) → Held
held_at rows pending = record { rows = rows; pending = pending; skip = 0 }

module _ (s : Shape) where
  -- an option and its value are read
  name_read : (rows : List Row) (pending : Option (Text × List Text)) (g : Given) → Takes s g.option
      → walked s.rules [] (walk_from (held_at rows pending)) (dashed g.option) ≡ waiting_at (settled s.rules (held_at rows pending)).rows (name_of g.option)
  unfolding walked
  name_read rows pending g takes = ap (λ m. after_step s.rules (dashed g.option) (walk_from (held_at rows pending)) m.0 m.1) (takes.reads.name (held_at rows pending))

  value_read : (rows : List Row) (g : Given) → Takes s g.option → IsValue g.text → walked s.rules [] (waiting_at rows (name_of g.option)) g.text ≡ walk_from (held_with rows (name_of g.option) g.text)
  unfolding walked
  value_read rows g takes v = ap (λ m. after_step s.rules g.text (waiting_at rows (name_of g.option)) m.0 m.1)
      (no_option s.rules (option (name_of g.option)) 1 g.text (held_waiting rows (name_of g.option)) v ∙ takes.reads.value rows g.text)

  option_read : (rows : List Row) (pending : Option (Text × List Text)) (g : Given) (rest : List Text) → Takes s g.option → IsValue g.text
      → fold (walked s.rules []) (walk_from (held_at rows pending)) (dashed g.option ∷ g.text ∷ rest)
      ≡ fold (walked s.rules []) (walk_from (held_with (settled s.rules (held_at rows pending)).rows (name_of g.option) g.text)) rest
  option_read rows pending g rest takes v = ap (λ w. fold (walked s.rules []) w rest)
      (ap (λ w. walked s.rules [] w g.text) (name_read rows pending g takes) ∙ value_read (settled s.rules (held_at rows pending)).rows g takes v)

  -- no fault is found in the value
  value_quiet : (rows : List Row) (g : Given) → Takes s g.option → IsValue g.text → turn_fault s [] (waiting_at rows (name_of g.option)) g.text ≡ []
  value_quiet rows g takes v =
      let h = held_waiting rows (name_of g.option) in
      ap₂ or_else
      (ap (λ b. if b then [] else flag_word_fault s.rules s.args_override_self (long_of g.text) g.text h) v.dashes
      ∙ ap (λ l. flag_word_fault s.rules s.args_override_self l g.text h) v.long
      ∙ ap (λ f. option_map_or (λ flags. bundle_fault s.rules s.args_override_self flags h) f []) v.short)
      (ap (λ m. step_fault s 1 m.0 m.1) (no_option s.rules (option (name_of g.option)) 1 g.text h v ∙ takes.reads.value rows g.text))

  option_quiet : (rows : List Row) (pending : Option (Text × List Text)) (g : Given) (rest : List Text) → Takes s g.option → IsValue g.text
      → settle_fault s.rules s.args_override_self (held_at rows pending) ≡ []
      → walk_fault s [] (walk_from (held_at rows pending)) (dashed g.option ∷ g.text ∷ rest)
      ≡ walk_fault s [] (walk_from (held_with (settled s.rules (held_at rows pending)).rows (name_of g.option) g.text)) rest
  unfolding walk_fault
  option_quiet rows pending g rest takes v quiet =
      let read = name_read rows pending g takes in
      ap₂ or_else (takes.faults.name (held_at rows pending) ∙ ap (λ k. or_else k []) quiet)
      (ap (λ w. or_else (turn_fault s [] w g.text) (walk_fault s [] (walked s.rules [] w g.text) rest)) read
      ∙ ap₂ or_else (value_quiet (settled s.rules (held_at rows pending)).rows g takes v)
      (ap (λ w. walk_fault s [] w rest) (value_read (settled s.rules (held_at rows pending)).rows g takes v)))

  -- the walk over some words ends so, without a fault, with these rows
  pub record Walked (w : Walk) (words : List Text) (rows : List Row) : Type 0 where
    pub end : Walk
    pub is : fold (walked s.rules []) w words ≡ end
    pub quiet : walk_fault s [] w words ≡ []
    pub rows_are : (settled s.rules end.held).rows ≡ rows
    pub settles : settle_fault s.rules s.args_override_self end.held ≡ []

  -- the options of which no row has the name yet, one after the other
  abbrev pub AreNew : List Row → List Given → Type 0
  AreNew rows [] = Unit {0}
  AreNew rows (g ∷ given) = (has_row (name_of g.option) rows ≡ false) × AreNew (rows ++ row_for g ∷ []) given

  -- each can be read
  pub record Readable (g : Given) : Type 0 where
    pub takes : Takes s g.option
    pub value : IsValue g.text
    pub number : is_unsigned_in (least_of g.option) (most_of g.option) g.text ≡ true

  abbrev pub AreReadable : List Given → Type 0
  AreReadable [] = Unit {0}
  AreReadable (g ∷ given) = Readable g × AreReadable given

  settled_rows_are : (before : List Row) (g : Given) → Readable g → has_row (name_of g.option) before ≡ false
      → (settled s.rules (held_with before (name_of g.option) g.text)).rows ≡ before ++ row_for g ∷ []
  settled_rows_are before g r fresh = r.takes.faults.settled before g.text ∙ new_row g before fresh

  settles_quietly : (before : List Row) (g : Given) → Readable g → has_row (name_of g.option) before ≡ false
      → settle_fault s.rules s.args_override_self (held_with before (name_of g.option) g.text) ≡ []
  settles_quietly before g r fresh = r.takes.faults.settle before g.text
      ∙ ap₂ (λ b u. or_else (if b && true then kind.ArgumentConflict ∷ [] else []) (or_else (if u then [] else kind.ValueValidation ∷ []) [])) fresh r.number

  -- behind an option that was read
  walks_on : (before : List Row) (last : Given) (given : List Given) → Readable last → AreReadable given → has_row (name_of last.option) before ≡ false → AreNew (before ++ row_for last ∷ []) given
      → Walked (walk_from (held_with before (name_of last.option) last.text)) (option_words given) (before ++ row_for last ∷ map row_for given)
  unfolding walk_fault
  walks_on before last [] r each fresh new = record {
    end = walk_from (held_with before (name_of last.option) last.text);
    is = refl;
    quiet = refl;
    rows_are = settled_rows_are before last r fresh;
    settles = settles_quietly before last r fresh;
  }
  walks_on before last (g ∷ given) r (now, each) fresh (first, new) =
      let pending = Some (name_of last.option, last.text ∷ []) in
      let rows = settled_rows_are before last r fresh in
      let at = λ (rows : List Row). walk_from (held_with rows (name_of g.option) g.text) in
      let behind = walks_on (before ++ row_for last ∷ []) g given now each first new in
      record {
        end = behind.end;
        is = option_read before pending g (option_words given) now.takes now.value ∙ ap (λ x. fold (walked s.rules []) (at x) (option_words given)) rows ∙ behind.is;
        quiet = option_quiet before pending g (option_words given) now.takes now.value (settles_quietly before last r fresh)
            ∙ ap (λ x. walk_fault s [] (at x) (option_words given)) rows ∙ behind.quiet;
        rows_are = behind.rows_are ∙ append_assoc before (row_for last ∷ []) (row_for g ∷ map row_for given);
        settles = behind.settles;
      }

  -- from the beginning
  pub walks : (given : List Given) → AreReadable given → AreNew [] given → Walked (walk_from nothing_held) (option_words given) (map row_for given)
  unfolding walk_fault
  walks [] each new = record { end = walk_from nothing_held; is = refl; quiet = refl; rows_are = refl; settles = refl }
  walks (g ∷ given) (now, each) (first, new) =
      let behind = walks_on [] g given now each first new in
      record {
        end = behind.end;
        is = option_read [] None g (option_words given) now.takes now.value ∙ behind.is;
        quiet = option_quiet [] None g (option_words given) now.takes now.value refl ∙ behind.quiet;
        rows_are = behind.rows_are;
        settles = behind.settles;
      }
