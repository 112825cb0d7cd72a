-- What words in plain form mean of which some stand at their places.
use Rattle.std.proofs.Common.{append-nil, ◌≡◌, ◌∙◌, ◌≤◌, ◌^◌, ◌==◌, ◌-◌, ℕ, Bool, true, false, List, [], ◌∷◌, ◌++◌, length, Option, Some, None, refl, sym, ap, ap₂, arith, fold, codes, if◌then◌else◌, option_and_then, option_map, nat_lt}
use Rattle.std.specs.List.{join_by, list_all}
use Rattle.std.proofs.lemmas.Bool.{not-true}
use Rattle.std.specs.Option.{option_map_or}
use Rattle.std.proofs.lemmas.List.{append_assoc}
use Rattle.clap.specs.Words.{Kinds, Row, Shape, Text}
use Rattle.clap.specs.Lexer.{long_of, usize_max}
use Rattle.clap.specs.Walk.{Waiting, Walk, after_step, idle, nothing_held, positional, value, walk_from, walked}
use Rattle.clap.specs.ValueTests.{is_unsigned_in}
use Rattle.clap.specs.Kinds.{or_else, range_kinds, values_kinds}
use Rattle.clap.specs.Faults.{bundle_fault, flag_word_fault, step_fault, turn_fault, walk_fault}
use Rattle.clap.specs.declared.builder.value_parser.Reading.TheVariants as reading
use Rattle.clap.specs.declared.builder.value_parser.ValueParser.TheVariants as parser
use Rattle.clap.specs.declared.parser.matches.ValueSource.TheVariants as source
use Rattle.clap.specs.declared.error.ErrorKind.TheVariants as kind
use Rattle.command_words.specs.declared.command_line.CommandLine.TheVariants as command
use Rattle.command_words.specs.declared.syntax.TheConstants.{MOST_EVENTS, MOST_SEED}
use Rattle.command_words.specs.Words.{meaning_by, meaning_of, means, nothing, number_in}
use Rattle.command_words.specs.Plain.{is_no_option}
use Rattle.command_words.proofs.Entering.{means_below}
use Rattle.command_words.proofs.Leaves.{control_enters, control_leaf, drill_enters, drill_leaf}
use Rattle.command_words.proofs.PlainValues.{IsValue, both, no_eq, no_lt, number_is, number_plain, number_taken, value_from}
use Rattle.command_words.proofs.PlainOptions.{no_option}
use Rattle.command_words.proofs.PlainWalk.{Walked}
use Rattle.command_words.proofs.PlainWords.{level_quiet, level_rows}

-- a walk between two words for positionals
abbrev at_place : ℕ → Waiting → List Row → Option (Text × List Text) → Walk
at_place position waiting rows pending = record { held = record { rows = rows; pending = pending; skip = 0 }; waiting = waiting; position = position; is_trailing = false; stopped = None }

-- the words are no options
turn_is : (s : Shape) (position : ℕ) (rows : List Row) (pending : Option (Text × List Text)) (word : Text) → IsValue word
    → turn_fault s [] (at_place position idle rows pending) word ≡ step_fault s position (at_place position idle rows pending).held value
turn_is s position rows pending word v =
    let h = (at_place position idle rows pending).held in
    ap₂ or_else
    (ap (λ b. if b then [] else flag_word_fault s.rules s.args_override_self (long_of word) word h) v.dashes
    ∙ ap (λ l. flag_word_fault s.rules s.args_override_self l word h) v.long
    ∙ ap (λ f. option_map_or (λ flags. bundle_fault s.rules s.args_override_self flags h) f []) v.short)
    (ap (λ m. step_fault s position m.0 m.1) (no_option s.rules idle position word h v))

read_is : (s : Shape) (position : ℕ) (rows : List Row) (pending : Option (Text × List Text)) (word : Text) → IsValue word
    → walked s.rules [] (at_place position idle rows pending) word ≡ after_step s.rules word (at_place position idle rows pending) (at_place position idle rows pending).held value
unfolding walked
read_is s position rows pending word v =
    ap (λ m. after_step s.rules word (at_place position idle rows pending) m.0 m.1) (no_option s.rules idle position word (at_place position idle rows pending).held v)

-- ---- drill

abbrev row_of_word : Text → List Text → Row
row_of_word id values = record { id = id; values = values; count = None; source = Some source.CommandLine; reading = reading.AsWritten }

abbrev number_fault : Bool → Kinds
number_fault right = or_else (if right then [] else kind.ValueValidation ∷ []) []

drill_walked : (seed events : Text) → IsValue seed → IsValue events → is_unsigned_in 0 MOST_SEED seed ≡ true → is_unsigned_in 0 MOST_EVENTS events ≡ true
    → Walked drill_leaf (walk_from nothing_held) (seed ∷ events ∷ []) (row_of_word (codes "seed") (seed ∷ []) ∷ row_of_word (codes "events") (events ∷ []) ∷ [])
unfolding walk_fault
drill_walked seed events vs ve ns ne =
    let one = at_place 2 idle [] (Some (codes "seed", seed ∷ [])) in
    let two = at_place 3 idle (row_of_word (codes "seed") (seed ∷ []) ∷ []) (Some (codes "events", events ∷ [])) in
    let first : walked drill_leaf.rules [] (walk_from nothing_held) seed ≡ one = read_is drill_leaf 1 [] None seed vs in
    let second : walked drill_leaf.rules [] one events ≡ two = read_is drill_leaf 2 [] (Some (codes "seed", seed ∷ [])) events ve in
    record {
      end = two;
      is = ap (λ w. walked drill_leaf.rules [] w events) first ∙ second;
      quiet = ap₂ (λ k (w : Walk). or_else k (or_else (turn_fault drill_leaf [] w events) [])) (turn_is drill_leaf 1 [] None seed vs) first
          ∙ ap (λ k. or_else k []) (turn_is drill_leaf 2 [] (Some (codes "seed", seed ∷ [])) events ve ∙ ap number_fault ns);
      rows_are = refl;
      settles = ap number_fault ne;
    }

pub plain_drill_words : (seed events : Text) (s e : ℕ) → number_in MOST_SEED seed ≡ Some s → number_in MOST_EVENTS events ≡ Some e → meaning_of (codes "drill" ∷ seed ∷ events ∷ []) ≡ means (command.Drill s e)
plain_drill_words seed events s e is_s is_e =
    let plain_s = number_is MOST_SEED s seed is_s in
    let plain_e = number_is MOST_EVENTS e events is_e in
    let words = seed ∷ events ∷ [] in
    let rows = row_of_word (codes "seed") (seed ∷ []) ∷ row_of_word (codes "events") (events ∷ []) ∷ [] in
    let walked = drill_walked seed events (number_plain seed plain_s.0).value (number_plain events plain_e.0).value
    (number_taken 0 MOST_SEED seed plain_s.0 (omega arith) plain_s.1 (omega arith)) (number_taken 0 MOST_EVENTS events plain_e.0 (omega arith) plain_e.1 (omega arith)) in
    means_below (codes "drill") drill_leaf words drill_enters
    ∙ ap₂ (λ kinds rows. meaning_by kinds (Some (codes "drill", rows))) (level_quiet drill_leaf words rows refl refl walked) (level_rows drill_leaf words rows walked)
    ∙ ap₂ (λ a b. option_map_or means (option_and_then (λ seed. option_map (command.Drill seed) b) a) nothing) is_s is_e

-- ---- control

abbrev address_row : Text → Row
address_row address = row_of_word (codes "address") (address ∷ [])

-- behind some words of the command
abbrev behind_words : Text → List Text → Walk
behind_words address words = at_place 2 positional (address_row address ∷ []) (Some (codes "words", words))

word_turn : (address : Text) (words : List Text) (word : Text) → IsValue word → turn_fault control_leaf [] (behind_words address words) word ≡ []
word_turn address words word v =
    let h = (behind_words address words).held in
    ap₂ or_else
    (ap (λ b. if b then [] else flag_word_fault control_leaf.rules control_leaf.args_override_self (long_of word) word h) v.dashes
    ∙ ap (λ l. flag_word_fault control_leaf.rules control_leaf.args_override_self l word h) v.long
    ∙ ap (λ f. option_map_or (λ flags. bundle_fault control_leaf.rules control_leaf.args_override_self flags h) f []) v.short)
    (ap (λ m. step_fault control_leaf 2 m.0 m.1) (no_option control_leaf.rules positional 2 word h v))

word_read : (address : Text) (words : List Text) (word : Text) → IsValue word → walked control_leaf.rules [] (behind_words address words) word ≡ behind_words address (words ++ word ∷ [])
unfolding walked
word_read address words word v = ap (λ m. after_step control_leaf.rules word (behind_words address words) m.0 m.1) (no_option control_leaf.rules positional 2 word (behind_words address words).held v)

-- each of the words is no option
abbrev pub AreValues : List Text → Type 0
AreValues [] = Unit {0}
AreValues (word ∷ words) = IsValue word × AreValues words

words_read : (address : Text) (before rest : List Text) → AreValues rest → fold (walked control_leaf.rules []) (behind_words address before) rest ≡ behind_words address (before ++ rest)
words_read address before [] values = ap (behind_words address) (sym (append-nil before))
words_read address before (word ∷ rest) (now, values) =
    ap (λ w. fold (walked control_leaf.rules []) w rest) (word_read address before word now) ∙ words_read address (before ++ word ∷ []) rest values
    ∙ ap (behind_words address) (append_assoc before (word ∷ []) rest)

words_quiet : (address : Text) (before rest : List Text) → AreValues rest → walk_fault control_leaf [] (behind_words address before) rest ≡ []
unfolding walk_fault
words_quiet address before [] values = refl
words_quiet address before (word ∷ rest) (now, values) =
    ap₂ (λ k (w : Walk). or_else k (walk_fault control_leaf [] w rest)) (word_turn address before word now) (word_read address before word now) ∙ words_quiet address (before ++ word ∷ []) rest values

texts_quiet : (words : List Text) → values_kinds false parser.String words ≡ []
texts_quiet [] = refl
texts_quiet (word ∷ words) = texts_quiet words

range_quiet : (n : ℕ) → 1 ≤ n → n ≤ usize_max → range_kinds 1 usize_max n ≡ []
range_quiet n some few =
    ap (λ b. if b then kind.InvalidValue ∷ [] else (if nat_lt n 1 then kind.TooFewValues ∷ [] else (if nat_lt usize_max n then kind.TooManyValues ∷ [] else []))) (no_eq n 0 (λ none. omega (arith, some, none)))
    ∙ ap₂ (λ a b. if a then kind.TooFewValues ∷ [] else (if b then kind.TooManyValues ∷ [] else [])) (no_lt n 1 some) (no_lt usize_max n few)

control_walked : (address word : Text) (words : List Text) → IsValue address → IsValue word → AreValues words → length (word ∷ words) ≤ usize_max
    → Walked control_leaf (walk_from nothing_held) (address ∷ word ∷ words) (address_row address ∷ row_of_word (codes "words") (word ∷ words) ∷ [])
unfolding walk_fault
control_walked address word words va v values few =
    let one = at_place 2 idle [] (Some (codes "address", address ∷ [])) in
    let two = behind_words address (word ∷ []) in
    let first : walked control_leaf.rules [] (walk_from nothing_held) address ≡ one = read_is control_leaf 1 [] None address va in
    let second : walked control_leaf.rules [] one word ≡ two = read_is control_leaf 2 [] (Some (codes "address", address ∷ [])) word v in
    record {
      end = behind_words address (word ∷ words);
      is = ap (λ w. fold (walked control_leaf.rules []) (walked control_leaf.rules [] w word) words) first ∙ ap (λ w. fold (walked control_leaf.rules []) w words) second ∙ words_read address (word ∷ []) words values;
      quiet = ap₂ (λ k (w : Walk). or_else k (or_else (turn_fault control_leaf [] w word) (walk_fault control_leaf [] (walked control_leaf.rules [] w word) words))) (turn_is control_leaf 1 [] None address va) first
          ∙ ap₂ (λ k (w : Walk). or_else k (walk_fault control_leaf [] w words)) (turn_is control_leaf 2 [] (Some (codes "address", address ∷ [])) word v) second
          ∙ words_quiet address (word ∷ []) words values;
      rows_are = refl;
      settles = ap₂ or_else (range_quiet (length (word ∷ words)) (omega arith) few) (texts_quiet (word ∷ words));
    }

control_words : (address word : Text) (words : List Text) → IsValue address → IsValue word → AreValues words → length (word ∷ words) ≤ usize_max
    → meaning_of (codes "control" ∷ address ∷ word ∷ words) ≡ means (command.Control address (join_by (λ w. w) (codes " ") (word ∷ words)))
control_words address word words va v values few =
    let rest = address ∷ word ∷ words in
    let rows = address_row address ∷ row_of_word (codes "words") (word ∷ words) ∷ [] in
    let walked = control_walked address word words va v values few in
    means_below (codes "control") control_leaf rest control_enters
    ∙ ap₂ (λ kinds rows. meaning_by kinds (Some (codes "control", rows))) (level_quiet control_leaf rest rows refl refl walked) (level_rows control_leaf rest rows walked)

value_is : (word : Text) → is_no_option word ≡ true → IsValue word
value_is [] e = record { dashes = refl; long = refl; short = refl }
value_is (octet ∷ rest) e = value_from octet rest (not-true (octet == 45) e)

values_are : (words : List Text) → list_all is_no_option words ≡ true → AreValues words
values_are [] e = tt
values_are (word ∷ words) e = let parts = both (is_no_option word) (list_all is_no_option words) e in (value_is word parts.0, values_are words parts.1)

pub plain_control_words : (address word : Text) (words : List Text) → list_all is_no_option (address ∷ word ∷ words) ≡ true → length (word ∷ words) ≤ 2 ^ 64 - 1
    → meaning_of (codes "control" ∷ address ∷ word ∷ words) ≡ means (command.Control address (join_by (λ w. w) (codes " ") (word ∷ words)))
plain_control_words address word words e few =
    let (va, (v, values)) = values_are (address ∷ word ∷ words) e in
    control_words address word words va v values few
