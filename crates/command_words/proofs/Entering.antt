-- What clap makes of words of which the first names a command.
use Rattle.std.proofs.Common.{option_map, ◌≡◌, ◌∙◌, true, false, List, [], ◌∷◌, ◌++◌, Option, Some, refl, sym, ap, ap₂, append-nil, fold, find, is_some}
use Rattle.std.proofs.lemmas.List.{append_assoc}
use Rattle.std.specs.Option.{option_map_or}
use Rattle.clap.specs.Words.{App, Kinds, Shape, Text}
use Rattle.clap.specs.Walk.{Names, Rule, Walk, answers_to, finished, idle, nothing_held, rows_after, settled, walk, walk_from, walked}
use Rattle.clap.specs.Simple.{built, entered, label_of, names_of, rows_at}
use Rattle.clap.specs.Kinds.{or_else}
use Rattle.clap.specs.Faults.{built_fault, check_fault, defaults_fault, entered_fault, level_fault, settle_fault, turn_fault, walk_fault}
use Rattle.command_words.specs.Syntax.{dts}
use Rattle.command_words.specs.Words.{meaning_by, meaning_of}

-- a walk that stopped at this name, with these words behind it
abbrev pub stopped_walk : Text → List Text → Walk
stopped_walk n words = record { held = nothing_held; waiting = idle; position = 1; is_trailing = false; stopped = Some (n, words) }

-- it takes all words that follow
pub stops : (c : List Rule) (names : Names) (n : Text) (words rest : List Text) → fold (walked c names) (stopped_walk n words) rest ≡ stopped_walk n (words ++ rest)
unfolding walked
stops c names n words [] = ap (stopped_walk n) (sym (append-nil words))
stops c names n words (x ∷ rest) = stops c names n (words ++ x ∷ []) rest ∙ ap (stopped_walk n) (append_assoc words (x ∷ []) rest)

-- and finds no fault in them
pub is_quiet : (s : Shape) (names : Names) (n : Text) (words rest : List Text) → walk_fault s names (stopped_walk n words) rest ≡ []
unfolding walk_fault walked
is_quiet s names n words [] = refl
is_quiet s names n words (x ∷ rest) = is_quiet s names n (words ++ x ∷ []) rest

last_none : (kinds : Kinds) → or_else kinds [] ≡ kinds
last_none [] = refl
last_none (k ∷ kinds) = refl

-- the faults of a level, by the end of its walk
abbrev faults_by : App → Kinds → Walk → Kinds
faults_by a front w = or_else front (or_else (entered_fault a w.stopped) (or_else (settle_fault a.top.rules a.top.args_override_self w.held)
    (or_else (defaults_fault (settled a.top.rules w.held).rows a.top.rules) (check_fault a.top (finished a.top.rules w.held) (is_some (entered a w.stopped))))))

-- The first word names a subcommand, and nothing is asked of the level above.
pub record Enters (a : App) (n : Text) (s : Shape) : Type 0 where
  pub first : walked a.top.rules (names_of a) (walk_from nothing_held) n ≡ stopped_walk n []
  pub quiet : turn_fault a.top (names_of a) (walk_from nothing_held) n ≡ []
  pub found : find (λ s. answers_to n (label_of s)) a.subs ≡ Some s
  pub defaults : defaults_fault [] a.top.rules ≡ []
  pub checks : check_fault a.top (finished a.top.rules nothing_held) true ≡ []
  pub name : s.name ≡ n

ends : (a : App) (n : Text) (s : Shape) (rest : List Text) → Enters a n s → walk a.top.rules (names_of a) nothing_held (n ∷ rest) ≡ stopped_walk n rest
ends a n s rest e = ap (λ w. fold (walked a.top.rules (names_of a)) w rest) e.first ∙ stops a.top.rules (names_of a) n [] rest

-- the faults are those of the subcommand in the words behind its name
pub faults_below : (a : App) (n : Text) (s : Shape) (rest : List Text) → Enters a n s → built_fault a nothing_held (n ∷ rest) ≡ level_fault s [] nothing_held rest false []
unfolding walk_fault
faults_below a n s rest e =
    let front : walk_fault a.top (names_of a) (walk_from nothing_held) (n ∷ rest) ≡ [] =
    ap₂ or_else e.quiet (ap (λ w. walk_fault a.top (names_of a) w rest) e.first ∙ is_quiet a.top (names_of a) n [] rest) in
    let shape = λ (found : Option Shape). or_else (option_map_or (λ s. level_fault s [] nothing_held rest false []) found []) (or_else [] (or_else (defaults_fault [] a.top.rules) (check_fault a.top (finished a.top.rules nothing_held) (is_some (option_map (λ s. rows_at s rest) found))))) in
    ap₂ (faults_by a) front (ends a n s rest e) ∙ ap shape e.found
    ∙ ap₂ (λ d k. or_else (level_fault s [] nothing_held rest false []) (or_else d k)) e.defaults e.checks ∙ last_none (level_fault s [] nothing_held rest false [])

-- and what is found is found there
pub found_below : (a : App) (n : Text) (s : Shape) (rest : List Text) → Enters a n s → entered a (walk a.top.rules (names_of a) nothing_held (n ∷ rest)).stopped ≡ Some (s.name, rows_after s.rules [] rest)
found_below a n s rest e = ap (λ w. entered a w.stopped) (ends a n s rest e) ∙ ap (λ found. option_map (λ s. rows_at s rest) found) e.found

-- what the words mean is what the subcommand finds in the words behind its name
pub means_below : (n : Text) (s : Shape) (rest : List Text) → Enters (built dts) n s → meaning_of (n ∷ rest) ≡ meaning_by (level_fault s [] nothing_held rest false []) (Some (s.name, rows_after s.rules [] rest))
unfolding meaning_of
means_below n s rest e = ap₂ meaning_by (faults_below (built dts) n s rest e) (found_below (built dts) n s rest e)
