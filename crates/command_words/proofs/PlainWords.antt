-- What words in plain form mean.
use Rattle.std.proofs.Common.{◌≡◌, ◌∙◌, ◌<◌, ◌^◌, ◌&&◌, ◌||◌, ℕ, Bool, true, false, not, List, [], ◌∷◌, ◌++◌, map, Option, Some, None, refl, sym, ap, ap₂, arith, fold, codes, if◌then◌else◌, true≢false, option_and_then, option_map, unwrap_or}
use Rattle.std.specs.Prelude.{bytes_eq}
use Rattle.std.specs.List.{list_all}
use Rattle.std.specs.Option.{option_map_or}
use Rattle.std.proofs.lemmas.List.Folds.{list_any-append}
use Rattle.clap.specs.Words.{Kinds, Row, Rule, Shape, Text}
use Rattle.clap.specs.Walk.{Held, Walk, finished, has_row, nothing_held, rows_after, settled, walk_from, with_default, is_empty}
use Rattle.clap.specs.Kinds.{or_else}
use Rattle.clap.specs.Faults.{check_fault, default_fault, defaults_fault, given_default_fault, level_fault, settle_fault}
use Rattle.command_words.specs.declared.command_line.CommandLine.TheVariants as command
use Rattle.command_words.specs.declared.command_line.HalfOptions.{HalfOptions}
use Rattle.command_words.specs.Words.{half_in, half_of, meaning_by, meaning_of, means, nothing, number_if_given, number_in}
use Rattle.command_words.specs.Plain.{ArePlain, Given, HalfOption, IsInItsRange, half_by, is_of, is_of_clerk, is_of_server, least_of, most_of, name_of, option_words, value_of, turns, start, inaccuracy, workers}
use Rattle.command_words.proofs.Entering.{means_below}
use Rattle.command_words.proofs.Leaves.{clerk_enters, clerk_leaf, server_enters, server_leaf}
use Rattle.command_words.proofs.PlainValues.{both, number_plain, number_taken}
use Rattle.command_words.proofs.PlainOptions.{clerk_faults, clerk_reads, row_for, server_faults, server_reads}
use Rattle.command_words.proofs.PlainWalk.{AreNew, AreReadable, Readable, Takes, Walked, walks}
use Rattle.command_words.proofs.PlainRows.{AreInRange, default_last, has_default, has_none, none_last, value_found, value_given}

-- ---- from plain options to what the walk wants

small_most : (o : HalfOption) → most_of o < 2 ^ 64
small_most turns = omega arith
small_most start = omega arith
small_most inaccuracy = omega arith
small_most workers = omega arith

readable : (s : Shape) (g : Given) → Takes s g.option → IsInItsRange g → Readable s g
readable s g takes right = record {
  takes = takes;
  value = (number_plain g.text right.plain).value;
  number = number_taken (least_of g.option) (most_of g.option) g.text right.plain right.least right.most (small_most g.option);
}

pub each_readable : (s : Shape) (allowed : HalfOption → Bool) → ((o : HalfOption) → allowed o ≡ true → Takes s o) → (given : List Given) → ArePlain allowed given → AreReadable s given
each_readable s allowed takes [] plain = tt
each_readable s allowed takes (g ∷ given) plain = (readable s g (takes g.option plain.0) plain.1, each_readable s allowed takes given plain.3)

pub each_in_range : (allowed : HalfOption → Bool) (given : List Given) → ArePlain allowed given → AreInRange given
each_in_range allowed [] plain = tt
each_in_range allowed (g ∷ given) plain = (plain.1, each_in_range allowed given plain.3)

-- no row has the name of any of them
abbrev AreAbsent : List Row → List Given → Type 0
AreAbsent rows [] = Unit {0}
AreAbsent rows (g ∷ given) = (has_row (name_of g.option) rows ≡ false) × AreAbsent rows given

none_absent : (given : List Given) → AreAbsent [] given
none_absent [] = tt
none_absent (g ∷ given) = (refl, none_absent given)

not_true : (b c : Bool) → (not b && c) ≡ true → (b ≡ false) × (c ≡ true)
not_true true c e = absurd (true≢false (sym e))
not_true false c e = (refl, e)

absent_behind : (rows : List Row) (g : Given) (given : List Given) → list_all (λ h. not (is_of h.option g)) given ≡ true → AreAbsent rows given → AreAbsent (rows ++ row_for g ∷ []) given
absent_behind rows g [] others absent = tt
absent_behind rows g (h ∷ given) others (now, absent) =
    let parts = not_true (is_of h.option g) (list_all (λ h. not (is_of h.option g)) given) others in
    (list_any-append (λ (r : Row). bytes_eq r.id (name_of h.option)) rows (row_for g ∷ []) ∙ ap₂ (λ a b. a || (b || false)) now parts.0, absent_behind rows g given parts.1 absent)

each_new : (s : Shape) (allowed : HalfOption → Bool) (rows : List Row) (given : List Given) → ArePlain allowed given → AreAbsent rows given → AreNew s rows given
each_new s allowed rows [] plain absent = tt
each_new s allowed rows (g ∷ given) plain (now, absent) = (now, each_new s allowed (rows ++ row_for g ∷ []) given plain.3 (absent_behind rows g given plain.2 absent))

-- ---- a level

-- the defaults of the arguments are right
abbrev pub is_quiet : Kinds → Bool
is_quiet [] = true
is_quiet (k ∷ kinds) = false

quiet_is : (kinds : Kinds) → is_quiet kinds ≡ true → kinds ≡ []
quiet_is [] e = refl
quiet_is (k ∷ kinds) e = absurd (true≢false (sym e))

abbrev pub has_right_default : Rule → Bool
has_right_default a = is_empty a.defaults || is_quiet (given_default_fault a a.defaults)

default_quiet : (a : Rule) (rows : List Row) → has_right_default a ≡ true → default_fault rows a ≡ []
default_quiet a rows e = go (has_row a.id rows) (is_empty a.defaults) e
  where
    go : (b c : Bool) → (c || is_quiet (given_default_fault a a.defaults)) ≡ true → (if b || c then [] else given_default_fault a a.defaults) ≡ []
    go true c e = refl
    go false true e = refl
    go false false e = quiet_is (given_default_fault a a.defaults) e

defaults_quiet : (rules : List Rule) → list_all has_right_default rules ≡ true → (rows : List Row) → defaults_fault rows rules ≡ []
unfolding defaults_fault
defaults_quiet [] e rows = refl
defaults_quiet (a ∷ rules) e rows =
    let parts = both (has_right_default a) (list_all has_right_default rules) e in
    ap₂ or_else (default_quiet a rows parts.0) (defaults_quiet rules parts.1 (with_default rows a))

abbrev faults_at : Shape → Held → Kinds
faults_at s held = or_else (settle_fault s.rules s.args_override_self held) (or_else (defaults_fault (settled s.rules held).rows s.rules) (check_fault s (finished s.rules held) false))

-- no fault is found, where the defaults have none and nothing is missing
pub level_quiet : (s : Shape) (words : List Text) (rows : List Row) → list_all has_right_default s.rules ≡ true → check_fault s (fold with_default rows s.rules) false ≡ [] → Walked s (walk_from nothing_held) words rows → level_fault s [] nothing_held words false [] ≡ []
level_quiet s words rows defaults checks w =
    ap₂ (λ k (x : Walk). or_else k (or_else [] (faults_at s x.held))) w.quiet w.is
    ∙ ap (λ k. or_else k (or_else (defaults_fault (settled s.rules w.end.held).rows s.rules) (check_fault s (finished s.rules w.end.held) false))) w.settles
    ∙ ap₂ or_else (defaults_quiet s.rules defaults (settled s.rules w.end.held).rows) (ap (λ r. check_fault s (fold with_default r s.rules) false) w.rows_are ∙ checks)

pub level_rows : (s : Shape) (words : List Text) (rows : List Row) → Walked s (walk_from nothing_held) words rows → rows_after s.rules [] words ≡ fold with_default rows s.rules
level_rows s words rows w = ap (λ (x : Walk). finished s.rules x.held) w.is ∙ ap (λ r. fold with_default r s.rules) w.rows_are

-- ---- clerk and server

clerk_takes : (o : HalfOption) → is_of_clerk o ≡ true → Takes clerk_leaf o
clerk_takes o e = record { reads = clerk_reads o e; faults = clerk_faults o e }

server_takes : (o : HalfOption) → is_of_server o ≡ true → Takes server_leaf o
server_takes o e = record { reads = server_reads o; faults = server_faults o }

-- what a half goes by
abbrev half_from : Option ℕ → Option ℕ → Option (Option ℕ) → Option HalfOptions
half_from ts ss i = option_and_then (λ t. option_and_then (λ s. option_map (half_of t s) i) ss) ts

half_found : (rules : List Rule) (given : List Given) → AreInRange given → has_default (codes "turns") (codes "281474976710656") rules ≡ true
    → has_default (codes "start") (codes "137971296000000000") rules ≡ true → has_none (codes "inaccuracy") rules ≡ true → half_in (fold with_default (map row_for given) rules) ≡ Some (half_by given)
half_found rules given right one two three =
    let rows = map row_for given in
    let t = ap (λ f. option_and_then (number_in (most_of turns)) f) (default_last (codes "turns") (codes "281474976710656") rules one rows) ∙ value_found turns (codes "281474976710656") (2 ^ 48) given refl right in
    let s = ap (λ f. option_and_then (number_in (most_of start)) f) (default_last (codes "start") (codes "137971296000000000") rules two rows) ∙ value_found start (codes "137971296000000000") 137971296000000000 given refl right in
    let i = ap (λ (f : Bool × Option Text). option_map_or (λ text. option_map (λ n. Some n) (number_in (most_of inaccuracy) text)) f.1 (Some None)) (none_last (codes "inaccuracy") rules three rows) ∙ value_given inaccuracy given right in
    ap₂ (λ x y. half_from x y (number_if_given (codes "inaccuracy") (most_of inaccuracy) (fold with_default rows rules))) t s ∙ ap (λ z. half_from (Some (unwrap_or (value_of turns given) (2 ^ 48))) (Some (unwrap_or (value_of start given) 137971296000000000)) z) i

pub plain_clerk_words : (given : List Given) → ArePlain is_of_clerk given → meaning_of (codes "clerk" ∷ option_words given) ≡ means (command.Clerk (half_by given))
plain_clerk_words given plain =
    let words = option_words given in
    let walked = walks clerk_leaf given (each_readable clerk_leaf is_of_clerk clerk_takes given plain) (each_new clerk_leaf is_of_clerk [] given plain (none_absent given)) in
    means_below (codes "clerk") clerk_leaf words clerk_enters
    ∙ ap₂ (λ kinds rows. meaning_by kinds (Some (codes "clerk", rows))) (level_quiet clerk_leaf words (map row_for given) refl refl walked)
    (level_rows clerk_leaf words (map row_for given) walked)
    ∙ ap (λ h. option_map_or means (option_map command.Clerk h) nothing) (half_found clerk_leaf.rules given (each_in_range is_of_clerk given plain) refl refl refl)

pub plain_server_words : (given : List Given) → ArePlain is_of_server given → meaning_of (codes "server" ∷ option_words given) ≡ means (command.Server (half_by given) (unwrap_or (value_of workers given) 1))
plain_server_words given plain =
    let words = option_words given in
    let rows = map row_for given in
    let right = each_in_range is_of_server given plain in
    let walked = walks server_leaf given (each_readable server_leaf is_of_server server_takes given plain) (each_new server_leaf is_of_server [] given plain (none_absent given)) in
    let k = ap (λ f. option_and_then (number_in (most_of workers)) f) (default_last (codes "workers") (codes "1") server_leaf.rules refl rows) ∙ value_found workers (codes "1") 1 given refl right in
    means_below (codes "server") server_leaf words server_enters
    ∙ ap₂ (λ kinds rows. meaning_by kinds (Some (codes "server", rows))) (level_quiet server_leaf words rows refl refl walked)
    (level_rows server_leaf words rows walked)
    ∙ ap₂ (λ h w. option_map_or means (option_and_then (λ half. option_map (command.Server half) w) h) nothing) (half_found server_leaf.rules given right refl refl refl) k
