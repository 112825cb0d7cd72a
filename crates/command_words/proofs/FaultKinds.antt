-- The kinds of clap's fault in words are all requests, or none is one.
use Rattle.std.proofs.Common.{◌≡◌, ◌⊎◌, inl, inr, ◌&&◌, ◌||◌, ℕ, zero, suc, Bool, true, false, not, List, [], ◌∷◌, Option, Some, None, is_some, length, drop, refl, sym, ap, ◌∙◌, if◌then◌else◌, find, codes, bytes_eq, nat_lt, ◌==◌, encode_utf8, slice_get, chars}
use Rattle.std.specs.List.{list_any}
use Rattle.std.specs.Option.{option_map_or}
use Rattle.clap.specs.Facts.{explicit_source, unwrap_or_range, parser_of_value}
use Rattle.clap.specs.Lexer.{long_of, short_of}
use Rattle.clap.specs.Simple.{App, Shape, built, entered, label_of, names_of}
use Rattle.clap.specs.Takes.{is_given}
use Rattle.clap.specs.Walk.{Held, Names, Row, Rule, Step, Text, Waiting, Walk, idle, option, positional, value, next, trailing, subcommand, action_of, arg_by_id, arg_by_index, arg_by_long, arg_by_short, answers_to, has_row, is_empty, most_values, nothing_held, reacted, settled, subcommand_met, takes_values, values_or_missing, walk, walk_from, walked, with_default, word_met, finished, attached_value, is_pending, takes_several}
use Rattle.clap.specs.Kinds.{IsAmong, Kinds, check_kinds, or_else, range_kinds, request_kinds, values_kinds}
use Rattle.clap.specs.Faults.{action_fault, bundle_fault, bundle_step_fault, built_fault, check_fault, count_fault, default_fault, defaults_fault, entered_fault, fault_of, flag_word_fault, flags_fault, given_default_fault, level_fault, long_fault, option_fault, other_fault, positional_fault, react_fault, set_fault, settle_fault, short_fault, step_fault, stray_fault, turn_fault, use_fault, values_fault, walk_fault, word_fault}
use Rattle.clap.specs.declared.builder.ArgAction.{ArgAction}
use Rattle.clap.specs.declared.builder.ArgAction.TheVariants as action
use Rattle.clap.specs.declared.builder.ValueParser.{ValueParser}
use Rattle.clap.specs.declared.error.ErrorKind.{ErrorKind}
use Rattle.clap.specs.declared.error.ErrorKind.TheVariants as kind
use Rattle.command_words.specs.Syntax.{dts}
use Rattle.command_words.specs.Words.{is_request_kind}

pub record AreAlike (kinds : Kinds) : Type 0 where
  pub asks : Bool
  pub each : (k : ErrorKind) → IsAmong k kinds → is_request_kind k ≡ asks

none : AreAlike []
none = record { asks = true; each = λ k among. absurd among }

one : (k : ErrorKind) → AreAlike (k ∷ [])
one k = record {
  asks = is_request_kind k;
  each = λ j among. elim among [
    | inl e ↦ ap is_request_kind e
    | inr behind ↦ absurd behind
  ];
}

first : (a b : Kinds) → AreAlike a → AreAlike b → AreAlike (or_else a b)
first [] b p q = q
first (k ∷ ks) b p q = p

chosen : (b : Bool) (x y : Kinds) → AreAlike x → AreAlike y → AreAlike (if b then x else y)
chosen true x y p q = p
chosen false x y p q = q

found : {A : Type 0} (f : A → Kinds) (o : Option A) (d : Kinds) → ((x : A) → AreAlike (f x)) → AreAlike d → AreAlike (option_map_or f o d)
found f None d p q = q
found f (Some x) d p q = p x

-- ---- one use of an argument

of_values : (ignore : Bool) (parser : ValueParser) (values : List Text) → AreAlike (values_kinds ignore parser values)
of_values ignore parser [] = none
of_values ignore parser (v ∷ vs) = first _ _ (chosen _ _ _ none (one _)) (of_values ignore parser vs)

of_range : (least most n : ℕ) → AreAlike (range_kinds least most n)
of_range least most n = chosen (nat_lt 0 least && n == 0) _ _ (one kind.InvalidValue) (chosen (least == most) _ _ (chosen (least == n) _ _ none (one kind.WrongNumberOfValues))
    (chosen (nat_lt n least) _ _ (one kind.TooFewValues) (chosen (nat_lt most n) _ _ (one kind.TooManyValues) none)))

of_request : (a : ArgAction) → AreAlike (request_kinds a)
of_request action.Set = none
of_request action.Append = none
of_request action.SetTrue = none
of_request action.SetFalse = none
of_request action.Count = none
of_request action.Help = one _
of_request action.HelpShort = one _
of_request action.HelpLong = one _
of_request action.Version = one _

of_set : (again : Bool) (a : Rule) (values : List Text) (rows : List Row) → AreAlike (set_fault again a values rows)
of_set again a values rows = first _ _ (chosen (has_row a.id rows && not again) _ _ (one kind.ArgumentConflict) none) (of_values _ _ values)

of_count : (a : Rule) (values : List Text) (rows : List Row) → AreAlike (count_fault a values rows)
of_count a [] rows = chosen _ _ _ none (one _)
of_count a (v ∷ vs) rows = of_values _ _ (v ∷ vs)

of_action : (does : ArgAction) (again : Bool) (a : Rule) (values : List Text) (rows : List Row) → AreAlike (action_fault does again a values rows)
of_action action.Set again a values rows = of_set again a values rows
of_action action.SetTrue again a values rows = of_set again a values rows
of_action action.SetFalse again a values rows = of_set again a values rows
of_action action.Append again a values rows = of_values _ _ values
of_action action.Count again a values rows = of_count a values rows
of_action action.Help again a values rows = one _
of_action action.HelpShort again a values rows = one _
of_action action.HelpLong again a values rows = one _
of_action action.Version again a values rows = one _

of_use : (again : Bool) (a : Rule) (values : List Text) (rows : List Row) → AreAlike (use_fault again a values rows)
of_use again a values rows = first (range_kinds (unwrap_or_range a.range).start_inclusive (most_values a) (length values)) (action_fault (action_of a) again a (values_or_missing a values) rows)
    (of_range (unwrap_or_range a.range).start_inclusive (most_values a) (length values)) (of_action (action_of a) again a (values_or_missing a values) rows)

-- ---- the walk

of_settle : (c : List Rule) (again : Bool) (h : Held) → AreAlike (settle_fault c again h)
of_settle c again h = found (λ p. option_map_or (λ a. use_fault again a p.1 h.rows) (arg_by_id c p.0) []) h.pending []
    (λ p. found (λ a. use_fault again a p.1 h.rows) (arg_by_id c p.0) [] (λ a. of_use again a p.1 h.rows) none) none

of_react : (c : List Rule) (again : Bool) (a : Rule) (values : List Text) (h : Held) → AreAlike (react_fault c again a values h)
of_react c again a values h = first (settle_fault c again h) (use_fault again a values (settled c h).rows) (of_settle c again h) (of_use again a values (settled c h).rows)

of_option : (c : List Rule) (again : Bool) (a : Rule) (v : Option Text) (h : Held) → AreAlike (option_fault c again a v h)
of_option c again a (Some v) h = of_react c again a (v ∷ []) h
of_option c again a None h = of_settle c again h

of_long : (c : List Rule) (again : Bool) (a : Option Rule) (v : Option Text) (h : Held) → AreAlike (long_fault c again a v h)
of_long c again None v h = one _
of_long c again (Some a) v h = chosen (takes_values a) _ _ (of_option c again a v h) (chosen (is_some v) _ _ (one kind.TooManyValues) (of_react c again a [] h))

of_short : (c : List Rule) (again : Bool) (a : Option Rule) (rest : Text) (h : Held) (on : Held → Kinds) → ((g : Held) → AreAlike (on g))
    → AreAlike (short_fault c again a rest h on)
of_short c again None rest h on each = one _
of_short c again (Some a) rest h on each = chosen (takes_values a) _ _ (of_option c again a (attached_value rest) h) (first (react_fault c again a [] h) (on (reacted c a [] h)) (of_react c again a [] h) (each (reacted c a [] h)))

of_step : (c : List Rule) (again : Bool) (x : Option ℕ) (flags : Text) (skip : ℕ) (h : Held) (on : Text → ℕ → Held → Kinds)
    → ((t : Text) (s : ℕ) (g : Held) → AreAlike (on t s g)) → AreAlike (bundle_step_fault c again x flags skip h on)
of_step c again None flags skip h on each = none
of_step c again (Some x) flags zero h on each = of_short c again (arg_by_short c x) (drop (length (encode_utf8 x)) flags) h (on (drop (length (encode_utf8 x)) flags) 0) (λ g. each (drop (length (encode_utf8 x)) flags) 0 g)
of_step c again (Some x) flags (suc skip) h on each = each (drop (length (encode_utf8 x)) flags) skip h

of_flags : (c : List Rule) (again : Bool) (k : ℕ) (flags : Text) (skip : ℕ) (h : Held) → AreAlike (flags_fault c again k flags skip h)
unfolding flags_fault
of_flags c again zero flags skip h = none
of_flags c again (suc k) flags skip h = of_step c again (slice_get (chars flags) 0) flags skip h (flags_fault c again k) (λ t s g. of_flags c again k t s g)

of_flag_word : (c : List Rule) (again : Bool) (p : Option (Text × Option Text)) (word : Text) (h : Held) → AreAlike (flag_word_fault c again p word h)
of_flag_word c again (Some p) word h = of_long c again (arg_by_long c p.0) p.1 h
of_flag_word c again None word h = found (λ flags. bundle_fault c again flags h) (short_of word) [] (λ flags. of_flags c again (length flags) flags h.skip (record h { skip = 0 })) none

-- no word asks for help by the name of a command
abbrev IsQuiet : Shape → Names → Type 0
IsQuiet s names = (s.disable_help_subcommand ≡ true) ⊎ (names ≡ [])

of_other : (s : Shape) (names : Names) (waiting : Waiting) (word : Text) (h : Held) → IsQuiet s names → AreAlike (other_fault s (subcommand_met names waiting word) word h)
of_other s names waiting word h quiet = go (subcommand_met names waiting word) refl
  where
    silent : (b d : Bool) (kinds : Kinds) → d ≡ true → AreAlike (if b && not d then kinds else [])
    silent true true kinds e = none
    silent true false kinds e = cc
    silent false d kinds e = none

    missing : (w : Waiting) → subcommand_met [] w word ≡ None
    missing idle = refl
    missing (option id) = refl
    missing positional = refl

    go : (met : Option Text) → subcommand_met names waiting word ≡ met → AreAlike (other_fault s met word h)
    go (Some name) e = elim quiet [
      | inl off ↦ silent (bytes_eq name (codes "help")) s.disable_help_subcommand _ off
      | inr empty ↦ absurd (let no : None ≡ Some name = sym (missing waiting) ∙ (rw empty at e) in cc)
    ]
    go None e = chosen (bytes_eq word (45 ∷ 45 ∷ [])) _ _ none (of_flag_word s.rules s.args_override_self (long_of word) word h)

of_word : (s : Shape) (names : Names) (is_trailing : Bool) (waiting : Waiting) (word : Text) (h : Held) → IsQuiet s names → AreAlike (word_fault s names is_trailing waiting word h)
of_word s names is_trailing waiting word h quiet = chosen is_trailing [] (other_fault s (subcommand_met names waiting word) word h) none (of_other s names waiting word h quiet)

stray : (s : Shape) → AreAlike (stray_fault s)
stray s = chosen s.is_leaf _ _ (one _) (record {
  asks = false;
  each = λ k among. elim among [
    | inl e ↦ ap is_request_kind e
    | inr behind ↦ elim behind [
      | inl e ↦ ap is_request_kind e
      | inr nothing ↦ absurd nothing
    ]
  ];
})

of_place : (s : Shape) (position : ℕ) (h : Held) (step : Step) → AreAlike (step_fault s position h step)
of_place s position h value = found (λ a. positional_fault s.rules s.args_override_self a h) (arg_by_index s.rules position) (stray_fault s)
    (λ a. chosen (is_pending a h.pending && takes_several a) [] (settle_fault s.rules s.args_override_self h) none (of_settle s.rules s.args_override_self h)) (stray s)
of_place s position h (next w) = none
of_place s position h (trailing p) = none
of_place s position h (subcommand name) = none

of_turn : (s : Shape) (names : Names) (w : Walk) (word : Text) → IsQuiet s names → AreAlike (turn_fault s names w word)
of_turn s names w word quiet =
    let met = word_met s.rules names w.is_trailing w.waiting w.position word w.held in
    let at = word_fault s names w.is_trailing w.waiting word w.held in
    chosen (is_some w.stopped) [] (or_else at (step_fault s w.position met.0 met.1)) none
    (first at (step_fault s w.position met.0 met.1) (of_word s names w.is_trailing w.waiting word w.held quiet) (of_place s w.position met.0 met.1))

of_walk : (s : Shape) (names : Names) (w : Walk) (words : List Text) → IsQuiet s names → AreAlike (walk_fault s names w words)
unfolding walk_fault
of_walk s names w [] quiet = none
of_walk s names w (word ∷ rest) quiet = first (turn_fault s names w word) (walk_fault s names (walked s.rules names w word) rest) (of_turn s names w word quiet) (of_walk s names (walked s.rules names w word) rest quiet)

-- ---- after the walk

of_given : (a : Rule) (values : List Text) → AreAlike (given_default_fault a values)
of_given a values = first (request_kinds (action_of a)) (values_fault a values) (of_request (action_of a)) (of_values a.ignore_case (parser_of_value a.parser) values)

of_default : (rows : List Row) (a : Rule) → AreAlike (default_fault rows a)
of_default rows a = chosen (has_row a.id rows || is_empty a.defaults) [] (given_default_fault a a.defaults) none (of_given a a.defaults)

of_defaults : (rows : List Row) (rules : List Rule) → AreAlike (defaults_fault rows rules)
unfolding defaults_fault
of_defaults rows [] = none
of_defaults rows (a ∷ rest) = first (default_fault rows a) (defaults_fault (with_default rows a) rest) (of_default rows a) (of_defaults (with_default rows a) rest)

of_checks : (b c d : Bool) → AreAlike (check_kinds b c d)
of_checks true c d = one kind.DisplayHelpOnMissingArgumentOrSubcommand
of_checks false true d = one kind.MissingSubcommand
of_checks false false true = one kind.MissingRequiredArgument
of_checks false false false = none

of_check : (s : Shape) (rows : List Row) (has_subcommand : Bool) → AreAlike (check_fault s rows has_subcommand)
of_check s rows has_subcommand = of_checks
    (not has_subcommand && (s.arg_required_else_help && not (list_any (λ r. explicit_source r.source) rows)))
    (not has_subcommand && s.subcommand_required)
    (not (s.subcommand_negates_reqs && has_subcommand) && list_any (λ a. a.required && not (is_given a.id rows)) s.rules)

of_level : (s : Shape) (names : Names) (h : Held) (words : List Text) (has_subcommand : Bool) (below : Kinds) → IsQuiet s names → AreAlike below
    → AreAlike (level_fault s names h words has_subcommand below)
of_level s names h words has_subcommand below quiet under =
    let end = (walk s.rules names h words).held in
    let settle = settle_fault s.rules s.args_override_self end in
    let defaults = defaults_fault (settled s.rules end).rows s.rules in
    let check = check_fault s (finished s.rules end) has_subcommand in
    first (walk_fault s names (walk_from h) words) (or_else below (or_else settle (or_else defaults check))) (of_walk s names (walk_from h) words quiet)
    (first below (or_else settle (or_else defaults check)) under
    (first settle (or_else defaults check) (of_settle s.rules s.args_override_self end)
    (first defaults check (of_defaults (settled s.rules end).rows s.rules) (of_check s (finished s.rules end) has_subcommand))))

of_entered : (a : App) (stop : Option (Text × List Text)) → AreAlike (entered_fault a stop)
of_entered a stop =
    found (λ p. option_map_or (λ s. level_fault s [] nothing_held p.1 false []) (find (λ s. answers_to p.0 (label_of s)) a.subs) []) stop []
    (λ p. found (λ s. level_fault s [] nothing_held p.1 false []) (find (λ s. answers_to p.0 (label_of s)) a.subs) [] (λ s. of_level s [] nothing_held p.1 false [] (inr refl) none) none) none

of_built : (a : App) (words : List Text) → a.top.disable_help_subcommand ≡ true → AreAlike (built_fault a nothing_held words)
of_built a words quiet =
    let stop = (walk a.top.rules (names_of a) nothing_held words).stopped in
    of_level a.top (names_of a) nothing_held words (is_some (entered a stop)) (entered_fault a stop) (inl quiet) (of_entered a stop)

pub faults_alike : (words : List Text) → AreAlike (fault_of dts words)
faults_alike words = of_built (built dts) words refl
