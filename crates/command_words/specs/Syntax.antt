-- The words of the program, as clap reads them: which commands there are, and which options and other words each has.
use Rattle.std.specs.Prelude.{ℕ, List, [], ◌∷◌, ◌++◌, Some, true, false, codes}
use Rattle.clap.specs.Lexer.{usize_max}
use Rattle.clap.specs.Words.{App, Rule, Shape, Text, new_rule}
use Rattle.clap.specs.Simple.{new_shape}
use Rattle.clap.specs.declared.builder.ArgAction.TheVariants as action
use Rattle.clap.specs.declared.builder.ValueParser.TheVariants as parser
use Rattle.command_words.specs.declared.syntax.TheConstants.{MOST_TURNS, LATEST_START, MOST_INACCURACY, MOST_WORKERS, MOST_SEED, MOST_EVENTS}

-- the flag `--name`
abbrev pub flag_of : Text → Rule
flag_of name = record (new_rule name) { long = Some name; action = Some action.SetTrue }

-- the option `--name` with a value
abbrev pub option_of : Text → Rule
option_of name = record (new_rule name) { long = Some name; value_names = 1 }

-- a word that has to be there, and words of which one has to be there
abbrev pub word_of : Text → Rule
word_of name = record (new_rule name) { value_names = 1; required = true }

abbrev pub words_of : Text → Rule
words_of name = record (word_of name) { range = Some (record { start_inclusive = 1; end_inclusive = usize_max }) }

-- the value is a number from one to another, and a text stands for it where it is not given
abbrev pub number_of : ℕ → ℕ → Rule → Rule
number_of least most rule = record rule { parser = Some (parser.Unsigned least most) }

abbrev pub with_default : Text → Rule → Rule
with_default text rule = record rule { defaults = text ∷ [] }

abbrev pub shape_with : Text → List Rule → Shape
shape_with name rules = record (new_shape name) { rules = rules }

-- what a half goes by
abbrev pub half_rules : List Rule
half_rules = with_default (codes "281474976710656") (number_of 1 MOST_TURNS (option_of (codes "turns")))
    ∷ with_default (codes "137971296000000000") (number_of 0 LATEST_START (option_of (codes "start")))
    ∷ number_of 0 MOST_INACCURACY (option_of (codes "inaccuracy")) ∷ []

abbrev pub replay_shape : Shape
replay_shape = shape_with (codes "replay") (flag_of (codes "roster") ∷ [])

abbrev pub clerk_shape : Shape
clerk_shape = shape_with (codes "clerk") half_rules

abbrev pub server_shape : Shape
server_shape = shape_with (codes "server") (half_rules ++ with_default (codes "1") (number_of 1 MOST_WORKERS (option_of (codes "workers"))) ∷ [])

abbrev pub utc_shape : Shape
utc_shape = shape_with (codes "utc") []

abbrev pub order_shape : Shape
order_shape = shape_with (codes "order") []

abbrev pub show_shape : Shape
show_shape = shape_with (codes "show") (word_of (codes "kind") ∷ [])

abbrev pub drill_shape : Shape
drill_shape = shape_with (codes "drill") (number_of 0 MOST_SEED (word_of (codes "seed")) ∷ number_of 0 MOST_EVENTS (word_of (codes "events")) ∷ [])

abbrev pub control_shape : Shape
control_shape = shape_with (codes "control") (word_of (codes "address") ∷ words_of (codes "words") ∷ [])

-- the program: its words do not begin with its name, one of them is a command, and no command is called `help`
abbrev pub program : App
program = record {
  top = record (new_shape (codes "dts")) {
    no_binary_name = true;
    disable_help_subcommand = true;
    subcommand_required = true;
    has_version = true;
  };
  subs = [];
}

abbrev pub dts : App
dts = record {
  top = record program.top { is_leaf = false };
  subs = replay_shape ∷ clerk_shape ∷ server_shape ∷ utc_shape ∷ order_shape ∷ show_shape ∷ drill_shape ∷ control_shape ∷ [];
}
