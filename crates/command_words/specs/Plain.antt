-- Words in plain form: a command, then its options, each at most once and as `--name value`, then its other words.
use Rattle.std.specs.Prelude.{◌≡◌, ◌≤◌, ◌^◌, ◌==◌, ℕ, Bool, true, false, not, List, [], ◌∷◌, ◌++◌, Option, Some, None, codes, bytes_eq, if◌then◌else◌, unwrap_or}
use Rattle.std.specs.List.{list_all}
use Rattle.std.specs.Str.Parse.{digits_value}
use Rattle.clap.specs.Words.{Text}
use Rattle.command_words.specs.declared.command_line.HalfOptions.{HalfOptions}
use Rattle.command_words.specs.declared.syntax.TheConstants.{LATEST_START, MOST_INACCURACY, MOST_TURNS, MOST_WORKERS}
use Rattle.command_words.specs.Words.{half_of, is_plain_number}

-- the options of a half
pub data HalfOption : Type 0 where
  turns : HalfOption
  start : HalfOption
  inaccuracy : HalfOption
  workers : HalfOption

abbrev pub name_of : HalfOption → Text
name_of turns = codes "turns"
name_of start = codes "start"
name_of inaccuracy = codes "inaccuracy"
name_of workers = codes "workers"

abbrev pub least_of : HalfOption → ℕ
least_of turns = 1
least_of start = 0
least_of inaccuracy = 0
least_of workers = 1

abbrev pub most_of : HalfOption → ℕ
most_of turns = MOST_TURNS
most_of start = LATEST_START
most_of inaccuracy = MOST_INACCURACY
most_of workers = MOST_WORKERS

-- an option with the text of its value
pub record Given : Type 0 where
  pub option : HalfOption
  pub text : Text

-- the text is a plain number in the range of the option
pub record IsInItsRange (g : Given) : Type 0 where
  pub plain : is_plain_number g.text ≡ true
  pub least : least_of g.option ≤ digits_value 10 g.text
  pub most : digits_value 10 g.text ≤ most_of g.option

abbrev pub is_of : HalfOption → Given → Bool
is_of option g = bytes_eq (name_of g.option) (name_of option)

-- The options that are given are among these, each at most once, and their values are in their ranges.
abbrev pub ArePlain : (HalfOption → Bool) → List Given → Type 0
ArePlain allowed [] = Unit {0}
ArePlain allowed (g ∷ given) = (allowed g.option ≡ true) × IsInItsRange g × (list_all (λ h. not (is_of h.option g)) given ≡ true) × ArePlain allowed given

-- their words
abbrev pub option_words : List Given → List Text
option_words [] = []
option_words (g ∷ given) = (codes "--" ++ name_of g.option) ∷ g.text ∷ option_words given

-- the value that is given to an option
abbrev pub value_of : HalfOption → List Given → Option ℕ
value_of option [] = None
value_of option (g ∷ given) = if is_of option g then Some (digits_value 10 g.text) else value_of option given

-- what a half goes by where these are given
abbrev pub half_by : List Given → HalfOptions
half_by given = half_of (unwrap_or (value_of turns given) (2 ^ 48)) (unwrap_or (value_of start given) 137971296000000000) (value_of inaccuracy given)

abbrev pub is_of_clerk : HalfOption → Bool
is_of_clerk workers = false
is_of_clerk _ = true

abbrev pub is_of_server : HalfOption → Bool
is_of_server option = true

-- the word does not begin with a hyphen
abbrev pub is_no_option : Text → Bool
is_no_option [] = true
is_no_option (octet ∷ rest) = not (octet == 45)
