-- What words mean: a command, a request for the help or the version, or nothing.
use Rattle.std.specs.Prelude.{◌&&◌, ◌||◌, ◌==◌, ℕ, Bool, true, false, not, List, [], ◌∷◌, Option, Some, None}
use Rattle.std.specs.Prelude.{codes, length, slice_index, bytes_eq, nat_lt, nat_le, option_map, option_and_then, if◌then◌else◌}
use Rattle.std.specs.List.{join_by}
use Rattle.std.specs.Option.{option_map_or}
use Rattle.std.specs.Str.{all_ascii_digits}
use Rattle.std.specs.Str.Parse.{digits_value}
use Rattle.clap.specs.Words.{Kinds, Row, Text, all_of, fault_of, first_of, subcommand_of}
use Rattle.clap.specs.declared.error.ErrorKind.{ErrorKind}
use Rattle.clap.specs.declared.error.ErrorKind.TheVariants as kind
use Rattle.command_words.specs.declared.command_line.CommandLine.{CommandLine}
use Rattle.command_words.specs.declared.command_line.CommandLine.TheVariants as command
use Rattle.command_words.specs.declared.command_line.HalfOptions.{HalfOptions}
use Rattle.command_words.specs.declared.command_line.ShowKind.{ShowKind}
use Rattle.command_words.specs.declared.command_line.ShowKind.TheVariants as shown
use Rattle.command_words.specs.declared.syntax.TheConstants.{LATEST_START, MOST_EVENTS, MOST_INACCURACY, MOST_SEED, MOST_TURNS, MOST_WORKERS}
use Rattle.command_words.specs.Syntax.{dts}

-- ---- values

-- the text writes a number in plain decimal: digits, no sign, and a zero in front only alone
abbrev pub is_plain_number : Text → Bool
is_plain_number text = nat_lt 0 (length text) && (all_ascii_digits text && (not (slice_index text 0 == 48) || length text == 1))

-- the number up to an end that the text writes so
abbrev pub number_in : ℕ → Text → Option ℕ
number_in most text = if is_plain_number text && nat_le (digits_value 10 text) most then Some (digits_value 10 text) else None

-- the number that was given under a name, or stands for it, and one that may be left out
abbrev pub number_at : Text → ℕ → List Row → Option ℕ
number_at name most rows = option_and_then (number_in most) (first_of name rows)

abbrev pub number_if_given : Text → ℕ → List Row → Option (Option ℕ)
number_if_given name most rows = option_map_or (λ text. option_map (λ n. Some n) (number_in most text)) (first_of name rows) (Some None)

abbrev pub kind_in : Text → Option ShowKind
kind_in text = if bytes_eq text (codes "pdu") then Some shown.Pdu else if bytes_eq text (codes "ntp") then Some shown.Ntp
    else if bytes_eq text (codes "utc") then Some shown.Utc else None

-- ---- commands

abbrev pub half_of : ℕ → ℕ → Option ℕ → HalfOptions
half_of turns start inaccuracy = record { turns = turns; start = start; inaccuracy = inaccuracy }

abbrev pub half_in : List Row → Option HalfOptions
half_in rows = option_and_then (λ turns. option_and_then (λ start. option_map (half_of turns start) (number_if_given (codes "inaccuracy") MOST_INACCURACY rows))
    (number_at (codes "start") LATEST_START rows)) (number_at (codes "turns") MOST_TURNS rows)

abbrev pub replay_in : List Row → CommandLine
replay_in rows = command.Replay (option_map_or (λ text. bytes_eq text (codes "true")) (first_of (codes "roster") rows) false)

abbrev pub clerk_in : List Row → Option CommandLine
clerk_in rows = option_map command.Clerk (half_in rows)

abbrev pub server_in : List Row → Option CommandLine
server_in rows = option_and_then (λ half. option_map (command.Server half) (number_at (codes "workers") MOST_WORKERS rows)) (half_in rows)

abbrev pub show_in : List Row → Option CommandLine
show_in rows = option_map command.Show (option_and_then kind_in (first_of (codes "kind") rows))

abbrev pub drill_in : List Row → Option CommandLine
drill_in rows = option_and_then (λ seed. option_map (command.Drill seed) (number_at (codes "events") MOST_EVENTS rows)) (number_at (codes "seed") MOST_SEED rows)

abbrev pub control_in : List Row → Option CommandLine
control_in rows = option_and_then (λ address. option_map (λ words. command.Control address (join_by (λ word. word) (codes " ") words)) (all_of (codes "words") rows))
    (first_of (codes "address") rows)

-- the command of this name, with what was given to it
abbrev pub command_in : Text → List Row → Option CommandLine
command_in name rows = if bytes_eq name (codes "replay") then Some (replay_in rows)
    else if bytes_eq name (codes "clerk") then clerk_in rows
    else if bytes_eq name (codes "server") then server_in rows
    else if bytes_eq name (codes "utc") then Some command.Utc
    else if bytes_eq name (codes "order") then Some command.Order
    else if bytes_eq name (codes "show") then show_in rows
    else if bytes_eq name (codes "drill") then drill_in rows
    else if bytes_eq name (codes "control") then control_in rows
    else None

-- ---- words

pub data Meaning : Type 0 where
  -- the words mean this command
  means : CommandLine → Meaning
  -- they ask for the help or for the version
  asks : Meaning
  nothing : Meaning

abbrev pub is_request_kind : ErrorKind → Bool
is_request_kind kind.DisplayHelp = true
is_request_kind kind.DisplayVersion = true
is_request_kind _ = false

-- where clap finds no fault in the words, they mean the command that it found, if its values are right
abbrev pub meaning_by : Kinds → Option (Text × List Row) → Meaning
meaning_by [] found = option_map_or means (option_and_then (λ f. command_in f.0 f.1) found) nothing
meaning_by (k ∷ kinds) found = if is_request_kind k then asks else nothing

unfoldable pub meaning_of : List Text → Meaning
meaning_of words = meaning_by (fault_of dts words) (subcommand_of dts words)
