-- What the reader of words answers.
use Rattle.std.specs.Prelude.{◌≡◌, ◌≤◌, ℕ, List, IsSomeAnd, None, Result, Ok, Err, codes}
use Rattle.clap.specs.Words.{Row, Text, first_of, subcommand_of}
use Rattle.command_words.specs.declared.command_line.CommandLine.{CommandLine}
use Rattle.command_words.specs.declared.command_line.CommandLine.TheVariants as command
use Rattle.command_words.specs.declared.command_line.NumberName.{NumberName}
use Rattle.command_words.specs.declared.command_line.NumberName.TheVariants as number
use Rattle.command_words.specs.declared.command_line.NoCommand.{NoCommand}
use Rattle.command_words.specs.declared.command_line.NoCommand.TheVariants as no
use Rattle.command_words.specs.declared.syntax.TheConstants.{LATEST_START, MOST_EVENTS, MOST_INACCURACY, MOST_SEED, MOST_TURNS, MOST_WORKERS}
use Rattle.command_words.specs.Syntax.{dts}
use Rattle.command_words.specs.Words.{asks, kind_in, meaning_of, means, nothing, number_in}

-- the name of a number in the words, and the greatest that it may be
abbrev pub id_of : NumberName → Text
id_of number.Turns = codes "turns"
id_of number.Start = codes "start"
id_of number.Inaccuracy = codes "inaccuracy"
id_of number.Workers = codes "workers"
id_of number.Seed = codes "seed"
id_of number.Events = codes "events"

abbrev pub greatest_of : NumberName → ℕ
greatest_of number.Turns = MOST_TURNS
greatest_of number.Start = LATEST_START
greatest_of number.Inaccuracy = MOST_INACCURACY
greatest_of number.Workers = MOST_WORKERS
greatest_of number.Seed = MOST_SEED
greatest_of number.Events = MOST_EVENTS

-- the number is given, and not in plain decimal and its range
abbrev pub IsMisspelled : NumberName → List Row → Type 0
IsMisspelled name rows = IsSomeAnd (first_of (id_of name) rows) (λ text. number_in (greatest_of name) text ≡ None)

-- the kind is given, and is none of those that there are
abbrev pub IsNoKind : List Row → Type 0
IsNoKind rows = IsSomeAnd (first_of (codes "kind") rows) (λ text. kind_in text ≡ None)

-- The words were read so. What is told as wrong is given, and is wrong.
abbrev pub IsReading : List Text → Result CommandLine NoCommand → Type 0
IsReading words (Ok line) = meaning_of words ≡ means line
IsReading words (Err (no.Shown text)) = meaning_of words ≡ asks
IsReading words (Err (no.Refused why)) = meaning_of words ≡ nothing
IsReading words (Err (no.Number name)) = (meaning_of words ≡ nothing) × IsSomeAnd (subcommand_of dts words) (λ found. IsMisspelled name found.1)
IsReading words (Err no.Kind) = (meaning_of words ≡ nothing) × IsSomeAnd (subcommand_of dts words) (λ found. IsNoKind found.1)
IsReading words (Err no.Missing) = meaning_of words ≡ nothing
IsReading words (Err no.NoMemory) = Unit {0}

-- the numbers that a command needs in their ranges are there
abbrev pub IsInRange : CommandLine → Type 0
IsInRange (command.Drill seed events) = events ≤ MOST_EVENTS
IsInRange _ = Unit {0}
