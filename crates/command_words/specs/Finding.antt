-- What the reader of a command ends with: what was found, or what the rows lack.
use Rattle.std.specs.Prelude.{◌≡◌, ◌⊎◌, List, Option, Some, None, Result, Ok, Err}
use Rattle.clap.specs.Words.{Row, Text}
use Rattle.clap.specs.declared.Error.{Error}
use Rattle.clap.specs.declared.error.ErrorKind.{ErrorKind}
use Rattle.clap.specs.declared.error.ErrorKind.TheVariants as kind
use Rattle.command_words.specs.declared.command_line.CommandLine.{CommandLine}
use Rattle.command_words.specs.declared.command_line.NoCommand.{NoCommand}
use Rattle.command_words.specs.declared.command_line.NoCommand.TheVariants as no
use Rattle.command_words.specs.Reading.{IsMisspelled, IsNoKind}
use Rattle.command_words.specs.Words.{command_in}

-- the rows lack what this error says
abbrev pub Lacks : List Row → NoCommand → Type 0
Lacks rows (no.Number name) = IsMisspelled name rows
Lacks rows no.Kind = IsNoKind rows
Lacks rows no.Missing = Unit {0}
Lacks rows _ = ⊥

-- this was found in the rows, or nothing, for what they lack
abbrev pub Finds : {A : Type 0} → Option A → List Row → Result A NoCommand → Type 0
Finds found rows (Ok x) = found ≡ Some x
Finds found rows (Err why) = (found ≡ None) × Lacks rows why

-- the same, or there was no memory
abbrev pub FindsIfRoom : {A : Type 0} → Option A → List Row → Result A NoCommand → Type 0
FindsIfRoom found rows (Ok x) = found ≡ Some x
FindsIfRoom found rows (Err why) = (why ≡ no.NoMemory) ⊎ ((found ≡ None) × Lacks rows why)

-- the same of the command that clap found
abbrev pub FindsCommand : Option (Text × List Row) → Result CommandLine NoCommand → Type 0
FindsCommand (Some found) result = FindsIfRoom (command_in found.0 found.1) found.1 result
FindsCommand None result = result ≡ Err no.Missing

-- what clap's error makes of the words
abbrev pub refusal_of : ErrorKind → Error → NoCommand
refusal_of kind.OutOfMemory error = no.NoMemory
refusal_of kind.DisplayHelp error = no.Shown error
refusal_of kind.DisplayVersion error = no.Shown error
refusal_of other error = no.Refused error
