-- The commands that are built.
use Rattle.std.specs.Prelude.{◌≡◌, Bool, false, true, not}
use Rattle.command_words.specs.Words.{Meaning, asks, means, nothing}
use Rattle.command_words.specs.declared.command_line.CommandLine.{CommandLine}
use Rattle.command_words.specs.declared.command_line.CommandLine.TheVariants as command

-- the commands that are built
abbrev pub is_built : CommandLine → Bool
is_built (command.Replay roster) = not roster
is_built command.Utc = true
is_built command.Order = true
is_built (command.Show kind) = true
is_built (command.Drill seed events) = true
is_built _ = false

-- the words are refused: they mean nothing, or a command that is not built
abbrev pub IsRefused : Meaning → Type 0
IsRefused (means line) = is_built line ≡ false
IsRefused asks = ⊥
IsRefused nothing = Unit {0}

-- the words mean a command that reads the input
abbrev pub ReadsInput : Meaning → Type 0
ReadsInput (means (command.Replay roster)) = Unit {0}
ReadsInput (means command.Utc) = Unit {0}
ReadsInput (means command.Order) = Unit {0}
ReadsInput (means (command.Show kind)) = Unit {0}
ReadsInput _ = ⊥
