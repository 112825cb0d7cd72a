-- What clap reads of an argument and of a command that is built.
use Rattle.std.specs.Prelude.{◌≡◌, false}
use Rattle.clap.specs.Words.{Rule, Shape, rule_of, shape_of}
use Rattle.clap.specs.declared.builder.arg.Arg.{Arg}
use Rattle.clap.specs.declared.builder.command.Command.{Command}
use Rattle.clap.specs.declared.builder.command.Command.TheViews.{out-Command as fields_of}

-- the argument has this rule, and is one of its command alone
abbrev pub HasRule : Arg → Rule → Type 0
HasRule argument rule = (rule_of argument ≡ rule) × (argument.global ≡ false)

-- the command has this shape, and its arguments are its alone
abbrev pub HasShape : Command → Shape → Type 0
HasShape command shape = (shape_of command ≡ shape) × ((fields_of command).has_globals ≡ false)
