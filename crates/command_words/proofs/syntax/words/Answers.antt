use Rattle.std.proofs.Common.{◌∙◌, ap, ap₂}
use Rattle.clap.specs.Words.{Rule, rule_of}
use Rattle.clap.specs.declared.builder.Arg.{Arg}
use Rattle.command_words.proofs.WordFacts.{some_only}
use Rattle.command_words.proofs.syntax.words.Goals as goal

pub returns : goal.returns
returns c =
    let several = some_only c.num_args.result.num_vals _ c.num_args.ensures.1 in
    record { rule = (ap rule_of c.num_args.ensures.0 ∙ ap₂ (λ (rule : Rule) range. record rule { range = range }) c.word.ensures.rule.0 several, ap (λ (a : Arg). a.global) c.num_args.ensures.0 ∙ c.word.ensures.rule.1) }
