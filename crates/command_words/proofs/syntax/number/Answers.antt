use Rattle.std.proofs.Common.{◌∙◌, ap, Some}
use Rattle.command_words.proofs.syntax.number.Goals as goal

pub returns : goal.returns
returns c =
    let given = c.value_parser.ensures.given in
    record { parser = c.value_parser.ensures.others ∙ ap (λ p. record c.args.arg { value_parser = p }) (given.1 ∙ ap (λ p. Some p) (given.2 ∙ c.unsigned.ensures)) }
