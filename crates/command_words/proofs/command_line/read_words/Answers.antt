use Rattle.std.proofs.Common.{◌≡◌, ◌∙◌, ap, sym, subst, map, [], Err}
use Rattle.std.specs.String.{string_bytes}
use Rattle.clap.specs.Words.{App, HasKind, fault_of, is_simple, is_simple_and_free, subcommand_of, subcommand_rows_of}
use Rattle.command_words.specs.declared.command_line.NoCommand.{NoCommand}
use Rattle.command_words.specs.Syntax.{dts}
use Rattle.command_words.specs.Reading.{IsReading}
use Rattle.command_words.proofs.Meanings.{dts_is_free, dts_is_simple, read_so, refused}
use Rattle.command_words.proofs.command_line.read_words.Goals as goal

pub returns-in-Err-clause-read : goal.returns-in-Err-clause-read
returns-in-Err-clause-read c =
    let words = map string_bytes c.args.words.now in
    let app = c.in_ok-dts.ensures.app in
    let has : HasKind (fault_of dts words) c.in-Err.error =
    subst (λ (a : App). HasKind (fault_of a words) c.in-Err.error) app (c.in-Err.ensures.kinds (ap is_simple_and_free app ∙ dts_is_free)) in
    subst (λ (r : NoCommand). IsReading words (Err r)) (sym c.from.ensures) (refused words c.in-Err.error has)

pub returns-clause-read : goal.returns-clause-read
returns-clause-read c =
    let words = map string_bytes c.args.words.now in
    let app = c.in_ok-dts.ensures.app in
    let none : fault_of dts words ≡ [] = subst (λ (a : App). fault_of a words ≡ []) app (c.in-Ok.ensures.kinds (ap is_simple_and_free app ∙ dts_is_free)) in
    let found : subcommand_rows_of c.in-Ok.matches ≡ subcommand_of dts words =
    (c.in-Ok.ensures.matches (ap is_simple app ∙ dts_is_simple)).1 ∙ ap (λ (a : App). subcommand_of a words) app in
    read_so words _ _ none found c.found.ensures.found
