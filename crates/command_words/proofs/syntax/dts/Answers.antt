use Rattle.std.proofs.Common.{◌∙◌, ap₂}
use Rattle.std.proofs.lemmas.Result.{IfOk-weaker}
use Rattle.clap.specs.Words.{with_subcommand}
use Rattle.command_words.proofs.syntax.dts.Goals as goal

pub returns : goal.returns
returns c =
    let one = c.in_ok-subcommand.ensures.shape c.in_ok-replay.ensures.shape.1 ∙ ap₂ with_subcommand c.in_ok-program.ensures.app c.in_ok-replay.ensures.shape.0 in
    let two = c.in_ok-subcommand-2.ensures.shape c.in_ok-clerk.ensures.shape.1 ∙ ap₂ with_subcommand one c.in_ok-clerk.ensures.shape.0 in
    let three = c.in_ok-subcommand-3.ensures.shape c.in_ok-server.ensures.shape.1 ∙ ap₂ with_subcommand two c.in_ok-server.ensures.shape.0 in
    let four = c.in_ok-subcommand-4.ensures.shape c.in_ok-utc.ensures.shape.1 ∙ ap₂ with_subcommand three c.in_ok-utc.ensures.shape.0 in
    let five = c.in_ok-subcommand-5.ensures.shape c.in_ok-order.ensures.shape.1 ∙ ap₂ with_subcommand four c.in_ok-order.ensures.shape.0 in
    let six = c.in_ok-subcommand-6.ensures.shape c.in_ok-show.ensures.shape.1 ∙ ap₂ with_subcommand five c.in_ok-show.ensures.shape.0 in
    let seven = c.in_ok-subcommand-7.ensures.shape c.in_ok-drill.ensures.shape.1 ∙ ap₂ with_subcommand six c.in_ok-drill.ensures.shape.0 in
    record {
      app = IfOk-weaker c.subcommand-8.result _ _ (λ command adds. adds.shape c.in_ok-control.ensures.shape.1 ∙ ap₂ with_subcommand seven c.in_ok-control.ensures.shape.0) c.subcommand-8.ensures;
    }
