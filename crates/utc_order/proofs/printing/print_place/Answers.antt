use Rattle.std.proofs.Common.{◌∷◌, ◌++◌, ◌∙◌, ap}
use Rattle.std.specs.List.{cons_option}
use Rattle.utc_value.specs.Members.{latest_of}
use Rattle.utc_order.specs.Kept.{line_lent}
use Rattle.utc_order.specs.Lines.{LogLine}
use Rattle.utc_order.specs.Marks.{line_text, text_behind}
use Rattle.utc_order.specs.Places.{lines_at}
use Rattle.utc_order.specs.Keeping.{reach_with}
use Rattle.utc_order.proofs.PrintFacts.{line_before}
use Rattle.utc_order.proofs.printing.print_place.Goals as goal

pub returns-in-Ok-clause-printed : goal.returns-in-Ok-clause-printed
returns-in-Ok-clause-printed c = λ printed is.
    let line : LogLine = line_lent c.in-Some.line in
    record {
      after = line ∷ printed;
      reach_is = c.with.ensures ∙ ap (λ r. reach_with r (latest_of line.time)) is;
      on = λ rest. line_before c.push_line.new.text.items c.args.text.now.items (line_text printed line) (text_behind (line ∷ printed) (lines_at c.args.lines.now rest)) (c.in-Ok.ensures printed is)
          ∙ ap (λ o. c.args.text.now.items ++ text_behind printed (cons_option o (lines_at c.args.lines.now rest))) c.in-Some.ensures;
    }
