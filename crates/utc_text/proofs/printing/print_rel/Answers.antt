use Rattle.std.proofs.Common.{rules, sym, ◌∙◌, FitsSigned, w64, to_z-of_z}
use Rattle.utc_text.proofs.PrintAnswers.{length_shown, length_reads_back}
use Rattle.utc_text.proofs.printing.print_rel.Goals as goal

pub returns-in-Relative-clause-reads_back : goal.returns-in-Relative-clause-reads_back
returns-in-Relative-clause-reads_back c =
    let fits64 : FitsSigned w64 c.time.result = search rules in
    let text = simp (c.time.ensures.value, c.inaccuracy.ensures.value) at (simp to_z-of_z at c.print_length.ensures.text) in
    length_reads_back c.print_length.result c.args.u c.time.ensures.in_range (sym c.kind.ensures.value ∙ c.in-Relative.is) text

pub returns-in-Relative-clause-text : goal.returns-in-Relative-clause-text
returns-in-Relative-clause-text c =
    let fits64 : FitsSigned w64 c.time.result = search rules in
    let text = simp (c.time.ensures.value, c.inaccuracy.ensures.value) at (simp to_z-of_z at c.print_length.ensures.text) in
    length_shown c.print_length.result c.args.u c.time.ensures.in_range text
