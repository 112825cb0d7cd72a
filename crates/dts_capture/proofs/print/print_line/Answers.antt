use Rattle.std.proofs.Common.{◌∙◌}
use Rattle.dts_capture.proofs.LineTexts.{reads_back}
use Rattle.dts_capture.proofs.print.print_line.Goals as goal

pub returns-clause-reads_back : goal.returns-clause-reads_back
returns-clause-reads_back c = reads_back c.args.line.now c.end.result (c.end.ensures ∙ c.in_ok-written.ensures)
