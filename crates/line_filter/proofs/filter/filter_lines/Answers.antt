use Rattle.line_filter.proofs.Settling.{complete}
use Rattle.line_filter.proofs.Stepping.{begins, nothing_read}
use Rattle.line_filter.proofs.filter.filter_lines.Goals as goal

pub returns-in-Ok-clause-filtered : goal.returns-in-Ok-clause-filtered
returns-in-Ok-clause-filtered g c = λ octets from told at.
    c.filter_behind.ensures.filtered octets from (g.O.Sink.written c.args.output.now)
    (begins g.F.LineFilter.rules (g.F.LineFilter.stands c.args.filter.now 0) from octets c.in-Ok.reader (g.I.Source.left c.args.input.now) (g.O.Sink.written c.args.output.now) at told c.in-Ok.ensures.empty)

pub returns-in-Ok-clause-complete : goal.returns-in-Ok-clause-complete
returns-in-Ok-clause-complete g c = λ exclusive octets text from told at valid quiet_read quiet_write.
    complete g.F.LineFilter.rules exclusive from octets text (g.I.Source.left c.filter_behind.new.input) (g.O.Sink.written c.args.output.now) (g.O.Sink.written c.filter_behind.new.output) c.filter_behind.result
    (returns-in-Ok-clause-filtered g c octets from told at) valid
    (λ e. quiet_read (c.filter_behind.ensures.read_cause.failed e)) (λ e. quiet_write (c.filter_behind.ensures.write_cause.failed e))

pub returns-in-Err-clause-filtered : goal.returns-in-Err-clause-filtered
returns-in-Err-clause-filtered g c = λ octets from told at. nothing_read g.F.LineFilter.rules from octets _ _ told
