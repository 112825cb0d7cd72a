use Rattle.std.proofs.Common.{◌∙◌}
use Rattle.std.proofs.lemmas.Result.{err_from_is_err_and}
use Rattle.utc_order.proofs.ReadFacts.{read_stops, all_read, goes_on, line_stops}
use Rattle.utc_order.proofs.input.read_log.Goals as goal

pub returns-in_err-next_line-clause-read : goal.returns-in_err-next_line-clause-read
returns-in_err-next_line-clause-read g c = λ octets at.
    let p = err_from_is_err_and c.from_residual-in_err-next_line.result c.from_residual-in_err-next_line.ensures.1 in
    rw (p.1, p.2, c.in_err-next_line.ensures.fault) (read_stops octets c.loop-log.reader c.next_line.new.reader
    (g.I.Source.left c.loop-log.input) (g.I.Source.left c.next_line.new.input) c.loop-log.log (c.loop-log.invariant.reads octets at) c.in_err-next_line.field-0.0 c.in_err-next_line.ensures.next)

pub returns-in_err-take-clause-read : goal.returns-in_err-take-clause-read
returns-in_err-take-clause-read g c = λ octets at.
    let p = err_from_is_err_and c.from_residual-in_err-take.result c.from_residual-in_err-take.ensures.1 in
    rw (p.1, p.2) (line_stops octets c.loop-log.reader c.next_line.new.reader
    (g.I.Source.left c.loop-log.input) (g.I.Source.left c.next_line.new.input) c.loop-log.log (c.loop-log.invariant.reads octets at)
    (rw c.if-branch.true at c.in_ok-next_line.ensures.next) c.in_err-take.field-0.0 (rw c.line.ensures.line at c.in_err-take.ensures.stops))

pub loop-log-preserved : goal.loop-log-preserved
loop-log-preserved g c = record {
  reads = λ octets at.
      let took = c.in_ok-take.ensures.taken in
      rw took.2 (goes_on octets c.loop-log.reader c.next_line.new.reader
      (g.I.Source.left c.loop-log.input) (g.I.Source.left c.next_line.new.input) c.loop-log.log (c.loop-log.invariant.reads octets at)
      (rw c.if-branch.true at c.in_ok-next_line.ensures.next) took.0 (rw c.line.ensures.line at took.1));
  kept = c.in_ok-next_line.ensures.cause.kept (λ e. cc) ∙ c.loop-log.invariant.kept;
}

pub returns-clause-read : goal.returns-clause-read
returns-clause-read g c = λ octets at.
    all_read octets c.loop-log.reader c.next_line.new.reader
    (g.I.Source.left c.loop-log.input) (g.I.Source.left c.next_line.new.input) c.loop-log.log (c.loop-log.invariant.reads octets at)
    (rw c.if-branch.false at c.in_ok-next_line.ensures.next)
