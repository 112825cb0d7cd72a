use Rattle.std.proofs.Common.{◌+◌, Ok, Err, Result, ap, ◌∙◌, subst, refl, arith}
use Rattle.std.proofs.lemmas.Result.{err_from_is_err_and}
use Rattle.dts_base.specs.Told.{Told}
use Rattle.dts_base.specs.Streams.{AppendsPart, Wrote}
use Rattle.line_filter.proofs.Stepping.{read_stops, line_stops, goes_on, write_stops, ended}
use Rattle.line_filter.proofs.filter.filter_behind.Goals as goal

pub loop-text-init : goal.loop-text-init
loop-text-init g c = record {
  few = c.requires.few;
  standing = c.requires.stands;
  stands = λ octets from told here. here;
  read_kept = refl;
  write_kept = refl;
}

pub returns-in_err-next_line-clause-filtered : goal.returns-in_err-next_line-clause-filtered
returns-in_err-next_line-clause-filtered g c = λ octets from told here.
    let p = err_from_is_err_and c.from_residual.result c.from_residual.ensures.1 in
    let stands = c.loop-text.invariant.stands octets from told here in
    rw (p.1, p.2, c.in_err-next_line.ensures.fault) (read_stops g.F.LineFilter.rules (g.F.LineFilter.stands c.loop-text.filter c.loop-text.before) from octets c.loop-text.before c.loop-text.reader c.next_line.new.reader
    (g.I.Source.left c.loop-text.input) (g.I.Source.left c.next_line.new.input) told (g.O.Sink.written c.loop-text.output) stands c.in_err-next_line.field-0.0 c.in_err-next_line.ensures.next)

pub returns-in_err-take_line-clause-filtered : goal.returns-in_err-take_line-clause-filtered
returns-in_err-take_line-clause-filtered g c = λ octets from told here.
    let p = err_from_is_err_and c.from_residual-in_err-take_line.result c.from_residual-in_err-take_line.ensures.1 in
    let stands = c.loop-text.invariant.stands octets from told here in
    rw (p.1, p.2) (line_stops g.F.LineFilter.rules (g.F.LineFilter.stands c.loop-text.filter c.loop-text.before) from octets c.loop-text.before c.loop-text.reader c.next_line.new.reader
    (g.I.Source.left c.loop-text.input) (g.I.Source.left c.next_line.new.input) told (g.O.Sink.written c.loop-text.output) stands
    (rw c.if-branch.true at c.in_ok-next_line.ensures.next) c.in_err-take_line.field-0.0 (λ state at. rw c.line.ensures.line at (c.in_err-take_line.ensures.stops state at)))

pub returns-in_err-write_text-clause-filtered : goal.returns-in_err-write_text-clause-filtered
returns-in_err-write_text-clause-filtered g c = λ octets from told here.
    let p = err_from_is_err_and c.from_residual-in_err-write_text.result c.from_residual-in_err-write_text.ensures.1 in
    let stands = c.loop-text.invariant.stands octets from told here in
    let part = c.in_err-write_text.ensures.part in
    rw (p.1, p.2, part.0) (write_stops g.F.LineFilter.rules (g.F.LineFilter.stands c.loop-text.filter c.loop-text.before) from octets c.loop-text.before c.loop-text.reader c.next_line.new.reader
    (g.I.Source.left c.loop-text.input) (g.I.Source.left c.next_line.new.input) told (g.O.Sink.written c.loop-text.output) stands
    (rw c.if-branch.true at c.in_ok-next_line.ensures.next) (g.F.LineFilter.stands c.take_line.new.filter (c.loop-text.before + 1)) c.take_line.new.text.items
    (λ state at. rw c.line.ensures.line at (c.in_ok-take_line.ensures.taken state at))
    (g.O.Sink.written c.write_text.new.output) (subst (λ x. Told (g.O.Sink.written c.loop-text.output) (g.O.Sink.written c.write_text.new.output) (AppendsPart x)) c.as_slice.ensures.value part.1))

pub loop-text-preserved : goal.loop-text-preserved
loop-text-preserved g c = record {
  few = omega (arith, c.in_ok-take_line.ensures.few);
  standing = let next = c.in_ok-take_line.ensures.taken c.loop-text.invariant.standing.0 c.loop-text.invariant.standing.1 in (next.2.0, next.2.2);
  stands = λ octets from told here.
      goes_on g.F.LineFilter.rules (g.F.LineFilter.stands c.loop-text.filter c.loop-text.before) from octets c.loop-text.before c.loop-text.reader c.next_line.new.reader
      (g.I.Source.left c.loop-text.input) (g.I.Source.left c.next_line.new.input) told (g.O.Sink.written c.loop-text.output) (c.loop-text.invariant.stands octets from told here)
      (rw c.if-branch.true at c.in_ok-next_line.ensures.next) (g.F.LineFilter.stands c.take_line.new.filter (c.loop-text.before + 1)) c.take_line.new.text.items
      (λ state at. rw c.line.ensures.line at (c.in_ok-take_line.ensures.taken state at))
      (g.O.Sink.written c.write_text.new.output) (subst (Wrote (g.O.Sink.written c.loop-text.output) (g.O.Sink.written c.write_text.new.output)) c.as_slice.ensures.value c.in_ok-write_text.ensures.whole);
  read_kept = c.in_ok-next_line.ensures.cause.kept (λ e. cc) ∙ c.loop-text.invariant.read_kept;
  write_kept = c.in_ok-write_text.ensures.cause.kept (λ e. cc) ∙ c.loop-text.invariant.write_kept;
}

pub returns-in-Ok-clause-filtered : goal.returns-in-Ok-clause-filtered
returns-in-Ok-clause-filtered g c = λ octets from told here.
    let answer : Result (Unit {0}) _ = Ok tt in
    ended g.F.LineFilter.rules (g.F.LineFilter.stands c.loop-text.filter c.loop-text.before) from octets c.loop-text.before c.loop-text.reader c.next_line.new.reader
    (g.I.Source.left c.loop-text.input) (g.I.Source.left c.next_line.new.input) told (g.O.Sink.written c.loop-text.output) (c.loop-text.invariant.stands octets from told here)
    answer _ (rw c.if-branch.false at c.in_ok-next_line.ensures.next) c.in-Ok.ensures.end refl

pub returns-clause-filtered : goal.returns-clause-filtered
returns-clause-filtered g c = λ octets from told here.
    let answer : Result (Unit {0}) _ = Err c.in-Err.cause in
    ended g.F.LineFilter.rules (g.F.LineFilter.stands c.loop-text.filter c.loop-text.before) from octets c.loop-text.before c.loop-text.reader c.next_line.new.reader
    (g.I.Source.left c.loop-text.input) (g.I.Source.left c.next_line.new.input) told (g.O.Sink.written c.loop-text.output) (c.loop-text.invariant.stands octets from told here)
    answer _ (rw c.if-branch.false at c.in_ok-next_line.ensures.next) c.in-Err.ensures.end (ap Err c.refused.ensures)
