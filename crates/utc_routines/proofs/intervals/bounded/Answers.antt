use Rattle.std.proofs.Common.{rules, ◌≡◌, FitsSigned, w64, to_z, of_z}
use Rattle.std.proofs.lemmas.Int.{to_z-of_z}
use Rattle.std.proofs.lemmas.Result.{err_from_is_err_and}
use mir.Syntax.{w128}
use Rattle.utc_routines.proofs.intervals.bounded.Goals as goal

pub returns-in_err-time-clause-err : goal.returns-in_err-time-clause-err
returns-in_err-time-clause-err c =
    let fits : FitsSigned w128 c.in-Some.found.time = search rules in
    let kinds : c.args.a.kind ≡ c.args.b.kind = c.are_alike.ensures.0 c.if-not-are_alike.false in
    let refused = simp to_z-of_z at c.in_err-time.ensures.ok in
    let p = err_from_is_err_and c.from_residual.result c.from_residual.ensures.1 in
    rw (p.1, p.2, c.in_err-time.ensures.err) (kinds, c.in-Some.ensures.order, (c.in-Some.found.time, c.in-Some.found.inaccuracy, c.in-Some.ensures.interval, refused))

pub returns-clause-ok : goal.returns-clause-ok
returns-clause-ok c =
    let fits : FitsSigned w128 c.in-Some.found.time = search rules in
    let kinds : c.args.a.kind ≡ c.args.b.kind = c.are_alike.ensures.0 c.if-not-are_alike.false in
    let time : to_z w64 (of_z w64 c.in_ok-time.time) ≡ c.in-Some.found.time = search rules in
    rw c.made.ensures (record {
      operands = kinds;
      order = c.in-Some.ensures.order;
      kind = search rules;
      tdf = search rules;
      interval = rw time c.in-Some.ensures.interval;
    })
