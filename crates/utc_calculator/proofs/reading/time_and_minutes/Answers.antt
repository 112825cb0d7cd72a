use Rattle.std.proofs.Common.{inl, [], ◌∷◌}
use Rattle.std.proofs.lemmas.Result.{err_from_is_err_and}
use Rattle.utc_calculator.specs.Operations.{Time, Minutes, MinutesKind}
use Rattle.utc_calculator.proofs.Operands.{behind}
use Rattle.utc_calculator.proofs.reading.time_and_minutes.Goals as goal

pub returns-in_err-t-clause-err : goal.returns-in_err-t-clause-err
returns-in_err-t-clause-err c =
    let p = err_from_is_err_and c.from_residual-in_err-t.result c.from_residual-in_err-t.ensures.1 in
    rw (p.1, p.2) (behind (Time c.in_ok-a.a) (MinutesKind ∷ []) c.args.fields.line c.time.new.fields.line c.args.fields.left c.time.new.fields.left c.in_err-t.field-0.0 c.time.ensures.line c.in_ok-a.ensures.ok (inl c.in_err-t.ensures.err))

pub returns-in_err-end-clause-err : goal.returns-in_err-end-clause-err
returns-in_err-end-clause-err c =
    let p = err_from_is_err_and c.from_residual-in_err-end.result c.from_residual-in_err-end.ensures.1 in
    rw (p.1, p.2) (behind (Time c.in_ok-a.a) (MinutesKind ∷ []) c.args.fields.line c.time.new.fields.line c.args.fields.left c.time.new.fields.left c.in_err-end.field-0.0 c.time.ensures.line c.in_ok-a.ensures.ok
    (behind (Minutes c.in_ok-t.t) [] c.time.new.fields.line c.minutes.new.fields.line c.time.new.fields.left c.minutes.new.fields.left c.in_err-end.field-0.0 c.minutes.ensures.line c.in_ok-t.ensures.ok c.in_err-end.ensures.err))
