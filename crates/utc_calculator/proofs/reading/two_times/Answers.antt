use Rattle.std.proofs.Common.{inl, [], ◌∷◌}
use Rattle.std.proofs.lemmas.Result.{err_from_is_err_and}
use Rattle.utc_calculator.specs.Operations.{Time, TimeKind}
use Rattle.utc_calculator.proofs.Operands.{behind}
use Rattle.utc_calculator.proofs.reading.two_times.Goals as goal

pub returns-in_err-b-clause-err : goal.returns-in_err-b-clause-err
returns-in_err-b-clause-err c =
    let p = err_from_is_err_and c.from_residual-in_err-b.result c.from_residual-in_err-b.ensures.1 in
    rw (p.1, p.2) (behind (Time c.in_ok-a.a) (TimeKind ∷ []) c.args.fields.line c.time.new.fields.line c.args.fields.left c.time.new.fields.left c.in_err-b.field-0.0 c.time.ensures.line c.in_ok-a.ensures.ok (inl c.in_err-b.ensures.err))

pub returns-in_err-end-clause-err : goal.returns-in_err-end-clause-err
returns-in_err-end-clause-err c =
    let p = err_from_is_err_and c.from_residual-in_err-end.result c.from_residual-in_err-end.ensures.1 in
    rw (p.1, p.2) (behind (Time c.in_ok-a.a) (TimeKind ∷ []) c.args.fields.line c.time.new.fields.line c.args.fields.left c.time.new.fields.left c.in_err-end.field-0.0 c.time.ensures.line c.in_ok-a.ensures.ok
    (behind (Time c.in_ok-b.b) [] c.time.new.fields.line c.time-2.new.fields.line c.time.new.fields.left c.time-2.new.fields.left c.in_err-end.field-0.0 c.time-2.ensures.line c.in_ok-b.ensures.ok c.in_err-end.ensures.err))
