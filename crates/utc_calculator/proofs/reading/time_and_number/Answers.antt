use Rattle.std.proofs.Common.{inl, [], ◌∷◌}
use Rattle.std.proofs.lemmas.Result.{err_from_is_err_and}
use Rattle.utc_calculator.specs.Operations.{Time, Number, NumberKind}
use Rattle.utc_calculator.proofs.Operands.{behind}
use Rattle.utc_calculator.proofs.reading.time_and_number.Goals as goal

pub returns-in_err-k-clause-err : goal.returns-in_err-k-clause-err
returns-in_err-k-clause-err c =
    let p = err_from_is_err_and c.from_residual-in_err-k.result c.from_residual-in_err-k.ensures.1 in
    rw (p.1, p.2) (behind (Time c.in_ok-a.a) (NumberKind ∷ []) c.args.fields.line c.time.new.fields.line c.args.fields.left c.time.new.fields.left c.in_err-k.field-0.0 c.time.ensures.line c.in_ok-a.ensures.ok (inl c.in_err-k.ensures.err))

pub returns-in_err-end-clause-err : goal.returns-in_err-end-clause-err
returns-in_err-end-clause-err c =
    let p = err_from_is_err_and c.from_residual-in_err-end.result c.from_residual-in_err-end.ensures.1 in
    rw (p.1, p.2) (behind (Time c.in_ok-a.a) (NumberKind ∷ []) c.args.fields.line c.time.new.fields.line c.args.fields.left c.time.new.fields.left c.in_err-end.field-0.0 c.time.ensures.line c.in_ok-a.ensures.ok
    (behind (Number c.in_ok-k.k) [] c.time.new.fields.line c.number.new.fields.line c.time.new.fields.left c.number.new.fields.left c.in_err-end.field-0.0 c.number.ensures.line c.in_ok-k.ensures.ok c.in_err-end.ensures.err))
