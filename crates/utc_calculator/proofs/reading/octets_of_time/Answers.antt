use Rattle.std.proofs.Common.{inl, inr, [], ◌∙◌, rules}
use Rattle.std.proofs.lemmas.Result.{err_from_is_err_and}
use Rattle.utc_calculator.specs.Operations.{Octets}
use Rattle.utc_calculator.proofs.Operands.{behind, octets_refused}
use Rattle.utc_calculator.proofs.reading.octets_of_time.Goals as goal

pub returns-in_err-end-clause-err : goal.returns-in_err-end-clause-err
returns-in_err-end-clause-err c =
    let p = err_from_is_err_and c.from_residual-in_err-end.result c.from_residual-in_err-end.ensures.1 in
    rw (p.1, p.2) (inl (behind (Octets c.in_ok-octets.octets) [] c.args.fields.line c.octets.new.fields.line c.args.fields.left c.octets.new.fields.left c.in_err-end.field-0.0 c.octets.ensures.line
    c.in_ok-octets.ensures.ok c.in_err-end.ensures.err))

pub returns-in-Err-clause-err : goal.returns-in-Err-clause-err
returns-in-Err-clause-err c =
    inr (octets_refused c.in_ok-octets.octets c.args.fields.line c.args.fields.left c.column-column.result c.in-Err.fault c.at.result (search rules)
    ((c.from_bytes.ensures.refused c.in-Err.fault).0 c.in-Err.is) (c.column-column.ensures ∙ c.octets.ensures.column) c.at.ensures)
