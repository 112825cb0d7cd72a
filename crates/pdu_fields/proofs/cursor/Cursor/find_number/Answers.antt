use Rattle.std.proofs.lemmas.Result.{err_from_is_err_and}
use Rattle.pdu_fields.specs.Tables.{number}
use Rattle.pdu_fields.proofs.Parsed.{not_whole}
use Rattle.pdu_fields.proofs.cursor.Cursor.find_number.Goals as goal

pub returns-in_err-lent-clause-found : goal.returns-in_err-lent-clause-found
returns-in_err-lent-clause-found c = let p = err_from_is_err_and c.from_residual.result c.from_residual.ensures.1 in rw (p.1, p.2) (rw c.in_err-lent.ensures.1 (λ right more. not_whole c.args.name (number c.args.endian c.args.size) right more c.args.self.now c.in_err-lent.ensures.0))
