use Rattle.std.proofs.lemmas.Result.{err_from_is_err_and}
use Rattle.pdu_fields.specs.Tables.{octet}
use Rattle.pdu_fields.proofs.Parsed.{not_whole}
use Rattle.pdu_fields.proofs.cursor.Cursor.find_octet.Goals as goal

pub returns-in_err-lent : goal.returns-in_err-lent
returns-in_err-lent c = let p = err_from_is_err_and c.from_residual.result c.from_residual.ensures.1 in rw (p.1, p.2) (rw c.in_err-lent.ensures.1 (λ right more. not_whole c.args.name octet right more c.args.self.now c.in_err-lent.ensures.0))
