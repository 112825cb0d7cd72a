use Rattle.std.proofs.lemmas.Result.{err_from_is_err_and}
use Rattle.pdu_fields.proofs.Parsed.{passed, passed_short}
use Rattle.pdu_fields.proofs.cursor.Cursor.pass.Goals as goal

pub returns-in_err-take : goal.returns-in_err-take
returns-in_err-take c = let p = err_from_is_err_and c.from_residual.result c.from_residual.ensures.1 in rw (p.1, p.2) (rw c.in_err-take.ensures.1 (λ more. passed_short c.args.name c.args.count more c.args.self.now c.in_err-take.ensures.0))

pub returns : goal.returns
returns c = let f = c.in_ok-take.ensures in λ more r parses. passed c.args.name c.args.count more c.args.self.now c.take.new.self r f.0 f.2 parses
