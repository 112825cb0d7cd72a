use Rattle.std.proofs.lemmas.Result.{err_from_is_err_and}
use Rattle.std.proofs.Common.{ap}
use Rattle.ndr.specs.Numbers.{gap}
use Rattle.pdu_fields.specs.Parsing.{Place}
use Rattle.pdu_fields.proofs.Parsed.{padded, padded_short}
use Rattle.pdu_fields.proofs.cursor.Cursor.pad.Goals as goal

pub returns-in_err-take : goal.returns-in_err-take
returns-in_err-take c = let p = err_from_is_err_and c.from_residual.result c.from_residual.ensures.1 in rw (p.1, p.2) (rw c.in_err-take.ensures.1 (λ more. padded_short c.args.name 4 _ more c.args.self.now (ap (λ (p : Place). gap 4 p.at) c.self.view_is) c.in_err-take.ensures.0))

pub returns : goal.returns
returns c = let f = c.in_ok-take.ensures in λ more r parses. padded c.args.name 4 _ more c.args.self.now c.take.new.self r (ap (λ (p : Place). gap 4 p.at) c.self.view_is) f.0 f.2 parses
