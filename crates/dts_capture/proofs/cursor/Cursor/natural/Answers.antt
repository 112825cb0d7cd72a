use Rattle.std.proofs.lemmas.Result.{err_from_is_err_and}
use Rattle.dts_capture.specs.Kinds.{Natural}
use Rattle.dts_capture.proofs.Parsed.{field_read}
use Rattle.dts_capture.proofs.cursor.Cursor.natural.Goals as goal

pub returns-in_err-number-clause-read : goal.returns-in_err-number-clause-read
returns-in_err-number-clause-read c = let p = err_from_is_err_and c.from_residual.result c.from_residual.ensures.1 in rw (p.1, p.2) (λ more. c.in_err-number.ensures.read (Natural c.args.from c.args.to) more (λ field why w. w))

pub returns-clause-read : goal.returns-clause-read
returns-clause-read c = λ more r parses. let h = c.in_ok-number.ensures.read in field_read (Natural c.args.from c.args.to) more c.args.self.now c.advance.new.self h.field h.rest c.in_ok-number.number r h.here (c.advance.ensures h.field h.rest h.here) h.number parses
