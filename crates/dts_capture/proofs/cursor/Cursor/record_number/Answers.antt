use Rattle.std.proofs.Common.{inl, inr, refl}
use Rattle.std.proofs.lemmas.Result.{err_from_is_err_and}
use Rattle.dts_capture.specs.declared.line.LineCause.TheVariants as cause
use Rattle.dts_capture.specs.Kinds.{RecordNumber}
use Rattle.dts_capture.proofs.Parsed.{field_read, field_wrong}
use Rattle.dts_capture.proofs.cursor.Cursor.record_number.Goals as goal

pub returns-in_err-number : goal.returns-in_err-number
returns-in_err-number c = let p = err_from_is_err_and c.from_residual.result c.from_residual.ensures.1 in rw (p.1, p.2) (λ more. c.in_err-number.ensures.read (RecordNumber c.args.expected) more (λ field why w. inl w))

pub returns : goal.returns
returns c = λ more r parses. let h = c.in_ok-number.ensures.read in field_read (RecordNumber c.args.expected) more c.args.self.now c.advance.new.self h.field h.rest c.in_ok-number.number r h.here (c.advance.ensures h.field h.rest h.here) (h.number, c.if-not-is_expected.ensures) parses

pub returns-then-not-is_expected : goal.returns-then-not-is_expected
returns-then-not-is_expected c = let h = c.in_ok-number.ensures.read in let w = c.if-not-is_expected.ensures in rw c.wrong.ensures (λ more. field_wrong (RecordNumber c.args.expected) more c.args.self.now h.field h.rest cause.At h.here h.some (inr (refl, (c.in_ok-number.number, w.0, h.number, w.1, w.2))))
