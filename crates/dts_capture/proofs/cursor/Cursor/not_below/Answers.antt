use Rattle.std.proofs.Common.{◌≡◌, inl, inr, refl, arith, pos, to_z, of_z}
use Rattle.std.proofs.lemmas.Int.{ints}
use Rattle.std.specs.Int.{w64}
use Rattle.std.proofs.lemmas.Result.{err_from_is_err_and}
use Rattle.dts_capture.specs.declared.line.LineCause.TheVariants as cause
use Rattle.dts_capture.specs.Kinds.{NotBelow}
use Rattle.dts_capture.proofs.Parsed.{field_read, field_wrong}
use Rattle.dts_capture.proofs.cursor.Cursor.not_below.Goals as goal

pub returns-in_err-hi : goal.returns-in_err-hi
returns-in_err-hi c = let p = err_from_is_err_and c.from_residual.result c.from_residual.ensures.1 in rw (p.1, p.2) (λ more. c.in_err-hi.ensures (NotBelow c.args.lo) more (λ field why w. inl w))

pub returns : goal.returns
returns c = λ more r parses.
    let h = c.in_ok-hi.ensures.has in
    let low : to_z w64 (of_z w64 c.args.lo) ≡ c.args.lo = omega (arith, ints) in
    let high : to_z w64 (of_z w64 c.in_ok-hi.hi) ≡ pos c.in_ok-hi.ensures.count = omega (arith, ints, c.in_ok-hi.ensures.is, h.number.1.1) in
    field_read (NotBelow c.args.lo) more c.args.self.now c.advance.new.self h.field h.rest _ r h.here (c.advance.ensures h.field h.rest h.here) (c.in_ok-hi.ensures.count, h.number, low, high) parses

pub returns-then-hi-lo : goal.returns-then-hi-lo
returns-then-hi-lo c = let h = c.in_ok-hi.ensures.has in rw c.wrong.ensures (λ more. field_wrong (NotBelow c.args.lo) more c.args.self.now h.field h.rest cause.Order h.here h.some (inr (refl, (c.in_ok-hi.ensures.count, h.number, omega (arith, ints, c.in_ok-hi.ensures.is, h.number.1.1)))))
