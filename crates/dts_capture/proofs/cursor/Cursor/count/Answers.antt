use Rattle.std.proofs.Common.{◌≡◌, arith, pos, to_z, of_z}
use Rattle.std.proofs.lemmas.Int.{ints}
use Rattle.std.specs.Int.{w64}
use Rattle.std.proofs.lemmas.Result.{err_from_is_err_and}
use Rattle.dts_capture.specs.Kinds.{Count}
use Rattle.dts_capture.proofs.Parsed.{field_read}
use Rattle.dts_capture.proofs.cursor.Cursor.count.Goals as goal

pub returns-in_err-count : goal.returns-in_err-count
returns-in_err-count c = let p = err_from_is_err_and c.from_residual.result c.from_residual.ensures.1 in rw (p.1, p.2) (λ more. c.in_err-count.ensures Count more (λ field why w. w))

pub returns : goal.returns
returns c = λ more r parses.
    let h = c.in_ok-count.ensures.has in
    let fits : to_z w64 (of_z w64 c.in_ok-count.count) ≡ pos c.in_ok-count.ensures.count = omega (arith, ints, c.in_ok-count.ensures.is, h.number.1.1) in
    field_read Count more c.args.self.now c.advance.new.self h.field h.rest _ r h.here (c.advance.ensures h.field h.rest h.here) (c.in_ok-count.ensures.count, h.number, fits) parses
