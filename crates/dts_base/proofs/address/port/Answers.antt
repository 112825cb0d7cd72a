use Rattle.std.proofs.Common.{◌<◌, ◌^◌, sym, ◌∙◌, arith}
use Rattle.std.proofs.lemmas.Fmt.{decimal_injective}
use Rattle.dts_base.proofs.address.port.Goals as goal
use Rattle.dts_base.proofs.address.port.Goals.{then-number-eq0-via-then-number-eq0, then-number-eq0-via-else-number-eq0+then-number-gt-MAX_PORT}

pub returns-then-number-eq0 : goal.returns-then-number-eq0
returns-then-number-eq0 c = λ n some h e.
    let small : c.in_ok-number.number < 2 ^ 64 = omega arith in
    let below : n < 2 ^ 64 = omega arith in
    let same = decimal_injective c.in_ok-number.number n small below (sym c.in_ok-number.ensures ∙ e) in
    elim c.then-number-eq0.branch [
      | then-number-eq0-via-then-number-eq0 w ↦ omega arith
      | then-number-eq0-via-else-number-eq0+then-number-gt-MAX_PORT w ↦ omega arith
    ]
