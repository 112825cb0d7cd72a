use Rattle.std.proofs.Common.{◌+◌, ◌*◌, ◌/◌, sym, ap, ◌∙◌}
use Rattle.std.specs.Int.{div_ceil}
use Rattle.slew_clock.proofs.ElapsedLaws.{drift_apart}
use Rattle.slew_clock.proofs.rates.Rates.long_drift.Goals as goal

pub returns : goal.returns
returns c =
    ap (λ v. c.args.elapsed / 1000000 * c.from-ppm.result + v) c.millionths.ensures
    ∙ sym (drift_apart c.args.elapsed c.from-ppm.result)
    ∙ ap (λ p. div_ceil (c.args.elapsed * p) 1000000) c.from-ppm.ensures
