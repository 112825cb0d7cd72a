use Rattle.std.proofs.Common.{◌≡◌, ◌+◌, ◌*◌, ℤ, pos, neg_ℤ, ◌∙◌, ap, arith}
use Rattle.std.proofs.lemmas.Int.{ints}
use Rattle.std.specs.Int.{int_div_euclid}
use Rattle.ntp_packet.proofs.Rounding.{by_error_part}
use Rattle.ntp_packet.proofs.timing.error.Goals as goal
use Rattle.ntp_packet.proofs.timing.error.Goals.{After-div_euclid}

parts : (c : After-div_euclid) → c.div_euclid.result ≡ int_div_euclid (neg_ℤ (pos ((c.args.p.now.delay + 2 * c.args.p.now.dispersion) * 10000000))) (pos 131072)
parts c =
    c.div_euclid.ensures
    ∙ ap (λ (z : ℤ). int_div_euclid z (pos 131072)) (omega (arith, ints, c.from.ensures, c.from-2.ensures))

pub returns-clause-value : goal.returns-clause-value
returns-clause-value c =
    let within = by_error_part (neg_ℤ (pos ((c.args.p.now.delay + 2 * c.args.p.now.dispersion) * 10000000))) in
    omega (arith, ints, parts c, within)

pub returns-clause-from : goal.returns-clause-from
returns-clause-from c =
    let within = by_error_part (neg_ℤ (pos ((c.args.p.now.delay + 2 * c.args.p.now.dispersion) * 10000000))) in
    omega (arith, ints, parts c, within)

pub returns-clause-to : goal.returns-clause-to
returns-clause-to c =
    let within = by_error_part (neg_ℤ (pos ((c.args.p.now.delay + 2 * c.args.p.now.dispersion) * 10000000))) in
    omega (arith, ints, parts c, within)
