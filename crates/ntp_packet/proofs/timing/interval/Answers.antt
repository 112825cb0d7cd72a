use Rattle.std.proofs.Common.{◌≡◌, ℤ, pos, ◌+ℤ◌, ◌-ℤ◌, ◌*ℤ◌, ◌∙◌, refl, ap, arith, rules, SFits, to_z, of_z}
use Rattle.std.proofs.lemmas.Int.{ints, to_z-of_z}
use Rattle.std.specs.Int.{w64, w128}
use Rattle.ntp_packet.specs.Judging.{held_of}
use Rattle.ntp_packet.specs.Fractions.{floor_of, ceiling_of}
use Rattle.ntp_packet.specs.Intervals.{count_of, sent_in, received_in}
use Rattle.ntp_packet.specs.Eras.{era_of}
use Rattle.ntp_packet.proofs.EraLaws.{era_is_nearest}
use Rattle.ntp_packet.proofs.timing.interval.Goals as goal
use Rattle.ntp_packet.proofs.timing.interval.Goals.{After-count_after}

both : (a b x y : ℤ) → a ≡ x → b ≡ y → ◌≡◌ {A = ℤ × ℤ} (a, b) (x, y)
both a b x y e f = rw (e, f) refl

abbrev era : After-count_after → ℤ
era c = era_of c.args.p.now.transmit c.args.near

era_is : (c : After-count_after) → c.era_near.result ≡ era c
era_is c = c.era_near.ensures.era ∙ ap (era_of c.args.p.now.transmit) (to_z-of_z w64 c.args.near c.ranges.near)

held_is : (c : After-count_after) → c.from-2.result ≡ held_of c.args.p.now
held_is c =
    let fits : SFits w64 c.held.result = search rules in
    c.from-2.ensures ∙ to_z-of_z w64 c.held.result fits ∙ c.held.ensures

abbrev sum : After-count_after → ℤ
sum c = to_z w128 (of_z w128 (to_z w128 (of_z w128 (to_z w128 (of_z w128 c.era_near.result) *ℤ pos 18446744073709551616)) +ℤ to_z w128 (of_z w128 c.from.result)))

sent : (c : After-count_after) → sum c ≡ (era c *ℤ pos 18446744073709551616) +ℤ pos c.args.p.now.transmit
sent c =
    let e = c.era_near.ensures in
    omega (arith, ints, era_is c, e.from, e.to, c.from.ensures)

low : (c : After-count_after) → c.count_before.result ≡ floor_of (count_of (sent_in (era c) c.args.p.now))
low c =
    c.count_before.ensures.value ∙ ap (λ (z : ℤ). floor_of (count_of z)) (sent c)

high : (c : After-count_after) → c.count_after.result ≡ ceiling_of (count_of (received_in (era c) c.args.p.now))
high c =
    let e = c.era_near.ensures in
    let fits : SFits w64 c.held.result = search rules in
    let held : c.from-2.result ≡ c.held.result = c.from-2.ensures ∙ to_z-of_z w64 c.held.result fits in
    let received : to_z w128 (of_z w128 (sum c -ℤ to_z w128 (of_z w128 c.from-2.result))) ≡ received_in (era c) c.args.p.now =
    omega (arith, ints, sent c, e.from, e.to, era_is c, held, fits, held_is c) in
    c.count_after.ensures.value ∙ ap (λ (z : ℤ). ceiling_of (count_of z)) received

pub returns-clause-value : goal.returns-clause-value
returns-clause-value c =
    let before = c.count_before.ensures in
    let after = c.count_after.ensures in
    let error = c.error-error.ensures in
    both _ _ _ _
    (omega (arith, ints, low c, error.value, before.from, before.to, error.from, error.to))
    (omega (arith, ints, high c, error.value, after.from, after.to, error.from, error.to))

pub returns-clause-ends : goal.returns-clause-ends
returns-clause-ends c = record {
  era = era c;
  nearest = era_is_nearest c.args.p.now.transmit c.args.near;
  is = returns-clause-value c;
}
