use Rattle.std.proofs.Common.{◌≡◌, ℤ, pos, negsuc, neg_ℤ, ◌≤ℤ◌, ◌-ℤ◌, ◌*ℤ◌, ◌∙◌, ap, arith, SFits, to_z, of_z}
use Rattle.std.proofs.lemmas.Int.{ints, to_z-of_z}
use Rattle.std.specs.Int.{w64, w128, int_div_euclid}
use Rattle.ntp_packet.specs.Fractions.{floor_of}
use Rattle.ntp_packet.specs.Intervals.{count_of}
use Rattle.ntp_packet.proofs.Rounding.{IsQuotient, by_two_eras}
use Rattle.ntp_packet.proofs.EraLaws.{first_count, first_is}
use Rattle.ntp_packet.proofs.timing.era_near.Goals as goal
use Rattle.ntp_packet.proofs.timing.era_near.Goals.{After-div_euclid}

-- twice the way to the count, less an era, turned round
abbrev turned : After-div_euclid → ℤ
turned c = neg_ℤ ((pos 2 *ℤ (c.args.near -ℤ first_count c.args.stamp)) -ℤ pos 42949672960000000)

first : (c : After-div_euclid) → c.count_before.result ≡ first_count c.args.stamp
first c =
    let stamp : to_z w128 (of_z w128 c.from-2.result) ≡ pos c.args.stamp = omega (arith, ints, c.from-2.ensures, c.ranges.stamp) in
    c.count_before.ensures.value ∙ ap (λ (z : ℤ). floor_of (count_of z)) stamp

found : (c : After-div_euclid) → c.div_euclid.result ≡ int_div_euclid (turned c) (pos 85899345920000000)
found c =
    let near : c.from.result ≡ c.args.near = c.from.ensures ∙ to_z-of_z w64 c.args.near c.ranges.near in
    let count = first_is c.args.stamp in
    let way : to_z w128 (of_z w128 (to_z w128 (of_z w128 c.from.result) -ℤ to_z w128 (of_z w128 c.count_before.result))) ≡ c.args.near -ℤ first_count c.args.stamp =
    omega (arith, ints, near, first c, count, c.ranges.near, c.ranges.stamp) in
    let whole : to_z w128 (of_z w128 (pos 42949672960000000 -ℤ to_z w128 (of_z w128 (pos 2 *ℤ to_z w128 (of_z w128 (to_z w128 (of_z w128 c.from.result) -ℤ to_z w128 (of_z w128 c.count_before.result))))))) ≡ turned c =
    omega (arith, ints, way, count, c.ranges.near, c.ranges.stamp) in
    c.div_euclid.ensures ∙ ap (λ (z : ℤ). int_div_euclid z (pos 85899345920000000)) whole

within : (c : After-div_euclid) → IsQuotient (turned c) 85899345920000000 c.div_euclid.result
within c = rw (found c) (by_two_eras (turned c))

fits : (z : ℤ) → neg_ℤ (pos 1024) ≤ℤ z → z ≤ℤ pos 1024 → SFits w128 z
fits (pos n) from to = record { sfits = omega (arith, ints, to) }
fits (negsuc n) from to = record { sfits = omega (arith, ints, from) }

pub overflow_sub-result : goal.overflow_sub-result
overflow_sub-result c =
    let from : neg_ℤ (pos 1024) ≤ℤ c.div_euclid.result = omega (
      arith,
      ints,
      within c,
      first_is c.args.stamp,
      c.ranges.near,
      c.ranges.stamp,
    ) in
    let to : c.div_euclid.result ≤ℤ pos 1024 = omega (arith, ints, within c, first_is c.args.stamp, c.ranges.near, c.ranges.stamp) in
    fits (pos 0 -ℤ to_z w128 (of_z w128 c.div_euclid.result)) (omega (arith, ints, from, to)) (omega (arith, ints, from, to))

pub returns-clause-from : goal.returns-clause-from
returns-clause-from c = omega (arith, ints, within c, first_is c.args.stamp, c.ranges.near, c.ranges.stamp)

pub returns-clause-to : goal.returns-clause-to
returns-clause-to c = omega (arith, ints, within c, first_is c.args.stamp, c.ranges.near, c.ranges.stamp)

pub returns-clause-era : goal.returns-clause-era
returns-clause-era c =
    omega (arith, ints, found c, within c, first_is c.args.stamp, c.ranges.near, c.ranges.stamp)
