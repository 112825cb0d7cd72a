use Rattle.std.proofs.Common.{◌≡◌, ◌∙◌, true, rules, Some, sym, ap, arith, subst, to_z, of_z}
use Rattle.std.proofs.lemmas.Int.{ints}
use Rattle.std.specs.Int.{w64, w128}
use Rattle.std.specs.Prelude.{int_le}
use Rattle.slew_clock.specs.Record.{IsSound}
use Rattle.slew_clock.specs.Reading.{interval_of}
use Rattle.slew_clock.proofs.Fits.{fits_from}
use Rattle.slew_clock.proofs.ReadingLaws.{interval_within}
use Rattle.slew_clock.specs.declared.limits.TheConstants.{GREATEST_ANCHOR}
use Rattle.roster.specs.Rates.{rates_of}
use Rattle.roster.specs.declared.settings.Role.TheVariants as role
use Rattle.server_roles.proofs.Turns.{own_is, le_true}
use Rattle.server_roles.proofs.own.own_source.Goals as goal

pub overflow_cast-result : goal.overflow_cast-result
overflow_cast-result c =
    let sound = subst (λ r. IsSound r c.args.rec.now) (sym c.rates.ensures.rates) c.requires.sound in
    let ends = interval_within c.rates.result c.args.rec.now c.args.osc (c.in_ok-lo-in-Server.lo, c.in_ok-lo-in-Server.hi) sound c.requires.born (omega (arith, c.requires.osc)) (sym c.in_ok-lo-in-Server.ensures.interval) in
    let small : int_le c.in_ok-lo-in-Server.hi GREATEST_ANCHOR ≡ true = search rules in
    let to = le_true c.in_ok-lo-in-Server.hi GREATEST_ANCHOR small in
    fits_from _ (omega (arith, ints, ends.0, ends.1, to)) (omega (arith, ints, ends.0, ends.1, to))

pub overflow_cast-result-in-Server : goal.overflow_cast-result-in-Server
overflow_cast-result-in-Server c =
    let sound = subst (λ r. IsSound r c.args.rec.now) (sym c.rates.ensures.rates) c.requires.sound in
    let ends = interval_within c.rates.result c.args.rec.now c.args.osc (c.in_ok-lo-in-Server.lo, c.in_ok-lo-in-Server.hi) sound c.requires.born (omega (arith, c.requires.osc)) (sym c.in_ok-lo-in-Server.ensures.interval) in
    let small : int_le c.in_ok-lo-in-Server.hi GREATEST_ANCHOR ≡ true = search rules in
    let to = le_true c.in_ok-lo-in-Server.hi GREATEST_ANCHOR small in
    fits_from _ (omega (arith, ints, ends.0, ends.1, to)) (omega (arith, ints, ends.0, ends.1, to))

pub invariant_of-result : goal.invariant_of-result
invariant_of-result c =
    let sound = subst (λ r. IsSound r c.args.rec.now) (sym c.rates.ensures.rates) c.requires.sound in
    let ends = interval_within c.rates.result c.args.rec.now c.args.osc (c.in_ok-lo-in-Server.lo, c.in_ok-lo-in-Server.hi) sound c.requires.born (omega (arith, c.requires.osc)) (sym c.in_ok-lo-in-Server.ensures.interval) in
    let small : int_le c.in_ok-lo-in-Server.hi GREATEST_ANCHOR ≡ true = search rules in
    let to = le_true c.in_ok-lo-in-Server.hi GREATEST_ANCHOR small in
    record { ordered = omega (arith, ints, ends.0, ends.1, to) }

pub returns-else-not-can_be_anchored : goal.returns-else-not-can_be_anchored
returns-else-not-can_be_anchored c =
    let sound = subst (λ r. IsSound r c.args.rec.now) (sym c.rates.ensures.rates) c.requires.sound in
    let ends = interval_within c.rates.result c.args.rec.now c.args.osc (c.in_ok-lo-in-Server.lo, c.in_ok-lo-in-Server.hi) sound c.requires.born (omega (arith, c.requires.osc)) (sym c.in_ok-lo-in-Server.ensures.interval) in
    let small : int_le c.in_ok-lo-in-Server.hi GREATEST_ANCHOR ≡ true = search rules in
    let to = le_true c.in_ok-lo-in-Server.hi GREATEST_ANCHOR small in
    let lo : to_z w64 (of_z w64 (to_z w128 (of_z w128 c.in_ok-lo-in-Server.lo))) ≡ c.in_ok-lo-in-Server.lo = omega (arith, ints, ends.0, ends.1, to) in
    let hi : to_z w64 (of_z w64 (to_z w128 (of_z w128 c.in_ok-lo-in-Server.hi))) ≡ c.in_ok-lo-in-Server.hi = omega (arith, ints, ends.0, ends.1, to) in
    let server : c.args.r.now.settings.role ≡ role.Server = ap (λ s. s.role) (sym c.settings.ensures.settings) ∙ c.in-Server.is in
    let there : interval_of (rates_of c.args.r.now.settings) c.args.rec.now c.args.osc ≡ Some (c.in_ok-lo-in-Server.lo, c.in_ok-lo-in-Server.hi) =
    ap (λ r. interval_of r c.args.rec.now c.args.osc) (sym c.rates.ensures.rates) ∙ sym c.in_ok-lo-in-Server.ensures.interval in
    record { own = own_is c.args.r.now c.args.rec.now c.args.osc c.in_ok-lo-in-Server.lo c.in_ok-lo-in-Server.hi _ _ server there small lo hi }
