use Rattle.std.proofs.Common.{◌≡◌, pos, refl, sym, ap, ◌∙◌, arith, to_z, of_z}
use Rattle.std.proofs.lemmas.Int.{ints}
use Rattle.std.specs.Int.{w128}
use Rattle.slew_clock.specs.Line.{line}
use Rattle.slew_clock.specs.Reading.{or_zero, reach, specified}
use Rattle.slew_clock.proofs.Fits.{fits_from}
use Rattle.slew_clock.proofs.LineLaws.{line_from, line_to}
use Rattle.slew_clock.proofs.ReadingLaws.{interval_within, inaccuracy-none, inaccuracy-some}
use Rattle.slew_clock.proofs.clock.read_at.Goals as goal
use Rattle.slew_clock.proofs.clock.read_at.Goals.{in-Some, in-None}

pub reach_in-requires-clause-value : goal.reach_in-requires-clause-value
reach_in-requires-clause-value c =
    let s = c.requires.sound in
    let from = line_from c.args.r.now c.args.rec.now c.args.osc s in
    let to = line_to c.args.r.now c.args.rec.now c.args.osc s (omega (arith, s.begun)) in
    (omega (arith, ints, from, to, c.line_at-value.ensures), omega (arith, ints, from, to, c.line_at-value.ensures))

pub reach_in-requires-clause-lo : goal.reach_in-requires-clause-lo
reach_in-requires-clause-lo c =
    let ends = interval_within c.args.r.now c.args.rec.now c.args.osc (c.in-Some.lo, c.in-Some.hi) c.requires.sound c.if-osc-rec.false (omega (arith, c.requires.osc)) (sym c.in-Some.ensures.interval) in
    (omega (arith, ints, ends.0, ends.1, ends.2), omega (arith, ints, ends.0, ends.1, ends.2))

pub reach_in-requires-clause-hi : goal.reach_in-requires-clause-hi
reach_in-requires-clause-hi c =
    let ends = interval_within c.args.r.now c.args.rec.now c.args.osc (c.in-Some.lo, c.in-Some.hi) c.requires.sound c.if-osc-rec.false (omega (arith, c.requires.osc)) (sym c.in-Some.ensures.interval) in
    (omega (arith, ints, ends.0, ends.1, ends.2), omega (arith, ints, ends.0, ends.1, ends.2))

pub overflow_cast-result : goal.overflow_cast-result
overflow_cast-result c =
    let s = c.requires.sound in
    let from = line_from c.args.r.now c.args.rec.now c.args.osc s in
    let to = line_to c.args.r.now c.args.rec.now c.args.osc s (omega (arith, s.begun)) in
    fits_from _ (omega (arith, ints, from, to, c.line_at-value.ensures)) (omega (arith, ints, from, to, c.line_at-value.ensures))

pub returns-clause-reading : goal.returns-clause-reading
returns-clause-reading c =
    let r = c.args.r.now in
    let rec = c.args.rec.now in
    let s = c.requires.sound in
    let from = line_from r rec c.args.osc s in
    let to = line_to r rec c.args.osc s (omega (arith, s.begun)) in
    let value : to_z w128 (of_z w128 c.line_at-value.result) ≡ line r rec c.args.osc = omega (arith, ints, from, to, c.line_at-value.ensures) in
    record {
      value = omega (arith, ints, from, to, value);
      inaccuracy = elim c.match-interval_at.branch [
        | in-Some w ↦
            let ends = interval_within r rec c.args.osc (w.in-Some.lo, w.in-Some.hi) s c.if-osc-rec.false (omega (arith, c.requires.osc)) (sym w.in-Some.ensures.interval) in
            let lo : to_z w128 (of_z w128 w.in-Some.lo) ≡ w.in-Some.lo = omega (arith, ints, ends.0, ends.1, ends.2) in
            let hi : to_z w128 (of_z w128 w.in-Some.hi) ≡ w.in-Some.hi = omega (arith, ints, ends.0, ends.1, ends.2) in
            let kept : to_z w128 (of_z w128 w.reach_in.result) ≡ w.reach_in.result = omega (arith, ints) in
            let found : to_z w128 (of_z w128 w.reach_in.result) ≡ pos (reach (line r rec c.args.osc) (w.in-Some.lo, w.in-Some.hi)) =
            kept ∙ w.reach_in.ensures ∙ rw (value, lo, hi) refl in
            w.inaccuracy-is
            ∙ w.specified_at-inaccuracy.ensures
            ∙ ap (λ v. specified (or_zero v)) found
            ∙ sym (inaccuracy-some r rec c.args.osc (w.in-Some.lo, w.in-Some.hi) (sym w.in-Some.ensures.interval))
        | in-None w ↦ w.inaccuracy-is ∙ sym (inaccuracy-none r rec c.args.osc (sym w.in-None.ensures.interval))
      ];
      step = refl;
      number = refl;
      osc = refl;
    }
