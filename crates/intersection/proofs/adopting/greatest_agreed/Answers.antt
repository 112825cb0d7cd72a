use Rattle.std.proofs.Common.{◌≡◌, Some, map, take, sym, ap, ◌∙◌, ◌+◌, subst, arith, take_all, to_z, of_z, SFits, rules}
use Rattle.std.proofs.lemmas.Int.{ints, to_z-of_z}
use Rattle.std.proofs.lemmas.Bool.{iff_false}
use Rattle.std.specs.Int.{w64}
use Rattle.dts_base.specs.declared.interval.Interval.{Interval}
use Rattle.intersection.specs.Adoption.{ends_of, IsAgreed}
use Rattle.intersection.proofs.LoopLaws.{IsGreatestOf, greatest_more_with, greatest_more_without, greatest_of_all}
use Rattle.intersection.proofs.adopting.greatest_agreed.Goals as goal
use Rattle.intersection.proofs.adopting.greatest_agreed.Goals.{then-is_agreed, else-is_agreed}

pub loop-i-preserved : goal.loop-i-preserved
loop-i-preserved c =
    let x : Interval = c.i-item.result in
    let fits : SFits w64 x.hi = search rules in
    let kept : to_z w64 (of_z w64 x.hi) ≡ x.hi = to_z-of_z w64 x.hi fits in
    elim c.if-is_agreed.branch [
      | then-is_agreed w ↦
          let whole : to_z w64 (of_z w64 w.greater.result) ≡ w.greater.result = omega (arith, ints, w.greater.type_inv) in
          subst (IsGreatestOf (map ends_of c.args.s.now) (take (c.loop-i.i-index + 1) c.args.s.now)) (sym (w.greatest-is ∙ ap Some whole))
          (greatest_more_with (map ends_of c.args.s.now) c.args.s.now c.loop-i.i-index x c.loop-i.greatest w.greater.result (omega arith) c.i-item.is
          (subst (IsAgreed (map ends_of c.args.s.now)) kept (c.is_agreed.ensures.0 w.if-is_agreed.true)) (rw kept at w.greater.ensures) c.loop-i.invariant)
      | else-is_agreed w ↦
          subst (IsGreatestOf (map ends_of c.args.s.now) (take (c.loop-i.i-index + 1) c.args.s.now)) (sym w.greatest-is)
          (greatest_more_without (map ends_of c.args.s.now) c.args.s.now c.loop-i.i-index x c.loop-i.greatest (omega arith) c.i-item.is
          (λ a. iff_false c.is_agreed.ensures w.if-is_agreed.false (subst (IsAgreed (map ends_of c.args.s.now)) (sym kept) a)) c.loop-i.invariant)
    ]

pub returns : goal.returns
returns c =
    let all : take c.loop-i.i-index c.args.s.now ≡ c.args.s.now = take_all c.loop-i.i-index c.args.s.now (omega arith) in
    greatest_of_all c.args.s.now c.loop-i.greatest (rw all at c.loop-i.invariant)
