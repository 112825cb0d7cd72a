use Rattle.std.proofs.Common.{◌≡◌, Some, map, take, sym, ap, ◌∙◌, ◌+◌, subst, arith, take_all, to_z, of_z, SFits, rules}
use Rattle.std.proofs.lemmas.Int.{ints, to_z-of_z}
use Rattle.std.proofs.lemmas.Bool.{iff_false}
use Rattle.std.specs.Int.{w64}
use Rattle.dts_base.specs.declared.interval.Interval.{Interval}
use Rattle.intersection.specs.Adoption.{ends_of, IsAgreed}
use Rattle.intersection.proofs.LoopLaws.{IsLeastOf, least_more_with, least_more_without, least_of_all}
use Rattle.intersection.proofs.adopting.least_agreed.Goals as goal
use Rattle.intersection.proofs.adopting.least_agreed.Goals.{then-is_agreed, else-is_agreed}

pub loop-i-preserved : goal.loop-i-preserved
loop-i-preserved c =
    let x : Interval = c.i-item.result in
    let fits : SFits w64 x.lo = search rules in
    let kept : to_z w64 (of_z w64 x.lo) ≡ x.lo = to_z-of_z w64 x.lo fits in
    elim c.if-is_agreed.branch [
      | then-is_agreed w ↦
          let whole : to_z w64 (of_z w64 w.lesser.result) ≡ w.lesser.result = omega (arith, ints, w.lesser.type_inv) in
          subst (IsLeastOf (map ends_of c.args.s.now) (take (c.loop-i.i-index + 1) c.args.s.now)) (sym (w.least-is ∙ ap Some whole))
          (least_more_with (map ends_of c.args.s.now) c.args.s.now c.loop-i.i-index x c.loop-i.least w.lesser.result (omega arith) c.i-item.is
          (subst (IsAgreed (map ends_of c.args.s.now)) kept (c.is_agreed.ensures.0 w.if-is_agreed.true)) (rw kept at w.lesser.ensures) c.loop-i.invariant)
      | else-is_agreed w ↦
          subst (IsLeastOf (map ends_of c.args.s.now) (take (c.loop-i.i-index + 1) c.args.s.now)) (sym w.least-is)
          (least_more_without (map ends_of c.args.s.now) c.args.s.now c.loop-i.i-index x c.loop-i.least (omega arith) c.i-item.is
          (λ a. iff_false c.is_agreed.ensures w.if-is_agreed.false (subst (IsAgreed (map ends_of c.args.s.now)) (sym kept) a)) c.loop-i.invariant)
    ]

pub returns : goal.returns
returns c =
    let all : take c.loop-i.i-index c.args.s.now ≡ c.args.s.now = take_all c.loop-i.i-index c.args.s.now (omega arith) in
    least_of_all c.args.s.now c.loop-i.least (rw all at c.loop-i.invariant)
