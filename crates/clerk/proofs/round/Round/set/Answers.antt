use Rattle.std.proofs.Common.{subst, sym, arith}
use Rattle.clerk.specs.Standing.{IsSound}
use Rattle.clerk.proofs.Stands.{stood_sound, stood_length}
use Rattle.clerk.proofs.round.Round.set.Goals as goal

pub invariant_of-self : goal.invariant_of-self
invariant_of-self c =
    let old = c.self.inside.queries.items in
    let new = c.stand.new.queries.items in
    let same = stood_length c.args.peer c.args.state old new c.stand.ensures in
    let kept = c.self.invariant in (
      omega (arith, same, kept.0),
      omega (arith, same, kept.1),
      stood_sound c.self.inside.latest c.args.peer c.args.state old new (subst (λ v. IsSound v.latest c.args.state) (sym c.self.view_is) c.requires) c.stand.ensures kept.2,
    )
