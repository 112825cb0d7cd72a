use Rattle.std.proofs.Common.{◌==◌, ◌∙◌, ap, subst, sym, find, option_map}
use Rattle.std.specs.Option.{IfSome}
use Rattle.clerk.specs.Standing.{IsSound}
use Rattle.clerk.proofs.Found.{found}
use Rattle.clerk.proofs.round.Round.state.Goals as goal

pub returns-clause-sound : goal.returns-clause-sound
returns-clause-sound c =
    subst (λ v. IfSome v (IsSound c.args.self.now.latest)) (sym (c.state_in.ensures ∙ ap (λ queries. option_map (λ q. q.state) (find (λ q. q.peer == c.args.peer) queries)) c.deref.ensures.value))
    (subst (λ v. IfSome (option_map (λ q. q.state) (find (λ q. q.peer == c.args.peer) c.self.inside.queries.items)) (IsSound v.latest)) c.self.view_is
    (found (λ q. q.state) (IsSound c.self.inside.latest) (λ q. q.peer == c.args.peer) c.self.inside.queries.items c.self.invariant.2))
