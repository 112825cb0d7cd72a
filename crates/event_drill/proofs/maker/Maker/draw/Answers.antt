use Rattle.std.proofs.Common.{◌*◌, ◌^◌, ap, refl}
use Rattle.std.proofs.Math.Nat.{mod-add-mod}
use Rattle.event_drill.specs.declared.maker.Maker.{Maker}
use Rattle.event_drill.specs.declared.limits.TheConstants.{MULTIPLIER, INCREMENT}
use Rattle.event_drill.specs.Draws.{next_word, drawn_below}
use Rattle.event_drill.proofs.maker.Maker.draw.Goals as goal

pub returns-clause-state : goal.returns-clause-state
unfolding next_word
returns-clause-state c =
    let m : Maker = c.args.self.now in
    ap (λ w. record m { word = w }) (mod-add-mod (m.word * MULTIPLIER) (2 ^ 64) INCREMENT)

pub returns-clause-value : goal.returns-clause-value
unfolding drawn_below
returns-clause-value c = refl
