use Rattle.std.proofs.Common.{Some, sym, ap, ◌∙◌, subst, arith}
use Rattle.slew_clock.specs.Record.{IsSound}
use Rattle.slew_clock.specs.Clock.IsNext.{renewed}
use Rattle.slew_clock.proofs.ChangeLaws.{prolonged_sound, resumed_sound, renewed-prolonged, renewed-resumed}
use Rattle.slew_clock.proofs.change.renewed.Goals as goal

pub returns-then-osc-rec-2-clause-next : goal.returns-then-osc-rec-2-clause-next
returns-then-osc-rec-2-clause-next c =
    renewed c.args.osc c.requires.born
    (renewed-prolonged c.args.r.now c.args.rec.now c.args.osc c.if-osc-rec.false c.if-osc-rec-2.true ∙ ap Some (sym c.prolonged.ensures))

pub returns-then-osc-rec-2-clause-sound : goal.returns-then-osc-rec-2-clause-sound
returns-then-osc-rec-2-clause-sound c =
    subst (IsSound c.args.r.now) (sym c.prolonged.ensures)
    (prolonged_sound c.args.r.now c.args.rec.now c.args.osc c.requires.sound c.requires.born (omega arith) c.requires.osc)

pub returns-else-osc-rec-2-clause-next : goal.returns-else-osc-rec-2-clause-next
returns-else-osc-rec-2-clause-next c =
    renewed c.args.osc c.requires.born
    (renewed-resumed c.args.r.now c.args.rec.now c.args.osc c.if-osc-rec-2.false ∙ ap Some (sym c.resumed.ensures))

pub returns-else-osc-rec-2-clause-sound : goal.returns-else-osc-rec-2-clause-sound
returns-else-osc-rec-2-clause-sound c =
    subst (IsSound c.args.r.now) (sym c.resumed.ensures)
    (resumed_sound c.args.r.now c.args.rec.now c.args.osc c.requires.sound c.requires.born (omega arith) c.requires.osc)
