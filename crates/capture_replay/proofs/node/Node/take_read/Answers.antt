use Rattle.std.proofs.Common.{ap, ◌∙◌, arith}
use Rattle.dts_capture.specs.declared.event.Event.TheVariants as event
use Rattle.dts_capture.specs.declared.action.NoteKind.TheVariants as note
use Rattle.capture_replay.specs.Notes.{noted_at}
use Rattle.capture_replay.specs.Standing.{IsStep}
use Rattle.capture_replay.proofs.Giving.{one, one_ok}
use Rattle.capture_replay.proofs.Stepping.{sound_node, read_reads, read_is_regressed, reading_noted}
use Rattle.capture_replay.proofs.node.Node.take_read.Goals as goal

pub returns-then-osc-floor-clause-step : goal.returns-then-osc-floor-clause-step
returns-then-osc-floor-clause-step g c =
    let node = c.args.self.now in
    one_ok g.T.ActionTaker.took c.args.taker.now c.take.new.self c.take.result _ _ (IsStep node node (event.Read c.args.osc)) c.take.ensures
    (c.note.ensures ∙ ap (λ f. noted_at c.args.osc (note.Regressed f)) c.max-floor.ensures)
    (read_is_regressed node c.args.osc c.requires.osc (omega (arith, c.max-floor.ensures, c.if-osc-floor.true)))

pub read_at-requires-clause-sound : goal.read_at-requires-clause-sound
read_at-requires-clause-sound g c = sound_node c.args.self.now c.requires.stands.0 c.requires.stands.1

pub returns-clause-step : goal.returns-clause-step
returns-clause-step g c =
    let node = c.args.self.now in
    let noted = c.reading_note.ensures ∙ reading_noted node c.args.osc c.in-Ok.reading c.in-Ok.ensures.reading in
    one g.T.ActionTaker.took c.args.taker.now c.take-2.new.self _ _ (IsStep node (record node { lane_osc = c.args.osc }) (event.Read c.args.osc)) c.in_ok-take.ensures
    (c.note-2.ensures ∙ ap (noted_at c.args.osc) noted)
    (read_reads node c.args.osc c.requires.osc (omega (arith, c.max-floor.ensures, c.if-osc-floor.false)))
