use Rattle.std.proofs.Common.{◌≡◌, ◌⊎◌, inl, inr, refl, List, ◌∷◌, [], ◌++◌, sym, ap, ◌∙◌, subst}
use Rattle.intersection.specs.Adoption.{ends_of}
use Rattle.dts_capture.specs.declared.action.Action.{Action}
use Rattle.dts_capture.specs.declared.action.Action.TheVariants as action
use Rattle.dts_capture.specs.declared.action.NoteKind.TheVariants as note
use Rattle.clerk.specs.Outcome.{Adopted}
use Rattle.slew_clock.specs.Line.{line}
use Rattle.capture_replay.specs.Notes.{noted_at}
use Rattle.capture_replay.specs.Rounds.{false_notes}
use Rattle.capture_replay.specs.Taken.{GoesOn}
use Rattle.capture_replay.specs.Standing.{concluded}
use Rattle.capture_replay.proofs.Adopting.{adoption_publishes, adoption_gives}
use Rattle.capture_replay.proofs.Giving.{both}
use Rattle.capture_replay.proofs.node.Node.adopt.Goals.{then-next-self+in_ok-take-2, else-next-self}
use Rattle.capture_replay.proofs.node.Node.adopt.Goals as goal

pub returns-clause-actions : goal.returns-clause-actions
returns-clause-actions g c =
    let took = g.T.ActionTaker.took in
    let node = c.args.self.now in
    let start = c.args.taker.now in
    let i = ends_of c.args.interval in
    let next = c.in-Ok.next in
    let false_ones = false_notes node.rates c.args.osc i node.round.answers.items in
    let notes = c.adopted_note.result ∷ false_ones in
    let are = ap (λ a. a ∷ false_ones) c.adopted_note.ensures in
    let noted : GoesOn took start c.note_false.new.taker notes =
    both took start c.take.new.self c.note_false.new.taker (c.adopted_note.result ∷ []) false_ones c.in_ok-take.ensures c.in_ok-note_false.ensures in
    let after = c.if-next-self.taker in
    let end = c.take-2.new.self in
    let gone_on : (actions : List Action) → GoesOn took start after actions
    → ((next.step ≡ node.current.step → ⊥) × (actions ≡ notes ++ noted_at c.args.osc (note.Step next.step (line node.rates node.current c.args.osc) next.a.value) ∷ [])) ⊎ ((next.step ≡ node.current.step) × (actions ≡ notes))
    → GoesOn took start end (concluded node c.args.osc (Adopted c.args.n i)) = λ actions gone are_so.
    subst (GoesOn took start end) (adoption_gives node c.args.osc c.args.n i next notes actions c.in-Ok.ensures.changed are are_so)
    (both took start after end actions (action.Publish next ∷ []) gone c.in_ok-take-3.ensures) in
    elim c.if-next-self.branch [
      | then-next-self+in_ok-take-2 w ↦ gone_on (notes ++ w.step_note.result ∷ [])
          (subst (λ t. GoesOn took start t (notes ++ w.step_note.result ∷ [])) (sym w.taker-is)
          (both took start c.note_false.new.taker w.take-then-next-self.new.self notes (w.step_note.result ∷ []) noted w.in_ok-take-2.ensures))
          (inl (w.if-next-self.true, ap (λ a. notes ++ a ∷ []) w.step_note.ensures))
      | else-next-self w ↦ gone_on notes (subst (λ t. GoesOn took start t notes) (sym w.taker-is) noted) (inr (w.if-next-self.false, refl))
    ]

pub returns-clause-state : goal.returns-clause-state
returns-clause-state g c =
    let node = c.args.self.now in
    ap (λ r. record node { current = r }) (c.in-Ok.ensures.changed ∙ sym (adoption_publishes node c.args.osc c.args.n (ends_of c.args.interval)))
