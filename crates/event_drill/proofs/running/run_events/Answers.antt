use Rattle.std.proofs.Common.{◌≡◌, ℕ, suc, ◌+◌, ◌-◌, ◌<◌, ◌∷◌, sym, ap, ◌∙◌, arith}
use Rattle.sync_rules.specs.Rules.{extended, followed_by}
use Rattle.event_drill.specs.declared.maker.Maker.{Maker}
use Rattle.event_drill.specs.Made.{made, made_events}
use Rattle.event_drill.proofs.running.run_events.Goals as goal

-- the first of the events that are left
one_made : (events i : ℕ) (m : Maker) → i < events
    → made_events (events - i) m ≡ (made m).event ∷ made_events (events - (i + 1)) (made m).next
one_made events i m left =
    let some : events - i ≡ suc (events - (i + 1)) = omega arith in ap (λ k. made_events k m) some

pub loop-preserved : goal.loop-preserved
loop-preserved c =
    let m = c.loop.run.maker in
    let history = c.loop.invariant.0 in
    let next = followed_by history (made m).event in (
      next,
      c.in_ok-step.ensures.stands c.loop.counter history (omega (arith, c.requires)) c.loop.invariant.1,
      ap (λ (x : Maker). extended next (made_events (c.args.events - (c.loop.counter + 1)) x)) c.step.ensures.maker
          ∙ ap (extended history) (sym (one_made c.args.events c.loop.counter m c.loop-test.true))
          ∙ c.loop.invariant.2,
    )
