use Rattle.std.proofs.Common.{◌≡◌, ◌+◌, ◌*◌, ◌≤◌, ◌++◌, length, ap, ◌∙◌, sym, subst, arith}
use Rattle.std.proofs.lemmas.List.{length-append}
use Rattle.dts_capture.specs.declared.event.Event.{Event}
use Rattle.sync_rules.specs.Ranges.{IsEventInRange}
use Rattle.sync_rules.specs.Rules.{actions_of, followed_by}
use Rattle.capture_replay.specs.Capture.{is_built}
use Rattle.capture_replay.specs.Standing.{StandsFor}
use Rattle.capture_replay.proofs.Stepping.{if_ok}
use Rattle.event_drill.specs.Counting.{HasCounted}
use Rattle.event_drill.specs.Made.{made}
use Rattle.event_drill.specs.Progress.{HasMade}
use Rattle.event_drill.specs.Running.{most_actions}
use Rattle.event_drill.specs.Summary.{actions_in}
use Rattle.event_drill.proofs.Few.{actions_few}
use Rattle.event_drill.proofs.Making.{fit_made}
use Rattle.event_drill.proofs.running.Run.step.Goals as goal

pub step-requires-clause-range : goal.step-requires-clause-range
step-requires-clause-range c =
    let h = c.requires in
    subst IsEventInRange (sym c.next_event-event.ensures.event) (fit_made h.0 c.args.self.now.maker h.2 h.3.made).range

pub step-requires-clause-built : goal.step-requires-clause-built
step-requires-clause-built c =
    let h = c.requires in
    ap is_built c.next_event-event.ensures.event ∙ (fit_made h.0 c.args.self.now.maker h.2 h.3.made).built

pub returns-clause-stands : goal.returns-clause-stands
returns-clause-stands c = if_ok c.step.result _ _ c.step.ensures.step (λ _ given. λ n history few s.
    let m = c.args.self.now.maker in
    let same : c.next_event-event.result ≡ (made m).event = c.next_event-event.ensures.event in
    let next = followed_by history (made m).event in
    let are : given.actions ≡ actions_of history (made m).event = sym (given.are.gives history s.node) ∙ ap (actions_of history) same in
    let many : length (actions_in next) ≤ (n + 1) * most_actions + 1 = omega (
      arith,
      s.few,
      length-append (actions_in history) (actions_of history (made m).event),
      actions_few c.args.self.now.node history (made m).event s.node,
    ) in
    record {
      node = subst (λ (e : Event). StandsFor c.step.new.self (followed_by history e)) same (given.are.stands history s.node);
      number = omega (arith, s.number, c.step.ensures.number);
      made = subst (HasMade (n + 1)) (sym c.next_event-event.ensures.next) (fit_made n m few s.made).next;
      counts = subst (λ xs. HasCounted c.step.new.taker (actions_in history ++ xs)) are (given.taken (actions_in history) (λ _. s.counts)) (omega (arith, few, many));
      few = many;
    })
