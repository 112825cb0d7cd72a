use Rattle.std.proofs.Common.{◌≡◌, ◌-◌}
use Rattle.sync_rules.specs.History.{History}
use Rattle.sync_rules.specs.Rules.{extended}
use Rattle.event_drill.specs.Made.{made_events, made_history}
use Rattle.event_drill.specs.Running.{RunStands}
use Rattle.event_drill.proofs.running.run_events.Given as goal

abbrev pub invariant-loop : goal.invariant-loop
invariant-loop l =
    (history : History) × RunStands l.run l.counter history
    × (extended history (made_events (l.events - l.counter) l.run.maker) ≡ made_history l.seed l.events)
