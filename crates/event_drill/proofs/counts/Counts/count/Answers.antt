use Rattle.event_drill.proofs.counts.Counts.count.Goals as goal

pub returns-in-Log : goal.returns-in-Log
returns-in-Log c = rw c.in-Log.is (c.count_note.ensures c.in-Log.note.osc c.in-Log.note.peer)
