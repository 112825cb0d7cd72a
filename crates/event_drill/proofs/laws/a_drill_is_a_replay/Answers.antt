use Rattle.event_drill.proofs.MadeLists.{valid_captures, counted_by_lines}
use Rattle.event_drill.proofs.Quiet.{no_other_line}
use Rattle.event_drill.proofs.laws.a_drill_is_a_replay.Goals as goal

pub returns-clause-valid : goal.returns-clause-valid
returns-clause-valid c = valid_captures

pub returns-clause-lines : goal.returns-clause-lines
returns-clause-lines c = counted_by_lines

pub returns-clause-others : goal.returns-clause-others
returns-clause-others c = no_other_line
