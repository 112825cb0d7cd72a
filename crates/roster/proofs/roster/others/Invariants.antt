use Rattle.std.proofs.Common.{◌≡◌, ◌++◌, drop}
use Rattle.roster.specs.Wrong.{positions_from}
use Rattle.roster.specs.Rosters.{is_other}
use Rattle.roster.proofs.roster.others.Given as goal

abbrev pub invariant-loop-i : goal.invariant-loop-i
invariant-loop-i l = positions_from 0 (is_other l.fn.kind l.fn.own) l.fn.entries ≡ l.peers.items ++ positions_from l.i (is_other l.fn.kind l.fn.own) (drop l.i l.fn.entries)
