use Rattle.std.proofs.Common.{◌≡◌, [], map, drop, take}
use Rattle.toml.specs.View.{view}
use Rattle.roster.specs.Wrong.{each_wrong}
use Rattle.roster.proofs.first_wrong.each_wrong.Given as goal

abbrev pub invariant-loop-i : goal.invariant-loop-i
invariant-loop-i l = each_wrong [] (map view l.fn.servers) ≡ each_wrong (map view (take l.i l.fn.servers)) (map view (drop l.i l.fn.servers))
