use Rattle.std.proofs.Common.{map, take}
use Rattle.std.specs.List.{AllZip}
use Rattle.toml.specs.View.{view}
use Rattle.roster.specs.Rosters.{GivesEntry}
use Rattle.roster.proofs.reading.entries.Given as goal

abbrev pub invariant-loop-server : goal.invariant-loop-server
invariant-loop-server l = AllZip GivesEntry (map view (take l.server-index l.servers)) l.entries.items
