-- How lines are kept in memory. No public clause reaches it.
use Rattle.std.specs.Prelude.{ℕ, ◌≤◌, List, map, slice_range, length}
use Rattle.std.specs.List.{AllByRecursion}
use Rattle.utc_order.specs.declared.lines.Entry.{Entry}
use Rattle.utc_order.specs.declared.lines.KeptLine.{KeptLine}
use Rattle.utc_order.specs.declared.lines.Lines.TheInside.{Inside}
use Rattle.utc_order.specs.Lines.{LogLine}

-- the line of an entry, whose octets stand among these
abbrev pub line_kept : List ℕ → Entry → LogLine
line_kept octets entry = record { host = entry.host; time = entry.time; octets = slice_range octets entry.from entry.to }

abbrev pub lines_kept : Inside → List LogLine
lines_kept l = map (line_kept l.octets.items) l.entries.items

-- the octets of an entry stand among these
pub record IsWithin (octets : List ℕ) (entry : Entry) : Type 0 where
  pub ordered : entry.from ≤ entry.to
  pub inside : entry.to ≤ length octets

abbrev pub AreWithin : Inside → Type 0
AreWithin l = AllByRecursion (IsWithin l.octets.items) l.entries.items

-- a line that was lent
abbrev pub line_lent : KeptLine → LogLine
line_lent l = record { host = l.host; time = l.time; octets = l.octets.now }
