-- What the order keeps.
use Rattle.std.specs.Prelude.{◌≡◌, ◌≤◌, false, List, AllPairs}
use Rattle.utc_order.specs.declared.place.Place.{Place}
use Rattle.utc_order.specs.Lines.{LogLine}
use Rattle.utc_order.specs.Marks.{is_certainly_earlier}

-- of two places of one host the first is that of the line that was read first
abbrev pub KeepHosts : List Place → Type 0
KeepHosts order = AllPairs (λ p q. p.host ≡ q.host → p.index ≤ q.index) order

-- no line is certainly earlier than one that stands before it
abbrev pub KeepTimes : List LogLine → Type 0
KeepTimes lines = AllPairs (λ before line. is_certainly_earlier line.time before.time ≡ false) lines
