-- Where a reader keeps its octets.
use Rattle.std.specs.Prelude.{◌≡◌, ◌≤◌, true, vec_len}
use Rattle.line_reader.specs.declared.limits.TheConstants.{ROOM}
use Rattle.line_reader.specs.declared.reader.LineReader.TheInside.{Inside}

-- the line and the octets ahead lie in the buffer, which has its first length; behind the end no octet is ahead
pub record HasPlaces (r : Inside) : Type 0 where
  pub line : r.line_from ≤ r.line_to
  pub line_end : r.line_to ≤ vec_len r.buffer
  pub ahead : r.ahead_from ≤ r.ahead_to
  pub ahead_end : r.ahead_to ≤ vec_len r.buffer
  pub room : vec_len r.buffer ≡ ROOM
  pub end : r.ended ≡ true → r.ahead_from ≡ r.ahead_to
