-- The lines of a log of several hosts: a host's number, a space, a moment, a space, and any text.
use Rattle.std.specs.Prelude.{◌≡◌, ℕ, ◌<◌, ◌≤◌, List, [], length, pos, slice_index_or}
use Rattle.line_reader.specs.Fields.{fields_of}
use Rattle.line_reader.specs.Numbers.{IsWhole}
use Rattle.utc_value.specs.Stamp.{Stamp}
use Rattle.utc_text.specs.Texts.{SpellsAbsolute}
use Rattle.utc_text.specs.FirstWrong.{IsAbsoluteFault}
use Rattle.utc_order.specs.declared.limits.TheConstants.{MAX_HOST}
use Rattle.utc_order.specs.declared.cause.OrderCause.{OrderCause}
use Rattle.utc_order.specs.declared.cause.OrderCause.TheVariants as cause

-- a line: its host, its moment, and its octets without the line feed
pub record LogLine : Type 0 where
  pub host : ℕ
  pub time : Stamp
  pub octets : List ℕ

-- a field of a line, cut at each space and counted from 0; behind the last one it is empty
abbrev pub field : List ℕ → ℕ → List ℕ
field octets n = slice_index_or (fields_of octets) n []

-- the field writes the number of a host in decimal
abbrev pub IsHost : List ℕ → ℕ → Type 0
IsHost octets host = IsWhole octets (pos host) × (host ≤ MAX_HOST)

-- the octets are the line: the first field is its host, the second its moment, and a text stands behind them, which may be empty
pub record Spells (octets : List ℕ) (line : LogLine) : Type 0 where
  pub host : IsHost (field octets 0) line.host
  pub time : SpellsAbsolute (field octets 1) line.time
  pub text : 2 < length (fields_of octets)
  pub all : line.octets ≡ octets

-- the first field is a host
abbrev pub HasHost : List ℕ → Type 0
HasHost octets = (host : ℕ) × IsHost (field octets 0) host

-- the first two fields are a host and a moment
abbrev pub HasTime : List ℕ → Type 0
HasTime octets = HasHost octets × ((time : Stamp) × SpellsAbsolute (field octets 1) time)

-- why octets are no line: the first that is not right of its host, its moment and the space behind it
abbrev pub Misspells : List ℕ → OrderCause → Type 0
Misspells octets cause.Host = HasHost octets → ⊥
Misspells octets (cause.Time fault) = HasHost octets × IsAbsoluteFault (field octets 1) fault
Misspells octets cause.Text = HasTime octets × (length (fields_of octets) ≤ 2)
Misspells octets cause.Lines = ⊥
Misspells octets cause.Long = ⊥
Misspells octets (cause.Backward earlier) = ⊥
