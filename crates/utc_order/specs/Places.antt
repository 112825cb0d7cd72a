-- The order of the lines of several hosts: by key, then by host, then as they were read.
use Rattle.std.specs.Prelude.{ℕ, ◌==◌, if◌then◌else◌, List, [], ◌∷◌, ◌++◌, length, ℤ, int_lt, Option, Some, None, IsPermutation, IsSorted, slice_get}
use Rattle.std.specs.Ordering.{nat_cmp, int_cmp, ordering_then}
use Rattle.std.specs.Option.{option_cmp}
use Rattle.std.specs.List.{filter_map}
use Rattle.std.specs.declared.cmp.Ordering.{Ordering}
use Rattle.utc_value.specs.Members.{earliest_of}
use Rattle.utc_order.specs.declared.place.Place.{Place}
use Rattle.utc_order.specs.Lines.{LogLine}

-- the greater of two numbers, where none is less than every number
abbrev pub greater : Option ℤ → Option ℤ → Option ℤ
greater None other = other
greater (Some x) None = Some x
greater (Some x) (Some y) = if int_lt x y then Some y else Some x

-- the greatest earliest point among the lines of a host, or none where no line of it has one
abbrev pub key_of : ℕ → List LogLine → Option ℤ
key_of host [] = None
key_of host (line ∷ lines) = if line.host == host then greater (earliest_of line.time) (key_of host lines) else key_of host lines

-- The place of a line behind others: the greatest earliest point of its host up to and with it, its host, and how many lines
-- stand before it.
abbrev pub place_of : List LogLine → LogLine → Place
place_of before line = record { key = key_of line.host (before ++ line ∷ []); host = line.host; index = length before }

-- the places of lines behind others, one each
abbrev pub places_behind : List LogLine → List LogLine → List Place
places_behind before [] = []
places_behind before (line ∷ lines) = place_of before line ∷ places_behind (before ++ line ∷ []) lines

abbrev pub places_of : List LogLine → List Place
places_of lines = places_behind [] lines

-- by key, where none is less than each number, then by host, then by index
abbrev pub place_cmp : Place → Place → Ordering
place_cmp a b = ordering_then (option_cmp int_cmp a.key b.key) (ordering_then (nat_cmp a.host b.host) (nat_cmp a.index b.index))

-- the order of the lines: their places, each once, and none less than the one before it
pub record IsOrder (lines : List LogLine) (order : List Place) : Type 0 where
  pub each_once : IsPermutation (places_of lines) order
  pub sorted : IsSorted place_cmp order

-- the lines at those places
abbrev pub lines_at : List LogLine → List Place → List LogLine
lines_at lines order = filter_map (λ place. slice_get lines place.index) order
