-- What is printed of lines in their order.
use Rattle.std.specs.Prelude.{ℕ, if◌then◌else◌, Bool, false, List, [], ◌∷◌, ◌++◌, ℤ, int_lt, Option, Some, None}
use Rattle.std.specs.List.{list_all}
use Rattle.utc_value.specs.Stamp.{Stamp}
use Rattle.utc_value.specs.Members.{earliest_of, latest_of}
use Rattle.utc_order.specs.declared.limits.TheConstants.{CERTAIN, UNCERTAIN}
use Rattle.utc_order.specs.Lines.{LogLine}

-- both are specified, and the first is less
abbrev pub is_below : Option ℤ → Option ℤ → Bool
is_below None other = false
is_below (Some x) None = false
is_below (Some x) (Some y) = int_lt x y

-- a is certainly earlier than b: its latest point is below the earliest point of b
abbrev pub is_certainly_earlier : Stamp → Stamp → Bool
is_certainly_earlier a b = is_below (latest_of a) (earliest_of b)

-- every one of the lines is certainly earlier than the time
abbrev pub are_all_earlier : List LogLine → Stamp → Bool
are_all_earlier lines time = list_all (λ line. is_certainly_earlier line.time time) lines

-- a line behind those that were printed: `<` where every one of them is certainly earlier, else `~`; a space, the line, and a line feed
abbrev pub line_text : List LogLine → LogLine → List ℕ
line_text printed line = (if are_all_earlier printed line.time then CERTAIN else UNCERTAIN) ∷ 32 ∷ line.octets ++ 10 ∷ []

-- the text of lines behind those that were printed, the last of which stands first
abbrev pub text_behind : List LogLine → List LogLine → List ℕ
text_behind printed [] = []
text_behind printed (line ∷ lines) = line_text printed line ++ text_behind (line ∷ printed) lines

abbrev pub text_of : List LogLine → List ℕ
text_of lines = text_behind [] lines
