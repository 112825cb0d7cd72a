-- The lines of octets.
use Rattle.std.specs.Prelude.{◌≢◌, ℕ, List, [], ◌∷◌, ◌++◌, ◌==◌, if◌then◌else◌}

-- the octet in front of the first line
abbrev pub with_first : ℕ → List (List ℕ) → List (List ℕ)
with_first octet [] = (octet ∷ []) ∷ []
with_first octet (line ∷ lines) = (octet ∷ line) ∷ lines

-- the lines: each ends with a line feed, which the last one may lack
unfoldable pub lines_of : List ℕ → List (List ℕ)
lines_of [] = []
lines_of (octet ∷ octets) = if octet == 10 then [] ∷ lines_of octets else with_first octet (lines_of octets)

-- the octet in front of the first line, where there is one
abbrev pub to_first : ℕ → List (List ℕ) → List (List ℕ)
to_first octet [] = []
to_first octet (line ∷ lines) = (octet ∷ line) ∷ lines

-- the whole lines: those that end with a line feed
unfoldable pub whole_lines : List ℕ → List (List ℕ)
whole_lines [] = []
whole_lines (octet ∷ octets) = if octet == 10 then [] ∷ whole_lines octets else to_first octet (whole_lines octets)

-- the octets have no line feed
abbrev pub IsLine : List ℕ → Type 0
IsLine [] = Unit {0}
IsLine (octet ∷ octets) = (octet ≢ 10) × IsLine octets

abbrev pub AreLines : List (List ℕ) → Type 0
AreLines [] = Unit {0}
AreLines (line ∷ lines) = IsLine line × AreLines lines

-- lines, each with a line feed behind it
abbrev pub joined : List (List ℕ) → List ℕ
joined [] = []
joined (line ∷ lines) = line ++ 10 ∷ joined lines

-- the octets behind the last line feed are a line, where there are some
abbrev pub last_line : List ℕ → List (List ℕ)
last_line [] = []
last_line (octet ∷ octets) = (octet ∷ octets) ∷ []
