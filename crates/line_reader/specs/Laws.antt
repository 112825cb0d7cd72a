-- How octets and their lines, and a line and its fields, belong together.
use Rattle.std.specs.Prelude.{◌≡◌, ◌≢◌, ℕ, List, [], ◌∷◌, ◌++◌}
use Rattle.line_reader.specs.Lines.{lines_of, whole_lines, IsLine, joined, last_line}

-- The octets are their whole lines, each with its line feed, and then octets without one; these are one more line, where there are some.
pub record IsJoined (octets : List ℕ) : Type 0 where
  pub rest : List ℕ
  pub all : octets ≡ joined (whole_lines octets) ++ rest
  pub is_line : IsLine rest
  pub lines : lines_of octets ≡ whole_lines octets ++ last_line rest

-- the octets have no space
abbrev pub HasNoSpace : List ℕ → Type 0
HasNoSpace [] = Unit {0}
HasNoSpace (octet ∷ octets) = (octet ≢ 32) × HasNoSpace octets

abbrev pub HaveNoSpace : List (List ℕ) → Type 0
HaveNoSpace [] = Unit {0}
HaveNoSpace (field ∷ fields) = HasNoSpace field × HaveNoSpace fields
