-- Fields of a line, which single spaces join.
use Rattle.std.specs.Prelude.{ℕ, ◌+◌, ◌-◌, length, List, [], Option, Some, None, ◌==◌}
use Rattle.std.specs.List.{join_with_byte, slice_split}

-- the fields, joined by single spaces
abbrev pub text_of : List (List ℕ) → List ℕ
text_of fields = join_with_byte 32 fields

-- the fields of a text, cut at each space
unfoldable pub fields_of : List ℕ → List (List ℕ)
fields_of text = slice_split (λ octet. octet == 32) text

-- the fields of a text that may have ended
abbrev pub fields_left : Option (List ℕ) → List (List ℕ)
fields_left None = []
fields_left (Some text) = fields_of text

-- The column, from 1, where the first of the fields that are left of a line stands: behind the octets in front of them. Where none is left it is one past the line's end.
abbrev pub column_of : List ℕ → List (List ℕ) → ℕ
column_of line left = length line - length (text_of left) + 1

-- a line, the fields of it that were not taken yet, and the column of the one that was asked for last
pub record Cut : Type 0 where
  pub line : List ℕ
  pub left : List (List ℕ)
  pub column : ℕ
