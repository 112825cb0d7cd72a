-- The lines that were taken of the octets of a source.
use Rattle.std.specs.Prelude.{◌≡◌, ℕ, ◌+◌, true, false, List, [], ◌∷◌, ◌++◌, length, Option, Some}
use Rattle.dts_base.specs.Streams.{BeginsWith}
use Rattle.line_reader.specs.declared.limits.TheConstants.{MAX_LINE}
use Rattle.line_reader.specs.Lines.{lines_of, whole_lines, AreLines, joined}
use Rattle.line_reader.specs.Reader.{Reader}

-- Of the octets these lines were taken. What was read of them is these lines, each with its line feed, and what is
-- ahead; once the reader has come to the end they are all lines.
pub record HasTaken (octets : List ℕ) (taken : List (List ℕ)) (reader : Reader) (left : Option (List ℕ)) : Type 0 where
  pub read : List ℕ
  pub more : List ℕ
  pub left_is : left ≡ Some more
  pub all : octets ≡ read ++ more
  pub are_lines : AreLines taken
  pub going : reader.ended ≡ false → read ≡ joined taken ++ reader.ahead
  pub ended : reader.ended ≡ true → (lines_of octets ≡ taken) × (more ≡ [])

-- Of the octets so many were read that exactly these lines are whole.
pub record HasWhole (octets : List ℕ) (taken : List (List ℕ)) (left : Option (List ℕ)) : Type 0 where
  pub read : List ℕ
  pub more : List ℕ
  pub left_is : left ≡ Some more
  pub all : octets ≡ read ++ more
  pub whole : whole_lines read ≡ taken

-- behind the lines that were taken of the octets stands one that is too long, and these are its first octets
pub record IsLong (octets : List ℕ) (taken : List (List ℕ)) (beginning : List ℕ) : Type 0 where
  pub first : List ℕ
  pub others : List (List ℕ)
  pub lines : lines_of octets ≡ taken ++ first ∷ others
  pub begins : BeginsWith beginning first
  pub long : length beginning ≡ MAX_LINE + 1
