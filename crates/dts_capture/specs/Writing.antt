-- How a line is written: field by field.
use Rattle.std.specs.Prelude.{◌≡◌, ℕ, List, [], ◌∷◌, ◌++◌}

-- each field behind a space
abbrev pub spaced : List (List ℕ) → List ℕ
spaced [] = []
spaced (field ∷ fields) = 32 ∷ field ++ spaced fields

-- the fields were added to the line
abbrev pub Adds : List ℕ → List ℕ → List (List ℕ) → Type 0
Adds old new fields = new ≡ old ++ spaced fields

-- a line of a word and the fields behind it
abbrev pub Begins : List ℕ → List ℕ → List (List ℕ) → Type 0
Begins line word fields = line ≡ word ++ spaced fields
