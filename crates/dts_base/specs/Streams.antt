-- What one read takes from a source, and what one write gives to a sink. Our own choice.
use Rattle.std.specs.Prelude.{◌≡◌, ℕ, ◌<◌, List, [], ◌++◌, length, take, Option, Result, MatchResult}
use Rattle.dts_base.specs.Told.{Told}

-- the read gave the first octets that were left; it gave none into a buffer with room only at the end; a failed one took none
abbrev pub Reads : {E : Type 0} → Result ℕ E → List ℕ → List ℕ → List ℕ → Type 0
Reads result buf old new = MatchResult result (λ n. (old ≡ take n buf ++ new) × (n ≡ 0 → 0 < length buf → old ≡ [])) (λ _. new ≡ old)

-- the write appended the first octets of the piece, and a failed one none
abbrev pub Writes : {E : Type 0} → Result ℕ E → List ℕ → List ℕ → List ℕ → Type 0
Writes result piece old new = MatchResult result (λ n. new ≡ old ++ take n piece) (λ _. new ≡ old)

-- the whole begins with the part
abbrev pub BeginsWith : List ℕ → List ℕ → Type 0
BeginsWith part whole = (rest : List ℕ) × (whole ≡ part ++ rest)

-- a part of the piece, from its beginning, was appended
abbrev pub AppendsPart : List ℕ → List ℕ → List ℕ → Type 0
AppendsPart piece old new = (part : List ℕ) × BeginsWith part piece × (new ≡ old ++ part)

-- a sink that told what it held tells that, and then the text
abbrev pub Wrote : Option (List ℕ) → Option (List ℕ) → List ℕ → Type 0
Wrote before now text = Told before now (λ old new. new ≡ old ++ text)
