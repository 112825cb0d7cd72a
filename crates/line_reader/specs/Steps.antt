-- What the steps of a reader do.
use Rattle.std.specs.Prelude.{◌≡◌, ◌⊎◌, ℕ, ◌+◌, ◌<◌, ◌≤◌, List, [], ◌∷◌, ◌++◌, length, take, drop, Result, IfOk}
use Rattle.line_reader.specs.declared.limits.TheConstants.{MAX_LINE}
use Rattle.line_reader.specs.Lines.{IsLine}
use Rattle.line_reader.specs.Reader.{Reader, TakesWhole, Cuts}

-- the first line feed stands at this place
pub record HasFeedAt (octets : List ℕ) (at : ℕ) : Type 0 where
  pub within : at < length octets
  pub is_line : IsLine (take at octets)
  pub all : octets ≡ take at octets ++ 10 ∷ drop (at + 1) octets

-- a line is taken from the octets ahead, or the beginning of one that is too long
abbrev pub TakesAhead : Reader → Reader → Type 0
TakesAhead old new = TakesWhole old.ahead new ⊎ Cuts old.ahead new

-- no line can be taken yet: no line feed is ahead, and no more octets than a line may have
pub record HasNoLine (old new : Reader) : Type 0 where
  pub same : new ≡ old
  pub none : IsLine old.ahead
  pub short : length old.ahead ≤ MAX_LINE

-- more octets are read behind those ahead; none comes only at the end
pub record ReadsMore {E : Type 0} (old new : Reader) (result : Result ℕ E) (left more : List ℕ) : Type 0 where
  pub read : List ℕ
  pub all : left ≡ read ++ more
  pub ahead : new.ahead ≡ old.ahead ++ read
  pub end : IfOk result (λ n. n ≡ 0 → left ≡ [])
