-- What a reader of lines reads.
use Rattle.std.specs.Prelude.{◌≡◌, ◌⊎◌, ℕ, ◌+◌, ◌<◌, ◌≤◌, Bool, true, false, List, [], ◌∷◌, ◌++◌, length, Result, Ok, MatchResult}
use Rattle.std.specs.Bool.{MatchBool}
use Rattle.line_reader.specs.declared.limits.TheConstants.{MAX_LINE}
use Rattle.line_reader.specs.Lines.{IsLine}

-- the line that was taken last, the octets that were read behind it, and whether the source has come to its end
pub record Reader : Type 0 where
  pub line : List ℕ
  pub ahead : List ℕ
  pub ended : Bool

-- the octets begin with a line and its line feed, and it is taken
pub record TakesWhole (octets : List ℕ) (new : Reader) : Type 0 where
  pub is_line : IsLine new.line
  pub short : length new.line ≤ MAX_LINE
  pub all : octets ≡ new.line ++ 10 ∷ new.ahead
  pub going : new.ended ≡ false

-- the octets are the last line, which lacks its line feed, and it is taken: the source has none left
pub record TakesLast (octets : List ℕ) (new : Reader) (left : List ℕ) : Type 0 where
  pub is_line : IsLine new.line
  pub some : 0 < length new.line
  pub short : length new.line ≤ MAX_LINE
  pub all : octets ≡ new.line
  pub none_ahead : new.ahead ≡ []
  pub none_left : left ≡ []
  pub ended : new.ended ≡ true

-- the octets begin with a line that is too long, and of it one octet more is taken than a line may have
pub record Cuts (octets : List ℕ) (new : Reader) : Type 0 where
  pub is_line : IsLine new.line
  pub long : length new.line ≡ MAX_LINE + 1
  pub all : octets ≡ new.line ++ new.ahead
  pub going : new.ended ≡ false

-- there are no octets: the source has none left, if it hadn't come to its end before
pub record Ends (old : Reader) (octets : List ℕ) (new : Reader) (left : List ℕ) : Type 0 where
  pub none : octets ≡ []
  pub none_left : old.ended ≡ false → left ≡ []
  pub new_is : new ≡ record { line = []; ahead = []; ended = true }

-- the octets stay ahead, and no line is taken: none of them is whole
pub record Keeps (octets : List ℕ) (new : Reader) : Type 0 where
  pub is_line : IsLine octets
  pub short : length octets ≤ MAX_LINE
  pub new_is : new ≡ record { line = []; ahead = octets; ended = false }

-- What is done with the octets that were ahead or read, where the source has these left.
abbrev pub Takes : {E : Type 0} → Reader → List ℕ → Reader → List ℕ → Result Bool E → Type 0
Takes old octets new left result = MatchResult result
    (λ there. MatchBool there (TakesWhole octets new ⊎ (TakesLast octets new left ⊎ Cuts octets new)) (Ends old octets new left))
    (λ _. Keeps octets new)

-- The reader goes on: some octets are read of those that were left, and the next line is taken where there is one. Once it has come to the end it reads no more.
pub record Advances {E : Type 0} (old new : Reader) (result : Result Bool E) (left more : List ℕ) : Type 0 where
  pub read : List ℕ
  pub all : left ≡ read ++ more
  pub takes : Takes old (old.ahead ++ read) new more result
  pub ended : old.ended ≡ true → (result ≡ Ok false) × (read ≡ [])
