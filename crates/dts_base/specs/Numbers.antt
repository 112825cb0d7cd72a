-- Numbers that come from outside, one a call. Our own choice.
use Rattle.std.specs.Prelude.{◌≡◌, ℕ, ◌≤◌, List, [], ◌∷◌, All}

-- the numbers that are left, and the one that was given last, which is 0 before the first
pub record Script : Type 0 where
  pub left : List ℕ
  pub last : ℕ

-- the first number left is given and taken away; where none is left, the last one is given again
abbrev pub Gives : ℕ → List ℕ → ℕ → Script → Type 0
Gives answer [] last new = (answer ≡ last) × (new ≡ record { left = []; last = last })
Gives answer (x ∷ xs) last new = (answer ≡ x) × (new ≡ record { left = xs; last = x })

abbrev pub GivesNext : ℕ → Script → Script → Type 0
GivesNext answer old new = Gives answer old.left old.last new

-- neither the last number nor one that is left is above the bound
pub record IsBounded (bound : ℕ) (script : Script) : Type 0 where
  pub left : All (λ n. n ≤ bound) script.left
  pub last : script.last ≤ bound
