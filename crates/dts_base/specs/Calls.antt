-- Calls of a form in memory, which are numbered from 1. Our own choice.
use Rattle.std.specs.Prelude.{◌≡◌, ◌⊎◌, ℕ, ◌+◌, ◌-◌, ◌^◌, min, List, Contains, Result, Ok, Err}

-- the number of the next call, and the numbers of those that are to fail
pub record Calls : Type 0 where
  pub next : ℕ
  pub fail : List ℕ

-- a count that rises, up to the last value of its type
abbrev pub one_more : ℕ → ℕ
one_more count = min (count + 1) (2 ^ 64 - 1)

-- the same calls, with one counted
abbrev pub after_call : Calls → Calls
after_call calls = record calls { next = one_more calls.next }

-- the next call is to fail
abbrev pub IsListed : Calls → Type 0
IsListed calls = Contains calls.fail calls.next

-- the count of calls that found no memory rises exactly where a call failed that was not to fail
abbrev pub Starves : {T E : Type 0} → Calls → Result T E → ℕ → ℕ → Type 0
Starves calls (Ok answer) before now = now ≡ before
Starves calls (Err failed) before now = (IsListed calls × (now ≡ before)) ⊎ ((IsListed calls → ⊥) × (now ≡ one_more before))
