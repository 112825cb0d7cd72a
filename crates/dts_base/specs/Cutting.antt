-- Texts that are cut at a mark, for private calls.
use Rattle.std.specs.Prelude.{◌≡◌, ◌≢◌, ◌⊎◌, ℕ, List, length, slice_index}

-- a point or a colon
abbrev pub IsMark : ℕ → Type 0
IsMark c = (c ≡ 46) ⊎ (c ≡ 58)

-- neither a plus nor a zero before other octets stands first
abbrev pub IsPlain : List ℕ → Type 0
IsPlain text = (slice_index text 0 ≢ 43) × (slice_index text 0 ≡ 48 → length text ≡ 1)
