-- Draws: a linear congruential generator of 64 bits, of which the upper 31 are given.
use Rattle.std.specs.Prelude.{ℕ, ◌+◌, ◌*◌, ◌/◌, ◌%◌, ◌^◌}
use Rattle.event_drill.specs.declared.limits.TheConstants.{MULTIPLIER, INCREMENT, DIVISOR}
use Rattle.event_drill.specs.declared.maker.Maker.{Maker}

-- the word behind a draw
unfoldable pub next_word : ℕ → ℕ
next_word word = (word * MULTIPLIER + INCREMENT) % 2 ^ 64

-- what a draw gives, modulo a number, where this is its word
unfoldable pub drawn_below : ℕ → ℕ → ℕ
drawn_below below word = (word / DIVISOR) % below

-- a maker behind a draw, and what its last draw gave, modulo a number
abbrev pub drawn : Maker → Maker
drawn m = record m { word = next_word m.word }

abbrev pub last_below : Maker → ℕ → ℕ
last_below m below = drawn_below below m.word
