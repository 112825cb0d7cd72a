-- Honest worlds of a node with peers. The worlds and the drift that they keep are those of a history without its findings.
use Rattle.std.specs.Prelude.{◌≡◌, ◌⊎◌, ℕ, ℤ, ◌+◌, ◌*◌, nat_lt, Bool, true, not, List, length, Option}
use Rattle.std.specs.List.{AllPass, count_by}
use Rattle.std.specs.Option.{option_to_list}
use Rattle.intersection.specs.Adoption.{holds}
use Rattle.clerk.specs.Outcome.{Adopted}
use Rattle.sync_rules.specs.Rounds.{Answer}
use Rattle.sync_rules.specs.World.{World, is_right, IsHonest as IsHonestAlone}
use Rattle.node_rules.specs.History.{Finding, RoundEnded, NodeHistory, Began, Next, bare, Found, found_in}

-- how many intervals of a round are false at this true time: answers, and the node's own, which is right where it holds it
abbrev pub false_count : World → ℤ → List Answer → Option (ℤ × ℤ) → ℕ
false_count world time answers own =
    count_by (λ a. not (is_right world a)) answers + count_by (λ i. not (holds i time)) (option_to_list own)

abbrev pub interval_count : List Answer → Option (ℤ × ℤ) → ℕ
interval_count answers own = length answers + length (option_to_list own)

-- a round that adopts an interval does so from intervals of which fewer than half are false
abbrev pub is_honest_end : World → ℤ → Finding → Bool
is_honest_end world time (RoundEnded (Adopted n i) answers own) =
    nat_lt (2 * false_count world time answers own) (interval_count answers own)
is_honest_end world time _ = true

abbrev pub is_honest : World → Found → Bool
is_honest world f = is_honest_end world (world.time f.at.position) f.finding

-- An honest world keeps the drift, the first interval is right, and fewer than half of the intervals of each round that adopts are false:
-- of each direct round, and of each round of queries.
pub record IsHonest (history : NodeHistory) (world : World) : Type 0 where
  pub alone : IsHonestAlone (bare history) world
  pub rounds : AllPass (is_honest world) (found_in history)

-- the position is one of the history
abbrev pub IsPositionOf : NodeHistory → NodeHistory → Type 0
IsPositionOf position (Began roster start) = position ≡ Began roster start
IsPositionOf position (Next before event findings actions) = (position ≡ Next before event findings actions) ⊎ IsPositionOf position before
