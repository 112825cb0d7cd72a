-- Lists that stand in a room of fixed size, of which so many items are used.
use Rattle.std.specs.Prelude.{ℕ, List, take}

pub record Room (X : Type 0) : Type 0 where
  pub items : List X
  pub count : ℕ

-- the items that are used
abbrev pub listed : {X : Type 0} → Room X → List X
listed room = take room.count room.items
