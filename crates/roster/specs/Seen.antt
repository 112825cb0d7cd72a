-- What private values of the reader stand for.
use Rattle.std.specs.Prelude.{◌≡◌, ℕ, Bool, List, None, IsSomeAnd}
use Rattle.std.specs.List.{AllByRecursion}
use Rattle.toml.specs.Data.{Data, Members, get_member, as_table}
use Rattle.roster.specs.declared.keys.Right.{Right}
use Rattle.roster.specs.declared.keys.Key.{Key as CodeKey}
use Rattle.roster.specs.declared.first_wrong.Found.{Found}
use Rattle.roster.specs.Keys.{Asked}
use Rattle.roster.specs.Wrong.{Wrong, wrong, found_fault}

abbrev pub asked : CodeKey → Asked
asked key = record { name = key.name.now; right = key.right; required = key.required }

abbrev pub seen : Found → Wrong
seen found = wrong found.within found.key.now found.cause

-- what a key of the table holds is right
abbrev pub HoldsRight : List ℕ → Right → Bool → Members → Type 0
HoldsRight name right required table = found_fault (record { name = name; right = right; required = required }) (get_member name table) ≡ None

abbrev pub AreRight : List Asked → Members → Type 0
AreRight keys table = AllByRecursion (λ key. HoldsRight key.name key.right key.required table) keys

-- the value is a table that holds what is right at each key
abbrev pub IsRight : List Asked → Data → Type 0
IsRight keys d = IsSomeAnd (as_table d) (AreRight keys)
