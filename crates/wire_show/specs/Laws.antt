-- What the laws say of fields.
use Rattle.std.specs.Prelude.{◌≡◌, ℕ, ◌+◌, List, [], ◌∷◌, ◌++◌, length}
use Rattle.wire_show.specs.Fields.{Part}

-- the octets of all fields, joined
abbrev pub joined : List Part → List ℕ
joined [] = []
joined (part ∷ parts) = part.octets ++ joined parts

-- each field begins behind the one before it, and the first at this offset
abbrev pub BeginAt : ℕ → List Part → Type 0
BeginAt at [] = Unit {0}
BeginAt at (part ∷ parts) = (part.at ≡ at) × BeginAt (at + length part.octets) parts
