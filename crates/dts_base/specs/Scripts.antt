-- Scripts of a link of which a part was given already. Our own choice.
use Rattle.std.specs.Prelude.{ℕ, Bool, true, List, [], ◌∷◌, length, drop, nat_lt, Option, Some, None}
use Rattle.dts_base.specs.declared.link.Scripted.{Scripted}
use Rattle.dts_base.specs.declared.link.Scripted.TheVariants as scripted

-- octets of a stream are more than so many
abbrev pub has_more : ℕ → Scripted → Bool
has_more given (scripted.Bytes peer bytes) = nat_lt given (length bytes)
has_more given scripted.Nothing = true
has_more given (scripted.Gram peer bytes) = true
has_more given (scripted.Lost peer) = true
has_more given scripted.Ended = true

-- octets of a stream are at least one
abbrev pub has_octets : Scripted → Bool
has_octets = has_more 0

-- the first arrival has more octets than were given
abbrev pub first_has_more : ℕ → List Scripted → Bool
first_has_more given [] = true
first_has_more given (first ∷ rest) = has_more given first

-- the script without the octets of its first arrival that were given
abbrev pub without_given : ℕ → List Scripted → List Scripted
without_given given [] = []
without_given given (scripted.Bytes peer bytes ∷ rest) = scripted.Bytes peer (drop given bytes) ∷ rest
without_given given (scripted.Nothing ∷ rest) = scripted.Nothing ∷ rest
without_given given (scripted.Gram peer bytes ∷ rest) = scripted.Gram peer bytes ∷ rest
without_given given (scripted.Lost peer ∷ rest) = scripted.Lost peer ∷ rest
without_given given (scripted.Ended ∷ rest) = scripted.Ended ∷ rest

-- what is left of the first arrival, of which so many octets were given or all, and of those behind it
abbrev pub left_from : Option ℕ → Scripted → List Scripted → List Scripted
left_from None first rest = rest
left_from (Some given) first rest = without_given given (first ∷ rest)
