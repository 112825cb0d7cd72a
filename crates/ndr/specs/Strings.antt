-- Strings: two counts with an offset between them, and octets of which the last is 0 (C706, chapter 14, a conformant and varying string).
use Rattle.std.specs.Prelude.{ℕ, ◌+◌, ◌-◌, Bool, ◌&&◌, ◌==◌, nat_le, List, [], ◌∷◌, ◌++◌, length, take, slice_index}
use Rattle.std.specs.List.{list_all}
use Rattle.ndr.specs.declared.endian.Endian.{Endian}
use Rattle.ndr.specs.declared.endian.TheConstants.{FIRST_PRINTED, LAST_PRINTED, MAX_STRING}
use Rattle.ndr.specs.Numbers.{number_octets, aligned_octets}

-- an octet that a string may have
abbrev pub is_printed : ℕ → Bool
is_printed octet = nat_le FIRST_PRINTED octet && nat_le octet LAST_PRINTED

-- a text that a string can hold beside its last 0
abbrev pub is_text : List ℕ → Bool
is_text text = nat_le (length text + 1) MAX_STRING && list_all is_printed text

-- the octets of a string behind a place
abbrev pub string_octets : Endian → ℕ → List ℕ → List ℕ
string_octets e at text =
    let count = length text + 1 in
    aligned_octets e 4 at count ++ number_octets e 4 0 ++ number_octets e 4 count ++ text ++ 0 ∷ []

-- the octets of which a string has so many: the last is 0 and the others are printed
abbrev pub is_terminated : ℕ → List ℕ → Bool
is_terminated count octets = (slice_index octets (count - 1) == 0) && list_all is_printed (take (count - 1) octets)
