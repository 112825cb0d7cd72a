-- Numbers in octets, aligned to their size from the start of a stub, in one of two byte orders (C706, chapter 14).
-- A list of octets is a list of numbers below 256.
use Rattle.std.specs.Prelude.{◌≡◌, ◌⊎◌, ℕ, ◌-◌, ◌%◌, List, ◌++◌, replicate}
use Rattle.byteorder.specs.Endian.{big_bytes, big_number, little_bytes, little_number}
use Rattle.ndr.specs.declared.endian.Endian.{Endian}
use Rattle.ndr.specs.declared.endian.Endian.TheVariants.{Big, Little}

-- the octets of a number
abbrev pub number_octets : Endian → ℕ → ℕ → List ℕ
number_octets Big size n = big_bytes size n
number_octets Little size n = little_bytes size n

-- the number that the first octets are
abbrev pub number_in : Endian → ℕ → List ℕ → ℕ
number_in Big size octets = big_number size octets
number_in Little size octets = little_number size octets

-- the sizes of numbers
abbrev pub IsSize : ℕ → Type 0
IsSize size = (size ≡ 1) ⊎ (size ≡ 2) ⊎ (size ≡ 4) ⊎ (size ≡ 8)

-- how many octets stand between a place and the next multiple of the size, which std calls next_multiple_of
abbrev pub gap : ℕ → ℕ → ℕ
gap size at = (size - at % size) % size

-- the octets of a number behind a place: a gap of zeros, and the number
abbrev pub aligned_octets : Endian → ℕ → ℕ → ℕ → List ℕ
aligned_octets e size at n = replicate (gap size at) 0 ++ number_octets e size n
