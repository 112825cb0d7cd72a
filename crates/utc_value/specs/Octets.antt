-- The sixteen octets of a timestamp. A list of octets is a list of numbers below 256.
use Rattle.std.specs.Prelude.{◌≡◌, ℕ, suc, ◌+◌, ◌-◌, ◌*◌, ◌/◌, ◌%◌, ◌^◌, ◌⊎◌, ℤ, pos, negsuc, ◌-ℤ◌, nat_lt, if◌then◌else◌, List, ◌++◌, drop, unwrap_or}
use Rattle.byteorder.specs.Endian.{little_bytes, little_number}
use Rattle.utc_value.specs.declared.TheConstants.{UNSPECIFIED}
use Rattle.utc_value.specs.declared.BytesFault.{BytesFault}
use Rattle.utc_value.specs.declared.BytesFault.TheVariants.{Version, Tdf}
use Rattle.utc_value.specs.declared.Kind.{Kind}
use Rattle.utc_value.specs.declared.Kind.TheVariants.{Absolute, Relative}
use Rattle.utc_value.specs.Stamp.{Stamp, IsTdf}

-- the k bits of a signed number in two's complement, as a number
abbrev pub twos_complement : ℕ → ℤ → ℕ
twos_complement k (pos n) = n
twos_complement k (negsuc n) = 2 ^ k - suc n

-- the signed number whose k bits in two's complement are n
abbrev pub signed_of : ℕ → ℕ → ℤ
signed_of k n = if nat_lt n (2 ^ (k - 1)) then pos n else pos n -ℤ pos (2 ^ k)

-- version 1 is an absolute timestamp, and version 2 a relative one
abbrev pub version_of : Kind → ℕ
version_of Absolute = 1
version_of Relative = 2

-- a kind has that version
abbrev pub IsVersion : ℕ → Type 0
IsVersion version = (version ≡ 1) ⊎ (version ≡ 2)

-- a time differential factor that version 1 or version 2 may have
abbrev pub IsTdfOfVersion : ℕ → ℤ → Type 0
IsTdfOfVersion version t = IsTdf t × (version ≡ 2 → t ≡ pos 0)

-- the layout: eight octets of time, six of inaccuracy with all ones for unspecified, and two whose low 12 bits are the time differential
-- factor and whose high 4 bits the version; each field has its least octet first
unfoldable pub octets_of : Stamp → List ℕ
octets_of s =
    little_bytes 8 (twos_complement 64 s.time)
    ++ little_bytes 6 (unwrap_or s.inaccuracy UNSPECIFIED)
    ++ little_bytes 2 (version_of s.kind * 2 ^ 12 + twos_complement 12 s.tdf)

-- the number that the last two octets are
abbrev pub last_field : List ℕ → ℕ
last_field octets = little_number 2 (drop 14 octets)

-- the version that the octets give
abbrev pub version_in : List ℕ → ℕ
version_in octets = last_field octets / 2 ^ 12

-- the time differential factor that the octets give
abbrev pub tdf_in : List ℕ → ℤ
tdf_in octets = signed_of 12 (last_field octets % 2 ^ 12)

-- why sixteen octets are no timestamp: first the version, then the time differential factor
abbrev pub RefusesOctets : List ℕ → BytesFault → Type 0
RefusesOctets octets (Version found) = (found ≡ version_in octets) × (¬ IsVersion found)
RefusesOctets octets (Tdf found) = (found ≡ tdf_in octets) × IsVersion (version_in octets) × (¬ IsTdfOfVersion (version_in octets) found)
