-- Which octets are those of a timestamp. After C310.
use Rattle.std.specs.Prelude.{ℕ, ℤ, pos, neg_ℤ, int_le, Bool, ◌&&◌, ◌||◌, ◌==◌, List}
use Rattle.std.specs.Ordering.{int_eq}
use Rattle.utc_value.specs.declared.TheConstants.{MAX_TDF}
use Rattle.utc_value.specs.Octets.{version_in, tdf_in}

-- a time differential factor of less than a day either way
abbrev pub is_tdf : ℤ → Bool
is_tdf t = int_le (neg_ℤ MAX_TDF) t && int_le t MAX_TDF

-- the time differential factors of the versions: version 1 may have any, and version 2 has none
abbrev pub is_tdf_of : ℕ → ℤ → Bool
is_tdf_of version t = ((version == 1) && is_tdf t) || ((version == 2) && int_eq t (pos 0))

-- octets of a version that there is, with a time differential factor that it may have
abbrev pub is_stamp : List ℕ → Bool
is_stamp os = is_tdf_of (version_in os) (tdf_in os)
