-- The ranges of the rates.
use Rattle.std.specs.Prelude.{ℕ, Bool, not, ◌&&◌, nat_le, List, [], ◌∷◌, Option, position}
use Rattle.slew_clock.specs.declared.rates.TheConstants.{GREATEST_DRIFT_PPM, GREATEST_RESOLUTION, LEAST_LEASE, GREATEST_LEASE, LEAST_SLEW_PPM, GREATEST_SLEW_PPM, LEAST_TOLERANCE, GREATEST_TOLERANCE}

-- whether each argument of `Rates::new`, in order, is in its range
abbrev pub in_ranges : (drift_ppm resolution lease slew_ppm tolerance : ℕ) → List Bool
in_ranges drift_ppm resolution lease slew_ppm tolerance =
    nat_le drift_ppm GREATEST_DRIFT_PPM
    ∷ nat_le resolution GREATEST_RESOLUTION
    ∷ (nat_le LEAST_LEASE lease && nat_le lease GREATEST_LEASE)
    ∷ (nat_le LEAST_SLEW_PPM slew_ppm && nat_le slew_ppm GREATEST_SLEW_PPM)
    ∷ (nat_le LEAST_TOLERANCE tolerance && nat_le tolerance GREATEST_TOLERANCE)
    ∷ []

-- the position, from 0, of the first argument that is out of its range
abbrev pub first_out : (drift_ppm resolution lease slew_ppm tolerance : ℕ) → Option ℕ
first_out drift_ppm resolution lease slew_ppm tolerance =
    position not (in_ranges drift_ppm resolution lease slew_ppm tolerance)
