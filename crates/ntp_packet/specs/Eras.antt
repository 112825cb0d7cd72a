-- The era and the interval as functions that compute.
use Rattle.std.specs.Prelude.{ℕ, ◌*◌, ◌^◌, ℤ, pos, ◌-ℤ◌, ◌*ℤ◌}
use Rattle.ntp_packet.specs.declared.codec.Packet.{Packet}
use Rattle.ntp_packet.specs.Fractions.{floor_of, ceiling_of}
use Rattle.ntp_packet.specs.Intervals.{units_per_second, count_of, ends_in}

-- the units of an era
abbrev pub era_units : ℕ
era_units = 2 ^ 32 * units_per_second

-- how many eras lie from a timestamp in era 0 to a count, less a half, rounded up
abbrev pub era_of : ℕ → ℤ → ℤ
era_of stamp near =
    ceiling_of (record { over = (pos 2 *ℤ (near -ℤ floor_of (count_of (pos stamp)))) -ℤ pos era_units; under = 2 * era_units })

abbrev pub interval_of : Packet → ℤ → ℤ × ℤ
interval_of p near = ends_in (era_of p.transmit near) p
