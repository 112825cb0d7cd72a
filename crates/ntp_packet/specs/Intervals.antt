-- The interval that holds true time by a server's reply, after RFC 5905. All numbers are exact. Counts are of units of 100 ns since
-- 1582-10-15, and a moment of NTP is a number of 2^-32 s since 1900-01-01 00:00:00 UTC.
use Rattle.std.specs.Prelude.{◌≡◌, ℕ, ◌+◌, ◌*◌, ◌^◌, ◌<◌, ◌≤◌, ℤ, pos, ◌+ℤ◌, ◌-ℤ◌, ◌*ℤ◌, ◌<ℤ◌, unsigned_abs}
use Rattle.ntp_packet.specs.declared.codec.Packet.{Packet}
use Rattle.ntp_packet.specs.Judging.{held_of}
use Rattle.ntp_packet.specs.Fractions.{Fraction, whole, plus, minus, IsAtMost, floor_of, ceiling_of}

-- the count of 1900-01-01 00:00:00 UTC
abbrev pub epoch : ℕ
epoch = 100103040000000000

abbrev pub units_per_second : ℕ
units_per_second = 10 ^ 7

-- the count of a moment
abbrev pub count_of : ℤ → Fraction
count_of moment = record { over = pos (epoch * 2 ^ 32) +ℤ (moment *ℤ pos units_per_second); under = 2 ^ 32 }

-- half the root delay plus the root dispersion, which are in 2^-16 s, in units
abbrev pub error_of : Packet → Fraction
error_of p = record { over = pos ((p.delay + 2 * p.dispersion) * units_per_second); under = 2 ^ 17 }

-- the moment that a timestamp is in an era, of which each has 2^64
abbrev pub moment_in : ℤ → ℕ → ℤ
moment_in era stamp = (era *ℤ pos (2 ^ 64)) +ℤ pos stamp

-- how far the count of a timestamp in an era, rounded down, is from a count
abbrev pub off_in : ℤ → ℕ → ℤ → ℕ
off_in era stamp near = unsigned_abs (floor_of (count_of (moment_in era stamp)) -ℤ near)

-- the era in which a timestamp is nearest to a count, and the lesser of two in which it is as near
pub record IsNearestEra (era : ℤ) (stamp : ℕ) (near : ℤ) : Type 0 where
  pub nearest : (other : ℤ) → off_in era stamp near ≤ off_in other stamp near
  pub lesser : (other : ℤ) → other <ℤ era → off_in era stamp near < off_in other stamp near

-- when a reply was sent and when its query came, by the server's clock
abbrev pub sent_in : ℤ → Packet → ℤ
sent_in era p = moment_in era p.transmit

abbrev pub received_in : ℤ → Packet → ℤ
received_in era p = sent_in era p -ℤ held_of p

-- the ends of the interval: the count of sending less the error, and the count of receipt and the error, each rounded outwards
abbrev pub ends_in : ℤ → Packet → ℤ × ℤ
ends_in era p = (
  floor_of (count_of (sent_in era p)) -ℤ ceiling_of (error_of p),
  ceiling_of (count_of (received_in era p)) +ℤ ceiling_of (error_of p),
)

-- the interval of a reply near a count
pub record IsIntervalOf (p : Packet) (near : ℤ) (ends : ℤ × ℤ) : Type 0 where
  pub era : ℤ
  pub nearest : IsNearestEra era p.transmit near
  pub is : ends ≡ ends_in era p

-- the server's time at a moment, widened by the error, held true time, which is a count
abbrev pub HeldTrueTime : Packet → ℤ → ℤ → Type 0
HeldTrueTime p moment time =
    IsAtMost (minus (count_of moment) (error_of p)) (whole time)
    × IsAtMost (whole time) (plus (count_of moment) (error_of p))
