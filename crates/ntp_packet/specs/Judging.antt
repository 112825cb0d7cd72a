-- The tests of a server's reply, in their order. Our own choice, after RFC 5905, section 8.
use Rattle.std.specs.Prelude.{ℕ, ◌+◌, ◌-◌, ◌*◌, ◌%◌, ◌^◌, Bool, not, ◌==◌, ◌||◌, nat_lt, ℤ, pos, int_lt, List, [], ◌∷◌, find, Option, option_map}
use Rattle.std.specs.Int.{w64, cast_signed}
use Rattle.ntp_packet.specs.declared.codec.Packet.{Packet}
use Rattle.ntp_packet.specs.declared.judging.Judged.{Judged}
use Rattle.ntp_packet.specs.declared.judging.Judged.TheVariants as judged
use Rattle.ntp_packet.specs.declared.judging.TheConstants.{SERVER_MODE, MAX_STRATUM, UNSYNCHRONISED, MAX_DISTANCE}

-- how long the server held the query, in 2^-32 s: the difference modulo 2^64 that is nearest to 0
abbrev pub held_of : Packet → ℤ
held_of p = cast_signed w64 ((p.transmit + (2 ^ 64 - p.receive)) % 2 ^ 64)

-- each test with what is told where it fails
abbrev pub tests : Packet → ℕ → List (Bool × Judged)
tests p origin =
    (not (p.mode == SERVER_MODE), judged.Mode p.mode)
    ∷ (p.stratum == 0, judged.Kiss p.refid)
    ∷ (nat_lt MAX_STRATUM p.stratum, judged.Stratum p.stratum)
    ∷ (p.li == UNSYNCHRONISED, judged.Unsynchronised)
    ∷ (not (p.origin == origin), judged.Origin)
    ∷ (p.receive == 0 || p.transmit == 0, judged.ZeroStamp)
    ∷ (int_lt (held_of p) (pos 0), judged.Order)
    ∷ (nat_lt MAX_DISTANCE (p.delay + 2 * p.dispersion), judged.Distance)
    ∷ []

-- what the first test that fails tells, if one does
unfoldable pub first_failed : Packet → ℕ → Option Judged
first_failed p origin = option_map (λ test. test.1) (find (λ test. test.0) (tests p origin))
