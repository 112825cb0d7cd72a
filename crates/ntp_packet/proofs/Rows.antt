-- Worked rows, computed.
use Rattle.std.proofs.Common.{◌≡◌, ℕ, pos, negsuc, [], ◌∷◌, ◌++◌, replicate, Some, None, refl}
use Rattle.dts_base.specs.declared.wire.Field.TheVariants as wire
use Rattle.dts_base.specs.declared.wire.WireCause.TheVariants as cause
use Rattle.ntp_packet.specs.declared.codec.Packet.{Packet}
use Rattle.ntp_packet.specs.declared.codec.TheConstants.{ZERO_PACKET}
use Rattle.ntp_packet.specs.declared.judging.Judged.TheVariants as judged
use Rattle.ntp_packet.specs.Packets.{octets_of, first_wrong}
use Rattle.ntp_packet.specs.Judging.{first_failed}
use Rattle.ntp_packet.specs.Eras.{era_of, interval_of}

-- a reply of a server of stratum 1 that was sent when its query came
unfoldable pub reply : ℕ → ℕ → Packet
reply origin stamp =
    record ZERO_PACKET { version = 4; mode = 4; stratum = 1; delay = 1; origin = origin; receive = stamp; transmit = stamp }

-- 2020-01-01 and the least fraction of a second
unfoldable pub stamp : ℕ
stamp = 0xe1b65f8000000001

its_octets : octets_of (reply 1 stamp)
    ≡ 0x24 ∷ 1 ∷ 0 ∷ 0 ∷ 0 ∷ 0 ∷ 0 ∷ 1 ∷ (replicate 16 0 ++ 0 ∷ 0 ∷ 0 ∷ 0 ∷ 0 ∷ 0 ∷ 0 ∷ 1 ∷ 0xe1 ∷ 0xb6 ∷ 0x5f ∷ 0x80 ∷ 0 ∷ 0 ∷ 0 ∷ 1
    ∷ 0xe1 ∷ 0xb6 ∷ 0x5f ∷ 0x80 ∷ 0 ∷ 0 ∷ 0 ∷ 1 ∷ [])
unfolding reply stamp octets_of
its_octets = refl

short_octets : first_wrong (replicate 47 0) ≡ Some (record { field = wire.NtpLength; offset = 47; cause = cause.Short })
short_octets = refl

version_zero : first_wrong (replicate 48 0) ≡ Some (record { field = wire.NtpVersion; offset = 0; cause = cause.Value })
version_zero = refl

reply_is_used : first_failed (reply 1 stamp) 1 ≡ None
unfolding reply stamp first_failed
reply_is_used = refl

reply_to_another_query : first_failed (reply 2 stamp) 1 ≡ Some judged.Origin
unfolding reply stamp first_failed
reply_to_another_query = refl

-- a kiss comes before all but the mode
kiss : first_failed (record ZERO_PACKET { li = 3; version = 4; mode = 4; refid = 0x52415445 }) 1 ≡ Some (judged.Kiss 0x52415445)
unfolding first_failed
kiss = refl

interval_of_the_reply : interval_of (reply 1 stamp) (pos 137971296000000000) ≡ (pos 137971295999999923, pos 137971296000000078)
unfolding reply stamp
interval_of_the_reply = refl

-- a timestamp of 0 is 1900-01-01 or 2036-02-07: at the middle between the two the lesser era
middle_of_eras : era_of 0 (pos 121577876480000000) ≡ pos 0
middle_of_eras = refl

past_the_middle : era_of 0 (pos 121577876480000001) ≡ pos 1
past_the_middle = refl

near_the_first_count : era_of 0 (pos 0) ≡ negsuc 1
near_the_first_count = refl

near_the_last_count : era_of 0 (pos 2305843009213693952) ≡ pos 51
near_the_last_count = refl
