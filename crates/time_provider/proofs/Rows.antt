-- Worked rows, computed.
use Rattle.std.proofs.Common.{◌≡◌, ℕ, pos, List, [], ◌∷◌, Some, Ok, Err, refl}
use Rattle.ntp_packet.specs.declared.judging.Judged.TheVariants as judged
use Rattle.ntp_packet.specs.Packets.{octets_of, reading}
use Rattle.ntp_packet.specs.Judging.{first_failed}
use Rattle.ntp_packet.proofs.Rows as packets
use Rattle.time_provider.specs.declared.fault.ProviderFault.TheVariants as fault
use Rattle.time_provider.specs.Past.{Past, Deed, Took, Stopped, Went, Told, answer_of, origin_of, times_of}

-- two peers that were asked at oscillator reading 40 with the word 9
asked : List Deed → Past
asked deeds = record { peers = 3 ∷ 5 ∷ []; polled = Some (record { osc = 40; word = 9 }); deeds = deeds }

-- the octets of a reply on 2020-01-01
reply : ℕ → List ℕ
reply origin = octets_of (packets.reply origin packets.stamp)

time : Told
time = record { peer = 5; before = 40; lo = pos 137971295999999923; hi = pos 137971296000000078; after = 60 }

-- the second peer's query has the word and one more
reply_is_taken : answer_of (asked []) 5 60 (reply 10) (pos 137971296000000000) ≡ Ok time
unfolding asked reply packets.reply packets.stamp time octets_of reading first_failed
reply_is_taken = refl

reply_to_the_other_peer : answer_of (asked []) 5 60 (reply 9) (pos 137971296000000000) ≡ Err (fault.Judged judged.Origin)
unfolding asked reply packets.reply packets.stamp octets_of reading first_failed
reply_to_the_other_peer = refl

second_reply : answer_of (asked (Took 5 (Ok time) ∷ [])) 5 60 (reply 10) (pos 137971296000000000) ≡ Err fault.NoQuery
unfolding asked reply time octets_of
second_reply = refl

reply_behind_a_refused_one : answer_of (asked (Took 5 (Err (fault.Judged judged.Origin)) ∷ Went 3
    ∷ [])) 5 60 (reply 10) (pos 137971296000000000) ≡ Ok time
unfolding asked reply packets.reply packets.stamp time octets_of reading first_failed
reply_behind_a_refused_one = refl

reply_behind_the_end : answer_of (asked (Stopped ∷ [])) 5 60 (reply 10) (pos 137971296000000000) ≡ Err fault.NoQuery
unfolding asked reply octets_of
reply_behind_the_end = refl

times_in_order : times_of (Took 5 (Ok time) ∷ Stopped ∷ Took 3 (Ok time) ∷ []) ≡ time ∷ time ∷ []
times_in_order = refl

-- the word wraps, and 1 stands for 0
word_wraps : origin_of 0xffffffffffffffff 1 ≡ 1
word_wraps = refl
