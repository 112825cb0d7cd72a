-- What a packet gives, by looking back over the calls that were made since the last poll, of which the newest is first.
use Rattle.std.specs.Prelude.{ℕ, ◌+◌, ◌%◌, ◌^◌, Bool, true, false, ◌==◌, ◌&&◌, if◌then◌else◌, ℤ, pos, int_le, List, [], ◌∷◌, ◌++◌, position, Option, Some, None, option_map, option_and_then, Result, Ok, Err}
use Rattle.std.specs.Int.{int_max}
use Rattle.std.specs.List.{list_any}
use Rattle.ntp_packet.specs.declared.codec.Packet.{Packet}
use Rattle.ntp_packet.specs.declared.codec.TheConstants.{ZERO_PACKET}
use Rattle.ntp_packet.specs.declared.judging.Judged.{Judged}
use Rattle.ntp_packet.specs.Packets.{reading}
use Rattle.ntp_packet.specs.Judging.{first_failed}
use Rattle.ntp_packet.specs.Eras.{interval_of}
use Rattle.dts_base.specs.declared.wire.Refused.{Refused}
use Rattle.time_provider.specs.declared.limits.TheConstants.{GREATEST_TIME}
use Rattle.time_provider.specs.declared.fault.ProviderFault.{ProviderFault}
use Rattle.time_provider.specs.declared.fault.ProviderFault.TheVariants as fault

-- a poll: the oscillator reading at which it was made, and its word
pub record Poll : Type 0 where
  pub osc : ℕ
  pub word : ℕ

-- the time of a peer, as the parts of a triple
pub record Told : Type 0 where
  pub peer : ℕ
  pub before : ℕ
  pub lo : ℤ
  pub hi : ℤ
  pub after : ℕ

-- what a call answered
abbrev pub Answer : Type 0
Answer = Result Told ProviderFault

-- a call: a packet of a peer was taken and gave this answer, a peer went, or all stopped
pub data Deed : Type 0 where
  Took : ℕ → Answer → Deed
  Went : ℕ → Deed
  Stopped : Deed

-- the peers of a provider, its last poll where there was one, and the calls since then, the newest first
pub record Past : Type 0 where
  pub peers : List ℕ
  pub polled : Option Poll
  pub deeds : List Deed

-- an open query: the peer, when it was asked, and the transmit timestamp of its packet
pub record Waiting : Type 0 where
  pub peer : ℕ
  pub asked : ℕ
  pub origin : ℕ

-- the transmit timestamp of the j-th query, from 0: the word plus j modulo 2^64, and 1 in place of 0
abbrev pub origin_of : (word j : ℕ) → ℕ
origin_of word j = if (word + j) % 2 ^ 64 == 0 then 1 else (word + j) % 2 ^ 64

-- an answer uses up the query: a time, or an interval that is out of range
abbrev pub is_used : Answer → Bool
is_used (Ok told) = true
is_used (Err (fault.Range lo hi)) = true
is_used (Err _) = false

-- a call closes the query of a peer
abbrev pub closes : ℕ → Deed → Bool
closes peer (Took other answer) = other == peer && is_used answer
closes peer (Went other) = other == peer
closes peer Stopped = true

-- the query of the last poll to the peer at a place among the peers
abbrev pub query_at : Poll → ℕ → ℕ → Waiting
query_at poll peer place = record { peer = peer; asked = poll.osc; origin = origin_of poll.word place }

-- the open query of a peer: that of the last poll, unless a call since then closed it
abbrev pub query_of : Past → ℕ → Option Waiting
query_of past peer =
    if list_any (closes peer) past.deeds then None
    else option_and_then (λ poll. option_map (query_at poll peer) (position (λ p. p == peer) past.peers)) past.polled

-- an end that is taken
abbrev pub is_time : ℤ → Bool
is_time z = int_le (pos 0) z && int_le z GREATEST_TIME

-- what an interval gives: Range where an end is not taken; where its low end is above its high end, the low end alone is told
abbrev pub told_by : Waiting → ℕ → ℤ × ℤ → Answer
told_by query osc ends =
    if is_time ends.0 && is_time ends.1
    then Ok (record { peer = query.peer; before = query.asked; lo = ends.0; hi = int_max ends.0 ends.1; after = osc })
    else Err (fault.Range ends.0 ends.1)

-- what a packet gives that was read
abbrev pub judged_by : Waiting → ℕ → ℤ → Packet → Option Judged → Answer
judged_by query osc near p (Some failed) = Err (fault.Judged failed)
judged_by query osc near p None = told_by query osc (interval_of p near)

-- what octets give for an open query
abbrev pub read_by : Waiting → ℕ → ℤ → Result Packet Refused → Answer
read_by query osc near (Err refused) = Err (fault.Wrong refused)
read_by query osc near (Ok p) = judged_by query osc near p (first_failed p query.origin)

abbrev pub answer_to : Option Waiting → ℕ → List ℕ → ℤ → Answer
answer_to None osc octets near = Err fault.NoQuery
answer_to (Some query) osc octets near = read_by query osc near (reading octets)

-- what the octets of a packet give that came from a peer
abbrev pub answer_of : Past → (peer osc : ℕ) → List ℕ → ℤ → Answer
answer_of past peer osc octets near = answer_to (query_of past peer) osc octets near

-- the time that a call gave, if it gave one
abbrev pub time_of : Deed → List Told
time_of (Took peer (Ok told)) = told ∷ []
time_of _ = []

-- the times that came since the last poll, in the order of arrival
abbrev pub times_of : List Deed → List Told
times_of [] = []
times_of (deed ∷ older) = times_of older ++ time_of deed

-- a call more
abbrev pub and_then : Past → Deed → Past
and_then past deed = record past { deeds = deed ∷ past.deeds }

-- the past behind a new poll
abbrev pub polled_with : Past → Poll → Past
polled_with past poll = record { peers = past.peers; polled = Some poll; deeds = [] }

-- a query: all fields but the version, the mode of a client and the transmit timestamp are 0 (RFC 5905, section 14)
abbrev pub query_packet : ℕ → Packet
query_packet origin = record ZERO_PACKET { version = 4; mode = 3; transmit = origin }
