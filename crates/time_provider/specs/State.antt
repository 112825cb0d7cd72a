-- How a provider's state stands for its past.
use Rattle.std.specs.Prelude.{◌≡◌, ℕ, suc, Bool, false, ◌==◌, if◌then◌else◌, List, [], ◌∷◌, get_or, position, map, Option, Some, None, option_and_then, Result, Ok, Err}
use Rattle.ntp_packet.specs.Packets.{octets_of}
use Rattle.time_provider.specs.declared.fault.ProviderFault.{ProviderFault}
use Rattle.time_provider.specs.declared.lists.Query.{Query}
use Rattle.time_provider.specs.declared.lists.Triple.{Triple}
use Rattle.time_provider.specs.Rooms.{Room, listed}
use Rattle.time_provider.specs.Past.{Past, Poll, Told, Answer, Waiting, origin_of, query_at, query_of, query_packet, times_of}

-- the peers, which queries of the last poll are open, that poll, and the times that came
pub record State : Type 0 where
  pub peers : Room ℕ
  pub pending : List Bool
  pub poll : Poll
  pub message : Room Triple

abbrev pub told_of : Triple → Told
told_of t = record { peer = t.peer; before = t.before; lo = t.time.lo; hi = t.time.hi; after = t.after }

abbrev pub answer_told : Result Triple ProviderFault → Answer
answer_told (Ok t) = Ok (told_of t)
answer_told (Err e) = Err e

-- the place of a peer
abbrev pub place_in : List ℕ → ℕ → Option ℕ
place_in peers peer = position (λ p. p == peer) peers

-- the query at a place, where it is open
abbrev pub open_at : State → ℕ → ℕ → Option Waiting
open_at s peer place = if get_or s.pending place false then Some (query_at s.poll peer place) else None

-- the open query of a peer
abbrev pub waiting_of : State → ℕ → Option Waiting
waiting_of s peer = option_and_then (open_at s peer) (place_in (listed s.peers) peer)

-- a state stands for a past: its peers, open queries and times are those of the past
pub record StandsFor (past : Past) (s : State) : Type 0 where
  pub peers : listed s.peers ≡ past.peers
  pub waiting : (peer : ℕ) → waiting_of s peer ≡ query_of past peer
  pub message : map told_of (listed s.message) ≡ times_of past.deeds

-- the queries of a poll to peers, of which the first has the j-th place
abbrev pub queries_from : (word j : ℕ) → List ℕ → List Query
queries_from word j [] = []
queries_from word j (peer ∷ peers) =
    record { peer = peer; packet = octets_of (query_packet (origin_of word j)) } ∷ queries_from word (suc j) peers
