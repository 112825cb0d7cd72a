-- The queries of a poll, one behind the other.
use Rattle.std.proofs.Common.{◌≡◌, ℕ, suc, ◌+◌, List, [], ◌∷◌, ◌++◌, length, refl, ap, arith}
use Rattle.ntp_packet.specs.Packets.{octets_of}
use Rattle.time_provider.specs.declared.lists.Query.{Query}
use Rattle.time_provider.specs.Past.{origin_of, query_packet}
use Rattle.time_provider.specs.State.{queries_from}

-- the query to a peer at a place
abbrev pub query : (word place peer : ℕ) → Query
query word place peer = record { peer = peer; packet = octets_of (query_packet (origin_of word place)) }

pub queries_push : (word j : ℕ) (peers : List ℕ) (peer : ℕ)
    → queries_from word j (peers ++ peer ∷ []) ≡ queries_from word j peers ++ query word (j + length peers) peer ∷ []
queries_push word j [] peer = let same : j + 0 ≡ j = omega arith in rw same refl
queries_push word j (p ∷ peers) peer =
    let same : j + length (p ∷ peers) ≡ suc j + length peers = omega arith in
    rw same (ap (λ (l : List Query). query word j p ∷ l) (queries_push word (suc j) peers peer))
