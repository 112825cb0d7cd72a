-- What a link tells: its arrivals that are left, and its lists. Our own choice.
use Rattle.std.specs.Prelude.{◌≡◌, ℕ, ◌<◌, ◌≤◌, min, List, [], ◌∷◌, ◌++◌, length, take, drop, nat_le, if◌then◌else◌, Option, Some, None}
use Rattle.dts_base.specs.declared.address.Address.{Address}
use Rattle.dts_base.specs.declared.link.PeerKind.{PeerKind}
use Rattle.dts_base.specs.declared.link.Place.{Place}
use Rattle.dts_base.specs.declared.link.Served.{Served}
use Rattle.dts_base.specs.declared.link.Sent.{Sent}
use Rattle.dts_base.specs.declared.link.Arrival.{Arrival}
use Rattle.dts_base.specs.declared.link.Arrival.TheVariants as arrival
use Rattle.dts_base.specs.declared.link.Scripted.{Scripted}
use Rattle.dts_base.specs.declared.link.Scripted.TheVariants as scripted

-- what was placed, served, sent and closed, the first entry first
pub record Lists : Type 0 where
  pub places : List Place
  pub served : List Served
  pub sent : List Sent
  pub closed : List ℕ

-- A link that tells its lists after the call told them before, and the two are related so.
abbrev pub Kept : Option Lists → Option Lists → (Lists → Lists → Type 0) → Type 0
Kept old None R = Unit {0}
Kept None (Some new) R = ⊥
Kept (Some old) (Some new) R = R old new

abbrev pub IsSame : {A : Type 0} → A → A → Type 0
IsSame old new = new ≡ old

-- one entry more in one list, and all else as it was
abbrev pub AddsPlace : ℕ → PeerKind → Address → Lists → Lists → Type 0
AddsPlace peer kind address old new = new ≡ record old { places = old.places ++ record { peer = peer; kind = kind; address = address } ∷ [] }

abbrev pub AddsServed : ℕ → Address → Lists → Lists → Type 0
AddsServed first address old new = new ≡ record old { served = old.served ++ record { first = first; address = address } ∷ [] }

abbrev pub AddsSent : ℕ → List ℕ → Lists → Lists → Type 0
AddsSent peer bytes old new = new ≡ record old { sent = old.sent ++ record { peer = peer; bytes = bytes } ∷ [] }

abbrev pub AddsClosed : ℕ → Lists → Lists → Type 0
AddsClosed peer old new = new ≡ record old { closed = old.closed ++ peer ∷ [] }

-- octets of a stream are at least one, and what came fits the buffer
abbrev pub Fits : Arrival → ℕ → Type 0
Fits arrival.Nothing room = Unit {0}
Fits (arrival.Bytes peer len) room = (0 < len) × (len ≤ room)
Fits (arrival.Gram peer len) room = len ≤ room
Fits (arrival.Lost peer) room = Unit {0}
Fits arrival.Ended room = Unit {0}

-- what a poll leaves of octets that came first: those that the buffer did not hold
abbrev pub left_of : ℕ → List ℕ → ℕ → List Scripted → List Scripted
left_of peer bytes room rest = if nat_le (length bytes) room then rest else scripted.Bytes peer (drop room bytes) ∷ rest

-- the first arrival is answered and taken away; past the end nothing comes
abbrev pub Polls : Arrival → List ℕ → List Scripted → List Scripted → Type 0
Polls answer buf [] new = (answer ≡ arrival.Nothing) × (new ≡ [])
Polls answer buf (scripted.Nothing ∷ rest) new = (answer ≡ arrival.Nothing) × (new ≡ rest)
Polls answer buf (scripted.Bytes peer bytes ∷ rest) new =
    let len = min (length bytes) (length buf) in
    (answer ≡ arrival.Bytes peer len) × (take len buf ≡ take len bytes) × (new ≡ left_of peer bytes (length buf) rest)
Polls answer buf (scripted.Gram peer bytes ∷ rest) new =
    let len = min (length bytes) (length buf) in
    (answer ≡ arrival.Gram peer len) × (take len buf ≡ take len bytes) × (new ≡ rest)
Polls answer buf (scripted.Lost peer ∷ rest) new = (answer ≡ arrival.Lost peer) × (new ≡ rest)
Polls answer buf (scripted.Ended ∷ rest) new = (answer ≡ arrival.Ended) × (new ≡ rest)
