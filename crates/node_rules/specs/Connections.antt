-- The connections of clients, by looking back: which are open in a lane, what happened to each, and what is counted.
use Rattle.std.specs.Prelude.{ℕ, ◌%◌, ◌-◌, ◌^◌, min, Bool, false, not, ◌==◌, ◌&&◌, nat_le, if◌then◌else◌, List, [], ◌∷◌, length, filter, count_by, Option, Some, None, option_map}
use Rattle.rpc_session.specs.Server.{ServerHistory, Opened, Received}
use Rattle.server_roles.specs.declared.counts.Counts.{Counts}
use Rattle.dts_capture.specs.Grammar.{first_connection}
use Rattle.sync_rules.specs.History.{lanes}
use Rattle.node_rules.specs.History.{Finding, PeerEnded, PeerRefused, AskCame, ConnectionOpened, PduServed, Found}

-- the connection behind a finding, where this was the one before it
abbrev pub connection_with : ℕ → Finding → Option ServerHistory → Option ServerHistory
connection_with conn (ConnectionOpened other) before = if other == conn then Some (Opened conn) else before
connection_with conn (PduServed other p answer) before =
    if other == conn then option_map (λ session. Received session p answer) before else before
connection_with conn (PeerEnded other) before = if other == conn then None else before
connection_with conn _ before = before

-- the connection of a client: since it opened last, unless it ended since
unfoldable pub connection_of : ℕ → List Found → Option ServerHistory
connection_of conn [] = None
connection_of conn (f ∷ older) = connection_with conn f.finding (connection_of conn older)

abbrev pub of_lane : ℕ → ℕ → Bool
of_lane lane conn = nat_le first_connection conn && (conn % lanes == lane)

-- the open connections of a lane behind a finding
abbrev pub open_with : ℕ → Finding → List ℕ → List ℕ
open_with lane (ConnectionOpened conn) before = if of_lane lane conn then conn ∷ before else before
open_with lane (PeerEnded conn) before = filter (λ other. not (other == conn)) before
open_with lane _ before = before

-- the connections that are open in a lane: those that opened and did not end since
unfoldable pub open_in : ℕ → List Found → List ℕ
open_in lane [] = []
open_in lane (f ∷ older) = open_with lane f.finding (open_in lane older)

-- ---- what is counted in a lane
abbrev pub is_ask : ℕ → Finding → Bool
is_ask lane (AskCame conn) = of_lane lane conn
is_ask lane _ = false

abbrev pub is_refusal : ℕ → Finding → Bool
is_refusal lane (PeerRefused conn) = of_lane lane conn
is_refusal lane _ = false

-- a count of 64 bits stays at its last value
abbrev pub held_count : ℕ → ℕ
held_count n = min n (2 ^ 64 - 1)

-- what a lane counts: the asks that came, those that were refused, and the connections that are open
abbrev pub counts_in : ℕ → List Found → Counts
counts_in lane found = record {
  lane = lane;
  asks = held_count (count_by (λ f. is_ask lane f.finding) found);
  refused = held_count (count_by (λ f. is_refusal lane f.finding) found);
  connections = length (open_in lane found);
}
