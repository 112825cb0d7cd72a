-- The queries of a round, and how a call changes one.
use Rattle.std.specs.Prelude.{ℕ, max, ◌==◌, if◌then◌else◌, map, find, Option, option_map}
use Rattle.clerk.specs.declared.query.Query.{Query}
use Rattle.clerk.specs.declared.query.QueryState.{QueryState}
use Rattle.clerk.specs.declared.query.QueryState.TheVariants as state
use Rattle.clerk.specs.Outcome.{Opened}

-- a query that was not asked yet
abbrev pub pending : ℕ → Query
pending peer = record { peer = peer; state = state.Pending }

-- where the query of a peer stands, if there is one
abbrev pub state_of : Opened → ℕ → Option QueryState
state_of round peer = option_map (λ q. q.state) (find (λ q. q.peer == peer) round.queries)

-- the query, standing so where it is the peer's
abbrev pub standing : ℕ → QueryState → Query → Query
standing peer state query = if query.peer == peer then record query { state = state } else query

-- the round in which the query of a peer stands so, and all else as before
abbrev pub with_state : Opened → ℕ → QueryState → Opened
with_state round peer state = record round { queries = map (standing peer state) round.queries }

-- the round to which something was told at an oscillator reading
abbrev pub told_at : ℕ → Opened → Opened
told_at osc round = record round { latest = max round.latest osc }
