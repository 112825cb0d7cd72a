-- What comes of a round of queries. The rules of direct rounds stand on `concluded` too.
use Rattle.std.specs.Prelude.{ℕ, nat_lt, ◌&&◌, if◌then◌else◌, Bool, true, false, ℤ, List, ◌++◌, length, Option, Some, None}
use Rattle.std.specs.List.{count_by, filter_map}
use Rattle.std.specs.Option.{option_to_list}
use Rattle.slew_clock.specs.declared.rates.Rates.{Rates}
use Rattle.slew_clock.specs.Elapsed.{carried}
use Rattle.intersection.specs.Adopted.{adopted}
use Rattle.clerk.specs.declared.query.Query.{Query}
use Rattle.clerk.specs.declared.query.QueryState.{QueryState}
use Rattle.clerk.specs.declared.query.QueryState.TheVariants as state

-- What comes of a round: so many queries may still be answered, until a deadline; too few are answered, of so many that are required;
-- of so many intervals too few agree; or, of so many, this one is adopted.
pub data Outcome : Type 0 where
  Waiting : ℕ → ℕ → Outcome
  Short : ℕ → ℕ → Outcome
  Split : ℕ → Outcome
  Adopted : ℕ → ℤ × ℤ → Outcome

abbrev pub agreed : ℕ → Option (ℤ × ℤ) → Outcome
agreed n None = Split n
agreed n (Some i) = Adopted n i

-- the intervals of a round: its answers, and then the node's own where it has one
abbrev pub with_own : List (ℤ × ℤ) → Option (ℤ × ℤ) → List (ℤ × ℤ)
with_own answers own = answers ++ option_to_list own

-- what comes of these answers, of which so many are required, and of the node's own interval, which is no answer
unfoldable pub concluded : ℕ → List (ℤ × ℤ) → Option (ℤ × ℤ) → Outcome
concluded required answers own =
    if nat_lt (length answers) required then Short (length answers) required
    else agreed (length (with_own answers own)) (adopted (with_own answers own))

-- whether a query may still be answered
abbrev pub is_open : QueryState → Bool
is_open state.Pending = true
is_open (state.Asked osc) = true
is_open _ = false

-- the answer to a query, carried on to an oscillator reading
abbrev pub answer_at : Rates → ℕ → QueryState → Option (ℤ × ℤ)
answer_at rates osc (state.Answered asked got i) = Some (carried rates i.lo i.hi asked got osc)
answer_at rates osc _ = None

-- the answers to queries, in their order
abbrev pub answers_at : Rates → ℕ → List Query → List (ℤ × ℤ)
answers_at rates osc queries = filter_map (λ q. answer_at rates osc q.state) queries

-- a round: its number, the oscillator readings at which it opened and at which something was told to it last, its deadline, how many answers
-- it requires, and its queries
pub record Opened : Type 0 where
  pub number : ℕ
  pub opened : ℕ
  pub latest : ℕ
  pub deadline : ℕ
  pub required : ℕ
  pub queries : List Query

-- how many queries may still be answered
abbrev pub unanswered : List Query → ℕ
unanswered queries = count_by (λ q. is_open q.state) queries

-- a round waits below its deadline, as long as a query may still be answered
abbrev pub waits : Opened → ℕ → Bool
waits round osc = nat_lt osc round.deadline && nat_lt 0 (unanswered round.queries)

-- what comes of a round at an oscillator reading
unfoldable pub outcome : Rates → Opened → Option (ℤ × ℤ) → ℕ → Outcome
outcome rates round own osc =
    if waits round osc then Waiting (unanswered round.queries) round.deadline
    else concluded round.required (answers_at rates osc round.queries) own
