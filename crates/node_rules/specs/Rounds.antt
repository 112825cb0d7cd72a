-- Rounds of queries, by looking back: the last one, which of its sources are unanswered, what was answered, and whether another one is due.
use Rattle.std.specs.Prelude.{ℕ, ◌+◌, ◌-◌, ℤ, Bool, true, false, not, ◌==◌, ◌&&◌, ◌||◌, nat_le, nat_lt, if◌then◌else◌, List, [], ◌∷◌, length, map, filter, filter_map, find, Option, Some, None, option_map, option_and_then, unwrap_or}
use Rattle.std.specs.List.{list_any}
use Rattle.slew_clock.specs.Reading.{inaccuracy_of}
use Rattle.clerk.specs.Outcome.{Outcome, Waiting, concluded}
use Rattle.roster.specs.declared.settings.Settings.{Settings}
use Rattle.roster.specs.RosterData.{RosterData}
use Rattle.roster.specs.Wrong.{positions_from}
use Rattle.server_roles.specs.Sources.{sources}
use Rattle.server_roles.specs.Own.{own_interval}
use Rattle.sync_rules.specs.History.{current_record}
use Rattle.sync_rules.specs.Rounds.{Moment, Answer, carried_to}
use Rattle.sync_rules.specs.Rules.{rates_of}
use Rattle.node_rules.specs.History.{Finding, RoundOpened, RoundEnded, QueryAsked, QueryAnswered, QueryGone, NodeHistory, roster_of, bare, Found, found_in}

-- a round: its number, when it opened, its deadline, its sources in order and the word of its tick
pub record Round : Type 0 where
  pub number : ℕ
  pub opened : ℕ
  pub deadline : ℕ
  pub sources : List ℕ
  pub word : ℕ

-- ---- the last round
abbrev pub opens : Finding → Bool
opens (RoundOpened number deadline sources word) = true
opens _ = false

abbrev pub ends : Finding → Bool
ends (RoundEnded outcome answers own) = true
ends _ = false

abbrev pub round_at : Found → Finding → Option Round
round_at f (RoundOpened number deadline sources word) =
    Some (record { number = number; opened = f.at.osc; deadline = deadline; sources = sources; word = word })
round_at f _ = None

-- the round that opened last, where one did
abbrev pub last_round : List Found → Option Round
last_round found = option_and_then (λ f. round_at f f.finding) (find (λ f. opens f.finding) found)

-- what was found since it opened
abbrev pub since_opening : List Found → List Found
since_opening [] = []
since_opening (f ∷ older) = if opens f.finding then [] else f ∷ since_opening older

-- the round that is open: the last one, unless it ended
abbrev pub open_round : List Found → Option Round
open_round found = if list_any (λ f. ends f.finding) (since_opening found) then None else last_round found

-- ---- its queries
abbrev pub settles : ℕ → Finding → Bool
settles peer (QueryAnswered other lo hi) = other == peer
settles peer (QueryGone other) = other == peer
settles peer _ = false

abbrev pub is_source : Option Round → ℕ → Bool
is_source None peer = false
is_source (Some round) peer = list_any (λ source. source == peer) round.sources

-- the query of a source of the open round is neither answered nor gone
abbrev pub is_unanswered : List Found → ℕ → Bool
is_unanswered found peer = is_source (open_round found) peer && not (list_any (λ f. settles peer f.finding) (since_opening found))

abbrev pub asks : ℕ → Finding → Bool
asks peer (QueryAsked other) = other == peer
asks peer _ = false

-- when the query of a source was asked
abbrev pub asked_at : List Found → ℕ → Option Moment
asked_at found peer = option_map (λ f. f.at) (find (λ f. asks peer f.finding) (since_opening found))

-- what a finding answers to the query of a source that was asked at a moment
abbrev pub answer_with : ℕ → Moment → Found → Finding → Option Answer
answer_with peer asked f (QueryAnswered other lo hi) =
    if other == peer then Some (record { tag = peer; asked = asked; got = f.at; lo = lo; hi = hi }) else None
answer_with peer asked f _ = None

abbrev pub first_of : {A : Type 0} → List A → Option A
first_of [] = None
first_of (x ∷ xs) = Some x

-- the answer of a source in the last round: its number in the place of a tag
abbrev pub answer_from : List Found → ℕ → Option Answer
answer_from found peer =
    option_and_then (λ asked. first_of (filter_map (λ f. answer_with peer asked f f.finding) (since_opening found))) (asked_at found peer)

-- the numbers of all servers, in order
abbrev pub all_servers : RosterData → List ℕ
all_servers roster = positions_from 0 (λ entry. true) roster.entries

-- the answers of the last round, in the order of the roster
abbrev pub answers_in : RosterData → List Found → List Answer
answers_in roster found = filter_map (answer_from found) (all_servers roster)

-- ---- what comes of a round
-- the node's own interval at an oscillator reading
abbrev pub own_at : NodeHistory → ℕ → Option (ℤ × ℤ)
own_at history osc = own_interval (roster_of history) (current_record (bare history)) osc

-- the sources that may still answer
abbrev pub unanswered_in : List Found → Round → List ℕ
unanswered_in found round = filter (is_unanswered found) round.sources

-- A round waits below its deadline, as long as a source is unanswered. Else its answers conclude it, carried to the oscillator reading,
-- with the node's own interval.
abbrev pub outcome_of : NodeHistory → Round → ℕ → Outcome
outcome_of history round osc =
    let found = found_in history in let roster = roster_of history in let unanswered = length (unanswered_in found round) in
    if nat_lt osc round.deadline && nat_lt 0 unanswered then Waiting unanswered round.deadline
    else concluded roster.settings.required (map (carried_to (rates_of (bare history)) osc) (answers_in roster found)) (own_at history osc)

-- ---- when another one is due
-- the number of the next round
abbrev pub next_number : List Found → ℕ
next_number found = unwrap_or (option_map (λ round. round.number) (last_round found)) 0 + 1

-- the sources of the next round: where it used too few answers in the last one, it asks more
abbrev pub next_sources : RosterData → List Found → List ℕ
next_sources roster found = sources roster (next_number found) (length (answers_in roster found))

-- the inaccuracy is unspecified, or greater than the node is to bear
abbrev pub is_inaccurate : Settings → Option ℕ → Bool
is_inaccurate s None = true
is_inaccurate s (Some inaccuracy) = nat_lt s.max_inaccuracy inaccuracy

-- so long after the last round opened, another one is due: after a period, or after the hold where the reading is inaccurate
abbrev pub is_due_after : Settings → ℕ → Option ℕ → Bool
is_due_after s elapsed inaccuracy = nat_le s.period elapsed || (nat_le s.hold elapsed && is_inaccurate s inaccuracy)

-- no round opened yet, or the last one opened long enough ago
abbrev pub is_long_enough : NodeHistory → ℕ → Bool
is_long_enough history osc =
    let s = (roster_of history).settings in let inaccuracy = inaccuracy_of (rates_of (bare history)) (current_record (bare history)) osc in
    unwrap_or (option_map (λ round. is_due_after s (osc - round.opened) inaccuracy) (last_round (found_in history))) true

-- a round is due where there is a source and it is long enough
abbrev pub is_due : NodeHistory → ℕ → Bool
is_due history osc = nat_lt 0 (length (next_sources (roster_of history) (found_in history))) && is_long_enough history osc
