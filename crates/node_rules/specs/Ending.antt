-- How a round ends: what comes of it is noted, the clock is changed, and the sessions that still owe an answer are closed.
use Rattle.std.specs.Prelude.{ℕ, ℤ, not, if◌then◌else◌, List, [], ◌∷◌, ◌++◌, map, filter, Option, Some, None}
use Rattle.slew_clock.specs.declared.rates.Rates.{Rates}
use Rattle.clerk.specs.Outcome.{Outcome, Waiting, Short, Split, Adopted}
use Rattle.roster.specs.RosterData.{RosterData}
use Rattle.dts_capture.specs.declared.event.Event.{Event}
use Rattle.dts_capture.specs.declared.action.Action.{Action}
use Rattle.dts_capture.specs.declared.action.Action.TheVariants as action
use Rattle.dts_capture.specs.declared.action.NoteKind.TheVariants as note
use Rattle.dts_capture.specs.declared.action.FalseSource.TheVariants as source
use Rattle.sync_rules.specs.History.{event_osc, current_record}
use Rattle.sync_rules.specs.Rounds.{Answer, carried_to, are_apart}
use Rattle.sync_rules.specs.Rules.{rates_of, noted, changes}
use Rattle.node_rules.specs.History.{RoundEnded, PeerEnded, NodeHistory, roster_of, bare, gives, found_in, Found}
use Rattle.node_rules.specs.Rounds.{Round, open_round, unanswered_in, answers_in, own_at, outcome_of}
use Rattle.node_rules.specs.Asking.{kind_of, is_ntp}

-- the servers whose intervals have no point in common with the adopted one, in the order of the roster
abbrev pub false_servers : Event → Rates → List Answer → ℤ × ℤ → List Action
false_servers event rates answers i =
    map (λ a. noted event (note.False (source.Peer a.tag))) (filter (λ a. are_apart (carried_to rates (event_osc event) a) i) answers)

-- and the node's own interval
abbrev pub false_own : Event → Option (ℤ × ℤ) → ℤ × ℤ → List Action
false_own event None i = []
false_own event (Some own) i = if are_apart own i then noted event (note.False source.Own) ∷ [] else []

-- what an outcome gives
abbrev pub gives_outcome : Event → NodeHistory → Outcome → List Action
gives_outcome event history (Waiting unanswered deadline) = []
gives_outcome event history (Short answered required) = noted event (note.Short answered required) ∷ []
gives_outcome event history (Split n) = noted event (note.Split n) ∷ []
gives_outcome event history (Adopted n i) =
    let rates = rates_of (bare history) in
    noted event (note.Adopted n i.0 i.1)
    ∷ false_servers event rates (answers_in (roster_of history) (found_in history)) i
    ++ false_own event (own_at history (event_osc event)) i
    ++ changes event rates (current_record (bare history)) i

-- the sources that are closed at the end of a round: the unanswered ones, but those of NTP
abbrev pub closed_in : RosterData → List Found → Round → List ℕ
closed_in roster found round = filter (λ peer. not (is_ntp (kind_of roster peer))) (unanswered_in found round)

abbrev pub concludes : Event → Round → NodeHistory → Outcome → NodeHistory
concludes event round history (Waiting unanswered deadline) = history
concludes event round history outcome = let closed = closed_in (roster_of history) (found_in history) round in
    let answers = answers_in (roster_of history) (found_in history) in let own = own_at history (event_osc event) in
    gives history (RoundEnded outcome answers own ∷ map PeerEnded closed)
    (gives_outcome event history outcome ++ map (action.Close (event_osc event)) closed)

abbrev pub evaluates_open : Event → NodeHistory → Option Round → NodeHistory
evaluates_open event history None = history
evaluates_open event history (Some round) = concludes event round history (outcome_of history round (event_osc event))

-- an open round is evaluated: it waits, or it ends
abbrev pub evaluates : Event → NodeHistory → NodeHistory
evaluates event history = evaluates_open event history (open_round (found_in history))
