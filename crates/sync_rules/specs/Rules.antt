-- The rules: which actions an event gives after a history.
use Rattle.std.specs.Prelude.{◌≡◌, ℕ, ◌+◌, ◌||◌, ◌∷◌, ◌++◌, [], List, map, filter, Bool, ℤ, Option, Some, None, is_none, is_some, if◌then◌else◌}
use Rattle.slew_clock.specs.declared.rates.Rates.{Rates}
use Rattle.slew_clock.specs.declared.record.ClockRecord.{ClockRecord}
use Rattle.slew_clock.specs.Line.{line}
use Rattle.slew_clock.specs.Reading.{inaccuracy_of}
use Rattle.slew_clock.specs.Change.{middle_of, is_far, changed_record, renewed_record}
use Rattle.dts_capture.specs.declared.event.Event.{Event}
use Rattle.dts_capture.specs.declared.event.Event.TheVariants as event
use Rattle.dts_capture.specs.declared.action.Action.{Action}
use Rattle.dts_capture.specs.declared.action.Action.TheVariants as action
use Rattle.dts_capture.specs.declared.action.NoteKind.{NoteKind}
use Rattle.dts_capture.specs.declared.action.NoteKind.TheVariants as note
use Rattle.dts_capture.specs.declared.action.FalseSource.TheVariants as source
use Rattle.sync_rules.specs.History.{History, Begun, Then, event_osc, settings_of, current_record}
use Rattle.sync_rules.specs.Live.{floor_of, is_live}
use Rattle.sync_rules.specs.Rounds.{Answer, is_asked, is_full, queries_of, answers_of, open_query, carried_to, outcome, are_apart}
use Rattle.clerk.specs.Outcome.{Outcome, Short, Split, Adopted}

-- the peer that the notes of an event speak of, where there is one
abbrev pub event_peer : Event → Option ℕ
event_peer (event.Stream osc peer bytes) = Some peer
event_peer (event.Gram osc peer bytes) = Some peer
event_peer (event.Lost osc peer) = Some peer
event_peer (event.Unsent osc peer) = Some peer
event_peer (event.Ask osc conn bytes) = Some conn
event_peer _ = None

-- the note of an event
abbrev pub noted : Event → NoteKind → Action
noted event kind = action.Log (record { osc = event_osc event; peer = event_peer event; kind = kind })

abbrev pub rates_of : History → Rates
rates_of history = (settings_of history).rates

-- the reading of the current record
abbrev pub reading_of : History → ℕ → NoteKind
reading_of history osc =
    let rec = current_record history in
    note.Reading (line (rates_of history) rec osc) (inaccuracy_of (rates_of history) rec osc) rec.step rec.number

-- the publication of a record, where there is one
abbrev pub publication : Option ClockRecord → List Action
publication None = []
publication (Some rec) = action.Publish rec ∷ []

-- the clock steps to an interval where it has none yet, or where the interval's middle is too far
abbrev pub steps_to : Rates → ClockRecord → ℕ → ℤ × ℤ → Bool
steps_to rates rec osc i = is_none rec.anchor || is_far rates rec osc i

-- the step, where it is one, and then the record that an adopted interval makes
abbrev pub changes : Event → Rates → ClockRecord → ℤ × ℤ → List Action
changes event rates rec i =
    let osc = event_osc event in
    (if steps_to rates rec osc i then noted event (note.Step (rec.step + 1) (line rates rec osc) (middle_of i)) ∷ [] else [])
    ++ action.Publish (changed_record rates rec osc i) ∷ []

-- the answers that have no point in common with the adopted interval, in their order
abbrev pub named_false : Event → Rates → List Answer → ℤ × ℤ → List Action
named_false event rates answers i =
    map (λ a. noted event (note.False (source.Tag a.tag))) (filter (λ a. are_apart (carried_to rates (event_osc event) a) i) answers)

-- what an outcome gives
abbrev pub outcome_actions : Event → Rates → ClockRecord → List Answer → Outcome → List Action
outcome_actions event rates rec answers (Short answered required) = noted event (note.Short answered required) ∷ []
outcome_actions event rates rec answers (Split n) = noted event (note.Split n) ∷ []
outcome_actions event rates rec answers (Adopted n i) = noted event (note.Adopted n i.0 i.1) ∷ named_false event rates answers i ++ changes event rates rec i
outcome_actions event rates rec answers _ = []

-- What a live event gives. A read gives its reading, and a tick the renewal of the clock where it is due. A query gives a note where
-- its tag is asked or is one too many, and a source where its tag is not open. An adoption gives what comes of the answers.
abbrev pub live_actions : History → Event → List Action
live_actions history (event.Read osc) = noted (event.Read osc) (reading_of history osc) ∷ []
live_actions history (event.Tick osc word) = publication (renewed_record (rates_of history) (current_record history) osc)
live_actions history (event.Query osc tag) =
    if is_asked (queries_of history) tag then noted (event.Query osc tag) (note.RepeatedTag tag) ∷ []
    else if is_full (queries_of history) then noted (event.Query osc tag) note.TagsFull ∷ []
    else []
live_actions history (event.Source osc tag i) =
    if is_some (open_query (queries_of history) (answers_of history) tag) then [] else noted (event.Source osc tag i) (note.UnknownTag tag) ∷ []
live_actions history (event.Adopt osc required) =
    outcome_actions (event.Adopt osc required) (rates_of history) (current_record history) (answers_of history)
    (outcome (rates_of history) (answers_of history) required osc)
live_actions history _ = []

-- the peer that a regressed event closes: one that sent octets over a connection
abbrev pub closes : Event → List Action
closes (event.Stream osc peer bytes) = action.Close osc peer ∷ []
closes (event.Ask osc conn bytes) = action.Close osc conn ∷ []
closes _ = []

-- what a regressed event gives, whichever it is: the note of its floor, and its peer is closed
abbrev pub regressed_actions : History → Event → List Action
regressed_actions history event = noted event (note.Regressed (floor_of history event)) ∷ closes event

unfoldable pub actions_of : History → Event → List Action
actions_of history event = if is_live history event then live_actions history event else regressed_actions history event

-- the history with this event on top, and the actions that the rules give
abbrev pub followed_by : History → Event → History
followed_by history event = Then history event (actions_of history event)

-- the history with these events after it, the first of them first
abbrev pub extended : History → List Event → History
extended history [] = history
extended history (event ∷ events) = extended (followed_by history event) events

-- each position has the actions that the rules give
abbrev pub IsRuled : History → Type 0
IsRuled (Begun settings start) = Unit {0}
IsRuled (Then before event actions) = (actions ≡ actions_of before event) × IsRuled before
