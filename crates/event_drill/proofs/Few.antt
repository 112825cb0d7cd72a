-- How many actions an event gives at most.
use Rattle.std.proofs.Common.{◌≡◌, ◌≤◌, List, [], ◌∷◌, ◌++◌, length, Option, Some, None, sym, ap, ◌∙◌, arith}
use Rattle.std.specs.Prelude.{ℤ, filter, is_some}
use Rattle.std.proofs.lemmas.List.{length-map, length-append}
use Rattle.std.proofs.lemmas.List.Sums.{length-filter, count_by-le-length}
use Rattle.slew_clock.specs.declared.rates.Rates.{Rates}
use Rattle.slew_clock.specs.declared.record.ClockRecord.{ClockRecord}
use Rattle.slew_clock.specs.Change.{renewed_record, changed_record}
use Rattle.dts_capture.specs.declared.event.Event.{Event}
use Rattle.dts_capture.specs.declared.event.Event.TheVariants as event
use Rattle.dts_capture.specs.declared.action.Action.{Action}
use Rattle.dts_capture.specs.declared.action.Action.TheVariants as action
use Rattle.dts_capture.specs.declared.action.NoteKind.TheVariants as note
use Rattle.dts_capture.specs.declared.action.FalseSource.TheVariants as source
use Rattle.dts_capture.specs.Grammar.{most_tags}
use Rattle.sync_rules.specs.History.{History, current_record, event_osc}
use Rattle.sync_rules.specs.Live.{is_live}
use Rattle.sync_rules.specs.Rounds.{Answer, is_asked, is_full, queries_of, answers_of, open_query, outcome, are_apart, carried_to}
use Rattle.clerk.specs.Outcome.{Outcome, Waiting, Short, Split, Adopted}
use Rattle.sync_rules.specs.Rules.{actions_of, live_actions, regressed_actions, outcome_actions, publication, named_false, changes, steps_to, rates_of, noted}
use Rattle.sync_rules.proofs.Choices.{both}
use Rattle.capture_replay.specs.Rounds.{without_place, answer_kept}
use Rattle.capture_replay.specs.Standing.{StandsFor}
use Rattle.capture_replay.specs.declared.node.Node.{Node}
use Rattle.capture_replay.proofs.RoundBounds.{answers_few}
use Rattle.event_drill.specs.Running.{most_actions}

abbrev AreFew : List Action → Type 0
AreFew actions = length actions ≤ most_actions

changes_few : (e : Event) (rates : Rates) (rec : ClockRecord) (i : ℤ × ℤ) → length (changes e rates rec i) ≤ 2
changes_few e rates rec i =
    both (steps_to rates rec (event_osc e) i) _ _
    (λ (xs : List Action). length (xs ++ action.Publish (changed_record rates rec (event_osc e) i) ∷ []) ≤ 2)
    (λ _. omega arith) (λ _. omega arith)

outcome_few : (e : Event) (rates : Rates) (rec : ClockRecord) (answers : List Answer) (o : Outcome)
    → length answers ≤ most_tags → length (outcome_actions e rates rec answers o) ≤ most_actions
outcome_few e rates rec answers (Waiting unanswered deadline) few = omega arith
outcome_few e rates rec answers (Short answered required) few = omega arith
outcome_few e rates rec answers (Split n) few = omega arith
outcome_few e rates rec answers (Adopted n i) few =
    let p = λ (a : Answer). are_apart (carried_to rates (event_osc e) a) i in
    let named = length-map (filter p answers) (λ (a : Answer). noted e (note.False (source.Tag a.tag))) in
    let whole = length-append (named_false e rates answers i) (changes e rates rec i) in
    omega (arith, few, changes_few e rates rec i, whole, named, length-filter p answers, count_by-le-length p answers)

renewal_few : (o : Option ClockRecord) → length (publication o) ≤ most_actions
renewal_few None = omega arith
renewal_few (Some rec) = omega arith

live_few : (h : History) (e : Event) → length (answers_of h) ≤ most_tags → length (live_actions h e) ≤ most_actions
live_few h (event.Read osc) few = omega arith
live_few h (event.Tick osc word) few = renewal_few (renewed_record (rates_of h) (current_record h) osc)
live_few h (event.Query osc tag) few =
    both (is_asked (queries_of h) tag) _ _ AreFew (λ _. omega arith)
    (λ _. both (is_full (queries_of h)) _ _ AreFew (λ _. omega arith) (λ _. omega arith))
live_few h (event.Source osc tag i) few =
    both (is_some (open_query (queries_of h) (answers_of h) tag)) _ _ AreFew (λ _. omega arith) (λ _. omega arith)
live_few h (event.Adopt osc required) few =
    outcome_few (event.Adopt osc required) (rates_of h) (current_record h) (answers_of h)
    (outcome (rates_of h) (answers_of h) required osc) few
live_few h (event.Stream osc peer bytes) few = omega arith
live_few h (event.Gram osc peer bytes) few = omega arith
live_few h (event.Lost osc peer) few = omega arith
live_few h (event.Unsent osc peer) few = omega arith
live_few h (event.Ask osc conn bytes) few = omega arith

regressed_few : (h : History) (e : Event) → length (regressed_actions h e) ≤ most_actions
regressed_few h (event.Read osc) = omega arith
regressed_few h (event.Tick osc word) = omega arith
regressed_few h (event.Query osc tag) = omega arith
regressed_few h (event.Source osc tag i) = omega arith
regressed_few h (event.Adopt osc required) = omega arith
regressed_few h (event.Stream osc peer bytes) = omega arith
regressed_few h (event.Gram osc peer bytes) = omega arith
regressed_few h (event.Lost osc peer) = omega arith
regressed_few h (event.Unsent osc peer) = omega arith
regressed_few h (event.Ask osc conn bytes) = omega arith

-- an event of a node gives few actions
pub actions_few : (node : Node) (h : History) (e : Event) → StandsFor node h → length (actions_of h e) ≤ most_actions
unfolding actions_of
actions_few node h e s =
    let same : length node.round.answers.items ≡ length (answers_of h) =
    sym (length-map node.round.answers.items answer_kept)
    ∙ ap (λ (xs : List Answer). length xs) s.sync.round.answers ∙ length-map (answers_of h) without_place in
    both (is_live h e) _ _ AreFew
    (λ _. live_few h e (omega (arith, same, answers_few node.round h s.sync.round)))
    (λ _. regressed_few h e)
