-- A round ends alike.
use mathlib.Core.Path.{fun_ext}
use Rattle.std.proofs.Common.{◌≡◌, ℕ, Bool, not, List, [], ◌∷◌, ◌++◌, Option, Some, None, refl, sym, ap, ap₂, ◌∙◌, subst}
use Rattle.std.specs.Prelude.{ℤ, ◌&&◌, nat_lt, if◌then◌else◌, map, filter, length}
use Rattle.slew_clock.specs.declared.rates.Rates.{Rates}
use Rattle.slew_clock.specs.declared.record.ClockRecord.{ClockRecord}
use Rattle.clerk.specs.Outcome.{Outcome, Waiting, Short, Split, Adopted, concluded}
use Rattle.roster.specs.RosterData.{RosterData}
use Rattle.server_roles.specs.Own.{own_interval}
use Rattle.dts_capture.specs.declared.event.Event.{Event}
use Rattle.dts_capture.specs.declared.action.Action.{Action}
use Rattle.dts_capture.specs.declared.action.Action.TheVariants as action
use Rattle.dts_capture.specs.declared.action.NoteKind.TheVariants as note
use Rattle.dts_capture.specs.declared.action.FalseSource.TheVariants as source
use Rattle.sync_rules.specs.History.{event_osc}
use Rattle.sync_rules.specs.Rounds.{Answer, carried_to, are_apart}
use Rattle.sync_rules.specs.Rules.{rates_of, noted, changes}
use Rattle.node_rules.specs.History.{Finding, RoundEnded, PeerEnded, NodeHistory, roster_of, bare, gives, found_in, Found}
use Rattle.node_rules.specs.Rounds.{Round, open_round, is_unanswered, unanswered_in, answers_in, own_at, outcome_of}
use Rattle.node_rules.specs.Asking.{kind_of, is_ntp}
use Rattle.node_rules.specs.Ending.{false_servers, false_own, gives_outcome, closed_in, concludes, evaluates_open, evaluates}
use Rattle.node_rules.specs.Taking.{is_refusal}
use Rattle.std.specs.List.{list_any}
use Rattle.sync_apart.proofs.Plain.{in_front}
use Rattle.sync_apart.proofs.Lookups.{plain_answer, open_plain, unanswered_plain, answers_plain}
use Rattle.sync_apart.proofs.Direct.{carried_so, told_so}
use Rattle.sync_apart.proofs.Steps.{InStep, same_roster, same_clock, same_found, same_rates, looks, giving}

pub same_round : {e : Event} {h k : NodeHistory} → InStep e h k → open_round (found_in h) ≡ open_round (found_in k)
same_round same = looks open_round open_plain same

pub same_unanswered : {e : Event} {h k : NodeHistory} → InStep e h k → (peer : ℕ)
    → is_unanswered (found_in h) peer ≡ is_unanswered (found_in k) peer
same_unanswered same peer = looks (λ (found : List Found). is_unanswered found peer) (λ found. unanswered_plain found peer) same

-- the answers of the round are the same, but for their positions
pub same_answers : {e : Event} {h k : NodeHistory} → InStep e h k
    → map plain_answer (answers_in (roster_of h) (found_in h)) ≡ map plain_answer (answers_in (roster_of k) (found_in k))
same_answers {e} {h} {k} same =
    answers_plain (roster_of h) (found_in h)
    ∙ ap₂ answers_in (same_roster same) (same_found same)
    ∙ sym (answers_plain (roster_of k) (found_in k))

unanswered_alike : {e : Event} {h k : NodeHistory} → InStep e h k → (round : Round)
    → unanswered_in (found_in h) round ≡ unanswered_in (found_in k) round
unanswered_alike same round = ap (λ (test : ℕ → Bool). filter test round.sources) (fun_ext (same_unanswered same))

closed_alike : {e : Event} {h k : NodeHistory} → InStep e h k → (round : Round)
    → closed_in (roster_of h) (found_in h) round ≡ closed_in (roster_of k) (found_in k) round
closed_alike same round =
    ap₂ (λ (r : RosterData) (peers : List ℕ). filter (λ peer. not (is_ntp (kind_of r peer))) peers)
    (same_roster same) (unanswered_alike same round)

own_alike : {e : Event} {h k : NodeHistory} → InStep e h k → (osc : ℕ) → own_at h osc ≡ own_at k osc
own_alike same osc = ap₂ (λ (r : RosterData) (rec : ClockRecord). own_interval r rec osc) (same_roster same) (same_clock same)

-- ---- what comes of it
carried_alike : {e : Event} {h k : NodeHistory} → InStep e h k → (osc : ℕ)
    → map (carried_to (rates_of (bare h)) osc) (answers_in (roster_of h) (found_in h))
    ≡ map (carried_to (rates_of (bare k)) osc) (answers_in (roster_of k) (found_in k))
carried_alike {e} {h} {k} same osc =
    carried_so (rates_of (bare h)) osc (answers_in (roster_of h) (found_in h))
    ∙ ap₂ (λ (rates : Rates) (answers : List Answer). map (carried_to rates osc) answers) (same_rates same) (same_answers same)
    ∙ sym (carried_so (rates_of (bare k)) osc (answers_in (roster_of k) (found_in k)))

outcome_alike : {e : Event} {h k : NodeHistory} → InStep e h k → (round : Round) (osc : ℕ)
    → outcome_of h round osc ≡ outcome_of k round osc
outcome_alike same round osc =
    let unanswered = unanswered_alike same round in
    let roster = same_roster same in
    let carried = carried_alike same osc in
    let own = own_alike same osc in
    λ i. if nat_lt osc round.deadline && nat_lt 0 (length (unanswered i)) then Waiting (length (unanswered i)) round.deadline
    else concluded (roster i).settings.required (carried i) (own i)

-- ---- what it gives
false_alike : {e : Event} {h k : NodeHistory} → InStep e h k → (i : ℤ × ℤ)
    → false_servers e (rates_of (bare h)) (answers_in (roster_of h) (found_in h)) i
    ≡ false_servers e (rates_of (bare k)) (answers_in (roster_of k) (found_in k)) i
false_alike {e} {h} {k} same i =
    false_so (rates_of (bare h)) (answers_in (roster_of h) (found_in h))
    ∙ ap₂ (λ (rates : Rates) (answers : List Answer). false_servers e rates answers i) (same_rates same) (same_answers same)
    ∙ sym (false_so (rates_of (bare k)) (answers_in (roster_of k) (found_in k)))
  where
    false_so : (rates : Rates) (answers : List Answer)
        → false_servers e rates answers i ≡ false_servers e rates (map plain_answer answers) i
    false_so rates answers =
        told_so (λ a. noted e (note.False (source.Peer a.tag))) (λ a. are_apart (carried_to rates (event_osc e) a) i)
        (λ a. refl) (λ a. refl) answers

gives_alike : {e : Event} {h k : NodeHistory} → InStep e h k → (outcome : Outcome)
    → gives_outcome e h outcome ≡ gives_outcome e k outcome
gives_alike same (Waiting unanswered deadline) = refl
gives_alike same (Short answered required) = refl
gives_alike same (Split n) = refl
gives_alike {e} {h} {k} same (Adopted n i) =
    let falses = false_alike same i in
    let own = own_alike same (event_osc e) in
    let rates = same_rates same in
    let clock = same_clock same in
    λ j. noted e (note.Adopted n i.0 i.1) ∷ falses j ++ false_own e (own j) i ++ changes e (rates j) (clock j) i

-- ---- the end
-- what is found and given at the end of a round
abbrev found_at_end : Event → Round → NodeHistory → Outcome → List Finding
found_at_end e round history outcome =
    RoundEnded outcome (answers_in (roster_of history) (found_in history)) (own_at history (event_osc e))
    ∷ map PeerEnded (closed_in (roster_of history) (found_in history) round)

abbrev given_at_end : Event → Round → NodeHistory → Outcome → List Action
given_at_end e round history outcome =
    gives_outcome e history outcome ++ map (action.Close (event_osc e)) (closed_in (roster_of history) (found_in history) round)

ends_alike : {e : Event} {h k : NodeHistory} → InStep e h k → (round : Round) (outcome : Outcome) → InStep e
    (gives h (found_at_end e round h outcome) (given_at_end e round h outcome))
    (gives k (found_at_end e round k outcome) (given_at_end e round k outcome))
ends_alike {e} {h} {k} same round outcome =
    let closed = closed_alike same round in
    let own = own_alike same (event_osc e) in
    let given = gives_alike same outcome in
    giving e h k (found_at_end e round h outcome) (found_at_end e round k outcome)
    (given_at_end e round h outcome) (given_at_end e round k outcome) same
    (λ osc older i. in_front osc (RoundEnded outcome [] (own i) ∷ map PeerEnded (closed i)) older)
    (λ i. list_any is_refusal (map PeerEnded (closed i)))
    (λ i. given i ++ map (action.Close (event_osc e)) (closed i))

concluding : {e : Event} {h k : NodeHistory} → InStep e h k → (round : Round) (outcome : Outcome)
    → InStep e (concludes e round h outcome) (concludes e round k outcome)
concluding same round (Waiting unanswered deadline) = same
concluding same round (Short answered required) = ends_alike same round (Short answered required)
concluding same round (Split n) = ends_alike same round (Split n)
concluding same round (Adopted n i) = ends_alike same round (Adopted n i)

evaluating_open : {e : Event} {h k : NodeHistory} → InStep e h k → (round : Option Round)
    → InStep e (evaluates_open e h round) (evaluates_open e k round)
evaluating_open same None = same
evaluating_open {e} {h} {k} same (Some round) =
    subst (λ outcome. InStep e (evaluates_open e h (Some round)) (concludes e round k outcome)) (outcome_alike same round (event_osc e))
    (concluding same round (outcome_of h round (event_osc e)))

pub evaluating : {e : Event} {h k : NodeHistory} → InStep e h k → InStep e (evaluates e h) (evaluates e k)
evaluating {e} {h} {k} same =
    subst (λ round. InStep e (evaluates e h) (evaluates_open e k round)) (same_round same) (evaluating_open same (open_round (found_in h)))
