-- The changes of the clock are in their ranges.
use Rattle.std.proofs.Common.{◌≡◌, ℕ, ℤ, true, List, [], ◌∷◌, ◌++◌, refl, ap, ◌∙◌, subst}
use Rattle.std.specs.Prelude.{◌≤ℤ◌, All, Contains, is_some}
use Rattle.std.proofs.lemmas.List.Elements.{All-nil, All-cons, All-append, All-contains}
use Rattle.slew_clock.specs.declared.rates.Rates.{Rates}
use Rattle.slew_clock.specs.declared.record.ClockRecord.{ClockRecord}
use Rattle.slew_clock.specs.Record.{IsSound}
use Rattle.slew_clock.specs.Change.{IsInRange}
use Rattle.clerk.specs.Outcome.{Outcome, Waiting, Short, Split, Adopted}
use Rattle.roster.specs.RosterData.{RosterData}
use Rattle.dts_capture.specs.declared.event.Event.{Event}
use Rattle.dts_capture.specs.declared.event.Event.TheVariants as event
use Rattle.dts_capture.specs.declared.action.Action.{Action}
use Rattle.dts_capture.specs.declared.action.Action.TheVariants as action
use Rattle.dts_capture.specs.declared.action.NoteKind.{NoteKind}
use Rattle.dts_capture.specs.declared.action.NoteKind.TheVariants as note
use Rattle.dts_capture.specs.declared.action.FalseSource.TheVariants as source
use Rattle.sync_rules.specs.History.{Settings, Start, event_osc, published, current_record, first_record}
use Rattle.sync_rules.specs.Rounds.{Answer, queries_of, answers_of, is_asked, is_full, open_query, carried_to, are_apart, outcome as outcome_alone}
use Rattle.sync_rules.specs.Rules.{rates_of, noted, live_actions, named_false, changes, steps_to, outcome_actions}
use Rattle.sync_rules.specs.Ranges.{IsInRange as HistoryInRange}
use Rattle.sync_rules.proofs.Choices.{both, only_one}
use Rattle.sync_rules.proofs.Changes.{published-append}
use Rattle.sync_rules.proofs.Moments.{answers_are as answers_are_alone}
use Rattle.sync_rules.proofs.Standing.{outcome_adopted, adopted_in_range as adopted_in_range_alone}
use Rattle.sync_rules.proofs.Readings.{every}
use Rattle.node_rules.specs.History.{Finding, NodeHistory, Began, Next, roster_of, bare, found_in}
use Rattle.node_rules.specs.Rounds.{Round, outcome_of}
use Rattle.node_rules.specs.Ending.{closed_in}
use Rattle.node_rules.specs.Rules.{IsRuled, actions_at}
use Rattle.node_safety.specs.World.{IsPositionOf}
use Rattle.node_safety.specs.Safety.{IsAdoption, LogsAdoption, ChangesAreInRange}
use Rattle.node_safety.proofs.Courses.{is_plain_kind, is_plain_action, IsDirect, IsLiveSync, Steps, steps_of}
use Rattle.node_safety.proofs.Courses.Move.{renewed, ended}
use Rattle.node_safety.proofs.Courses.Steps.{moved}
use Rattle.node_safety.proofs.Walks.{course}
use Rattle.node_safety.proofs.Records.{Ground, first_stage, adoption_stage, stage_of, stage_in_range, adoption_publishes, event_bound, ground_of, stands}
use Rattle.node_safety.proofs.Positions.{ruled_position, range_position, bare_position}
use Rattle.node_safety.proofs.Given.{HoldsOfAdoption, given_all, only, filtered}
use Rattle.sync_rules.proofs.Positions.{same_settings}

-- an action changes the clock within its ranges
pub record IsWithin (rates : Rates) (a : Action) : Type 0 where
  pub records : (rec : ClockRecord) → a ≡ action.Publish rec → IsSound rates rec
  pub adopted : (i : ℤ × ℤ) → LogsAdoption a i → IsInRange i × (i.0 ≤ℤ i.1)

-- ---- what changes nothing
plain_kind_adopts_none : (kind : NoteKind) (i : ℤ × ℤ) → is_plain_kind kind ≡ true → IsAdoption kind i → ⊥
plain_kind_adopts_none (note.Adopted n lo hi) i is adoption = cc
plain_kind_adopts_none _ i is adoption = adoption

plain_is_within : (rates : Rates) (a : Action) → is_plain_action a ≡ true → IsWithin rates a
plain_is_within rates (action.Log n) is =
    record { records = λ rec same. cc; adopted = λ i logs. absurd (plain_kind_adopts_none n.kind i is logs) }
plain_is_within rates (action.Publish rec) is = cc
plain_is_within rates (action.Send osc peer octets) is = record { records = λ rec same. cc; adopted = λ i logs. absurd logs }
plain_is_within rates (action.Close osc peer) is = record { records = λ rec same. cc; adopted = λ i logs. absurd logs }

note_is_within : (rates : Rates) (e : Event) (kind : NoteKind) → ((i : ℤ × ℤ) → IsAdoption kind i → ⊥) → IsWithin rates (noted e kind)
note_is_within rates e kind none = record { records = λ rec same. cc; adopted = λ i logs. absurd (none i logs) }

-- ---- what does
record_is_within : (rates : Rates) (rec : ClockRecord) → IsSound rates rec → IsWithin rates (action.Publish rec)
record_is_within rates rec sound =
    record { records = λ other same. subst (IsSound rates) (published_is rec other same) sound; adopted = λ i logs. absurd logs }
  where
    published_is : (x y : ClockRecord) → action.Publish x ≡ action.Publish y → x ≡ y
    published_is x y same = cc

adoption_is_within : (rates : Rates) (e : Event) (n : ℕ) (i : ℤ × ℤ) → IsInRange i × (i.0 ≤ℤ i.1)
    → IsWithin rates (noted e (note.Adopted n i.0 i.1))
adoption_is_within rates e n i fits =
    record { records = λ rec same. cc; adopted = λ j same. subst (λ k. IsInRange k × (k.0 ≤ℤ k.1)) same fits }

-- ---- a round
round_is_within : (before : NodeHistory) (e : Event) (findings : List Finding) (given : List Action) (round : Round) (n : ℕ) (i : ℤ × ℤ)
    → Ground before e
    → Steps before e findings given → IsLiveSync before e → outcome_of (Next before e findings given) round (event_osc e) ≡ Adopted n i
    → HoldsOfAdoption (IsWithin (rates_of (bare before))) e (Next before e findings given) n i
round_is_within before e findings given round n i ground steps at comes =
    let rates = rates_of (bare before) in
    let h = Next before e findings given in
    let stage = stage_of before e findings given ground steps in
    let fits = stage_in_range before e findings given round n i ground steps at stage comes in
    let closed = closed_in (roster_of h) (found_in h) round in
    let after = stage_of before e _ _ ground (moved findings given _ _ steps (ended round (Adopted n i) at comes refl refl)) in
    record {
      adopted = adoption_is_within rates e n i fits;
      servers =
          every (λ (a : Answer). are_apart (carried_to rates (event_osc e) a) i ≡ true
          → IsWithin rates (noted e (note.False (source.Peer a.tag)))) _
          (λ a apart. note_is_within rates e _ (λ j logs. logs));
      own = λ own is apart. note_is_within rates e _ (λ j logs. logs);
      stepped = note_is_within rates e _ (λ j logs. logs);
      published = record_is_within rates _
          (subst (IsSound rates)
          (published-append (current_record (bare before)) given _
          ∙ adoption_publishes e h (published (current_record (bare before)) given) n i closed)
          after.sound);
    }

-- ---- an event of a direct round
direct_outcome : (before : NodeHistory) (e : Event) (osc required : ℕ) (o : Outcome) → e ≡ event.Adopt osc required → Ground before e
    → IsLiveSync before e
    → outcome_alone (rates_of (bare before)) (answers_of (bare before)) required (event_osc e) ≡ o
    → All (IsWithin (rates_of (bare before)))
    (outcome_actions e (rates_of (bare before)) (current_record (bare before)) (answers_of (bare before)) o)
direct_outcome before e osc required (Waiting u d) is ground at comes = All-nil (IsWithin (rates_of (bare before)))
direct_outcome before e osc required (Short a r) is ground at comes =
    only (IsWithin (rates_of (bare before))) _ (note_is_within _ e _ (λ j logs. logs))
direct_outcome before e osc required (Split n) is ground at comes =
    only (IsWithin (rates_of (bare before))) _ (note_is_within _ e _ (λ j logs. logs))
direct_outcome before e osc required (Adopted n i) is ground at comes =
    let rates = rates_of (bare before) in
    let rec = current_record (bare before) in
    let answers = answers_of (bare before) in
    let P : Action → Type 0 = IsWithin rates in
    let found = outcome_adopted rates answers required (event_osc e) n i comes in
    let fits =
    adopted_in_range_alone (bare before) rates (event_osc e) answers i (event_bound e ground.event)
    (answers_are_alone (bare before) ground.range) found.0 in
    All-cons P _ (named_false e rates answers i ++ changes e rates rec i) (adoption_is_within rates e n i fits)
    (All-append P (named_false e rates answers i) (changes e rates rec i)
    (filtered P (λ a. noted e (note.False (source.Tag a.tag))) (λ a. are_apart (carried_to rates (event_osc e) a) i) answers
    (every (λ (a : Answer). are_apart (carried_to rates (event_osc e) a) i ≡ true → P (noted e (note.False (source.Tag a.tag)))) answers
    (λ a apart. note_is_within rates e _ (λ j logs. logs))))
    (All-append P _ _ (both (steps_to rates rec (event_osc e) i) _ _ (All P) (λ _. only P _ (note_is_within rates e _ (λ j logs. logs)))
    (λ _. All-nil P))
    (only P _ (record_is_within rates _
    (adoption_stage before e rec i ground (first_stage before e ground.stands) at fits.0 fits.1).sound))))

direct_is_within : (before : NodeHistory) (e : Event) → IsDirect e → Ground before e → IsLiveSync before e
    → All (IsWithin (rates_of (bare before))) (live_actions (bare before) e)
direct_is_within before (event.Query osc tag) is ground at =
    let P : Action → Type 0 = IsWithin (rates_of (bare before)) in
    both (is_asked (queries_of (bare before)) tag) _ _ (All P) (λ _. only P _ (note_is_within _ (event.Query osc tag) _ (λ j logs. logs)))
    (λ _. both (is_full (queries_of (bare before))) _ _ (All P)
    (λ _. only P _ (note_is_within _ (event.Query osc tag) _ (λ j logs. logs))) (λ _. All-nil P))
direct_is_within before (event.Source osc tag i) is ground at =
    let P : Action → Type 0 = IsWithin (rates_of (bare before)) in
    both (is_some (open_query (queries_of (bare before)) (answers_of (bare before)) tag)) _ _ (All P) (λ _. All-nil P)
    (λ _. only P _ (note_is_within _ (event.Source osc tag i) _ (λ j logs. logs)))
direct_is_within before (event.Adopt osc required) is ground at =
    direct_outcome before (event.Adopt osc required) osc required
    (outcome_alone (rates_of (bare before)) (answers_of (bare before)) required osc) refl ground at refl
direct_is_within before (event.Tick osc word) is ground at = elim is [ ]
direct_is_within before (event.Stream osc peer octets) is ground at = elim is [ ]
direct_is_within before (event.Gram osc peer octets) is ground at = elim is [ ]
direct_is_within before (event.Lost osc peer) is ground at = elim is [ ]
direct_is_within before (event.Unsent osc peer) is ground at = elim is [ ]
direct_is_within before (event.Read osc) is ground at = elim is [ ]
direct_is_within before (event.Ask osc conn octets) is ground at = elim is [ ]

-- ---- any position
position_is_within : (before : NodeHistory) (e : Event) (findings : List Finding) (given : List Action) → Ground before e
    → Steps before e findings given
    → All (IsWithin (rates_of (bare before))) given
position_is_within before e findings given ground steps =
    let rates = rates_of (bare before) in
    given_all (IsWithin rates) before e findings findings given (record {
      plain = plain_is_within rates;
      renewed = λ now so_far rec steps_now at is.
          record_is_within rates rec
          (subst (IsSound rates) (published-append (current_record (bare before)) so_far (action.Publish rec ∷ []))
          (stage_of before e _ _ ground (moved now so_far [] (action.Publish rec ∷ []) steps_now (renewed rec at is refl refl))).sound);
      adoption =
          λ now so_far round n i steps_now at comes inside ended_so. round_is_within before e now so_far round n i ground steps_now at comes;
      direct = λ at is. direct_is_within before e is ground at;
      read = λ at. note_is_within rates e _ (λ j logs. logs);
    }) (λ f c. c) steps

start_record : (roster : RosterData) (start : Start) → current_record (bare (Began roster start)) ≡ first_record start
unfolding current_record
start_record roster start = refl

position_within : (p : NodeHistory) → IsRuled p → HistoryInRange (bare p) → (a : Action) → Contains (actions_at p) a
    → IsWithin (rates_of (bare p)) a
position_within (Began roster start) ruled range a in_given =
    subst (IsWithin (rates_of (bare (Began roster start)))) (only_one _ a in_given)
    (record_is_within _ (first_record start)
    (subst (IsSound (rates_of (bare (Began roster start)))) (start_record roster start) (stands (Began roster start) ruled range).sound))
position_within (Next before e findings given) ruled range a in_given =
    All-contains (IsWithin (rates_of (bare before))) given a
    (position_is_within before e findings given (ground_of before e ruled.1 range.0 range.1)
    (steps_of before e findings given _ ruled.0 (course before e))) in_given

action_is_within : (h p : NodeHistory) → IsRuled h → HistoryInRange (bare h) → IsPositionOf p h → (a : Action) → Contains (actions_at p) a
    → IsWithin (rates_of (bare h)) a
action_is_within h p ruled range is a in_given =
    subst (λ s. IsWithin s a) (ap (λ (s : Settings). s.rates) (same_settings (bare p) (bare h) (bare_position p h is)))
    (position_within p (ruled_position p h ruled is) (range_position p h range is) a in_given)

pub changes_are_in_range : (history : NodeHistory) → IsRuled history → HistoryInRange (bare history) → ChangesAreInRange history
changes_are_in_range h ruled range = record {
  records = λ p rec is in_given. (action_is_within h p ruled range is (action.Publish rec) in_given).records rec refl;
  adopted = λ p a i is in_given logs. (action_is_within h p ruled range is a in_given).adopted i logs;
}
