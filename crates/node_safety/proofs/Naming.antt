-- Each step of the clock is named in the log, no later than the record that has its number.
use Rattle.std.proofs.Common.{◌≡◌, ◌⊎◌, inl, inr, ℕ, zero, ℤ, ◌+◌, ◌<◌, ◌≤◌, Bool, true, false, cond, List, [], ◌∷◌, ◌++◌, Some, refl, sym, ap, ◌∙◌, subst, arith}
use Rattle.std.specs.Prelude.{Contains, map}
use Rattle.std.proofs.lemmas.Bool.{cases_lt}
use Rattle.std.proofs.lemmas.List.Elements.{Contains-append_left, Contains-append_right}
use Rattle.slew_clock.specs.declared.rates.Rates.{Rates}
use Rattle.slew_clock.specs.declared.record.ClockRecord.{ClockRecord}
use Rattle.slew_clock.specs.Line.{line}
use Rattle.slew_clock.specs.Change.{middle_of, changed_record, anchored_record, stepped_record, renewed_record}
use Rattle.slew_clock.proofs.ClockLaws.{Renewal, renewal}
use Rattle.slew_clock.proofs.ClockLaws.Renewal.{prolonged, resumed}
use Rattle.clerk.specs.Outcome.{Outcome, Waiting, Short, Split, Adopted}
use Rattle.dts_capture.specs.declared.event.Event.{Event}
use Rattle.dts_capture.specs.declared.event.Event.TheVariants as event
use Rattle.dts_capture.specs.declared.action.Action.{Action}
use Rattle.dts_capture.specs.declared.action.Action.TheVariants as action
use Rattle.dts_capture.specs.declared.action.NoteKind.TheVariants as note
use Rattle.sync_rules.specs.History.{History, Then, event_osc, published, current_record}
use Rattle.sync_rules.specs.Rounds.{answers_of, outcome as outcome_alone}
use Rattle.sync_rules.specs.Rules.{rates_of, noted, changes, steps_to, live_actions, outcome_actions, named_false}
use Rattle.sync_rules.specs.Safety.{NamesStep}
use Rattle.sync_rules.proofs.Choices.{both}
use Rattle.sync_rules.proofs.Changes.{Change, published-append}
use Rattle.sync_rules.proofs.Changes.Change.{same, renewal as renews, adoption}
use Rattle.sync_rules.proofs.Naming.{IsNamedIn}
use Rattle.node_rules.specs.History.{Finding, NodeHistory, Began, Next, roster_of, bare, found_in}
use Rattle.node_rules.specs.Rounds.{Round, answers_in, own_at}
use Rattle.node_rules.specs.Ending.{false_servers, false_own, gives_outcome}
use Rattle.node_rules.specs.Rules.{IsRuled, actions_at}
use Rattle.node_safety.proofs.Courses.{Move, Steps, steps_of}
use Rattle.node_safety.proofs.Courses.Move.{plain, asked, answered, renewed, ended, direct, read}
use Rattle.node_safety.proofs.Courses.Steps.{begun, moved}
use Rattle.node_safety.proofs.Walks.{course}
use Rattle.node_safety.proofs.Records.{plain_publish_none, closes_publish_none, adoption_publishes, now_record, direct_change}

-- one of these actions names the step
abbrev pub IsNamedAmong : List Action → ℕ → Type 0
IsNamedAmong given step = (a : Action) × Contains given a × NamesStep a step

-- each step up to a record's is named before a position or among its actions
abbrev AreNamed : NodeHistory → List Action → ClockRecord → Type 0
AreNamed before given rec = (k : ℕ) → 0 < k → k ≤ rec.step → IsNamedIn (bare before) k ⊎ IsNamedAmong given k

step_note : Event → Rates → ClockRecord → ℤ × ℤ → Action
step_note e rates rec i = noted e (note.Step (rec.step + 1) (line rates rec (event_osc e)) (middle_of i))

step_names : (e : Event) (rates : Rates) (rec : ClockRecord) (i : ℤ × ℤ) → NamesStep (step_note e rates rec i) (rec.step + 1)
unfolding step_note
step_names e rates rec i = refl

step_in_changes : (e : Event) (rates : Rates) (rec : ClockRecord) (i : ℤ × ℤ) → steps_to rates rec (event_osc e) i ≡ true
    → Contains (changes e rates rec i) (step_note e rates rec i)
unfolding step_note
step_in_changes e rates rec i steps = first (steps_to rates rec (event_osc e) i) steps
  where
    first : (b : Bool) → b ≡ true
        → Contains (cond b (noted e (note.Step (rec.step + 1) (line rates rec (event_osc e)) (middle_of i)) ∷ []) []
        ++ action.Publish (changed_record rates rec (event_osc e) i) ∷ [])
        (noted e (note.Step (rec.step + 1) (line rates rec (event_osc e)) (middle_of i)))
    first true is = (zero, omega arith, refl)
    first false is = cc

-- a changed record has the step number, or steps to the next
changed_step : (r : Rates) (rec : ClockRecord) (osc : ℕ) (i : ℤ × ℤ)
    → ((changed_record r rec osc i).step ≡ rec.step)
    ⊎ ((steps_to r rec osc i ≡ true) × ((changed_record r rec osc i).step ≡ rec.step + 1))
changed_step r rec osc i =
    both (steps_to r rec osc i) (stepped_record rec osc i) (anchored_record rec osc i)
    (λ (n : ClockRecord). (n.step ≡ rec.step) ⊎ ((steps_to r rec osc i ≡ true) × (n.step ≡ rec.step + 1)))
    (λ steps. inr (steps, refl)) (λ _. inl refl)

renewed_step : (r : Rates) (rec next : ClockRecord) (osc : ℕ) → Renewal r rec osc next → next.step ≡ rec.step
renewed_step r rec next osc (prolonged from early is) = ap (λ (x : ClockRecord). x.step) is
renewed_step r rec next osc (resumed past is) = ap (λ (x : ClockRecord). x.step) is

-- what was named stays so
more_named : (before : NodeHistory) (given further : List Action) (k : ℕ) → IsNamedIn (bare before) k ⊎ IsNamedAmong given k
    → IsNamedIn (bare before) k ⊎ IsNamedAmong (given ++ further) k
more_named before given further k (inl named) = inl named
more_named before given further k (inr (a, in_given, names)) = inr (a, Contains-append_left given further a in_given, names)

same_step : (before : NodeHistory) (given further : List Action) (rec next : ClockRecord) → next.step ≡ rec.step
    → AreNamed before given rec → AreNamed before (given ++ further) next
same_step before given further rec next same_number named k above below =
    more_named before given further k (named k above (omega (arith, same_number)))

same_record : (before : NodeHistory) (given further : List Action) (rec next : ClockRecord) → next ≡ rec → AreNamed before given rec
    → AreNamed before (given ++ further) next
same_record before given further rec next equal named =
    same_step before given further rec next (ap (λ (r : ClockRecord). r.step) equal) named

-- an adoption among the further actions
changed_named : (before : NodeHistory) (e : Event) (given further : List Action) (rates : Rates) (rec next : ClockRecord) (i : ℤ × ℤ)
    → next ≡ changed_record rates rec (event_osc e) i
    → (steps_to rates rec (event_osc e) i ≡ true → Contains further (step_note e rates rec i))
    → AreNamed before given rec → AreNamed before (given ++ further) next
changed_named before e given further rates rec next i becomes logged named k above below =
    elim (changed_step rates rec (event_osc e) i) [
      | inl stays ↦ more_named before given further k (named k above (omega (arith, stays, ap (λ (r : ClockRecord). r.step) becomes)))
      | inr steps ↦ here_or_before (cases_lt rec.step k) steps
    ]
  where
    here_or_before : (rec.step < k) ⊎ (k ≤ rec.step) → (steps_to rates rec (event_osc e) i ≡ true)
        × ((changed_record rates rec (event_osc e) i).step ≡ rec.step + 1)
        → IsNamedIn (bare before) k ⊎ IsNamedAmong (given ++ further) k
    here_or_before (inr small) steps = more_named before given further k (named k above small)
    here_or_before (inl large) steps =
        let number : rec.step + 1 ≡ k = omega (arith, large, below, steps.1, ap (λ (r : ClockRecord). r.step) becomes) in
        inr (
          step_note e rates rec i,
          Contains-append_right given further (step_note e rates rec i) (logged steps.0),
          subst (NamesStep (step_note e rates rec i)) number (step_names e rates rec i),
        )

-- a round's adoption
round_logs : (e : Event) (h : NodeHistory) (n : ℕ) (i : ℤ × ℤ) (closed : List ℕ)
    → steps_to (rates_of (bare h)) (current_record (bare h)) (event_osc e) i ≡ true
    → Contains (gives_outcome e h (Adopted n i) ++ map (action.Close (event_osc e)) closed)
    (step_note e (rates_of (bare h)) (current_record (bare h)) i)
round_logs e h n i closed steps =
    let rates = rates_of (bare h) in
    let rec = current_record (bare h) in
    let s = step_note e rates rec i in
    let falses = false_servers e rates (answers_in (roster_of h) (found_in h)) i in
    let owns = false_own e (own_at h (event_osc e)) i in
    Contains-append_left (gives_outcome e h (Adopted n i)) (map (action.Close (event_osc e)) closed) s
    (Contains-append_right (noted e (note.Adopted n i.0 i.1) ∷ (falses ++ owns)) (changes e rates rec i) s
    (step_in_changes e rates rec i steps))

outcome_named : (before : NodeHistory) (e : Event) (findings : List Finding) (given : List Action) (round : Round) (o : Outcome)
    (closed : List ℕ)
    → AreNamed before given (published (current_record (bare before)) given)
    → AreNamed before (given ++ (gives_outcome e (Next before e findings given) o ++ map (action.Close (event_osc e)) closed))
    (published (published (current_record (bare before)) given)
    (gives_outcome e (Next before e findings given) o ++ map (action.Close (event_osc e)) closed))
outcome_named before e findings given round (Waiting u d) closed named =
    same_record before given _ _ _ (closes_publish_none (published (current_record (bare before)) given) (event_osc e) closed) named
outcome_named before e findings given round (Short a r) closed named =
    same_record before given _ _ _ (closes_publish_none (published (current_record (bare before)) given) (event_osc e) closed) named
outcome_named before e findings given round (Split n) closed named =
    same_record before given _ _ _ (closes_publish_none (published (current_record (bare before)) given) (event_osc e) closed) named
outcome_named before e findings given round (Adopted n i) closed named =
    let h = Next before e findings given in
    let now = now_record before e findings given in
    changed_named before e given _ (rates_of (bare h)) (current_record (bare h)) _ i
    (adoption_publishes e h (published (current_record (bare before)) given) n i closed) (round_logs e h n i closed)
    (subst (AreNamed before given) (sym now) named)

-- a direct round's adoption
direct_logs : (h : History) (osc required n : ℕ) (i : ℤ × ℤ) → outcome_alone (rates_of h) (answers_of h) required osc ≡ Adopted n i
    → steps_to (rates_of h) (current_record h) osc i ≡ true
    → Contains (live_actions h (event.Adopt osc required)) (step_note (event.Adopt osc required) (rates_of h) (current_record h) i)
direct_logs h osc required n i comes steps =
    let e = event.Adopt osc required in
    let s = step_note e (rates_of h) (current_record h) i in
    subst (λ o. Contains (outcome_actions e (rates_of h) (current_record h) (answers_of h) o) s) (sym comes)
    (Contains-append_right (noted e (note.Adopted n i.0 i.1) ∷ named_false e (rates_of h) (answers_of h) i)
    (changes e (rates_of h) (current_record h) i) s
    (step_in_changes e (rates_of h) (current_record h) i steps))

direct_logs_of : (h : History) (e : Event) (required n : ℕ) (i : ℤ × ℤ) → e ≡ event.Adopt (event_osc e) required
    → outcome_alone (rates_of h) (answers_of h) required (event_osc e) ≡ Adopted n i
    → steps_to (rates_of h) (current_record h) (event_osc e) i ≡ true
    → Contains (live_actions h e) (step_note e (rates_of h) (current_record h) i)
direct_logs_of h e required n i is comes steps =
    subst (λ x. Contains (live_actions h x) (step_note x (rates_of h) (current_record h) i)) (sym is)
    (direct_logs h (event_osc e) required n i comes steps)

direct_named : (before : NodeHistory) (e : Event) (next : ClockRecord) → Change (bare before) e next
    → AreNamed before [] (current_record (bare before))
    → AreNamed before (live_actions (bare before) e) next
direct_named before e next (same is) named =
    same_step before [] (live_actions (bare before) e) (current_record (bare before)) next (ap (λ (r : ClockRecord). r.step) is) named
direct_named before e next (renews live sync made) named =
    same_step before [] (live_actions (bare before) e) (current_record (bare before)) next
    (renewed_step (rates_of (bare before)) (current_record (bare before)) next (event_osc e)
    (renewal (rates_of (bare before)) (current_record (bare before)) (event_osc e) next made)) named
direct_named before e next (adoption required n i live is comes becomes) named =
    changed_named before e [] (live_actions (bare before) e) (rates_of (bare before)) (current_record (bare before)) next i becomes
    (direct_logs_of (bare before) e required n i is comes) named

move_named : (before : NodeHistory) (e : Event) (findings : List Finding) (given : List Action) (more : List Finding)
    (further : List Action)
    → AreNamed before [] (current_record (bare before)) → AreNamed before given (published (current_record (bare before)) given)
    → Move before e (Next before e findings given) more further
    → AreNamed before (given ++ further) (published (published (current_record (bare before)) given) further)
move_named before e findings given more further first named (plain f g) =
    same_record before given further _ _ (plain_publish_none (published (current_record (bare before)) given) further g) named
move_named before e findings given more further first named (asked at f g) =
    same_record before given further _ _ (plain_publish_none (published (current_record (bare before)) given) further g) named
move_named before e findings given more further first named (answered peer lo hi at low high f g) =
    same_record before given further _ _ (ap (published (published (current_record (bare before)) given)) g) named
move_named before e findings given more further first named (renewed rec at is f g) =
    let now = published (current_record (bare before)) given in
    let made : renewed_record (rates_of (bare before)) now (event_osc e) ≡ Some rec =
    subst (λ r. renewed_record (rates_of (bare before)) r (event_osc e) ≡ Some rec) (now_record before e findings given) is in
    same_step before given further now (published now further)
    (ap (λ acts. (published now acts).step) g
    ∙ renewed_step (rates_of (bare before)) now rec (event_osc e) (renewal (rates_of (bare before)) now (event_osc e) rec made))
    named
move_named before e findings given more further first named (ended round o at is f g) =
    subst (λ acts. AreNamed before (given ++ acts) (published (published (current_record (bare before)) given) acts)) (sym g)
    (outcome_named before e findings given round o _ named)
move_named before e findings given more further first named (direct at is start f g) =
    let none : given ≡ [] = ap actions_at start in
    subst (λ before_it. AreNamed before (before_it ++ further) (published (published (current_record (bare before)) before_it) further))
    (sym none)
    (subst (λ acts. AreNamed before acts (published (current_record (bare before)) acts)) (sym g)
    (direct_named before e _ (direct_change before e at) first))
move_named before e findings given more further first named (read at f g) =
    same_record before given further _ _ (ap (published (published (current_record (bare before)) given)) g) named

steps_named : (before : NodeHistory) (e : Event) (findings : List Finding) (given : List Action)
    → AreNamed before [] (current_record (bare before))
    → Steps before e findings given → AreNamed before given (published (current_record (bare before)) given)
steps_named before e [] [] first begun = first
steps_named before e _ _ first (moved findings given more further steps move) =
    subst (AreNamed before (given ++ further)) (sym (published-append (current_record (bare before)) given further))
    (move_named before e findings given more further first (steps_named before e findings given first steps) move)

-- named before the position is named in the history, and so is what the position names
named_in : (before : NodeHistory) (e : Event) (findings : List Finding) (given : List Action) (k : ℕ) → IsNamedIn (bare before) k
    ⊎ IsNamedAmong given k
    → IsNamedIn (bare (Next before e findings given)) k
named_in before e findings given k (inl (position, is, a, in_given, names)) = (position, inr is, a, in_given, names)
named_in before e findings given k (inr (a, in_given, names)) = (Then (bare before) e given, inl refl, a, in_given, names)

abbrev IsStart : NodeHistory → Type 0
IsStart (Began roster start) = Unit {0}
IsStart (Next before e findings given) = ⊥

start_step : (h : NodeHistory) → IsStart h → (current_record (bare h)).step ≡ 0
unfolding current_record
start_step (Began roster start) is = refl
start_step (Next before e findings given) is = absurd is

pub named_steps : (h : NodeHistory) → IsRuled h → (k : ℕ) → 0 < k → k ≤ (current_record (bare h)).step → IsNamedIn (bare h) k
named_steps (Began roster start) ruled k above below = absurd (omega (arith, start_step (Began roster start) tt))
named_steps (Next before e findings given) ruled k above below =
    let now = now_record before e findings given in
    named_in before e findings given k
    (steps_named before e findings given (λ j positive small. inl (named_steps before ruled.1 j positive small))
    (steps_of before e findings given _ ruled.0 (course before e)) k above (omega (arith, ap (λ (r : ClockRecord). r.step) now)))
