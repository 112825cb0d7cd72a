-- The current record of a node's history is sound, and records follow on one another, also within a position.
use Rattle.std.proofs.Common.{◌≡◌, inl, inr, ℕ, ℤ, ◌≤◌, true, cond, List, [], ◌∷◌, ◌++◌, Option, Some, None, refl, sym, ap, ◌∙◌, subst, arith}
use Rattle.std.specs.Prelude.{◌≤ℤ◌, ◌||◌, is_none, map}
use Rattle.std.specs.List.{list_all}
use Rattle.slew_clock.specs.declared.limits.TheConstants.{GREATEST_OSC}
use Rattle.slew_clock.specs.declared.rates.Rates.{Rates}
use Rattle.slew_clock.specs.declared.record.ClockRecord.{ClockRecord}
use Rattle.slew_clock.specs.Record.{IsSound}
use Rattle.slew_clock.specs.Change.{IsInRange, changed_record, renewed_record, is_far}
use Rattle.slew_clock.specs.Clock.{IsNext}
use Rattle.slew_clock.specs.Clock.IsNext.{anchored, stepped, renewed as made_new}
use Rattle.slew_clock.proofs.ChangeLaws.{changed_sound, prolonged_sound, resumed_sound}
use Rattle.slew_clock.proofs.ClockLaws.{Renewal, renewal, IsSince, IsSince-same, IsSince-after, IsSince-next}
use Rattle.slew_clock.proofs.ClockLaws.Renewal.{prolonged, resumed}
use Rattle.clerk.specs.Outcome.{Outcome, Waiting, Short, Split, Adopted}
use Rattle.dts_capture.specs.declared.event.Event.{Event}
use Rattle.dts_capture.specs.declared.event.Event.TheVariants as event
use Rattle.dts_capture.specs.declared.action.Action.{Action}
use Rattle.dts_capture.specs.declared.action.Action.TheVariants as action
use Rattle.dts_capture.specs.declared.action.NoteKind.TheVariants as note
use Rattle.dts_capture.specs.declared.action.FalseSource.TheVariants as source
use Rattle.sync_rules.specs.History.{History, Then, Sync, event_osc, published, current_record}
use Rattle.sync_rules.specs.Live.{live_osc, is_live}
use Rattle.sync_rules.specs.Rounds.{Answer, are_apart}
use Rattle.sync_rules.specs.Rules.{rates_of, noted, changes, live_actions, regressed_actions, actions_of}
use Rattle.sync_rules.specs.Ranges.{IsInRange as HistoryInRange, IsEventInRange}
use Rattle.sync_rules.proofs.Choices.{both}
use Rattle.sync_rules.proofs.Changes.{Change, change_of, published-append}
use Rattle.sync_rules.proofs.Standing.{Stands, Steps as Stepping, change_steps, stands as stands_alone}
use Rattle.sync_rules.proofs.Moments.{sync_live, sync_grows}
use Rattle.node_rules.specs.History.{Finding, NodeHistory, Began, Next, roster_of, bare, found_in}
use Rattle.node_rules.specs.Rounds.{Round, answers_in, own_at, outcome_of}
use Rattle.node_rules.specs.Ending.{false_servers, false_own, gives_outcome}
use Rattle.node_rules.specs.Rules.{IsRuled, actions_at}
use Rattle.node_safety.proofs.Courses.{both_true, is_plain_kind, is_plain_action, IsLiveSync, Move, Steps, steps_of}
use Rattle.node_safety.proofs.Courses.Move.{plain, asked, answered, renewed, ended, direct, read}
use Rattle.node_safety.proofs.Courses.Steps.{begun, moved}
use Rattle.node_safety.proofs.Walks.{course}
use Rattle.node_safety.proofs.Answering.{AreTimely, so_far_timely, found_is_timely, answers_are}
use Rattle.node_safety.proofs.Adopting.{adopts_of, adopted_in_range}

-- ---- what a step publishes
pub plain_publish_none : (rec : ClockRecord) (given : List Action) → list_all is_plain_action given ≡ true → published rec given ≡ rec
plain_publish_none rec [] h = refl
plain_publish_none rec (action.Publish next ∷ given) h = cc
plain_publish_none rec (action.Log n ∷ given) h =
    plain_publish_none rec given (both_true (is_plain_kind n.kind) (list_all is_plain_action given) h).1
plain_publish_none rec (action.Send osc peer octets ∷ given) h = plain_publish_none rec given h
plain_publish_none rec (action.Close osc peer ∷ given) h = plain_publish_none rec given h

pub closes_publish_none : (rec : ClockRecord) (osc : ℕ) (closed : List ℕ) → published rec (map (action.Close osc) closed) ≡ rec
closes_publish_none rec osc [] = refl
closes_publish_none rec osc (peer ∷ closed) = closes_publish_none rec osc closed

notes_publish_none : (e : Event) (rec : ClockRecord) (answers : List Answer)
    → published rec (map (λ a. noted e (note.False (source.Peer a.tag))) answers) ≡ rec
notes_publish_none e rec [] = refl
notes_publish_none e rec (a ∷ answers) = notes_publish_none e rec answers

own_publishes_none : (e : Event) (rec : ClockRecord) (own : Option (ℤ × ℤ)) (i : ℤ × ℤ) → published rec (false_own e own i) ≡ rec
own_publishes_none e rec None i = refl
own_publishes_none e rec (Some own) i = both (are_apart own i) _ _ (λ acts. published rec acts ≡ rec) (λ _. refl) (λ _. refl)

changes_end : (e : Event) (rates : Rates) (now other : ClockRecord) (i : ℤ × ℤ) → published other (changes e rates now i)
    ≡ changed_record rates now (event_osc e) i
changes_end e rates now other i =
    both (is_none now.anchor || is_far rates now (event_osc e) i) _ _
    (λ acts. published other (acts ++ action.Publish (changed_record rates now (event_osc e) i) ∷ [])
    ≡ changed_record rates now (event_osc e) i) (λ _. refl) (λ _. refl)

-- the record after an adoption, and the closes behind it
pub adoption_publishes : (e : Event) (h : NodeHistory) (rec : ClockRecord) (n : ℕ) (i : ℤ × ℤ) (closed : List ℕ)
    → published rec (gives_outcome e h (Adopted n i) ++ map (action.Close (event_osc e)) closed)
    ≡ changed_record (rates_of (bare h)) (current_record (bare h)) (event_osc e) i
adoption_publishes e h rec n i closed =
    let rates = rates_of (bare h) in
    let now = current_record (bare h) in
    let falses = false_servers e rates (answers_in (roster_of h) (found_in h)) i in
    let owns = false_own e (own_at h (event_osc e)) i in
    published-append rec (gives_outcome e h (Adopted n i)) (map (action.Close (event_osc e)) closed)
    ∙ closes_publish_none (published rec (gives_outcome e h (Adopted n i))) (event_osc e) closed
    ∙ published-append rec (falses ++ owns) (changes e rates now i)
    ∙ changes_end e rates now (published rec (falses ++ owns)) i

-- ---- a stage of a position
-- what a position stands on
pub record Ground (before : NodeHistory) (e : Event) : Type 0 where
  pub stands : Stands (bare before)
  pub range : HistoryInRange (bare before)
  pub event : IsEventInRange e
  pub timely : AreTimely (bare before) (found_in before)

-- the record that is current while a position comes about
pub record Stage (before : NodeHistory) (e : Event) (rec : ClockRecord) : Type 0 where
  pub since : IsSince (rates_of (bare before)) (current_record (bare before)) rec
  pub sound : IsSound (rates_of (bare before)) rec
  pub born : rec.born ≤ live_osc Sync (Then (bare before) e [])

same_stage : (before : NodeHistory) (e : Event) (rec next : ClockRecord) → next ≡ rec → Stage before e rec → Stage before e next
same_stage before e rec next same stage = subst (Stage before e) (sym same) stage

pub first_stage : (before : NodeHistory) (e : Event) → Stands (bare before) → Stage before e (current_record (bare before))
first_stage before e stands = record {
  since = IsSince-same (rates_of (bare before)) (current_record (bare before));
  sound = stands.sound;
  born = omega (arith, stands.born, sync_grows (bare before) e []);
}

next_stage : (before : NodeHistory) (e : Event) (rec next : ClockRecord) → Stage before e rec → IsLiveSync before e
    → IsNext (rates_of (bare before)) rec next
    → IsSound (rates_of (bare before)) next → next.born ≡ event_osc e → Stage before e next
next_stage before e rec next stage at is_next sound born = record {
  since =
      IsSince-after (rates_of (bare before)) (current_record (bare before)) rec next stage.since
      (IsSince-next (rates_of (bare before)) rec next stage.sound sound is_next);
  sound = sound;
  born = omega (arith, born, sync_live (bare before) e [] at.sync at.live);
}

pub event_bound : (e : Event) → IsEventInRange e → event_osc e ≤ GREATEST_OSC
event_bound (event.Source osc tag i) range = range.0
event_bound (event.Tick osc word) range = range
event_bound _ range = range

pub stage_before : (before : NodeHistory) (e : Event) (rec : ClockRecord) → Stage before e rec → IsLiveSync before e
    → rec.born ≤ event_osc e
stage_before before e rec stage at = omega (arith, stage.born, sync_live (bare before) e [] at.sync at.live)

renewal_stage : (before : NodeHistory) (e : Event) (rec next : ClockRecord) → Ground before e → Stage before e rec → IsLiveSync before e
    → renewed_record (rates_of (bare before)) rec (event_osc e) ≡ Some next → Renewal (rates_of (bare before)) rec (event_osc e) next
    → Stage before e next
renewal_stage before e rec next ground stage at made (prolonged begun_so early is) =
    let after = stage_before before e rec stage at in
    next_stage before e rec next stage at (made_new (event_osc e) after made)
    (subst (IsSound (rates_of (bare before))) (sym is)
    (prolonged_sound (rates_of (bare before)) rec (event_osc e) stage.sound after begun_so (event_bound e ground.event)))
    (ap (λ (r : ClockRecord). r.born) is)
renewal_stage before e rec next ground stage at made (resumed past is) =
    let after = stage_before before e rec stage at in
    next_stage before e rec next stage at (made_new (event_osc e) after made)
    (subst (IsSound (rates_of (bare before))) (sym is)
    (resumed_sound (rates_of (bare before)) rec (event_osc e) stage.sound after past (event_bound e ground.event)))
    (ap (λ (r : ClockRecord). r.born) is)

changed_next : (r : Rates) (rec : ClockRecord) (osc : ℕ) (i : ℤ × ℤ) → rec.born ≤ osc → IsNext r rec (changed_record r rec osc i)
changed_next r rec osc i after =
    both (is_none rec.anchor || is_far r rec osc i) _ _ (IsNext r rec) (λ _. stepped osc i after refl) (λ _. anchored osc i after refl)

changed_born : (r : Rates) (rec : ClockRecord) (osc : ℕ) (i : ℤ × ℤ) → (changed_record r rec osc i).born ≡ osc
changed_born r rec osc i = both (is_none rec.anchor || is_far r rec osc i) _ _ (λ (n : ClockRecord). n.born ≡ osc) (λ _. refl) (λ _. refl)

pub adoption_stage : (before : NodeHistory) (e : Event) (rec : ClockRecord) (i : ℤ × ℤ) → Ground before e → Stage before e rec
    → IsLiveSync before e → IsInRange i → i.0 ≤ℤ i.1
    → Stage before e (changed_record (rates_of (bare before)) rec (event_osc e) i)
adoption_stage before e rec i ground stage at range ordered =
    let after = stage_before before e rec stage at in
    next_stage before e rec _ stage at (changed_next (rates_of (bare before)) rec (event_osc e) i after)
    (changed_sound (rates_of (bare before)) rec (event_osc e) i stage.sound after (event_bound e ground.event) range ordered)
    (changed_born (rates_of (bare before)) rec (event_osc e) i)

-- the record after a position's first actions
pub now_record : (before : NodeHistory) (e : Event) (findings : List Finding) (given : List Action)
    → current_record (bare (Next before e findings given)) ≡ published (current_record (bare before)) given
unfolding current_record
now_record before e findings given = refl

-- what a round adopts at a stage is in its range
pub stage_in_range : (before : NodeHistory) (e : Event) (findings : List Finding) (given : List Action) (round : Round) (n : ℕ)
    (i : ℤ × ℤ)
    → Ground before e → Steps before e findings given → IsLiveSync before e
    → Stage before e (published (current_record (bare before)) given)
    → outcome_of (Next before e findings given) round (event_osc e) ≡ Adopted n i → IsInRange i × (i.0 ≤ℤ i.1)
stage_in_range before e findings given round n i ground steps at stage is =
    let h = Next before e findings given in
    let now : Stage before e (current_record (bare h)) = subst (Stage before e) (sym (now_record before e findings given)) stage in
    adopted_in_range h (Then (bare before) e given) (event_osc e) i (event_bound e ground.event)
    (answers_are (Then (bare before) e given) (roster_of h) (found_in h)
    (so_far_timely before e findings given given steps ground.timely))
    now.sound (stage_before before e (current_record (bare h)) now at) (adopts_of h round (event_osc e) n i is)

outcome_stage : (before : NodeHistory) (e : Event) (findings : List Finding) (given : List Action) (round : Round) (o : Outcome)
    (closed : List ℕ)
    → Ground before e → Steps before e findings given → IsLiveSync before e
    → Stage before e (published (current_record (bare before)) given)
    → outcome_of (Next before e findings given) round (event_osc e) ≡ o
    → Stage before e (published (published (current_record (bare before)) given)
    (gives_outcome e (Next before e findings given) o ++ map (action.Close (event_osc e)) closed))
outcome_stage before e findings given round (Waiting u d) closed ground steps at stage is =
    same_stage before e _ _ (closes_publish_none _ (event_osc e) closed) stage
outcome_stage before e findings given round (Short a r) closed ground steps at stage is =
    same_stage before e _ _ (closes_publish_none _ (event_osc e) closed) stage
outcome_stage before e findings given round (Split n) closed ground steps at stage is =
    same_stage before e _ _ (closes_publish_none _ (event_osc e) closed) stage
outcome_stage before e findings given round (Adopted n i) closed ground steps at stage is =
    let fits = stage_in_range before e findings given round n i ground steps at stage is in
    same_stage before e _ _
    (adoption_publishes e (Next before e findings given) (published (current_record (bare before)) given) n i closed
    ∙ ap (λ rec. changed_record (rates_of (bare before)) rec (event_osc e) i) (now_record before e findings given))
    (adoption_stage before e (published (current_record (bare before)) given) i ground stage at fits.0 fits.1)

-- an event of a direct round
pub live_given : (h : History) (e : Event) → is_live h e ≡ true → actions_of h e ≡ live_actions h e
unfolding actions_of
live_given h e live = ap (λ b. cond b (live_actions h e) (regressed_actions h e)) live

pub direct_change : (before : NodeHistory) (e : Event) → IsLiveSync before e
    → Change (bare before) e (published (current_record (bare before)) (live_actions (bare before) e))
direct_change before e at =
    subst (λ acts. Change (bare before) e (published (current_record (bare before)) acts)) (live_given (bare before) e at.live)
    (change_of (bare before) e)

live_same : (h : History) (e : Event) (given other : List Action) → live_osc Sync (Then h e given) ≡ live_osc Sync (Then h e other)
unfolding live_osc
live_same h e given other = refl

direct_stage : (before : NodeHistory) (e : Event) → Ground before e → IsLiveSync before e
    → Stage before e (published (current_record (bare before)) (live_actions (bare before) e))
direct_stage before e ground at =
    let next = published (current_record (bare before)) (live_actions (bare before) e) in
    let steps : Stepping (bare before) e [] next =
    change_steps (bare before) e [] next ground.stands ground.range ground.event (direct_change before e at) in
    record {
      since = elim steps.0 [
        | inl is ↦ subst (IsSince (rates_of (bare before)) (current_record (bare before))) (sym is)
            (IsSince-same (rates_of (bare before)) (current_record (bare before)))
        | inr is_next ↦ IsSince-next (rates_of (bare before)) (current_record (bare before)) next ground.stands.sound steps.1 is_next
      ];
      sound = steps.1;
      born = steps.2;
    }

move_stage : (before : NodeHistory) (e : Event) (findings : List Finding) (given : List Action) (more : List Finding)
    (further : List Action)
    → Ground before e → Steps before e findings given → Stage before e (published (current_record (bare before)) given)
    → Move before e (Next before e findings given) more further
    → Stage before e (published (published (current_record (bare before)) given) further)
move_stage before e findings given more further ground steps stage (plain f g) =
    same_stage before e _ _ (plain_publish_none _ further g) stage
move_stage before e findings given more further ground steps stage (asked at f g) =
    same_stage before e _ _ (plain_publish_none _ further g) stage
move_stage before e findings given more further ground steps stage (answered peer lo hi at low high f g) =
    same_stage before e _ _ (ap (published _) g) stage
move_stage before e findings given more further ground steps stage (renewed rec at is f g) =
    let now = published (current_record (bare before)) given in
    let made : renewed_record (rates_of (bare before)) now (event_osc e) ≡ Some rec =
    subst (λ r. renewed_record (rates_of (bare before)) r (event_osc e) ≡ Some rec) (now_record before e findings given) is in
    same_stage before e _ _ (ap (published now) g)
    (renewal_stage before e now rec ground stage at made (renewal (rates_of (bare before)) now (event_osc e) rec made))
move_stage before e findings given more further ground steps stage (ended round o at is f g) =
    same_stage before e _ _ (ap (published (published (current_record (bare before)) given)) g)
    (outcome_stage before e findings given round o _ ground steps at stage is)
move_stage before e findings given more further ground steps stage (direct at is first f g) =
    let none : given ≡ [] = ap actions_at first in
    same_stage before e _ _
    (ap (λ acts. published (published (current_record (bare before)) acts) further) none
    ∙ ap (published (current_record (bare before))) g)
    (direct_stage before e ground at)
move_stage before e findings given more further ground steps stage (read at f g) = same_stage before e _ _ (ap (published _) g) stage

pub stage_of : (before : NodeHistory) (e : Event) (findings : List Finding) (given : List Action) → Ground before e
    → Steps before e findings given
    → Stage before e (published (current_record (bare before)) given)
stage_of before e [] [] ground begun = first_stage before e ground.stands
stage_of before e _ _ ground (moved findings given more further steps move) =
    same_stage before e _ _ (published-append (current_record (bare before)) given further)
    (move_stage before e findings given more further ground steps (stage_of before e findings given ground steps) move)

-- ---- a whole history
sync_bound : (h : History) (e : Event) (given : List Action) (b : ℕ) → live_osc Sync h ≤ b → event_osc e ≤ b
    → live_osc Sync (Then h e given) ≤ b
unfolding live_osc
sync_bound h e given b before now = both _ (event_osc e) (live_osc Sync h) (λ x. x ≤ b) (λ _. now) (λ _. before)

pub stands : (h : NodeHistory) → IsRuled h → HistoryInRange (bare h) → Stands (bare h)
stands (Began roster start) ruled range = stands_alone (bare (Began roster start)) tt range
stands (Next before e findings given) ruled range =
    let earlier = stands before ruled.1 range.0 in
    let ground : Ground before e =
    record { stands = earlier; range = range.0; event = range.1; timely = found_is_timely before ruled.1 } in
    let stage = stage_of before e findings given ground (steps_of before e findings given _ ruled.0 (course before e)) in
    let now = now_record before e findings given in
    record {
      sound = subst (IsSound (rates_of (bare before))) (sym now) stage.sound;
      born = omega (arith, ap (λ (r : ClockRecord). r.born) now, stage.born, live_same (bare before) e [] given);
      bound = sync_bound (bare before) e given GREATEST_OSC earlier.bound (event_bound e range.1);
    }

pub ground_of : (before : NodeHistory) (e : Event) → IsRuled before → HistoryInRange (bare before) → IsEventInRange e → Ground before e
ground_of before e ruled range event =
    record { stands = stands before ruled range; range = range; event = event; timely = found_is_timely before ruled }
