-- A direct round ends: what comes of it, and the state that it leaves.
use Rattle.std.proofs.Common.{◌⊎◌, inl, inr, lt-ltb, le-ltb, ◌≡◌, ℕ, ◌+◌, ◌<◌, ◌≤◌, true, false, cond, List, [], ◌∷◌, ◌++◌, map, length, Option, rules, refl, sym, ap, ◌∙◌, subst, arith}
use Rattle.std.specs.Prelude.{ℤ, filter, nat_lt, option_map, int_le, ◌↔◌, ◌≤ℤ◌, Bool, IsTrue}
use Rattle.std.proofs.lemmas.Int.{ints}
use Rattle.std.proofs.lemmas.List.{length-map, append_assoc}
use Rattle.dts_base.specs.declared.interval.Interval.{Interval}
use Rattle.intersection.specs.Adopted.{adopted}
use Rattle.slew_clock.specs.declared.limits.TheConstants.{GREATEST_OSC}
use Rattle.slew_clock.specs.declared.rates.Rates.{Rates}
use Rattle.slew_clock.specs.declared.record.ClockRecord.{ClockRecord}
use Rattle.slew_clock.specs.Line.{line}
use Rattle.slew_clock.specs.Change.{middle_of, changed_record, stepped_record, anchored_record}
use Rattle.intersection.specs.Adoption.{ends_of, AreApart}
use Rattle.dts_capture.specs.declared.action.Action.{Action}
use Rattle.dts_capture.specs.declared.action.Action.TheVariants as action
use Rattle.dts_capture.specs.declared.action.NoteKind.TheVariants as note
use Rattle.dts_capture.specs.declared.event.Event.{Event}
use Rattle.dts_capture.specs.declared.event.Event.TheVariants as event
use Rattle.sync_rules.specs.History.{History, event_osc, current_record, published}
use Rattle.sync_rules.specs.Rounds.{answers_of, carried_to, outcome, are_apart}
use Rattle.clerk.specs.Outcome.{Short, Adopted, agreed}
use Rattle.sync_rules.specs.Rules.{outcome_actions, named_false, changes, steps_to, noted}
use Rattle.sync_rules.proofs.Changes.{published-append, notes_publish_none, changes_publish}
use Rattle.sync_rules.proofs.Concluding.{by_count}
use Rattle.sync_rules.proofs.Moments.{answers_are}
use Rattle.sync_rules.proofs.Standing.{outcome_adopted, adopted_in_range}
use Rattle.capture_replay.specs.declared.node.Node.{Node}
use Rattle.capture_replay.specs.declared.round.DirectRound.{DirectRound}
use Rattle.capture_replay.specs.declared.round.DirectOutcome.{DirectOutcome}
use Rattle.capture_replay.specs.declared.round.DirectOutcome.TheVariants as found
use Rattle.capture_replay.specs.Rounds.{answer_kept, answers_kept, outcome_kept, IsAdoptable, false_notes}
use Rattle.capture_replay.specs.Notes.{noted_at}
use Rattle.capture_replay.specs.Standing.{StandsFor, IsStep, concluded}
use Rattle.capture_replay.proofs.RoundLaws.{map_map, outcome_same, actions_same, named_same, forgets}
use Rattle.capture_replay.proofs.Stepping.{live_step}

-- what comes of a round, by the number of its answers
pub short_round : (round : DirectRound) (rates : Rates) (required osc n : ℕ) → n ≡ length round.answers.items → n < required → Short n required ≡ outcome rates (answers_kept round) required osc
short_round round rates required osc n is few =
    ap (λ b. cond b (Short n required) (agreed n (adopted (map (carried_to rates osc) (answers_kept round))))) (sym (lt-ltb n required few))
    ∙ ap (λ k. cond (nat_lt k required) (Short k required) (agreed k (adopted (map (carried_to rates osc) (answers_kept round))))) (is ∙ sym (length-map round.answers.items answer_kept))
    ∙ sym (by_count rates (answers_kept round) required osc)

pub full_round : (round : DirectRound) (rates : Rates) (required osc n : ℕ) (v : List Interval) (o : Option Interval) → n ≡ length round.answers.items → required ≤ n
    → map ends_of v ≡ map (λ a. carried_to rates osc (answer_kept a)) round.answers.items → option_map ends_of o ≡ adopted (map ends_of v)
    → agreed n (option_map ends_of o) ≡ outcome rates (answers_kept round) required osc
full_round round rates required osc n v o is enough carried found =
    ap (agreed n) (found ∙ ap adopted (carried ∙ sym (map_map answer_kept (carried_to rates osc) round.answers.items)))
    ∙ ap (λ b. cond b (Short n required) (agreed n (adopted (map (carried_to rates osc) (answers_kept round))))) (sym (le-ltb n required enough))
    ∙ ap (λ k. cond (nat_lt k required) (Short k required) (agreed k (adopted (map (carried_to rates osc) (answers_kept round))))) (is ∙ sym (length-map round.answers.items answer_kept))
    ∙ sym (by_count rates (answers_kept round) required osc)

-- an adopted interval can be an anchor
pub adoptable : (node : Node) (h : History) (osc required : ℕ) (o : DirectOutcome) → StandsFor node h → osc ≤ GREATEST_OSC
    → outcome_kept o ≡ outcome node.rates (answers_kept node.round) required osc → IsAdoptable o
adoptable node h osc required (found.Short answered r) s small is = tt
adoptable node h osc required (found.Split n) s small is = tt
adoptable node h osc required (found.Adopted n i) s small is =
    let comes : outcome node.rates (answers_of h) required osc ≡ Adopted n (ends_of i) = sym (is ∙ outcome_same node.round h node.rates required osc s.sync.round) in
    (adopted_in_range h node.rates osc (answers_of h) (ends_of i) small (answers_are h s.range) (outcome_adopted node.rates (answers_of h) required osc n (ends_of i) comes).0).0

-- the actions of the rules, and the state that is left
pub adopt_step : (node : Node) (next : DirectRound) (osc required : ℕ) (o : DirectOutcome) (actions : List Action) → osc ≤ GREATEST_OSC → node.sync_osc ≤ osc
    → next.asked.items ≡ [] → next.answers.items ≡ [] → outcome_kept o ≡ outcome node.rates (answers_kept node.round) required osc
    → actions ≡ concluded node osc (outcome_kept o)
    → IsStep node (record node { current = published node.current actions; sync_osc = osc; round = next }) (event.Adopt osc required) actions
adopt_step node next osc required o actions small above asked answers is made =
    live_step node (record node { current = published node.current actions; sync_osc = osc; round = next }) (event.Adopt osc required) actions refl small above (record {
      gives = λ h s.
          let e = event.Adopt osc required in
          ap (λ r. outcome_actions e r (current_record h) (answers_of h) (outcome r (answers_of h) required osc)) (sym s.sync.rates)
          ∙ ap (λ c. outcome_actions e node.rates c (answers_of h) (outcome node.rates (answers_of h) required osc)) (sym s.sync.current)
          ∙ sym (actions_same node.round h e node.rates node.current (outcome node.rates (answers_of h) required osc) s.sync.round)
          ∙ ap (outcome_actions e node.rates node.current (answers_kept node.round)) (sym (is ∙ outcome_same node.round h node.rates required osc s.sync.round))
          ∙ sym made;
      rates = refl;
      current = λ h s. refl;
      sync = refl;
      lane = refl;
      round = λ h s live. forgets next h osc required asked answers live;
    })

-- the changes of an adoption: a step is noted exactly where the step number grows
pub record Changes (e : Event) (rates : Rates) (rec : ClockRecord) (i : ℤ × ℤ) (next : ClockRecord) : Type 0 where
  pub same : next.step ≡ rec.step → changes e rates rec i ≡ action.Publish next ∷ []
  pub steps : (next.step ≡ rec.step → ⊥) → changes e rates rec i ≡ noted e (note.Step next.step (line rates rec (event_osc e)) next.a.value) ∷ action.Publish next ∷ []

pub changes_are : (e : Event) (rates : Rates) (rec : ClockRecord) (i : ℤ × ℤ) → Changes e rates rec i (changed_record rates rec (event_osc e) i)
changes_are e rates rec i =
    elim (steps_to rates rec (event_osc e) i) as (λ b. (steps_to rates rec (event_osc e) i) ≡ b → Changes e rates rec i (cond b (stepped_record rec (event_osc e) i) (anchored_record rec (event_osc e) i))) [
      | true ↦ λ is. record {
        same = λ bad. absurd (omega (arith, bad));
        steps = λ _. ap (λ b. (cond b (noted e (note.Step (rec.step + 1) (line rates rec (event_osc e)) (middle_of i)) ∷ []) []) ++ action.Publish (cond b (stepped_record rec (event_osc e) i) (anchored_record rec (event_osc e) i)) ∷ []) is;
      }
      | false ↦ λ is. record {
        same = λ _. ap (λ b. (cond b (noted e (note.Step (rec.step + 1) (line rates rec (event_osc e)) (middle_of i)) ∷ []) []) ++ action.Publish (cond b (stepped_record rec (event_osc e) i) (anchored_record rec (event_osc e) i)) ∷ []) is;
        steps = λ bad. absurd (bad refl);
      }
    ] refl

-- the record that an adoption publishes
pub adoption_publishes : (node : Node) (osc n : ℕ) (i : ℤ × ℤ) → published node.current (concluded node osc (Adopted n i)) ≡ changed_record node.rates node.current osc i
adoption_publishes node osc n i =
    let e = event.Adopt osc 0 in
    let answers = answers_kept node.round in
    published-append node.current (named_false e node.rates answers i) (changes e node.rates node.current i)
    ∙ ap (λ r. published r (changes e node.rates node.current i)) (notes_publish_none e node.current (filter (λ a. are_apart (carried_to node.rates osc a) i) answers))
    ∙ changes_publish e node.rates node.current i

whole : (node : Node) (osc n : ℕ) (i : ℤ × ℤ) (notes : List Action) → notes ≡ noted_at osc (note.Adopted n i.0 i.1) ∷ false_notes node.rates osc i node.round.answers.items
    → notes ++ changes (event.Adopt osc 0) node.rates node.current i ≡ concluded node osc (Adopted n i)
whole node osc n i notes are =
    ap (λ xs. xs ++ changes (event.Adopt osc 0) node.rates node.current i) (are ∙ ap (λ xs. noted_at osc (note.Adopted n i.0 i.1) ∷ xs) (sym (named_same osc 0 node.rates node.round.answers.items i)))

-- and all that it gives
pub adoption_gives : (node : Node) (osc n : ℕ) (i : ℤ × ℤ) (next : ClockRecord) (notes actions : List Action) → next ≡ changed_record node.rates node.current osc i
    → notes ≡ noted_at osc (note.Adopted n i.0 i.1) ∷ false_notes node.rates osc i node.round.answers.items
    → ((next.step ≡ node.current.step → ⊥) × (actions ≡ notes ++ noted_at osc (note.Step next.step (line node.rates node.current osc) next.a.value) ∷ [])) ⊎ ((next.step ≡ node.current.step) × (actions ≡ notes))
    → actions ++ action.Publish next ∷ [] ≡ concluded node osc (Adopted n i)
adoption_gives node osc n i next notes actions is noted_are (inl (grows, are)) =
    ap (λ xs. xs ++ action.Publish next ∷ []) are
    ∙ append_assoc notes (noted_at osc (note.Step next.step (line node.rates node.current osc) next.a.value) ∷ []) (action.Publish next ∷ [])
    ∙ ap (λ xs. notes ++ xs) (sym ((subst (Changes (event.Adopt osc 0) node.rates node.current i) (sym is) (changes_are (event.Adopt osc 0) node.rates node.current i)).steps grows))
    ∙ whole node osc n i notes noted_are
adoption_gives node osc n i next notes actions is noted_are (inr (same, are)) =
    ap (λ xs. xs ++ action.Publish next ∷ []) are
    ∙ ap (λ xs. notes ++ xs) (sym ((subst (Changes (event.Adopt osc 0) node.rates node.current i) (sym is) (changes_are (event.Adopt osc 0) node.rates node.current i)).same same))
    ∙ whole node osc n i notes noted_are

-- two intervals lie apart where one ends before the other begins
meet : (i j : ℤ × ℤ) → (i.0 ≤ℤ i.1) → (j.0 ≤ℤ j.1) → are_apart i j ≡ false → AreApart i j → ⊥
meet i j first second near apart = elim (int_le i.0 j.0) as (λ b. int_le i.0 j.0 ≡ b → ⊥) [
  | true ↦ λ below. apart j.0 (grind (arith, ints)) (grind (arith, ints))
  | false ↦ λ above. apart i.0 (grind (arith, ints)) (grind (arith, ints))
] refl

lie_apart : (i j : ℤ × ℤ) → are_apart i j ≡ true → AreApart i j
lie_apart i j apart = λ p in_i in_j. grind (arith, ints)

pub apart_is : (b : Bool) (i j : ℤ × ℤ) → (i.0 ≤ℤ i.1) → (j.0 ≤ℤ j.1) → IsTrue b ↔ AreApart i j → b ≡ are_apart i j
apart_is true i j first second is =
    elim (are_apart i j) as (λ b. are_apart i j ≡ b → true ≡ b) [ true ↦ λ _. refl | false ↦ λ near. absurd (meet i j first second near (is.0 (search rules))) ] refl
apart_is false i j first second is =
    elim (are_apart i j) as (λ b. are_apart i j ≡ b → false ≡ b) [ true ↦ λ apart. absurd (search rules) | false ↦ λ _. refl ] refl
