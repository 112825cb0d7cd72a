-- Steps are named in the log before readings show them, and false sources gave false intervals.
use Rattle.std.proofs.Common.{◌≡◌, ◌⊎◌, inl, inr, ℕ, zero, ◌+◌, ◌<◌, ◌≤◌, Bool, true, false, cond, List, [], ◌∷◌, ◌++◌, refl, sym, ap, ◌∙◌, subst, arith}
use Rattle.std.specs.Prelude.{ℤ, All, Contains}
use Rattle.std.proofs.lemmas.Int.{ints}
use Rattle.std.proofs.lemmas.Bool.{cases_Bool, cases_lt}
use Rattle.std.proofs.lemmas.List.Elements.{All-contains, All-weaker, All-contains_itself, Contains-append_right}
use Rattle.intersection.specs.Adoption.{Holds as HoldsPoint}
use Rattle.intersection.proofs.PointLaws.{holds_true}
use Rattle.slew_clock.specs.declared.rates.Rates.{Rates}
use Rattle.slew_clock.specs.declared.record.ClockRecord.{ClockRecord}
use Rattle.slew_clock.specs.Line.{line}
use Rattle.slew_clock.specs.Change.{middle_of, changed_record, anchored_record, stepped_record}
use Rattle.slew_clock.proofs.ClockLaws.{Renewal, renewal}
use Rattle.slew_clock.proofs.ClockLaws.Renewal.{prolonged, resumed}
use Rattle.dts_capture.specs.declared.event.Event.{Event}
use Rattle.dts_capture.specs.declared.event.Event.TheVariants as event
use Rattle.dts_capture.specs.declared.action.Action.{Action}
use Rattle.dts_capture.specs.declared.action.NoteKind.TheVariants as note
use Rattle.dts_capture.specs.declared.action.FalseSource.TheVariants as source
use Rattle.sync_rules.specs.History.{History, Begun, Then, event_osc, event_part, current_record, given_at, IsPositionOf}
use Rattle.sync_rules.specs.Live.{is_live}
use Rattle.sync_rules.specs.Rounds.{Answer, answers_of, carried_to, are_apart, outcome}
use Rattle.clerk.specs.Outcome.{Adopted}
use Rattle.sync_rules.specs.Rules.{rates_of, actions_of, live_actions, regressed_actions, outcome_actions, named_false, changes, steps_to, noted, IsRuled}
use Rattle.sync_rules.specs.Ranges.{IsInRange}
use Rattle.sync_rules.specs.World.{World, time_at, is_right, IsHonest}
use Rattle.sync_rules.specs.Safety.{NamesStep, LogsFalse, GaveFalse, NamesOnlyFalse}
use Rattle.sync_rules.proofs.Choices.{both, only_one}
use Rattle.sync_rules.proofs.Positions.{ruled_position, range_position}
use Rattle.sync_rules.proofs.Changes.{Change, current_then}
use Rattle.sync_rules.proofs.Changes.Change.{same, renewal as renews, adoption}
use Rattle.sync_rules.proofs.Moments.{IsAnswerOf, answers_are}
use Rattle.sync_rules.proofs.Anchoring.{adopted_true, adopts_all, right_holds}
use Rattle.sync_rules.proofs.Given.{given_all}

-- ---- steps
-- a position of the history names the step
abbrev pub IsNamedIn : History → ℕ → Type 0
IsNamedIn h step = (position : History) × IsPositionOf position h × (a : Action) × Contains (given_at position) a × NamesStep a step

named_stays : (h : History) (e : Event) (actions : List Action) (step : ℕ) → IsNamedIn h step → IsNamedIn (Then h e actions) step
named_stays h e actions step (position, is, a, in_given, names) = (position, inr is, a, in_given, names)

-- what a live adoption of an interval gives
adopt_given : (h : History) (osc required n : ℕ) (i : ℤ × ℤ) → is_live h (event.Adopt osc required) ≡ true → outcome (rates_of h) (answers_of h) required osc ≡ Adopted n i
    → actions_of h (event.Adopt osc required) ≡ outcome_actions (event.Adopt osc required) (rates_of h) (current_record h) (answers_of h) (Adopted n i)
unfolding actions_of
adopt_given h osc required n i live comes =
    ap (λ b. cond b (live_actions h (event.Adopt osc required)) (regressed_actions h (event.Adopt osc required))) live
    ∙ ap (outcome_actions (event.Adopt osc required) (rates_of h) (current_record h) (answers_of h)) comes

adopt_gives : (h : History) (e : Event) (required n : ℕ) (i : ℤ × ℤ) → is_live h e ≡ true → e ≡ event.Adopt (event_osc e) required → outcome (rates_of h) (answers_of h) required (event_osc e) ≡ Adopted n i
    → actions_of h e ≡ outcome_actions e (rates_of h) (current_record h) (answers_of h) (Adopted n i)
adopt_gives h e required n i live is comes =
    let P : Event → Type 0 = λ x. is_live h x ≡ true → actions_of h x ≡ outcome_actions x (rates_of h) (current_record h) (answers_of h) (Adopted n i) in
    subst P (sym is) (λ alive. adopt_given h (event_osc e) required n i alive comes) live

step_note : Event → Rates → ClockRecord → ℤ × ℤ → Action
step_note e rates rec i = noted e (note.Step (rec.step + 1) (line rates rec (event_osc e)) (middle_of i))

step_in_changes : (e : Event) (rates : Rates) (rec : ClockRecord) (i : ℤ × ℤ) (b : Bool) (rest : List Action) → b ≡ true → Contains (cond b (step_note e rates rec i ∷ []) [] ++ rest) (step_note e rates rec i)
step_in_changes e rates rec i true rest is = (zero, omega arith, refl)
step_in_changes e rates rec i false rest is = cc

step_given : (h : History) (e : Event) (required n : ℕ) (i : ℤ × ℤ) → is_live h e ≡ true → e ≡ event.Adopt (event_osc e) required → outcome (rates_of h) (answers_of h) required (event_osc e) ≡ Adopted n i
    → steps_to (rates_of h) (current_record h) (event_osc e) i ≡ true → Contains (actions_of h e) (step_note e (rates_of h) (current_record h) i)
unfolding step_note
step_given h e required n i live is comes steps =
    let s = step_note e (rates_of h) (current_record h) i in
    subst (λ xs. Contains xs s) (sym (adopt_gives h e required n i live is comes))
    (Contains-append_right (noted e (note.Adopted n i.0 i.1) ∷ named_false e (rates_of h) (answers_of h) i) (changes e (rates_of h) (current_record h) i) s
    (step_in_changes e (rates_of h) (current_record h) i (steps_to (rates_of h) (current_record h) (event_osc e) i) _ steps))

step_names : (e : Event) (rates : Rates) (rec : ClockRecord) (i : ℤ × ℤ) → NamesStep (step_note e rates rec i) (rec.step + 1)
unfolding step_note
step_names e rates rec i = refl

renewed_step : (r : Rates) (rec next : ClockRecord) (osc : ℕ) → Renewal r rec osc next → next.step ≡ rec.step
renewed_step r rec next osc (prolonged begun before is) = ap (λ (x : ClockRecord). x.step) is
renewed_step r rec next osc (resumed past is) = ap (λ (x : ClockRecord). x.step) is

-- a changed record has the step number, or steps to the next
changed_step : (r : Rates) (rec : ClockRecord) (osc : ℕ) (i : ℤ × ℤ) → ((changed_record r rec osc i).step ≡ rec.step) ⊎ ((steps_to r rec osc i ≡ true) × ((changed_record r rec osc i).step ≡ rec.step + 1))
changed_step r rec osc i =
    both (steps_to r rec osc i) (stepped_record rec osc i) (anchored_record rec osc i) (λ (n : ClockRecord). (n.step ≡ rec.step) ⊎ ((steps_to r rec osc i ≡ true) × (n.step ≡ rec.step + 1)))
    (λ steps. inr (steps, refl)) (λ _. inl refl)

change_named : (h : History) (e : Event) (actions : List Action) (next : ClockRecord) → actions ≡ actions_of h e → ((k : ℕ) → 0 < k → k ≤ (current_record h).step → IsNamedIn h k) → Change h e next
    → (k : ℕ) → 0 < k → k ≤ next.step → IsNamedIn (Then h e actions) k
change_named h e actions next given before (same is) k above below = named_stays h e actions k (before k above (omega (arith, ap (λ (r : ClockRecord). r.step) is)))
change_named h e actions next given before (renews live sync made) k above below =
    named_stays h e actions k (before k above (omega (arith, renewed_step (rates_of h) (current_record h) next (event_osc e) (renewal (rates_of h) (current_record h) (event_osc e) next made))))
change_named h e actions next given before (adoption required n i live is comes becomes) k above below =
    elim (changed_step (rates_of h) (current_record h) (event_osc e) i) [
      | inl stays ↦ named_stays h e actions k (before k above (omega (arith, stays, ap (λ (r : ClockRecord). r.step) becomes)))
      | inr steps ↦ here_or_before (cases_lt (current_record h).step k) steps
    ]
  where
    here_or_before : ((current_record h).step < k) ⊎ (k ≤ (current_record h).step)
        → (steps_to (rates_of h) (current_record h) (event_osc e) i ≡ true) × ((changed_record (rates_of h) (current_record h) (event_osc e) i).step ≡ (current_record h).step + 1) → IsNamedIn (Then h e actions) k
    here_or_before (inr small) steps = named_stays h e actions k (before k above small)
    here_or_before (inl large) steps =
        let number : (current_record h).step + 1 ≡ k = omega (arith, large, below, steps.1, ap (λ (r : ClockRecord). r.step) becomes) in (
          Then h e actions,
          inl refl,
          step_note e (rates_of h) (current_record h) i,
          subst (λ xs. Contains xs (step_note e (rates_of h) (current_record h) i)) (sym given) (step_given h e required n i live is comes steps.0),
          subst (NamesStep (step_note e (rates_of h) (current_record h) i)) number (step_names e (rates_of h) (current_record h) i),
        )

pub named_steps : (h : History) → IsRuled h → (k : ℕ) → 0 < k → k ≤ (current_record h).step → IsNamedIn h k
unfolding current_record
named_steps (Begun settings start) ruled k above below = absurd (omega arith)
named_steps (Then h e actions) ruled k above below =
    change_named h e actions (current_record (Then h e actions)) ruled.0 (named_steps h ruled.1) (current_then h e actions ruled.0) k above below

-- ---- false sources
apart_lack : (i j : ℤ × ℤ) (t : ℤ) → are_apart i j ≡ true → HoldsPoint i t → HoldsPoint j t → ⊥
apart_lack i j t apart in_i in_j = grind (arith, ints)

abbrev IsFalseName : World → History → Event → List Action → Action → Type 0
IsFalseName world h e actions a = (tag : ℕ) → LogsFalse a tag → GaveFalse world (Then h e actions) tag

false_answer : (h : History) (world : World) (whole : History) (e : Event) (actions : List Action) (required n : ℕ) (i : ℤ × ℤ) (a : Answer) → IsHonest whole world → IsPositionOf (Then h e actions) whole → IsInRange h
    → is_live h e ≡ true → e ≡ event.Adopt (event_osc e) required → outcome (rates_of h) (answers_of h) required (event_osc e) ≡ Adopted n i
    → Contains (answers_of h) a → are_apart (carried_to (rates_of h) (event_osc e) a) i ≡ true → is_right world a ≡ false
false_answer h world whole e actions required n i a honest is range live adopt comes in_answers apart =
    let t = time_at world (Then h e actions) in
    let time = adopted_true h world whole e actions required n i honest is range live adopt comes in
    let answer = All-contains (IsAnswerOf h) (answers_of h) a (answers_are h range) in_answers in
    elim (cases_Bool (is_right world a)) [
      | inl right ↦ absurd (apart_lack (carried_to (rates_of h) (event_osc e) a) i t apart
          (holds_true _ t (right_holds h world whole e actions a honest.drift is (ap event_part adopt) live answer right)) time)
      | inr wrong ↦ wrong
    ]

false_names : (h : History) (world : World) (whole : History) (e : Event) (actions : List Action) → IsHonest whole world → IsPositionOf (Then h e actions) whole → IsInRange h → All (IsFalseName world h e actions) (actions_of h e)
false_names h world whole e actions honest is range = given_all (IsFalseName world h e actions) h e (record {
  published = λ rec tag names. absurd names;
  closed = λ osc peer tag names. absurd names;
  regressed = λ floor tag names. absurd names;
  repeated = λ t tag names. absurd names;
  full = λ tag names. absurd names;
  unknown = λ t tag names. absurd names;
  short = λ answered required tag names. absurd names;
  split = λ m tag names. absurd names;
  adopted = λ m lo hi tag names. absurd names;
  stepped = λ step old new tag names. absurd names;
  named = λ required m i live adopt comes.
      All-weaker (Contains (answers_of h)) (λ a. are_apart (carried_to (rates_of h) (event_osc e) a) i ≡ true → IsFalseName world h e actions (noted e (note.False (source.Tag a.tag))))
      (λ a in_answers apart tag names.
      (a, subst (λ xs. Contains xs a) (sym (adopts_all h e required m i live adopt comes)) in_answers, names, false_answer h world whole e actions required m i a honest is range live adopt comes in_answers apart))
      (answers_of h) (All-contains_itself (answers_of h));
  read = λ live adopt tag names. absurd names;
})

pub names_only_false : (history : History) → IsRuled history → IsInRange history → NamesOnlyFalse history
names_only_false history ruled range world honest (Begun settings start) tag is (a, in_given, names) = absurd (subst (λ x. LogsFalse x tag) (sym (only_one _ a in_given)) names)
names_only_false history ruled range world honest (Then h e actions) tag is (a, in_given, names) =
    let own = ruled_position (Then h e actions) history ruled is in
    let fits = range_position (Then h e actions) history range is in
    All-contains (IsFalseName world h e actions) (actions_of h e) a (false_names h world history e actions honest is fits.0) (subst (λ xs. Contains xs a) own.0 in_given) tag names
