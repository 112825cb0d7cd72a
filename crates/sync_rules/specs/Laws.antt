-- Laws on the definitions from the other side: what meets them, what they exclude, and that they have one value.
use Rattle.std.specs.Prelude.{◌≡◌, ◌↔◌, ℕ, ℤ, pos, ◌+◌, ◌<◌, ◌≤◌, ◌-ℤ◌, ◌+ℤ◌, ◌<ℤ◌, List, [], Contains, Some, true, false}
use Rattle.slew_clock.specs.Line.{line}
use Rattle.slew_clock.specs.Reading.{inaccuracy_of}
use Rattle.dts_capture.specs.declared.action.Action.{Action}
use Rattle.dts_capture.specs.declared.event.Event.TheVariants as event
use Rattle.sync_rules.specs.History.{History, Begun, Then, start_of, settings_of, current_record, given_at, IsPositionOf}
use Rattle.sync_rules.specs.Live.{is_live}
use Rattle.sync_rules.specs.Rules.{followed_by, IsRuled}
use Rattle.sync_rules.specs.World.{IsRightFirst, adopts_from, HasHonestRound, IsHonest, exact_world}
use Rattle.sync_rules.specs.Safety.{Shown, Gives, NamesStep, OfOneLane, ContainsTime, FollowsOn, IsNamedBefore}

-- An exact oscillator is honest wherever its first interval is right and fewer than half of the answers of each round that adopts
-- are false. So a history that adopts nothing has an honest world from any time at which its first interval is right.
abbrev pub AdoptsNothing : History → Type 0
AdoptsNothing (Begun settings start) = Unit {0}
AdoptsNothing (Then before event actions) = (adopts_from before event ≡ []) × AdoptsNothing before

pub record CanBeHonest : Type 0 where
  pub exact : (history : History) (begins : ℤ) → IsRightFirst (start_of history) begins
      → ((position : History) → IsPositionOf position history → HasHonestRound (exact_world history begins) position)
      → IsHonest history (exact_world history begins) × ((exact_world history begins).time 0 ≡ begins)
  pub without_adoption : (history : History) (begins : ℤ) → IsRightFirst (start_of history) begins → AdoptsNothing history
      → IsHonest history (exact_world history begins) × ((exact_world history begins).time 0 ≡ begins)

-- Each step up to that of the current record is named in the log.
abbrev pub StepsAreNamed : Type 0
StepsAreNamed = (history : History) → IsRuled history → (step : ℕ) → 0 < step → step ≤ (current_record history).step
    → (position : History) × IsPositionOf position history × (a : Action) × Contains (given_at position) a × NamesStep a step

-- A live read gives one reading, that of the current record, and no other; a regressed one gives none.
pub record ReadsGive : Type 0 where
  pub live : (history : History) (osc : ℕ) (shown : Shown) → is_live history (event.Read osc) ≡ true
      → Gives (followed_by history (event.Read osc)) shown ↔ (shown ≡ record {
        value = line (settings_of history).rates (current_record history) osc;
        inaccuracy = inaccuracy_of (settings_of history).rates (current_record history) osc;
        step = (current_record history).step;
      })
  pub regressed : (history : History) (osc : ℕ) (shown : Shown) → is_live history (event.Read osc) ≡ false
      → Gives (followed_by history (event.Read osc)) shown → ⊥

-- Any two reads are of one lane.
abbrev pub ReadsAreOfOneLane : Type 0
ReadsAreOfOneLane = (before after : History) (osc next : ℕ) (given more : List Action)
    → OfOneLane (Then before (event.Read osc) given) (Then after (event.Read next) more)

-- A reading contains the times up to its inaccuracy from its value, and none that is further by one.
pub record ContainsUpToInaccuracy : Type 0 where
  pub greatest : (value : ℤ) (i step : ℕ) → ContainsTime (record { value = value; inaccuracy = Some i; step = step }) (value +ℤ pos i)
  pub least : (value : ℤ) (i step : ℕ) → ContainsTime (record { value = value; inaccuracy = Some i; step = step }) (value -ℤ pos i)
  pub none_above : (value : ℤ) (i step : ℕ) → ContainsTime (record { value = value; inaccuracy = Some i; step = step }) (value +ℤ pos (i + 1)) → ⊥
  pub none_below : (value : ℤ) (i step : ℕ) → ContainsTime (record { value = value; inaccuracy = Some i; step = step }) (value -ℤ pos (i + 1)) → ⊥

-- Readings that go back, and a step that nothing names, do not follow on.
pub record DoesNotFollowOn : Type 0 where
  pub lower_value : (later_position : History) (earlier later : Shown) → earlier.step ≡ later.step → later.value <ℤ earlier.value
      → FollowsOn later_position earlier later → ⊥
  pub lower_step : (later_position : History) (earlier later : Shown) → later.step < earlier.step → FollowsOn later_position earlier later → ⊥
  pub unnamed : (later_position : History) (earlier later : Shown) → earlier.step < later.step → (IsNamedBefore later_position later.step → ⊥)
      → FollowsOn later_position earlier later → ⊥
