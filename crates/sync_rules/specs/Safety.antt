-- Safe histories: readings contain true time, and go back only across a step that the log names.
use Rattle.std.specs.Prelude.{◌≡◌, ℕ, ℤ, pos, ◌<◌, ◌-ℤ◌, ◌+ℤ◌, ◌≤◌, ◌≤ℤ◌, Contains, false, Option, IfSome}
use Rattle.dts_capture.specs.declared.action.Action.{Action}
use Rattle.dts_capture.specs.declared.action.Action.TheVariants as action
use Rattle.dts_capture.specs.declared.action.FalseSource.TheVariants as source
use Rattle.dts_capture.specs.declared.action.NoteKind.{NoteKind}
use Rattle.dts_capture.specs.declared.action.NoteKind.TheVariants as note
use Rattle.sync_rules.specs.History.{History, Begun, Then, Lane, part_of, given_at, IsPositionOf, ComesBefore}
use Rattle.sync_rules.specs.Rounds.{Answer}
use Rattle.sync_rules.specs.World.{World, IsHonest, is_right, adopts_from, time_at}

-- what a reading says of the time
pub record Shown : Type 0 where
  pub value : ℤ
  pub inaccuracy : Option ℕ
  pub step : ℕ

-- the note is a reading, and shows this
abbrev pub ShowsReading : NoteKind → Shown → Type 0
ShowsReading (note.Reading value inaccuracy step number) shown = shown ≡ record { value = value; inaccuracy = inaccuracy; step = step }
ShowsReading _ shown = ⊥

-- the action logs this reading
abbrev pub LogsReading : Action → Shown → Type 0
LogsReading (action.Log n) shown = ShowsReading n.kind shown
LogsReading _ shown = ⊥

-- the position gave this reading
abbrev pub Gives : History → Shown → Type 0
Gives position shown = (a : Action) × Contains (given_at position) a × LogsReading a shown

-- the note is of a step to this number
abbrev pub IsStepTo : NoteKind → ℕ → Type 0
IsStepTo (note.Step to old new) step = to ≡ step
IsStepTo _ step = ⊥

-- the action names a step to this number in the log
abbrev pub NamesStep : Action → ℕ → Type 0
NamesStep (action.Log n) step = IsStepTo n.kind step
NamesStep _ step = ⊥

-- a position before this one names a step to this number in the log
abbrev pub IsNamedBefore : History → ℕ → Type 0
IsNamedBefore later step = (position : History) × ComesBefore position later × (a : Action) × Contains (given_at position) a × NamesStep a step

-- both positions are of this lane
pub record OfOneLane (earlier later : History) : Type 0 where
  pub lane : ℕ
  pub first : part_of earlier ≡ Lane lane
  pub second : part_of later ≡ Lane lane

-- the reading is unspecified, or true time is within its inaccuracy of its value
abbrev pub ContainsTime : Shown → ℤ → Type 0
ContainsTime shown time = IfSome shown.inaccuracy (λ i. ((shown.value -ℤ pos i) ≤ℤ time) × (time ≤ℤ (shown.value +ℤ pos i)))

-- a later reading of a lane, given at this position, after an earlier one: it has no lower step number; at the same one no lower
-- value; and a greater one is named before it
pub record FollowsOn (later_position : History) (earlier later : Shown) : Type 0 where
  pub no_lower_step : earlier.step ≤ later.step
  pub no_lower_value : earlier.step ≡ later.step → earlier.value ≤ℤ later.value
  pub named : earlier.step < later.step → IsNamedBefore later_position later.step

pub record IsSafe (history : History) : Type 0 where
  -- in every honest world each reading contains true time
  pub contains : (world : World) → IsHonest history world → (position : History) (shown : Shown) → IsPositionOf position history
      → Gives position shown → ContainsTime shown (time_at world position)
  -- in every history the readings of a lane never go back but across a step that the log names
  pub follows_on : (p q : History) (earlier later : Shown) → IsPositionOf q history → ComesBefore p q → OfOneLane p q
      → Gives p earlier → Gives q later → FollowsOn q earlier later

-- the note names this tag as a false source
abbrev pub IsFalseTag : NoteKind → ℕ → Type 0
IsFalseTag (note.False (source.Tag named)) tag = named ≡ tag
IsFalseTag _ tag = ⊥

-- the action names this tag in the log as a false source, and a position does
abbrev pub LogsFalse : Action → ℕ → Type 0
LogsFalse (action.Log n) tag = IsFalseTag n.kind tag
LogsFalse _ tag = ⊥

abbrev pub NamesFalse : History → ℕ → Type 0
NamesFalse position tag = (a : Action) × Contains (given_at position) a × LogsFalse a tag

-- the tag gave an answer that the position adopts from, and that was false
abbrev pub GaveFalse : World → History → ℕ → Type 0
GaveFalse world (Begun settings start) tag = ⊥
GaveFalse world (Then before event actions) tag = (a : Answer) × Contains (adopts_from before event) a × (a.tag ≡ tag) × (is_right world a ≡ false)

-- in every honest world each source that is named as false gave a false interval
abbrev pub NamesOnlyFalse : History → Type 0
NamesOnlyFalse history = (world : World) → IsHonest history world → (position : History) (tag : ℕ) → IsPositionOf position history
    → NamesFalse position tag → GaveFalse world position tag
