-- What one that takes actions took from one state to the next.
use Rattle.std.specs.Prelude.{List, ◌++◌}
use Rattle.dts_capture.specs.declared.action.Action.{Action}

-- it took these actions behind those that it took before
abbrev pub GoesOn : {T : Type 0} → (T → List Action → Type 0) → T → T → List Action → Type 0
GoesOn took old new actions = (before : List Action) → took old before → took new (before ++ actions)

-- it took some actions, of which this holds
pub record HasTaken {T : Type 0} (took : T → List Action → Type 0) (old new : T) (Are : List Action → Type 0) : Type 0 where
  pub actions : List Action
  pub are : Are actions
  pub taken : GoesOn took old new actions
