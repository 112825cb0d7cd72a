-- What a filter does with a line, and why it stops.
use Rattle.std.specs.Prelude.{◌≡◌, ℕ, ◌≤◌, List, Result, Err}
use Rattle.dts_base.specs.Causes.{Rose}
use Rattle.line_filter.specs.declared.stop.Stop.{Stop}
use Rattle.line_filter.specs.declared.filter.Unfit.{Unfit}
use Rattle.line_filter.specs.declared.filter.Unfit.TheVariants as unfit
use Rattle.line_filter.specs.Filters.{Rules}

-- The count of an object's faults did not fall. It rose where the call stops so, and stayed where it doesn't: no fault is passed over.
pub record StopCause {T Cause : Type 0} (s : Stop Cause) (before now : ℕ) (result : Result T (Stop Cause)) : Type 0 where
  pub later : before ≤ now
  pub failed : result ≡ Err s → Rose before now
  pub kept : (result ≡ Err s → ⊥) → now ≡ before

-- why a line does not fit: the rules refuse it in this state, or memory is missing
abbrev pub IsUnfit : {State Cause : Type 0} → Rules State Cause → State → List ℕ → Unfit Cause → Type 0
IsUnfit rules state line (unfit.Refused cause) = rules.Refuses state line cause
IsUnfit rules state line unfit.NoMemory = Unit {0}

-- in a state that is stood for, a line is taken and gives the text, and the next state is stood for
abbrev pub TakesNext : {State Cause : Type 0} → Rules State Cause → State → List ℕ → (State → Type 0) → List ℕ → Type 0
TakesNext {State} rules state line Stands text = (next : State) × rules.Takes state line next text × Stands next
