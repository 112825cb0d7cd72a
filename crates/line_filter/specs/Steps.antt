-- What the steps of a filter do.
use Rattle.std.specs.Prelude.{◌≡◌, ℕ, ◌+◌, ◌<◌, ◌≤◌, List, length, Option}
use Rattle.dts_base.specs.Streams.{Wrote}
use Rattle.line_reader.specs.declared.limits.TheConstants.{MAX_LINE, MAX_LINES}
use Rattle.line_reader.specs.Reader.{Reader}
use Rattle.line_reader.specs.Taken.{HasTaken}
use Rattle.line_filter.specs.declared.stop.Stop.{Stop}
use Rattle.line_filter.specs.declared.stop.Stop.TheVariants as stop
use Rattle.line_filter.specs.Filters.{Rules, TakesLines, RefusesLine}
use Rattle.line_filter.specs.Progress.{TakesNext}

-- in a state that is stood for, a line behind so many others is taken, and is neither too many nor too long
abbrev pub TakesNumbered : {State Cause : Type 0} → Rules State Cause → ℕ → State → List ℕ → (State → Type 0) → List ℕ → Type 0
TakesNumbered rules before state line Stands text = (before < MAX_LINES) × (length line ≤ MAX_LINE) × TakesNext rules state line Stands text

-- why a filter stops at a line behind so many others
abbrev pub StopsAt : {State Cause : Type 0} → Rules State Cause → ℕ → State → List ℕ → Stop Cause → Type 0
StopsAt rules before state line (stop.Refused n cause) = (n ≡ before + 1) × RefusesLine rules before state line cause
StopsAt rules before state line stop.Read = ⊥
StopsAt rules before state line stop.Write = ⊥
StopsAt rules before state line stop.NoMemory = Unit {0}

-- Of the octets so many lines were taken, in a state that is stood for, and their text was written since the sink told `before`.
pub record Stands {State Cause : Type 0} (rules : Rules State Cause) (At : State → Type 0) (from : State) (octets : List ℕ) (number : ℕ) (reader : Reader) (left before now : Option (List ℕ)) : Type 0 where
  pub taken : List (List ℕ)
  pub has : HasTaken octets taken reader left
  pub count : number ≡ length taken
  pub state : State
  pub at : At state
  pub text : List ℕ
  pub takes : TakesLines rules from taken state text
  pub wrote : Wrote before now text
