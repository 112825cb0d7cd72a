-- When rules leave one way to end, and when they always leave one.
use Rattle.std.specs.Prelude.{◌≡◌, ◌⊎◌, ℕ, List, Result, Ok, Err}
use Rattle.line_filter.specs.declared.stop.Stop.{Stop}
use Rattle.line_filter.specs.declared.stop.Stop.TheVariants as stop
use Rattle.line_filter.specs.Filters.{Rules}

-- A line that is taken gives one state and one text and is not refused, and a line or an end is refused for one cause.
pub record IsExclusive {State Cause : Type 0} (rules : Rules State Cause) : Type 0 where
  pub one_next : (state next other : State) (line text more : List ℕ) → rules.Takes state line next text → rules.Takes state line other more → (next ≡ other) × (text ≡ more)
  pub not_both : (state next : State) (line text : List ℕ) (cause : Cause) → rules.Takes state line next text → rules.Refuses state line cause → ⊥
  pub one_cause : (state : State) (line : List ℕ) (cause other : Cause) → rules.Refuses state line cause → rules.Refuses state line other → cause ≡ other
  pub one_end : (state : State) (cause other : Cause) → rules.RefusesEnd state cause → rules.RefusesEnd state other → cause ≡ other

-- In each state each line is taken or refused, and the end is refused or not.
pub record IsTotal {State Cause : Type 0} (rules : Rules State Cause) : Type 0 where
  pub line : (state : State) (line : List ℕ) → ((next : State) × (text : List ℕ) × rules.Takes state line next text) ⊎ ((cause : Cause) × rules.Refuses state line cause)
  pub end : (state : State) → ((cause : Cause) × rules.RefusesEnd state cause) ⊎ ((cause : Cause) → rules.RefusesEnd state cause → ⊥)

-- the input was taken as a whole, or refused
abbrev pub IsSettled : {Cause : Type 0} → Result (Unit {0}) (Stop Cause) → Type 0
IsSettled (Ok done) = Unit {0}
IsSettled (Err (stop.Refused n cause)) = Unit {0}
IsSettled (Err stop.Read) = ⊥
IsSettled (Err stop.Write) = ⊥
IsSettled (Err stop.NoMemory) = ⊥
