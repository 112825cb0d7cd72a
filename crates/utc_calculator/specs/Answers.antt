-- What the calculator answers to lines, and what it refuses.
use Rattle.std.specs.Prelude.{◌≡◌, ◌⊎◌, ℕ, ◌+◌, List, [], ◌∷◌, ◌++◌}
use Rattle.line_reader.specs.declared.limits.TheConstants.{MAX_LINE}
use Rattle.line_filter.specs.Filters.{Rules}
use Rattle.utc_routines.specs.declared.UtcFault.{UtcFault}
use Rattle.utc_text.specs.declared.fault.PrintFault.TheVariants as print
use Rattle.utc_calculator.specs.declared.cause.UtcCause.TheVariants as cause
use Rattle.utc_calculator.specs.declared.cause.UtcRefusal.{UtcRefusal}
use Rattle.utc_calculator.specs.declared.operation.Operation.{Operation}
use Rattle.utc_calculator.specs.declared.operation.Outcome.{Outcome}
use Rattle.utc_calculator.specs.Places.{refused_at, refused_whole}
use Rattle.utc_calculator.specs.Operations.{Spells, RefusesReading}
use Rattle.utc_calculator.specs.Results.{Yields, RefusesRoutine, Shows, RefusesShowing}

-- the line asks for an operation that results in the outcome
pub record HasOutcome (line : List ℕ) (outcome : Outcome) : Type 0 where
  pub operation : Operation
  pub spelled : Spells line operation
  pub yields : Yields operation outcome

-- the answer to a line, without a line feed: its operation's outcome, as that is written
pub record Answers (line text : List ℕ) : Type 0 where
  pub outcome : Outcome
  pub has : HasOutcome line outcome
  pub shown : Shows outcome text

-- an operation that the line asks for is refused by its routine
pub record RefusesComputing (line : List ℕ) (r : UtcRefusal) : Type 0 where
  pub operation : Operation
  pub fault : UtcFault
  pub spelled : Spells line operation
  pub refused : RefusesRoutine operation fault
  pub is : r ≡ refused_whole (cause.Routine fault)

-- the outcome has no text
pub record RefusesPrinting (line : List ℕ) (r : UtcRefusal) : Type 0 where
  pub outcome : Outcome
  pub has : HasOutcome line outcome
  pub refused : RefusesShowing outcome
  pub is : r ≡ refused_whole (cause.Print print.YearRange)

-- why a line has no answer: in reading it, else in computing, else in printing
abbrev pub Refuses : List ℕ → UtcRefusal → Type 0
Refuses line r = RefusesReading line r ⊎ (RefusesComputing line r ⊎ RefusesPrinting line r)

-- the calculator as a filter, which keeps nothing from one line to the next: a line gives its answer with a line feed
abbrev pub calculator : Rules (Unit {0}) UtcRefusal
calculator = record {
  Takes = λ state line next text. (answer : List ℕ) × Answers line answer × (text ≡ answer ++ 10 ∷ []);
  Refuses = λ state line r. Refuses line r;
  RefusesEnd = λ state r. ⊥;
  too_many = refused_whole cause.Lines;
  too_long = refused_at (MAX_LINE + 1) cause.Long;
}
