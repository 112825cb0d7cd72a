-- Refusals of lines.
use Rattle.std.proofs.Common.{◌≡◌, inr, ℕ, List, Result, Ok, Err, MatchResult, IfErr, IsErrAnd, refl}
use Rattle.line_filter.specs.declared.filter.Unfit.{Unfit}
use Rattle.line_filter.specs.Progress.{IsUnfit}
use Rattle.utc_calculator.specs.declared.cause.UtcRefusal.{UtcRefusal}
use Rattle.utc_calculator.specs.declared.results.Unwritten.{Unwritten}
use Rattle.utc_calculator.specs.declared.results.Unwritten.TheVariants as unwritten
use Rattle.utc_calculator.specs.declared.operation.Outcome.{Outcome}
use Rattle.utc_calculator.specs.Results.{RefusesShowing}
use Rattle.utc_calculator.specs.Writing.{IsUnwritten, fault_of}
use Rattle.utc_calculator.specs.Answers.{HasOutcome, calculator}

unwritten_refused : (line : List ℕ) (outcome : Outcome) (u : Unwritten) → HasOutcome line outcome → IsUnwritten (RefusesShowing outcome) u → IsUnfit calculator tt line (fault_of u)
unwritten_refused line outcome unwritten.Year has refuses = inr (inr (record { outcome = outcome; has = has; refused = refuses; is = refl }))
unwritten_refused line outcome unwritten.NoMemory has refuses = tt

-- an outcome that is not written refuses its line
pub showing_refused : {T : Type 0} (line : List ℕ) (outcome : Outcome) (r : Result T Unwritten) (m : Result T (Unfit UtcRefusal)) → HasOutcome line outcome → IfErr r (IsUnwritten (RefusesShowing outcome))
    → MatchResult r (λ x. m ≡ Ok x) (λ u. IsErrAnd m (λ f. f ≡ fault_of u)) → IfErr m (IsUnfit calculator tt line)
showing_refused line outcome (Ok x) m has refuses cases = rw cases tt
showing_refused line outcome (Err u) (Ok x) has refuses cases = absurd cases
showing_refused line outcome (Err u) (Err f) has refuses cases = rw cases (unwritten_refused line outcome u has refuses)
