-- What an outcome of a round tells.
use Rattle.intersection.specs.Adoption.{ends_of}
use Rattle.clerk.specs.Outcome.{Outcome, Waiting, Short, Split, Adopted}
use Rattle.clerk.specs.declared.round.Outcome.{Outcome as Answer}
use Rattle.clerk.specs.declared.round.Outcome.TheVariants as answer

-- the outcome, its interval by its ends
abbrev pub told : Answer → Outcome
told (answer.Waiting unanswered deadline) = Waiting unanswered deadline
told (answer.Short answered required) = Short answered required
told (answer.Split n) = Split n
told (answer.Adopted n interval) = Adopted n (ends_of interval)
