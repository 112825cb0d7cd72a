-- How a node keeps a direct round: the positions of its moments are left out, since nothing that a round gives depends on them.
use Rattle.std.specs.Prelude.{◌≡◌, ◌==◌, ℕ, ◌≤◌, ℤ, pos, ◌≤ℤ◌, if◌then◌else◌, true, All, List, map, filter, find, Option, None, option_map}
use Rattle.std.specs.List.{list_any}
use Rattle.intersection.specs.Adoption.{ends_of}
use Rattle.slew_clock.specs.declared.limits.TheConstants.{GREATEST_TIME}
use Rattle.dts_capture.specs.declared.action.Action.{Action}
use Rattle.dts_capture.specs.declared.event.Event.{Event}
use Rattle.slew_clock.specs.declared.rates.Rates.{Rates}
use Rattle.slew_clock.specs.Change.{IsInRange}
use Rattle.dts_capture.specs.declared.action.NoteKind.TheVariants as note
use Rattle.dts_capture.specs.declared.action.FalseSource.TheVariants as source
use Rattle.sync_rules.specs.History.{History}
use Rattle.sync_rules.specs.Live.{is_live}
use Rattle.sync_rules.specs.Rounds.{Moment, Query, Answer, queries_of, answers_of, carried_to, are_apart}
use Rattle.clerk.specs.Outcome.{Outcome, Short, Split, Adopted}
use Rattle.sync_rules.specs.Rules.{live_actions, followed_by}
use Rattle.capture_replay.specs.Notes.{noted_at}
use Rattle.capture_replay.specs.declared.round.AskedTag.{AskedTag}
use Rattle.capture_replay.specs.declared.round.TagAnswer.{TagAnswer}
use Rattle.capture_replay.specs.declared.round.DirectRound.{DirectRound}
use Rattle.capture_replay.specs.declared.round.DirectOutcome.{DirectOutcome}
use Rattle.capture_replay.specs.declared.round.DirectOutcome.TheVariants as outcome

-- a moment without its position
abbrev pub placeless : ℕ → Moment
placeless osc = record { position = 0; osc = osc }

abbrev pub asked_tag : Query → AskedTag
asked_tag q = record { tag = q.tag; osc = q.asked.osc }

abbrev pub without_place : Answer → Answer
without_place a = record { tag = a.tag; asked = placeless a.asked.osc; got = placeless a.got.osc; lo = a.lo; hi = a.hi }

abbrev pub answer_kept : TagAnswer → Answer
answer_kept a = record { tag = a.tag; asked = placeless a.asked; got = placeless a.got; lo = a.interval.lo; hi = a.interval.hi }

abbrev pub answers_kept : DirectRound → List Answer
answers_kept round = map answer_kept round.answers.items

-- the round has the tags and the answers that the rules select from the history
pub record RoundStands (round : DirectRound) (history : History) : Type 0 where
  pub asked : round.asked.items ≡ map asked_tag (queries_of history)
  pub answers : answers_kept round ≡ map without_place (answers_of history)

-- a live event took the round from one state to another and gave these actions, as the rules have it of every history that it stands for
pub record IsRoundStep (old new : DirectRound) (event : Event) (actions : List Action) : Type 0 where
  pub gives : (history : History) → RoundStands old history → live_actions history event ≡ actions
  pub stands : (history : History) → RoundStands old history → is_live history event ≡ true → RoundStands new (followed_by history event)

-- the round stands for what it stood for
abbrev pub IsRoundKept : DirectRound → DirectRound → Type 0
IsRoundKept old new = (new.asked.items ≡ old.asked.items) × (new.answers.items ≡ old.answers.items)

-- when an open tag was asked
abbrev pub open_since : DirectRound → ℕ → Option ℕ
open_since round tag =
    if list_any (λ a. a.tag == tag) round.answers.items then None
    else option_map (λ t. t.osc) (find (λ t. t.tag == tag) round.asked.items)

-- an answer that can be carried on to an oscillator reading
pub record IsCarriable (osc : ℕ) (a : Answer) : Type 0 where
  pub low : pos 0 ≤ℤ a.lo
  pub high : a.hi ≤ℤ GREATEST_TIME
  pub order : a.asked.osc ≤ a.got.osc
  pub before : a.got.osc ≤ osc

abbrev pub AreCarriable : ℕ → DirectRound → Type 0
AreCarriable osc round = All (λ a. IsCarriable osc (answer_kept a)) round.answers.items

-- what is known of a round's outcome by the rules
abbrev pub outcome_kept : DirectOutcome → Outcome
outcome_kept (outcome.Short answered required) = Short answered required
outcome_kept (outcome.Split n) = Split n
outcome_kept (outcome.Adopted n interval) = Adopted n (ends_of interval)

-- the interval of an adoption is one that a record may be anchored to
abbrev pub IsAdoptable : DirectOutcome → Type 0
IsAdoptable (outcome.Adopted n interval) = IsInRange (ends_of interval)
IsAdoptable _ = Unit {0}

-- the notes on the answers that have no point in common with an interval, in their order
abbrev pub false_notes : Rates → ℕ → ℤ × ℤ → List TagAnswer → List Action
false_notes rates osc i answers = map (λ a. noted_at osc (note.False (source.Tag a.tag))) (filter (λ a. are_apart (carried_to rates osc (answer_kept a)) i) answers)
