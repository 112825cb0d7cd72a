-- Direct rounds: which sources were asked, what they answered, and what comes of it.
use Rattle.std.specs.Prelude.{ℕ, ◌+◌, nat_le, ◌==◌, ◌||◌, if◌then◌else◌, Bool, ℤ, int_lt, List, [], ◌∷◌, ◌++◌, length, map, find, Option, Some, None, option_map}
use Rattle.std.specs.List.{list_any}
use Rattle.dts_base.specs.declared.interval.Interval.{Interval}
use Rattle.slew_clock.specs.declared.rates.Rates.{Rates}
use Rattle.slew_clock.specs.Elapsed.{carried}
use Rattle.clerk.specs.Outcome.{Outcome, concluded}
use Rattle.dts_capture.specs.declared.event.Event.{Event}
use Rattle.dts_capture.specs.declared.event.Event.TheVariants as event
use Rattle.dts_capture.specs.Grammar.{most_tags}
use Rattle.sync_rules.specs.History.{History, Begun, Then, event_osc, number_of}
use Rattle.sync_rules.specs.Live.{is_live}

-- when something happened: the number of the position and its oscillator reading
pub record Moment : Type 0 where
  pub position : ℕ
  pub osc : ℕ

-- the moment of an event after a history
abbrev pub moment_of : History → Event → Moment
moment_of before event = record { position = number_of before + 1; osc = event_osc event }

-- a tag that was asked
pub record Query : Type 0 where
  pub tag : ℕ
  pub asked : Moment

-- the interval that a tag was answered with
pub record Answer : Type 0 where
  pub tag : ℕ
  pub asked : Moment
  pub got : Moment
  pub lo : ℤ
  pub hi : ℤ

abbrev pub is_asked : List Query → ℕ → Bool
is_asked queries tag = list_any (λ q. q.tag == tag) queries

abbrev pub is_answered : List Answer → ℕ → Bool
is_answered answers tag = list_any (λ a. a.tag == tag) answers

-- there are as many tags as a direct round may have
abbrev pub is_full : List Query → Bool
is_full queries = nat_le most_tags (length queries)

-- the tags that are asked after an event: a query asks its tag, but for one that is asked or one too many; an adoption forgets all
abbrev pub asked_after : List Query → Moment → Event → List Query
asked_after queries now (event.Query osc tag) = if is_asked queries tag || is_full queries then queries else queries ++ record { tag = tag; asked = now } ∷ []
asked_after queries now (event.Adopt osc required) = []
asked_after queries now _ = queries

-- the tags that were asked since the last adoption, in order
unfoldable pub queries_of : History → List Query
queries_of (Begun settings start) = []
queries_of (Then before event actions) =
    if is_live before event then asked_after (queries_of before) (moment_of before event) event else queries_of before

-- the open query of a tag: the one that was not answered
abbrev pub open_query : List Query → List Answer → ℕ → Option Query
open_query queries answers tag = if is_answered answers tag then None else find (λ q. q.tag == tag) queries

abbrev pub with_answer : List Answer → Option Answer → List Answer
with_answer answers None = answers
with_answer answers (Some answer) = answers ++ answer ∷ []

-- what a query is answered with
abbrev pub answer_of : Query → Moment → ℕ → Interval → Answer
answer_of query now tag i = record { tag = tag; asked = query.asked; got = now; lo = i.lo; hi = i.hi }

-- the answers after an event: a source answers an open tag; an adoption forgets all
abbrev pub answered_after : List Query → List Answer → Moment → Event → List Answer
answered_after queries answers now (event.Source osc tag i) =
    with_answer answers (option_map (λ q. answer_of q now tag i) (open_query queries answers tag))
answered_after queries answers now (event.Adopt osc required) = []
answered_after queries answers now _ = answers

-- the answers since the last adoption, in the order in which they came
unfoldable pub answers_of : History → List Answer
answers_of (Begun settings start) = []
answers_of (Then before event actions) =
    if is_live before event then answered_after (queries_of before) (answers_of before) (moment_of before event) event else answers_of before

-- an answer carried to an oscillator reading after it
abbrev pub carried_to : Rates → ℕ → Answer → ℤ × ℤ
carried_to rates osc answer = carried rates answer.lo answer.hi answer.asked.osc answer.got.osc osc

-- what comes of these answers at an oscillator reading, where so many are required: a direct round waits for nobody, and has no interval of its own
unfoldable pub outcome : Rates → List Answer → ℕ → ℕ → Outcome
outcome rates answers required osc = concluded required (map (carried_to rates osc) answers) None

-- two intervals with no point in common
abbrev pub are_apart : ℤ × ℤ → ℤ × ℤ → Bool
are_apart i j = int_lt i.1 j.0 || int_lt j.1 i.0
