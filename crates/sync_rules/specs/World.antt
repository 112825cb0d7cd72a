-- Worlds: the true times of a history's positions, after the statements of inaccuracy in C310.
use Rattle.std.specs.Prelude.{◌≡◌, ℕ, ◌+◌, ◌*◌, ◌==◌, ℤ, pos, ◌-◌, ◌<◌, ◌≤◌, ◌+ℤ◌, ◌-ℤ◌, ◌≤ℤ◌, int_le, Bool, not, ◌&&◌, if◌then◌else◌, List, [], length, count_by, IfSome}
use Rattle.slew_clock.specs.Elapsed.{MayElapse}
use Rattle.dts_capture.specs.declared.event.Event.{Event}
use Rattle.dts_capture.specs.declared.event.Event.TheVariants as event
use Rattle.sync_rules.specs.History.{History, Begun, Then, Part, Sync, Lane, Start, settings_of, start_of, event_osc, number_of, part_of, osc_of, IsPositionOf, ComesBefore}
use Rattle.sync_rules.specs.Live.{is_live}
use Rattle.sync_rules.specs.Rounds.{Answer, answers_of, outcome}
use Rattle.clerk.specs.Outcome.{Outcome, Adopted}
use Rattle.sync_rules.specs.Rules.{rates_of}

-- a true time for the number of each position, any whole numbers: units of 100 ns
pub record World : Type 0 where
  pub time : ℕ → ℤ

abbrev pub time_at : World → History → ℤ
time_at world position = world.time (number_of position)

-- The oscillator's drift is asked between two sync positions, two of one lane, and from a sync position to one of a lane.
abbrev pub AreComparable : Part → Part → Type 0
AreComparable Sync later = Unit {0}
AreComparable (Lane k) Sync = ⊥
AreComparable (Lane k) (Lane l) = k ≡ l

-- the world keeps the stated drift
abbrev pub KeepsDrift : History → World → Type 0
KeepsDrift history world = (earlier later : History) → IsPositionOf later history → ComesBefore earlier later
    → AreComparable (part_of earlier) (part_of later) → osc_of earlier ≤ osc_of later
    → MayElapse (settings_of history).rates (osc_of later - osc_of earlier) (time_at world later -ℤ time_at world earlier)

-- the first interval is unknown, or holds true time at the start
abbrev pub IsRightFirst : Start → ℤ → Type 0
IsRightFirst start time = IfSome start.first (λ first. (first.lo ≤ℤ time) × (time ≤ℤ first.hi))

-- an answer is right in a world where it is right at the true times of its asking and of its coming
abbrev pub is_right : World → Answer → Bool
is_right world answer = int_le answer.lo (world.time answer.got.position) && int_le (world.time answer.asked.position) answer.hi

-- fewer than half of the answers are false
abbrev pub IsMostlyRight : World → List Answer → Type 0
IsMostlyRight world answers = 2 * count_by (λ a. not (is_right world a)) answers < length answers

-- the answers from which a position adopts an interval
abbrev pub if_adopted : Outcome → List Answer → List Answer
if_adopted (Adopted n i) answers = answers
if_adopted _ answers = []

abbrev pub adopts_from : History → Event → List Answer
adopts_from before (event.Adopt osc required) =
    if is_live before (event.Adopt osc required)
    then if_adopted (outcome (rates_of before) (answers_of before) required osc) (answers_of before) else []
adopts_from before _ = []

-- a position that adopts an interval adopts it from answers of which fewer than half are false
abbrev pub HasHonestRound : World → History → Type 0
HasHonestRound world (Begun settings start) = Unit {0}
HasHonestRound world (Then before event actions) =
    let answers = adopts_from before event in 0 < length answers → IsMostlyRight world answers

-- An honest world keeps the drift, the first interval is right, and fewer than half of the intervals of each round that adopts are false.
pub record IsHonest (history : History) (world : World) : Type 0 where
  pub drift : KeepsDrift history world
  pub first : IsRightFirst (start_of history) (world.time 0)
  pub rounds : (position : History) → IsPositionOf position history → HasHonestRound world position

-- the oscillator reading of the position of this number
abbrev pub osc_at : History → ℕ → ℕ
osc_at (Begun settings start) i = start.osc
osc_at (Then before event actions) i = if i == number_of before + 1 then event_osc event else osc_at before i

-- the world of an exact oscillator: true time goes on as it does
abbrev pub exact_world : History → ℤ → World
exact_world history begins = record { time = λ i. begins +ℤ (pos (osc_at history i) -ℤ pos (start_of history).osc) }
