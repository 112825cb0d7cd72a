-- The queries of a node are asked and answered at live positions of the sync part, and their answers are times of the clock.
use Rattle.std.proofs.Common.{◌≡◌, inr, ℕ, ℤ, Bool, true, false, List, [], ◌∷◌, Option, Some, None, sym, subst, arith}
use Rattle.std.specs.Prelude.{◌==◌, All, map, reverse, find, filter_map, option_map, option_and_then, IfSome, if◌then◌else◌}
use Rattle.std.specs.List.{list_all, cons_option}
use Rattle.std.proofs.lemmas.Int.{ints}
use Rattle.std.proofs.lemmas.List.Elements.{All-nil, All-cons, All-append, All-map, All-weaker, All-head, All-tail}
use Rattle.std.proofs.lemmas.List.{reverse-append}
use Rattle.time_provider.specs.Past.{is_time}
use Rattle.roster.specs.RosterData.{RosterData}
use Rattle.dts_capture.specs.declared.event.Event.{Event}
use Rattle.dts_capture.specs.declared.action.Action.{Action}
use Rattle.sync_rules.specs.History.{History, Begun, Then}
use Rattle.sync_rules.specs.Rounds.{Moment, Answer, moment_of}
use Rattle.sync_rules.specs.Ranges.{IsTime}
use Rattle.sync_rules.proofs.Choices.{both}
use Rattle.sync_rules.proofs.Moments.{IsMoment, moment_now, sync_grows}
use Rattle.node_rules.specs.History.{Finding, RoundOpened, QueryAsked, QueryAnswered, PeerEnded, NodeHistory, Began, Next, bare, Found, found_at, found_in}
use Rattle.node_rules.specs.Rounds.{opens, since_opening, asks, asked_at, answer_with, first_of, answer_from, all_servers, answers_in}
use Rattle.node_rules.specs.Rules.{IsRuled}
use Rattle.node_safety.proofs.Courses.{both_true, is_plain, is_quiet, IsLiveSync, Move, Steps, steps_of}
use Rattle.node_safety.proofs.Courses.Move.{plain, asked, answered, renewed, ended, direct, read}
use Rattle.node_safety.proofs.Courses.Steps.{begun, moved}
use Rattle.node_safety.proofs.Walks.{course}

-- an answer whose query was asked and answered at live positions of the sync part
pub record IsAnswer (h : History) (a : Answer) : Type 0 where
  pub asked : IsMoment h a.asked
  pub got : IsMoment h a.got
  pub low : IsTime a.lo
  pub high : IsTime a.hi

-- ---- what is found
abbrev pub IsTimely : History → Moment → Finding → Type 0
IsTimely h at (QueryAsked peer) = IsMoment h at
IsTimely h at (QueryAnswered peer lo hi) = IsMoment h at × IsTime lo × IsTime hi
IsTimely h at _ = Unit {0}

abbrev pub AreTimely : History → List Found → Type 0
AreTimely h found = All (λ f. IsTimely h f.at f.finding) found

time_is : (z : ℤ) → is_time z ≡ true → IsTime z
time_is z is = grind (arith, ints)

moment_stays : (h : History) (e : Event) (given : List Action) (m : Moment) → IsMoment h m → IsMoment (Then h e given) m
moment_stays h e given m is = record {
  position = is.position;
  is = inr is.is;
  number = is.number;
  osc = is.osc;
  part = is.part;
  before_last = omega (arith, is.before_last, sync_grows h e given);
}

timely_stays : (h : History) (e : Event) (given : List Action) (at : Moment) (f : Finding) → IsTimely h at f
    → IsTimely (Then h e given) at f
timely_stays h e given at (QueryAsked peer) is = moment_stays h e given at is
timely_stays h e given at (QueryAnswered peer lo hi) is = (moment_stays h e given at is.0, is.1, is.2)
timely_stays h e given at (RoundOpened number deadline sources word) is = tt
timely_stays h e given at _ is = tt

-- a finding of a position, whatever it gives in the end
abbrev IsFresh : NodeHistory → Event → List Action → Finding → Type 0
IsFresh before e final f = IsTimely (Then (bare before) e final) (moment_of (bare before) e) f

plain_is_fresh : (before : NodeHistory) (e : Event) (final : List Action) (f : Finding) → is_plain f ≡ true → IsFresh before e final f
plain_is_fresh before e final (QueryAsked peer) is = cc
plain_is_fresh before e final (QueryAnswered peer lo hi) is = cc
plain_is_fresh before e final _ is = tt

quiet_is_fresh : (before : NodeHistory) (e : Event) (final : List Action) (f : Finding) → IsLiveSync before e → is_quiet f ≡ true
    → IsFresh before e final f
quiet_is_fresh before e final (QueryAsked peer) at is = moment_now (bare before) e final at.sync at.live
quiet_is_fresh before e final (QueryAnswered peer lo hi) at is = cc
quiet_is_fresh before e final _ at is = tt

all_of : {X : Type 0} (p : X → Bool) (P : X → Type 0) (xs : List X) → ((x : X) → p x ≡ true → P x) → list_all p xs ≡ true → All P xs
all_of p P [] h all = All-nil P
all_of p P (x ∷ xs) h all = let parts = both_true (p x) (list_all p xs) all in All-cons P x xs (h x parts.0) (all_of p P xs h parts.1)

peers_ended_are_fresh : (before : NodeHistory) (e : Event) (final : List Action) (closed : List ℕ)
    → All (IsFresh before e final) (map PeerEnded closed)
peers_ended_are_fresh before e final [] = All-nil (IsFresh before e final)
peers_ended_are_fresh before e final (peer ∷ closed) =
    All-cons (IsFresh before e final) _ _ tt (peers_ended_are_fresh before e final closed)

move_is_fresh : (before : NodeHistory) (e : Event) (h : NodeHistory) (findings : List Finding) (given final : List Action)
    → Move before e h findings given
    → All (IsFresh before e final) findings
move_is_fresh before e h findings given final (plain f g) =
    all_of is_plain (IsFresh before e final) findings (plain_is_fresh before e final) f
move_is_fresh before e h findings given final (asked at f g) =
    all_of is_quiet (IsFresh before e final) findings (λ x. quiet_is_fresh before e final x at) f
move_is_fresh before e h findings given final (answered peer lo hi at low high f g) =
    subst (All (IsFresh before e final)) (sym f)
    (All-cons (IsFresh before e final) (QueryAnswered peer lo hi) []
    (moment_now (bare before) e final at.sync at.live, time_is lo low, time_is hi high) (All-nil (IsFresh before e final)))
move_is_fresh before e h findings given final (renewed rec at is f g) =
    subst (All (IsFresh before e final)) (sym f) (All-nil (IsFresh before e final))
move_is_fresh before e h findings given final (ended round o at is f g) =
    subst (All (IsFresh before e final)) (sym f) (All-cons (IsFresh before e final) _ _ tt (peers_ended_are_fresh before e final _))
move_is_fresh before e h findings given final (direct at is first f g) =
    subst (All (IsFresh before e final)) (sym f) (All-nil (IsFresh before e final))
move_is_fresh before e h findings given final (read at f g) =
    subst (All (IsFresh before e final)) (sym f) (All-nil (IsFresh before e final))

findings_are_fresh : (before : NodeHistory) (e : Event) (findings : List Finding) (given final : List Action)
    → Steps before e findings given
    → All (IsFresh before e final) findings
findings_are_fresh before e [] [] final begun = All-nil (IsFresh before e final)
findings_are_fresh before e _ _ final (moved findings given more further steps move) =
    All-append (IsFresh before e final) findings more (findings_are_fresh before e findings given final steps)
    (move_is_fresh before e _ more further final move)

pub all_reversed : {X : Type 0} (P : X → Type 0) (xs : List X) → All P xs → All P (reverse xs)
all_reversed P [] all = All-nil P
all_reversed P (x ∷ xs) all =
    subst (All P) (sym (reverse-append (x ∷ []) xs))
    (All-append P (reverse xs) (x ∷ []) (all_reversed P xs (All-tail P x xs all)) (All-cons P x [] (All-head P x xs all) (All-nil P)))

-- all that was found up to a position is timely, also while it comes about
pub so_far_timely : (before : NodeHistory) (e : Event) (findings : List Finding) (given final : List Action)
    → Steps before e findings given
    → AreTimely (bare before) (found_in before) → AreTimely (Then (bare before) e final) (found_in (Next before e findings given))
so_far_timely before e findings given final steps before_it =
    let P : Found → Type 0 = λ f. IsTimely (Then (bare before) e final) f.at f.finding in
    All-append P _ (found_in before)
    (all_reversed P _ (All-map P (found_at (moment_of (bare before) e)) findings
    (findings_are_fresh before e findings given final steps)))
    (All-weaker (λ f. IsTimely (bare before) f.at f.finding) P (λ f is. timely_stays (bare before) e final f.at f.finding is)
    (found_in before) before_it)

pub found_is_timely : (h : NodeHistory) → IsRuled h → AreTimely (bare h) (found_in h)
found_is_timely (Began roster start) ruled = All-nil (λ f. IsTimely (Begun (record { rates = _ }) start) f.at f.finding)
found_is_timely (Next before e findings given) ruled =
    so_far_timely before e findings given given (steps_of before e findings given _ ruled.0 (course before e))
    (found_is_timely before ruled.1)

-- ---- the answers of the last round
since_is_timely : (h : History) (found : List Found) → AreTimely h found → AreTimely h (since_opening found)
since_is_timely h [] are = are
since_is_timely h (f ∷ older) are =
    let P : Found → Type 0 = λ x. IsTimely h x.at x.finding in
    both (opens f.finding) [] (f ∷ since_opening older) (AreTimely h) (λ _. All-nil P)
    (λ _. All-cons P f (since_opening older) (All-head P f older are) (since_is_timely h older (All-tail P f older are)))

asked_moment : (h : History) (at : Moment) (peer : ℕ) (f : Finding) → asks peer f ≡ true → IsTimely h at f → IsMoment h at
asked_moment h at peer (QueryAsked other) is timely = timely
asked_moment h at peer _ is timely = cc

find_moment : (h : History) (peer : ℕ) (found : List Found) → AreTimely h found
    → IfSome (option_map (λ (f : Found). f.at) (find (λ f. asks peer f.finding) found)) (IsMoment h)
find_moment h peer [] are = tt
find_moment h peer (f ∷ older) are =
    let P : Found → Type 0 = λ x. IsTimely h x.at x.finding in
    both (asks peer f.finding) (Some f) (find (λ x. asks peer x.finding) older)
    (λ o. IfSome (option_map (λ (x : Found). x.at) o) (IsMoment h))
    (λ is. asked_moment h f.at peer f.finding is (All-head P f older are)) (λ _. find_moment h peer older (All-tail P f older are))

answer_is_timely : (h : History) (peer : ℕ) (asked_then : Moment) (f : Found) (finding : Finding) → IsMoment h asked_then
    → IsTimely h f.at finding
    → IfSome (answer_with peer asked_then f finding) (IsAnswer h)
answer_is_timely h peer asked_then f (QueryAnswered other lo hi) moment timely = from (other == peer)
  where
    from : (b : Bool) → IfSome (if b then Some (record { tag = peer; asked = asked_then; got = f.at; lo = lo; hi = hi }) else None)
        (IsAnswer h)
    from true = record { asked = moment; got = timely.0; low = timely.1; high = timely.2 }
    from false = tt
answer_is_timely h peer asked_then f _ moment timely = tt

with_one : {Y : Type 0} (Q : Y → Type 0) (o : Option Y) (ys : List Y) → IfSome o Q → All Q ys → All Q (cons_option o ys)
with_one Q None ys h all = all
with_one Q (Some y) ys h all = All-cons Q y ys h all

filter_map_all : {X Y : Type 0} (g : X → Option Y) (P : X → Type 0) (Q : Y → Type 0) → ((x : X) → P x → IfSome (g x) Q) → (xs : List X)
    → All P xs → All Q (filter_map g xs)
filter_map_all g P Q each [] all = All-nil Q
filter_map_all g P Q each (x ∷ xs) all =
    with_one Q (g x) (filter_map g xs) (each x (All-head P x xs all)) (filter_map_all g P Q each xs (All-tail P x xs all))

first_is : {Y : Type 0} (Q : Y → Type 0) (ys : List Y) → All Q ys → IfSome (first_of ys) Q
first_is Q [] all = tt
first_is Q (y ∷ ys) all = All-head Q y ys all

answer_from_is : (h : History) (found : List Found) (peer : ℕ) → AreTimely h found → IfSome (answer_from found peer) (IsAnswer h)
answer_from_is h found peer are = from (asked_at found peer) (find_moment h peer (since_opening found) since)
  where
    since : AreTimely h (since_opening found)
    since = since_is_timely h found are

    from : (asked_then : Option Moment) → IfSome asked_then (IsMoment h)
        → IfSome (option_and_then (λ m. first_of (filter_map (λ f. answer_with peer m f f.finding) (since_opening found))) asked_then)
        (IsAnswer h)
    from None is = tt
    from (Some m) is =
        first_is (IsAnswer h) _ (filter_map_all (λ f. answer_with peer m f f.finding) (λ f. IsTimely h f.at f.finding) (IsAnswer h)
        (λ f timely. answer_is_timely h peer m f f.finding is timely) (since_opening found) since)

pub answers_are : (h : History) (roster : RosterData) (found : List Found) → AreTimely h found
    → All (IsAnswer h) (answers_in roster found)
answers_are h roster found are =
    filter_map_all (answer_from found) (λ peer. Unit {0}) (IsAnswer h) (λ peer _. answer_from_is h found peer are) (all_servers roster)
    (every (all_servers roster))
  where
    every : (xs : List ℕ) → All (λ x. Unit {0}) xs
    every [] = All-nil (λ x. Unit {0})
    every (x ∷ xs) = All-cons (λ x. Unit {0}) x xs tt (every xs)
