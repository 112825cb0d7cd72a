-- In an honest world what a node's round adopts holds true time, and so does the anchor of its current record.
use Rattle.std.proofs.Common.{◌≡◌, inl, inr, ℕ, ℤ, pos, ◌+◌, ◌-◌, ◌*◌, ◌<◌, ◌≤◌, Bool, true, false, cond, List, [], ◌∷◌, ◌++◌, length, Option, Some, None, refl, sym, ap, ◌∙◌, subst, arith}
use Rattle.std.specs.Prelude.{◌≤ℤ◌, ◌-ℤ◌, int_le, not, ◌||◌, is_none, All, Contains, map, reverse, IfSome}
use Rattle.std.specs.Option.{option_to_list}
use Rattle.std.proofs.lemmas.Int.{ints}
use Rattle.std.specs.List.{AllPass, count_by}
use Rattle.std.proofs.lemmas.Bool.{ltb-true}
use Rattle.std.proofs.lemmas.List.{length-append, length-map, reverse-reverse}
use Rattle.std.proofs.lemmas.List.Sums.{sum_by-cons}
use Rattle.std.proofs.lemmas.List.Elements.{All-nil, All-cons, All-contains, All-weaker, All-head, All-tail, Contains-append_left}
use Rattle.intersection.specs.Adoption.{Holds as HoldsPoint, holds, count}
use Rattle.intersection.proofs.PointLaws.{true_holds}
use Rattle.intersection.proofs.AdoptionLaws.{adopted_holds}
use Rattle.slew_clock.specs.declared.rates.Rates.{Rates}
use Rattle.slew_clock.specs.declared.record.Anchor.{Anchor}
use Rattle.slew_clock.specs.declared.record.ClockRecord.{ClockRecord}
use Rattle.slew_clock.specs.Elapsed.{MayElapse, IsRight}
use Rattle.slew_clock.specs.Change.{anchored_record, stepped_record, changed_record, renewed_record, is_far}
use Rattle.slew_clock.proofs.ReadingLaws.{carried_contains}
use Rattle.slew_clock.proofs.ClockLaws.{Renewal, renewal}
use Rattle.slew_clock.proofs.ClockLaws.Renewal.{prolonged, resumed}
use Rattle.clerk.specs.Outcome.{Outcome, Waiting, Short, Split, Adopted}
use Rattle.dts_capture.specs.declared.event.Event.{Event}
use Rattle.dts_capture.specs.declared.action.Action.{Action}
use Rattle.dts_capture.specs.declared.action.Action.TheVariants as action
use Rattle.sync_rules.specs.History.{History, Then, Settings, Sync, event_part, event_osc, part_of, osc_of, published, current_record, IsPositionOf as IsPositionAlone}
use Rattle.sync_rules.specs.Live.{is_live}
use Rattle.sync_rules.specs.Rounds.{Moment, Answer, moment_of, carried_to}
use Rattle.sync_rules.specs.Rules.{rates_of}
use Rattle.sync_rules.specs.Ranges.{IsInRange as HistoryInRange}
use Rattle.sync_rules.specs.World.{World, time_at, AreComparable, KeepsDrift, is_right}
use Rattle.sync_rules.proofs.Choices.{both}
use Rattle.sync_rules.proofs.Positions.{same_settings}
use Rattle.sync_rules.proofs.Changes.{Change, published-append}
use Rattle.sync_rules.proofs.Changes.Change.{same, renewal as renews, adoption}
use Rattle.sync_rules.proofs.Moments.{IsMoment, sync_live}
use Rattle.sync_rules.proofs.Anchoring.{HeldTime, adopted_true, anchor_held as anchor_held_alone}
use Rattle.node_rules.specs.History.{Finding, NodeHistory, Began, Next, roster_of, bare, Found, found_at, found_in}
use Rattle.node_rules.specs.Rounds.{Round, answers_in, own_at, outcome_of}
use Rattle.node_rules.specs.Ending.{gives_outcome}
use Rattle.node_rules.specs.Rules.{IsRuled, actions_at}
use Rattle.node_safety.specs.World.{IsPositionOf, false_count, interval_count, is_honest_end, is_honest, IsHonest}
use Rattle.node_safety.proofs.Courses.{both_true, IsLiveSync, Move, Steps, steps_of}
use Rattle.node_safety.proofs.Courses.Move.{plain, asked, answered, renewed, ended, direct, read}
use Rattle.node_safety.proofs.Courses.Steps.{begun, moved}
use Rattle.node_safety.proofs.Walks.{course}
use Rattle.node_safety.proofs.Answering.{all_reversed, IsAnswer, so_far_timely, found_is_timely, answers_are}
use Rattle.node_safety.proofs.Adopting.{intervals_at, adopts_of, is_adopted}
use Rattle.node_safety.proofs.Records.{plain_publish_none, closes_publish_none, adoption_publishes, now_record, direct_change}
use Rattle.node_safety.proofs.Positions.{bare_position, before_position}
use Rattle.node_safety.proofs.Given.{end_of, end_is_in}

-- a position of a history in an honest world
pub record InWorld (before : NodeHistory) (e : Event) (findings : List Finding) (given : List Action) (world : World) : Type 0 where
  pub whole : NodeHistory
  pub honest : IsHonest whole world
  pub is : IsPositionOf (Next before e findings given) whole
  pub range : HistoryInRange (bare before)
  pub ruled : IsRuled before

-- ---- the drift
elapses_exactly : (rates : Rates) (x : ℕ) → MayElapse rates x (pos x)
elapses_exactly rates x = (omega (arith, ints), omega (arith, ints))

-- true time that passed from a sync position up to an event, to that event
pub elapses_to : (h whole : History) (world : World) (e : Event) (given : List Action) (p : History) → KeepsDrift whole world
    → IsPositionAlone (Then h e given) whole
    → IsPositionAlone p (Then h e given) → part_of p ≡ Sync → osc_of p ≤ event_osc e
    → MayElapse (rates_of h) (event_osc e - osc_of p) (time_at world (Then h e given) -ℤ time_at world p)
elapses_to h whole world e given p drift in_whole is part order =
    elim is [
      | inl here ↦
          let none : event_osc e - osc_of p ≡ 0 = omega (arith, ap osc_of here) in
          let no_time : time_at world (Then h e given) -ℤ time_at world p ≡ pos 0 = omega (arith, ints, ap (time_at world) here) in
          subst (λ t. MayElapse (rates_of h) (event_osc e - osc_of p) t) (sym no_time)
          (subst (λ x. MayElapse (rates_of h) x (pos 0)) (sym none) (elapses_exactly (rates_of h) 0))
      | inr earlier ↦
          let comparable : AreComparable (part_of p) (event_part e) = subst (λ q. AreComparable q (event_part e)) (sym part) tt in
          subst (λ (s : Settings). MayElapse s.rates (event_osc e - osc_of p) (time_at world (Then h e given) -ℤ time_at world p))
          (sym (same_settings (Then h e given) whole in_whole))
          (drift p (Then h e given) in_whole earlier comparable order)
    ]

moment_elapses : (h whole : History) (world : World) (e : Event) (given : List Action) (m : Moment) → KeepsDrift whole world
    → IsPositionAlone (Then h e given) whole
    → event_part e ≡ Sync → is_live h e ≡ true → IsMoment (Then h e given) m
    → MayElapse (rates_of h) (event_osc e - m.osc) (time_at world (Then h e given) -ℤ world.time m.position)
moment_elapses h whole world e given m drift in_whole sync live moment =
    let order : osc_of moment.position ≤ event_osc e = omega (arith, moment.osc, moment.before_last, sync_live h e given sync live) in
    let elapses = elapses_to h whole world e given moment.position drift in_whole moment.is moment.part order in
    let timed =
    subst (λ o. MayElapse (rates_of h) (event_osc e - o)
    (time_at world (Then h e given) -ℤ time_at world moment.position)) moment.osc elapses in
    subst (λ n. MayElapse (rates_of h) (event_osc e - m.osc) (time_at world (Then h e given) -ℤ world.time n)) moment.number timed

-- ---- right answers hold true time when they are carried on
le_true : (a b : ℤ) → int_le a b ≡ true → a ≤ℤ b
le_true a b h = grind (arith, ints)

pub right_holds : (h whole : History) (world : World) (e : Event) (given : List Action) (a : Answer) → KeepsDrift whole world
    → IsPositionAlone (Then h e given) whole
    → event_part e ≡ Sync → is_live h e ≡ true → IsAnswer (Then h e given) a → is_right world a ≡ true
    → holds (carried_to (rates_of h) (event_osc e) a) (time_at world (Then h e given)) ≡ true
right_holds h whole world e given a drift in_whole sync live answer right =
    let tests = both_true _ _ right in
    let now : IsRight a.lo a.hi (world.time a.asked.position) (world.time a.got.position) = (le_true _ _ tests.0, le_true _ _ tests.1) in
    let since_asking = moment_elapses h whole world e given a.asked drift in_whole sync live answer.asked in
    let since_coming = moment_elapses h whole world e given a.got drift in_whole sync live answer.got in
    true_holds (carried_to (rates_of h) (event_osc e) a) (time_at world (Then h e given))
    (carried_contains (rates_of h) a.lo a.hi a.asked.osc a.got.osc (event_osc e) (world.time a.asked.position) (world.time a.got.position)
    (time_at world (Then h e given)) now since_asking since_coming)

-- ---- all intervals hold true time but the false ones
one_more : (r k : Bool) (n false_ones others holding : ℕ) → (r ≡ true → k ≡ true) → n ≤ (false_ones + others) + holding
    → n + 1 ≤ ((cond (not r) 1 0 + false_ones) + others) + (cond k 1 0 + holding)
one_more true true n f o c h le = omega arith
one_more true false n f o c h le = let bad = h refl in cc
one_more false true n f o c h le = omega arith
one_more false false n f o c h le = omega arith

own_count : (own : List (ℤ × ℤ)) (t : ℤ) → length own ≤ count_by (λ i. not (holds i t)) own + count own t
own_count [] t = omega arith
own_count (i ∷ own) t =
    let lacking = sum_by-cons (λ x. cond (not (holds x t)) 1 0) i own in
    let holding = sum_by-cons (λ x. cond (holds x t) 1 0) i own in
    omega (arith, own_count own t, lacking, holding, one (holds i t))
  where
    one : (b : Bool) → cond (not b) 1 0 + cond b 1 0 ≡ 1
    one true = refl
    one false = refl

count_right : (world : World) (f : Answer → ℤ × ℤ) (t : ℤ) (own : List (ℤ × ℤ)) (answers : List Answer)
    → All (λ a. is_right world a ≡ true → holds (f a) t ≡ true) answers
    → length (map f answers ++ own) ≤ (count_by (λ a. not (is_right world a)) answers + count_by (λ i. not (holds i t)) own) + count
    (map f answers ++ own) t
count_right world f t own [] all = omega (arith, own_count own t)
count_right world f t own (a ∷ answers) all =
    let rest = count_right world f t own answers (All-tail (λ x. is_right world x ≡ true → holds (f x) t ≡ true) a answers all) in
    let more =
    one_more (is_right world a) (holds (f a) t) (length (map f answers ++ own)) (count_by (λ x. not (is_right world x)) answers)
    (count_by (λ i. not (holds i t)) own)
    (count (map f answers ++ own) t) (All-head (λ x. is_right world x ≡ true → holds (f x) t ≡ true) a answers all) rest in
    let false_more = sum_by-cons (λ x. cond (not (is_right world x)) 1 0) a answers in
    let holding_more = sum_by-cons (λ i. cond (holds i t) 1 0) (f a) (map f answers ++ own) in
    omega (arith, more, false_more, holding_more)

-- ---- the rounds of a position in an honest world
all_behind : {X : Type 0} (P : X → Type 0) (xs ys : List X) → All P (xs ++ ys) → All P ys
all_behind P [] ys all = all
all_behind P (x ∷ xs) ys all = all_behind P xs ys (All-tail P x (xs ++ ys) all)

all_before : {X : Type 0} (P : X → Type 0) (xs ys : List X) → All P (xs ++ ys) → All P xs
all_before P [] ys all = All-nil P
all_before P (x ∷ xs) ys all = All-cons P x xs (All-head P x (xs ++ ys) all) (all_before P xs ys (All-tail P x (xs ++ ys) all))

all_mapped : {X Y : Type 0} (P : X → Type 0) (f : Y → X) (ys : List Y) → All P (map f ys) → All (λ y. P (f y)) ys
all_mapped P f [] all = All-nil (λ y. P (f y))
all_mapped P f (y ∷ ys) all =
    All-cons (λ x. P (f x)) y ys (All-head P (f y) (map f ys) all) (all_mapped P f ys (All-tail P (f y) (map f ys) all))

rounds_here : (before : NodeHistory) (e : Event) (findings : List Finding) (given : List Action) (world : World)
    → AllPass (is_honest world) (found_in (Next before e findings given))
    → All (λ f. is_honest_end world (time_at world (Then (bare before) e given)) f ≡ true) findings
rounds_here before e findings given world all =
    let P : Found → Type 0 = λ f. is_honest world f ≡ true in
    let at = moment_of (bare before) e in
    let found = map (found_at at) findings in
    all_mapped P (found_at at) findings
    (subst (All P) (reverse-reverse found) (all_reversed P (reverse found) (all_before P (reverse found) (found_in before) all)))

rounds_at : (before : NodeHistory) (e : Event) (findings : List Finding) (given : List Action) (whole : NodeHistory) (world : World)
    → IsPositionOf (Next before e findings given) whole
    → AllPass (is_honest world) (found_in whole)
    → All (λ f. is_honest_end world (time_at world (Then (bare before) e given)) f ≡ true) findings
rounds_at before e findings given whole world is all =
    rounds_here before e findings given world (all_of_position (Next before e findings given) whole is all)
  where
    all_of_position : (p w : NodeHistory) → IsPositionOf p w → AllPass (is_honest world) (found_in w)
        → AllPass (is_honest world) (found_in p)
    all_of_position p (Began roster start) at_start found = subst (λ q. AllPass (is_honest world) (found_in q)) (sym at_start) found
    all_of_position p (Next b x f g) at_it found =
        elim at_it [
          | inl here ↦ subst (λ q. AllPass (is_honest world) (found_in q)) (sym here) found
          | inr earlier ↦ all_of_position p b earlier (all_behind (λ y. is_honest world y ≡ true) _ (found_in b) found)
        ]

-- ---- what a round adopts
all_right_hold : (before : NodeHistory) (e : Event) (findings now : List Finding) (given so_far : List Action) (world : World)
    → InWorld before e findings given world
    → Steps before e now so_far → IsLiveSync before e
    → All (λ a. is_right world a ≡ true
    → holds (carried_to (rates_of (bare before)) (event_osc e) a) (time_at world (Then (bare before) e given)) ≡ true)
    (answers_in (roster_of before) (found_in (Next before e now so_far)))
all_right_hold before e findings now given so_far world in_world steps at =
    All-weaker (IsAnswer (Then (bare before) e given)) _
    (λ a answer. right_holds (bare before) (bare in_world.whole) world e given a in_world.honest.alone.drift
    (bare_position _ in_world.whole in_world.is) at.sync at.live answer)
    (answers_in (roster_of before) (found_in (Next before e now so_far)))
    (answers_are (Then (bare before) e given) (roster_of before) (found_in (Next before e now so_far))
    (so_far_timely before e now so_far given steps (found_is_timely before in_world.ruled)))

pub round_holds : (before : NodeHistory) (e : Event) (findings now : List Finding) (given so_far : List Action) (world : World)
    (round : Round) (n : ℕ) (i : ℤ × ℤ)
    → InWorld before e findings given world → Steps before e now so_far → IsLiveSync before e
    → outcome_of (Next before e now so_far) round (event_osc e) ≡ Adopted n i
    → Contains findings (end_of (Next before e now so_far) (event_osc e) n i)
    → HoldsPoint i (time_at world (Then (bare before) e given))
round_holds before e findings now given so_far world round n i in_world steps at comes ended_so =
    let h = Next before e now so_far in
    let t = time_at world (Then (bare before) e given) in
    let answers = answers_in (roster_of h) (found_in h) in
    let own = own_at h (event_osc e) in
    let s = intervals_at h (event_osc e) in
    let honest : 2 * false_count world t answers own < interval_count answers own =
    ltb-true _ _ (All-contains (λ f. is_honest_end world t f ≡ true) findings (end_of h (event_osc e) n i)
    (rounds_at before e findings given in_world.whole world in_world.is in_world.honest.rounds) ended_so) in
    let enough = count_right world (carried_to (rates_of (bare before)) (event_osc e)) t (option_to_list own) answers
    (all_right_hold before e findings now given so_far world in_world steps at) in
    let all : length s ≡ interval_count answers own =
    length-append (map (carried_to (rates_of (bare before)) (event_osc e)) answers) (option_to_list own)
    ∙ ap (λ m. m + length (option_to_list own)) (length-map answers (carried_to (rates_of (bare before)) (event_osc e))) in
    adopted_holds s i t (is_adopted s i (adopts_of h round (event_osc e) n i comes)) (omega (arith, enough, all, honest))

-- ---- the anchor
held_stays : (h : History) (e : Event) (given : List Action) (world : World) (anchor : Option Anchor) → IfSome anchor (HeldTime h world)
    → IfSome anchor (HeldTime (Then h e given) world)
held_stays h e given world None held = tt
held_stays h e given world (Some a) held =
    record { position = held.position; is = inr held.is; part = held.part; osc = held.osc; low = held.low; high = held.high }

renewed_anchor : (r : Rates) (rec next : ClockRecord) (osc : ℕ) → Renewal r rec osc next → next.anchor ≡ rec.anchor
renewed_anchor r rec next osc (prolonged from early is) = ap (λ (x : ClockRecord). x.anchor) is
renewed_anchor r rec next osc (resumed past is) = ap (λ (x : ClockRecord). x.anchor) is

changed_anchor : (r : Rates) (rec : ClockRecord) (osc : ℕ) (i : ℤ × ℤ) → (changed_record r rec osc i).anchor
    ≡ Some (record { osc = osc; lo = i.0; hi = i.1 })
changed_anchor r rec osc i =
    both (is_none rec.anchor || is_far r rec osc i) (stepped_record rec osc i) (anchored_record rec osc i)
    (λ (n : ClockRecord). n.anchor ≡ Some (record { osc = osc; lo = i.0; hi = i.1 })) (λ _. refl) (λ _. refl)

-- the anchor of a record held true time at a position up to this one
abbrev pub IsHeld : NodeHistory → Event → List Action → World → ClockRecord → Type 0
IsHeld before e given world rec = IfSome rec.anchor (HeldTime (Then (bare before) e given) world)

same_held : (before : NodeHistory) (e : Event) (given : List Action) (world : World) (rec next : ClockRecord) → next ≡ rec
    → IsHeld before e given world rec → IsHeld before e given world next
same_held before e given world rec next equal held = subst (IsHeld before e given world) (sym equal) held

-- an interval that held true time at this position
anchored_held : (before : NodeHistory) (e : Event) (given : List Action) (world : World) (rec : ClockRecord) (i : ℤ × ℤ) → event_part e
    ≡ Sync
    → HoldsPoint i (time_at world (Then (bare before) e given))
    → IsHeld before e given world (changed_record (rates_of (bare before)) rec (event_osc e) i)
anchored_held before e given world rec i sync time =
    subst (λ a. IfSome a (HeldTime (Then (bare before) e given) world))
    (sym (changed_anchor (rates_of (bare before)) rec (event_osc e) i))
    (record { position = Then (bare before) e given; is = inl refl; part = sync; osc = refl; low = time.0; high = time.1 })

outcome_held : (before : NodeHistory) (e : Event) (findings now : List Finding) (given so_far : List Action) (world : World)
    (round : Round) (o : Outcome) (closed : List ℕ)
    → InWorld before e findings given world → Steps before e now so_far → IsLiveSync before e
    → outcome_of (Next before e now so_far) round (event_osc e) ≡ o
    → ((n : ℕ) (i : ℤ × ℤ) → o ≡ Adopted n i → Contains findings (end_of (Next before e now so_far) (event_osc e) n i))
    → IsHeld before e given world (published (current_record (bare before)) so_far)
    → IsHeld before e given world
    (published (published (current_record (bare before)) so_far)
    (gives_outcome e (Next before e now so_far) o ++ map (action.Close (event_osc e)) closed))
outcome_held before e findings now given so_far world round (Waiting u d) closed in_world steps at comes ended_so held =
    same_held before e given world _ _ (closes_publish_none _ (event_osc e) closed) held
outcome_held before e findings now given so_far world round (Short a r) closed in_world steps at comes ended_so held =
    same_held before e given world _ _ (closes_publish_none _ (event_osc e) closed) held
outcome_held before e findings now given so_far world round (Split n) closed in_world steps at comes ended_so held =
    same_held before e given world _ _ (closes_publish_none _ (event_osc e) closed) held
outcome_held before e findings now given so_far world round (Adopted n i) closed in_world steps at comes ended_so held =
    let time = round_holds before e findings now given so_far world round n i in_world steps at comes (ended_so n i refl) in
    same_held before e given world _ _
    (adoption_publishes e (Next before e now so_far) (published (current_record (bare before)) so_far) n i closed)
    (anchored_held before e given world (current_record (bare (Next before e now so_far))) i at.sync time)

direct_held : (before : NodeHistory) (e : Event) (findings : List Finding) (given : List Action) (world : World) (next : ClockRecord)
    → InWorld before e findings given world
    → Change (bare before) e next → IsHeld before e given world (current_record (bare before)) → IsHeld before e given world next
direct_held before e findings given world next in_world (same is) held = same_held before e given world _ next is held
direct_held before e findings given world next in_world (renews live sync made) held =
    subst (λ a. IfSome a (HeldTime (Then (bare before) e given) world))
    (sym (renewed_anchor (rates_of (bare before)) (current_record (bare before)) next (event_osc e)
    (renewal (rates_of (bare before)) (current_record (bare before)) (event_osc e) next made))) held
direct_held before e findings given world next in_world (adoption required n i live adopt comes becomes) held =
    same_held before e given world _ next becomes
    (anchored_held before e given world (current_record (bare before)) i (ap event_part adopt)
    (adopted_true (bare before) world (bare in_world.whole) e given required n i in_world.honest.alone
    (bare_position _ in_world.whole in_world.is) in_world.range live adopt comes))

move_held : (before : NodeHistory) (e : Event) (findings now more : List Finding) (given so_far further : List Action) (world : World)
    → InWorld before e findings given world
    → Steps before e now so_far → ((f : Finding) → Contains (now ++ more) f → Contains findings f)
    → IsHeld before e given world (current_record (bare before))
    → IsHeld before e given world (published (current_record (bare before)) so_far)
    → Move before e (Next before e now so_far) more further
    → IsHeld before e given world (published (published (current_record (bare before)) so_far) further)
move_held before e findings now more given so_far further world in_world steps inside first held (plain f g) =
    same_held before e given world _ _ (plain_publish_none _ further g) held
move_held before e findings now more given so_far further world in_world steps inside first held (asked at f g) =
    same_held before e given world _ _ (plain_publish_none _ further g) held
move_held before e findings now more given so_far further world in_world steps inside first held (answered peer lo hi at low high f g) =
    same_held before e given world _ _ (ap (published _) g) held
move_held before e findings now more given so_far further world in_world steps inside first held (renewed rec at is f g) =
    let current = published (current_record (bare before)) so_far in
    let made : renewed_record (rates_of (bare before)) current (event_osc e) ≡ Some rec =
    subst (λ r. renewed_record (rates_of (bare before)) r (event_osc e) ≡ Some rec) (now_record before e now so_far) is in
    same_held before e given world _ _ (ap (published current) g)
    (subst (λ a. IfSome a (HeldTime (Then (bare before) e given) world))
    (sym (renewed_anchor (rates_of (bare before)) current rec (event_osc e)
    (renewal (rates_of (bare before)) current (event_osc e) rec made))) held)
move_held before e findings now more given so_far further world in_world steps inside first held (ended round o at is f g) =
    same_held before e given world _ _ (ap (published (published (current_record (bare before)) so_far)) g)
    (outcome_held before e findings now given so_far world round o _ in_world steps at is
    (λ n i same. end_is_in findings now more (Next before e now so_far) (event_osc e) n i o _ same f inside) held)
move_held before e findings now more given so_far further world in_world steps inside first held (direct at is start f g) =
    let none : so_far ≡ [] = ap actions_at start in
    same_held before e given world _ _
    (ap (λ acts. published (published (current_record (bare before)) acts) further) none
    ∙ ap (published (current_record (bare before))) g)
    (direct_held before e findings given world _ in_world (direct_change before e at) first)
move_held before e findings now more given so_far further world in_world steps inside first held (read at f g) =
    same_held before e given world _ _ (ap (published _) g) held

pub steps_held : (before : NodeHistory) (e : Event) (findings now : List Finding) (given so_far : List Action) (world : World)
    → InWorld before e findings given world
    → Steps before e now so_far → ((f : Finding) → Contains now f → Contains findings f)
    → IsHeld before e given world (current_record (bare before))
    → IsHeld before e given world (published (current_record (bare before)) so_far)
steps_held before e findings [] given [] world in_world begun inside first = first
steps_held before e findings _ given _ world in_world (moved now so_far more further steps move) inside first =
    same_held before e given world _ _ (published-append (current_record (bare before)) so_far further)
    (move_held before e findings now more given so_far further world in_world steps inside first
    (steps_held before e findings now given so_far world in_world steps (λ f c. inside f (Contains-append_left now more f c)) first) move)

-- what held true time before does so at the first stage
pub first_held : (before : NodeHistory) (e : Event) (findings : List Finding) (given : List Action) (world : World)
    → InWorld before e findings given world
    → IfSome (current_record (bare before)).anchor (HeldTime (bare before) world)
    → IsHeld before e given world (current_record (bare before))
first_held before e findings given world in_world held = held_stays (bare before) e given world (current_record (bare before)).anchor held

-- the anchor of the current record held true time
pub anchor_held : (h whole : NodeHistory) (world : World) → IsHonest whole world → IsPositionOf h whole → IsRuled h
    → HistoryInRange (bare h)
    → IfSome (current_record (bare h)).anchor (HeldTime (bare h) world)
anchor_held (Began roster start) whole world honest is ruled range =
    anchor_held_alone (bare (Began roster start)) world (bare whole) honest.alone (bare_position (Began roster start) whole is) tt range
anchor_held (Next before e findings given) whole world honest is ruled range =
    let in_world : InWorld before e findings given world =
    record { whole = whole; honest = honest; is = is; range = range.0; ruled = ruled.1 } in
    subst (IsHeld before e given world) (sym (now_record before e findings given))
    (steps_held before e findings findings given given world in_world (steps_of before e findings given _ ruled.0 (course before e))
    (λ f c. c)
    (first_held before e findings given world in_world
    (anchor_held before whole world honest (before_position before whole e findings given is) ruled.1 range.0)))
