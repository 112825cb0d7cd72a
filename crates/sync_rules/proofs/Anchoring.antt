-- In an honest world the anchor of the current record held true time.
use Rattle.std.proofs.Common.{◌≡◌, inl, inr, ℕ, suc, ◌+◌, ◌-◌, ◌*◌, ◌<◌, ◌≤◌, Bool, true, false, cond, List, [], ◌∷◌, length, Option, Some, None, refl, sym, ap, ◌∙◌, subst, arith}
use Rattle.std.specs.Prelude.{ℤ, ◌≤ℤ◌, ◌-ℤ◌, int_le, not, ◌&&◌, ◌||◌, All, map, count_by, option_map, IfSome, is_none}
use Rattle.std.proofs.lemmas.Int.{ints}
use Rattle.std.proofs.lemmas.List.Sums.{sum_by-cons}
use Rattle.std.proofs.lemmas.List.Elements.{All-weaker, All-head, All-tail}
use Rattle.intersection.specs.Adoption.{Holds, holds, count}
use Rattle.intersection.specs.Adopted.{adopted}
use Rattle.intersection.proofs.PointLaws.{true_holds}
use Rattle.intersection.proofs.AdoptionLaws.{adopted_holds}
use Rattle.dts_base.specs.declared.interval.Interval.{Interval}
use Rattle.slew_clock.specs.declared.rates.Rates.{Rates}
use Rattle.slew_clock.specs.declared.record.Anchor.{Anchor}
use Rattle.slew_clock.specs.declared.record.ClockRecord.{ClockRecord}
use Rattle.slew_clock.specs.Elapsed.{MayElapse, IsRight}
use Rattle.slew_clock.specs.Change.{anchored_record, stepped_record, changed_record, is_far}
use Rattle.slew_clock.proofs.ReadingLaws.{carried_contains}
use Rattle.slew_clock.proofs.ClockLaws.{Renewal, renewal}
use Rattle.slew_clock.proofs.ClockLaws.Renewal.{prolonged, resumed}
use Rattle.dts_capture.specs.declared.event.Event.{Event}
use Rattle.dts_capture.specs.declared.event.Event.TheVariants as event
use Rattle.dts_capture.specs.declared.action.Action.{Action}
use Rattle.sync_rules.specs.History.{History, Begun, Then, Sync, Start, Settings, event_part, event_osc, settings_of, part_of, osc_of, current_record, IsPositionOf}
use Rattle.sync_rules.specs.Live.{is_live}
use Rattle.sync_rules.specs.Rounds.{Answer, Moment, answers_of, carried_to, outcome}
use Rattle.clerk.specs.Outcome.{Adopted}
use Rattle.sync_rules.specs.Rules.{rates_of, IsRuled}
use Rattle.sync_rules.specs.Ranges.{IsInRange}
use Rattle.sync_rules.specs.World.{World, time_at, AreComparable, KeepsDrift, IsRightFirst, is_right, IsMostlyRight, adopts_from, if_adopted, IsHonest}
use Rattle.sync_rules.proofs.Choices.{both}
use Rattle.sync_rules.proofs.Positions.{same_settings, same_start, last_position, earlier_position}
use Rattle.sync_rules.proofs.Changes.{Change, current_then}
use Rattle.sync_rules.proofs.Changes.Change.{same, renewal as renews, adoption}
use Rattle.sync_rules.proofs.Moments.{IsMoment, IsAnswerOf, answers_are, sync_above}
use Rattle.sync_rules.proofs.Standing.{outcome_adopted, is_adopted}

-- ---- the drift between two positions
-- true time that passed from a moment of the history to a later event
moment_elapses : (h : History) (world : World) (whole : History) (e : Event) (actions : List Action) (m : Moment) → KeepsDrift whole world → IsPositionOf (Then h e actions) whole
    → IsMoment h m → m.osc ≤ event_osc e → MayElapse (rates_of h) (event_osc e - m.osc) (time_at world (Then h e actions) -ℤ world.time m.position)
moment_elapses h world whole e actions m drift is moment order =
    let settings = same_settings (Then h e actions) whole is in
    let comparable : AreComparable (part_of moment.position) (event_part e) = subst (λ p. AreComparable p (event_part e)) (sym moment.part) tt in
    let elapses = drift moment.position (Then h e actions) is moment.is comparable (omega (arith, moment.osc, order)) in
    let F : Settings → ℕ → ℕ → Type 0 = λ s o n. MayElapse s.rates (event_osc e - o) (time_at world (Then h e actions) -ℤ world.time n) in
    let numbered : F (settings_of whole) (osc_of moment.position) m.position = subst (λ n. F (settings_of whole) (osc_of moment.position) n) moment.number elapses in
    let timed : F (settings_of whole) m.osc m.position = subst (λ o. F (settings_of whole) o m.position) moment.osc numbered in
    subst (λ s. F s m.osc m.position) (sym settings) timed

-- ---- the adopted interval
le_true : (a b : ℤ) → int_le a b ≡ true → a ≤ℤ b
le_true a b h = grind (arith, ints)

-- a right answer, carried on, holds true time
both_true : (a b : Bool) → (a && b) ≡ true → (a ≡ true) × (b ≡ true)
both_true true true h = (refl, refl)
both_true true false h = cc
both_true false b h = cc

pub right_holds : (h : History) (world : World) (whole : History) (e : Event) (actions : List Action) (a : Answer) → KeepsDrift whole world → IsPositionOf (Then h e actions) whole
    → event_part e ≡ Sync → is_live h e ≡ true → IsAnswerOf h a → is_right world a ≡ true → holds (carried_to (rates_of h) (event_osc e) a) (time_at world (Then h e actions)) ≡ true
right_holds h world whole e actions a drift is sync live answer right =
    let after = sync_above h e sync live in
    let tests = both_true _ _ right in
    let now : IsRight a.lo a.hi (world.time a.asked.position) (world.time a.got.position) = (le_true _ _ tests.0, le_true _ _ tests.1) in
    let since_asking = moment_elapses h world whole e actions a.asked drift is answer.asked (omega (arith, answer.asked.before_last, after)) in
    let since_coming = moment_elapses h world whole e actions a.got drift is answer.got (omega (arith, answer.got.before_last, after)) in
    true_holds (carried_to (rates_of h) (event_osc e) a) (time_at world (Then h e actions))
    (carried_contains (rates_of h) a.lo a.hi a.asked.osc a.got.osc (event_osc e) (world.time a.asked.position) (world.time a.got.position) (time_at world (Then h e actions)) now since_asking since_coming)

-- of the intervals, all hold true time but those of false answers
one_more : (r k : Bool) (n false_ones holding : ℕ) → (r ≡ true → k ≡ true) → n ≤ false_ones + holding → n + 1 ≤ (cond (not r) 1 0 + false_ones) + (cond k 1 0 + holding)
one_more true true n f c h le = omega arith
one_more true false n f c h le = let bad = h refl in cc
one_more false true n f c h le = omega arith
one_more false false n f c h le = omega arith

abbrev false_count : World → List Answer → ℕ
false_count world answers = count_by (λ a. not (is_right world a)) answers

count_right : (world : World) (f : Answer → ℤ × ℤ) (t : ℤ) (answers : List Answer) → All (λ a. is_right world a ≡ true → holds (f a) t ≡ true) answers
    → length answers ≤ false_count world answers + count (map f answers) t
count_right world f t [] all = omega arith
count_right world f t (a ∷ answers) all =
    let rest = count_right world f t answers (All-tail (λ x. is_right world x ≡ true → holds (f x) t ≡ true) a answers all) in
    let more = one_more (is_right world a) (holds (f a) t) (length answers) (false_count world answers) (count (map f answers) t) (All-head (λ x. is_right world x ≡ true → holds (f x) t ≡ true) a answers all) rest in
    let false_more = sum_by-cons (λ x. cond (not (is_right world x)) 1 0) a answers in
    let holding_more = sum_by-cons (λ i. cond (holds i t) 1 0) (f a) (map f answers) in
    omega (arith, more, false_more, holding_more)

length-map_of : (f : Answer → ℤ × ℤ) (answers : List Answer) → length (map f answers) ≡ length answers
length-map_of f [] = refl
length-map_of f (a ∷ answers) = ap suc (length-map_of f answers)

-- fewer than half of the carried intervals lack true time
pub few_lack : (h : History) (world : World) (whole : History) (e : Event) (actions : List Action) → KeepsDrift whole world → IsPositionOf (Then h e actions) whole
    → event_part e ≡ Sync → is_live h e ≡ true → IsInRange h → IsMostlyRight world (answers_of h)
    → let s = map (carried_to (rates_of h) (event_osc e)) (answers_of h) in 2 * (length s - count s (time_at world (Then h e actions))) < length s
few_lack h world whole e actions drift is sync live range mostly =
    let t = time_at world (Then h e actions) in
    let f = carried_to (rates_of h) (event_osc e) in
    let all : All (λ a. is_right world a ≡ true → holds (f a) t ≡ true) (answers_of h) =
    All-weaker (IsAnswerOf h) (λ a. is_right world a ≡ true → holds (f a) t ≡ true) (λ a answer. right_holds h world whole e actions a drift is sync live answer) (answers_of h) (answers_are h range) in
    let enough = count_right world f t (answers_of h) all in
    let same_length = length-map_of f (answers_of h) in
    omega (arith, enough, same_length, mostly)

-- the answers that a live adoption of an interval adopts from
adopts_live : (h : History) (osc required n : ℕ) (i : ℤ × ℤ) → is_live h (event.Adopt osc required) ≡ true → outcome (rates_of h) (answers_of h) required osc ≡ Adopted n i
    → adopts_from h (event.Adopt osc required) ≡ answers_of h
adopts_live h osc required n i live comes =
    ap (λ b. cond b (if_adopted (outcome (rates_of h) (answers_of h) required osc) (answers_of h)) []) live
    ∙ ap (λ o. if_adopted o (answers_of h)) comes

pub adopts_all : (h : History) (e : Event) (required n : ℕ) (i : ℤ × ℤ) → is_live h e ≡ true → e ≡ event.Adopt (event_osc e) required
    → outcome (rates_of h) (answers_of h) required (event_osc e) ≡ Adopted n i → adopts_from h e ≡ answers_of h
adopts_all h e required n i live is comes =
    let P : Event → Type 0 = λ x. is_live h x ≡ true → outcome (rates_of h) (answers_of h) required (event_osc e) ≡ Adopted n i → adopts_from h x ≡ answers_of h in
    subst P (sym is) (adopts_live h (event_osc e) required n i) live comes

-- what is adopted is of one answer at least
some_adopted : (h : History) (e : Event) (required n : ℕ) (i : ℤ × ℤ) → outcome (rates_of h) (answers_of h) required (event_osc e) ≡ Adopted n i → 0 < length (answers_of h)
some_adopted h e required n i comes =
    let found = outcome_adopted (rates_of h) (answers_of h) required (event_osc e) n i comes in
    some (answers_of h) found.0
  where
    some : (answers : List Answer) → adopted (map (carried_to (rates_of h) (event_osc e)) answers) ≡ Some i → 0 < length answers
    some [] none = let bad = none in cc
    some (a ∷ answers) is = omega arith

pub mostly_right : (h : History) (world : World) (whole : History) (e : Event) (actions : List Action) (required n : ℕ) (i : ℤ × ℤ) → IsHonest whole world → IsPositionOf (Then h e actions) whole
    → is_live h e ≡ true → e ≡ event.Adopt (event_osc e) required → outcome (rates_of h) (answers_of h) required (event_osc e) ≡ Adopted n i → IsMostlyRight world (answers_of h)
mostly_right h world whole e actions required n i honest is live adopt comes =
    let all = adopts_all h e required n i live adopt comes in
    let round = honest.rounds (Then h e actions) is in
    let Round : List Answer → Type 0 = λ answers. 0 < length answers → IsMostlyRight world answers in
    let mine : Round (answers_of h) = subst Round all round in
    mine (some_adopted h e required n i comes)

pub adopted_true : (h : History) (world : World) (whole : History) (e : Event) (actions : List Action) (required n : ℕ) (i : ℤ × ℤ) → IsHonest whole world → IsPositionOf (Then h e actions) whole
    → IsInRange h → is_live h e ≡ true → e ≡ event.Adopt (event_osc e) required → outcome (rates_of h) (answers_of h) required (event_osc e) ≡ Adopted n i → Holds i (time_at world (Then h e actions))
adopted_true h world whole e actions required n i honest is range live adopt comes =
    let found = outcome_adopted (rates_of h) (answers_of h) required (event_osc e) n i comes in
    let s = map (carried_to (rates_of h) (event_osc e)) (answers_of h) in
    adopted_holds s i (time_at world (Then h e actions)) (is_adopted s i found.0)
    (few_lack h world whole e actions honest.drift is (ap event_part adopt) live range (mostly_right h world whole e actions required n i honest is live adopt comes))

-- ---- the anchor
-- a position of the history held true time in the anchor's interval
pub record HeldTime (h : History) (world : World) (a : Anchor) : Type 0 where
  pub position : History
  pub is : IsPositionOf position h
  pub part : part_of position ≡ Sync
  pub osc : osc_of position ≡ a.osc
  pub low : a.lo ≤ℤ time_at world position
  pub high : time_at world position ≤ℤ a.hi

held_stays : (h : History) (e : Event) (actions : List Action) (world : World) (anchor : Option Anchor) → IfSome anchor (HeldTime h world) → IfSome anchor (HeldTime (Then h e actions) world)
held_stays h e actions world None held = tt
held_stays h e actions world (Some a) held = record { position = held.position; is = inr held.is; part = held.part; osc = held.osc; low = held.low; high = held.high }

renewed_anchor : (r : Rates) (rec next : ClockRecord) (osc : ℕ) → Renewal r rec osc next → next.anchor ≡ rec.anchor
renewed_anchor r rec next osc (prolonged begun before is) = ap (λ (x : ClockRecord). x.anchor) is
renewed_anchor r rec next osc (resumed past is) = ap (λ (x : ClockRecord). x.anchor) is

changed_anchor : (r : Rates) (rec : ClockRecord) (osc : ℕ) (i : ℤ × ℤ) → (changed_record r rec osc i).anchor ≡ Some (record { osc = osc; lo = i.0; hi = i.1 })
changed_anchor r rec osc i = both (is_none rec.anchor || is_far r rec osc i) (stepped_record rec osc i) (anchored_record rec osc i) (λ (n : ClockRecord). n.anchor ≡ Some (record { osc = osc; lo = i.0; hi = i.1 })) (λ _. refl) (λ _. refl)

change_held : (h : History) (world : World) (whole : History) (e : Event) (actions : List Action) (next : ClockRecord) → IsHonest whole world → IsPositionOf (Then h e actions) whole → IsInRange h
    → IfSome (current_record h).anchor (HeldTime h world) → Change h e next → IfSome next.anchor (HeldTime (Then h e actions) world)
change_held h world whole e actions next honest is range held (same unchanged) =
    subst (λ (r : ClockRecord). IfSome r.anchor (HeldTime (Then h e actions) world)) (sym unchanged) (held_stays h e actions world (current_record h).anchor held)
change_held h world whole e actions next honest is range held (renews live sync made) =
    subst (λ a. IfSome a (HeldTime (Then h e actions) world)) (sym (renewed_anchor (rates_of h) (current_record h) next (event_osc e) (renewal (rates_of h) (current_record h) (event_osc e) next made)))
    (held_stays h e actions world (current_record h).anchor held)
change_held h world whole e actions next honest is range held (adoption required n i live adopt comes becomes) =
    let time = adopted_true h world whole e actions required n i honest is range live adopt comes in
    subst (λ (r : ClockRecord). IfSome r.anchor (HeldTime (Then h e actions) world)) (sym becomes)
    (subst (λ a. IfSome a (HeldTime (Then h e actions) world)) (sym (changed_anchor (rates_of h) (current_record h) (event_osc e) i))
    (record { position = Then h e actions; is = inl refl; part = ap event_part adopt; osc = refl; low = time.0; high = time.1 }))

abbrev anchor_at : ℕ → Interval → Anchor
anchor_at osc i = record { osc = osc; lo = i.lo; hi = i.hi }

first_held : (settings : Settings) (start : Start) (world : World) (first : Option Interval) → start.first ≡ first → IfSome first (λ i. (i.lo ≤ℤ world.time 0) × (world.time 0 ≤ℤ i.hi))
    → IfSome (option_map (λ (i : Interval). anchor_at start.osc i) first) (HeldTime (Begun settings start) world)
first_held settings start world None is right = tt
first_held settings start world (Some i) is right = record { position = Begun settings start; is = refl; part = refl; osc = refl; low = right.0; high = right.1 }

-- in an honest world the anchor of the current record held true time
pub anchor_held : (h : History) (world : World) (whole : History) → IsHonest whole world → IsPositionOf h whole → IsRuled h → IsInRange h → IfSome (current_record h).anchor (HeldTime h world)
unfolding current_record
anchor_held (Begun settings start) world whole honest is ruled range =
    first_held settings start world start.first refl (subst (λ (s : Start). IsRightFirst s (world.time 0)) (sym (same_start (Begun settings start) whole is)) honest.first)
anchor_held (Then h e actions) world whole honest is ruled range =
    let earlier = earlier_position h (Then h e actions) whole (last_position h) is in
    change_held h world whole e actions (current_record (Then h e actions)) honest is range.0 (anchor_held h world whole honest earlier ruled.1 range.0) (current_then h e actions ruled.0)
