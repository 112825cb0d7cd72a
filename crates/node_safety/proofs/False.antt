-- What the log names as false was false, and the node itself is never named.
use Rattle.std.proofs.Common.{◌≡◌, inl, inr, ℕ, ℤ, ◌-◌, ◌≤◌, true, false, List, Some, refl, sym, ap, subst, arith}
use Rattle.std.specs.Prelude.{◌-ℤ◌, All, Contains, IfSome}
use Rattle.std.proofs.lemmas.Int.{ints}
use Rattle.std.proofs.lemmas.Bool.{cases_Bool}
use Rattle.std.proofs.lemmas.List.Elements.{All-contains, All-weaker, All-contains_itself}
use Rattle.intersection.specs.Adoption.{Holds as HoldsPoint}
use Rattle.intersection.proofs.PointLaws.{holds_true}
use Rattle.slew_clock.specs.declared.record.Anchor.{Anchor}
use Rattle.slew_clock.specs.Record.{IsSoundAnchor}
use Rattle.slew_clock.specs.Elapsed.{MayElapse}
use Rattle.slew_clock.specs.Reading.{ends_since}
use Rattle.slew_clock.proofs.ReadingLaws.{interval_anchored}
use Rattle.clerk.specs.Outcome.{Adopted}
use Rattle.dts_capture.specs.declared.event.Event.{Event}
use Rattle.dts_capture.specs.declared.event.Event.TheVariants as event
use Rattle.dts_capture.specs.declared.action.Action.{Action}
use Rattle.dts_capture.specs.declared.action.Action.TheVariants as action
use Rattle.dts_capture.specs.declared.action.NoteKind.{NoteKind}
use Rattle.dts_capture.specs.declared.action.NoteKind.TheVariants as note
use Rattle.dts_capture.specs.declared.action.FalseSource.TheVariants as source
use Rattle.roster.specs.RosterData.{RosterData}
use Rattle.sync_rules.specs.Ranges.{IsInRange as HistoryInRange}
use Rattle.sync_rules.specs.History.{Start, Then, event_part, event_osc, current_record, given_at}
use Rattle.sync_rules.specs.Live.{is_live}
use Rattle.sync_rules.specs.Rounds.{Answer, answers_of, carried_to, are_apart, outcome as outcome_alone}
use Rattle.sync_rules.specs.Rules.{rates_of, noted, live_actions}
use Rattle.sync_rules.specs.World.{World, time_at, is_right}
use Rattle.sync_rules.specs.Safety.{IsFalseTag, LogsFalse, GaveFalse}
use Rattle.sync_rules.proofs.Choices.{only_one}
use Rattle.sync_rules.proofs.Moments.{IsAnswerOf, answers_are as answers_are_alone}
use Rattle.sync_rules.proofs.Anchoring.{HeldTime, adopted_true, adopts_all, right_holds as right_holds_alone}
use Rattle.sync_rules.proofs.Given.{given_all as given_all_alone}
use Rattle.node_rules.specs.History.{Finding, NodeHistory, Began, Next, roster_of, bare, found_in}
use Rattle.node_rules.specs.Rounds.{Round, answers_in, own_at, outcome_of}
use Rattle.node_rules.specs.Rules.{IsRuled, actions_at}
use Rattle.node_safety.specs.World.{IsPositionOf, IsHonest}
use Rattle.node_safety.specs.Safety.{IsFalseServer, IsFalseOwn, LogsFalseServer, LogsFalseOwn, ServerGaveFalse, NamesOnlyFalse}
use Rattle.node_safety.proofs.Courses.{is_plain_kind, is_plain_action, IsLiveSync, Steps, steps_of}
use Rattle.node_safety.proofs.Walks.{course}
use Rattle.node_safety.proofs.Answering.{IsAnswer, so_far_timely, found_is_timely, answers_are}
use Rattle.node_safety.proofs.Adopting.{own_is}
use Rattle.node_safety.proofs.Records.{live_given, now_record, Ground, Stage, stage_of, stage_before, ground_of}
use Rattle.node_safety.proofs.Positions.{bare_position, ruled_position, range_position, before_position}
use Rattle.node_safety.proofs.Given.{end_of, HoldsOfAdoption, given_all}
use Rattle.node_safety.proofs.Anchoring.{InWorld, elapses_to, right_holds, round_holds, IsHeld, first_held, steps_held, anchor_held}

apart_lack : (i j : ℤ × ℤ) (t : ℤ) → are_apart i j ≡ true → HoldsPoint i t → HoldsPoint j t → ⊥
apart_lack i j t apart in_i in_j = grind (arith, ints)

-- what an action names as false at a position of a world was so
pub record NamesFalseOnly (world : World) (position : NodeHistory) (a : Action) : Type 0 where
  pub servers : (peer : ℕ) → LogsFalseServer a peer → ServerGaveFalse world position peer
  pub tags : (tag : ℕ) → LogsFalse a tag → GaveFalse world (bare position) tag
  pub own : LogsFalseOwn a → ⊥

-- ---- what names nothing
plain_kind_names_none : (kind : NoteKind) (n : ℕ) → is_plain_kind kind ≡ true → (IsFalseServer kind n → ⊥) × (IsFalseTag kind n → ⊥)
    × (IsFalseOwn kind → ⊥)
plain_kind_names_none (note.False s) n is = cc
plain_kind_names_none (note.Reading value inaccuracy step number) n is = cc
plain_kind_names_none _ n is = (λ names. names, λ names. names, λ names. names)

plain_names_none : (world : World) (position : NodeHistory) (a : Action) → is_plain_action a ≡ true → NamesFalseOnly world position a
plain_names_none world position (action.Log n) is = record {
  servers = λ peer names. absurd ((plain_kind_names_none n.kind peer is).0 names);
  tags = λ tag names. absurd ((plain_kind_names_none n.kind tag is).1 names);
  own = λ names. (plain_kind_names_none n.kind 0 is).2 names;
}
plain_names_none world position (action.Publish rec) is = cc
plain_names_none world position (action.Send osc peer octets) is =
    record { servers = λ p names. absurd names; tags = λ t names. absurd names; own = λ names. names }
plain_names_none world position (action.Close osc peer) is =
    record { servers = λ p names. absurd names; tags = λ t names. absurd names; own = λ names. names }

names_nothing : (world : World) (position : NodeHistory) (e : Event) (kind : NoteKind)
    → ((n : ℕ) → (IsFalseServer kind n → ⊥) × (IsFalseTag kind n → ⊥)) → (IsFalseOwn kind → ⊥)
    → NamesFalseOnly world position (noted e kind)
names_nothing world position e kind none own = record {
  servers = λ peer names. absurd ((none peer).0 names);
  tags = λ tag names. absurd ((none tag).1 names);
  own = own;
}

-- ---- a round names a server
server_is_false : (before : NodeHistory) (e : Event) (findings now : List Finding) (given so_far : List Action) (world : World)
    (round : Round) (n : ℕ) (i : ℤ × ℤ) (a : Answer)
    → InWorld before e findings given world → Steps before e now so_far → IsLiveSync before e
    → outcome_of (Next before e now so_far) round (event_osc e) ≡ Adopted n i
    → Contains findings (end_of (Next before e now so_far) (event_osc e) n i)
    → Contains (answers_in (roster_of before) (found_in (Next before e now so_far))) a
    → are_apart (carried_to (rates_of (bare before)) (event_osc e) a) i ≡ true → is_right world a ≡ false
server_is_false before e findings now given so_far world round n i a in_world steps at comes ended_so in_answers apart =
    let h = Then (bare before) e given in
    let time = round_holds before e findings now given so_far world round n i in_world steps at comes ended_so in
    let answer : IsAnswer h a = All-contains (IsAnswer h) (answers_in (roster_of before) (found_in (Next before e now so_far))) a
    (answers_are h (roster_of before) (found_in (Next before e now so_far))
    (so_far_timely before e now so_far given steps (found_is_timely before in_world.ruled))) in_answers in
    elim (cases_Bool (is_right world a)) [
      | inl right ↦ absurd (apart_lack (carried_to (rates_of (bare before)) (event_osc e) a) i (time_at world h) apart
          (holds_true _ (time_at world h)
          (right_holds (bare before) (bare in_world.whole) world e given a in_world.honest.alone.drift
          (bare_position _ in_world.whole in_world.is) at.sync at.live answer right)) time)
      | inr wrong ↦ wrong
    ]

-- ---- and never the node itself: its own interval holds true time
own_holds : (before : NodeHistory) (e : Event) (findings now : List Finding) (given so_far : List Action) (world : World) (own : ℤ × ℤ)
    → InWorld before e findings given world → IsLiveSync before e → own_at (Next before e now so_far) (event_osc e) ≡ Some own
    → (order : (a : Anchor) → (current_record (bare (Next before e now so_far))).anchor ≡ Some a → a.osc ≤ event_osc e)
    → IsHeld before e given world (current_record (bare (Next before e now so_far)))
    → HoldsPoint own (time_at world (Then (bare before) e given))
own_holds before e findings now given so_far world own in_world at is order held =
    let h = Next before e now so_far in
    let t = time_at world (Then (bare before) e given) in
    let found =
    interval_anchored (rates_of (bare before)) (current_record (bare h)) (event_osc e) own (own_is h (event_osc e) own is).0 in
    let a = found.0 in
    let anchored : HeldTime (Then (bare before) e given) world a =
    subst (λ x. IfSome x (HeldTime (Then (bare before) e given) world)) found.1 held in
    let elapses =
    elapses_to (bare before) (bare in_world.whole) world e given anchored.position in_world.honest.alone.drift
    (bare_position _ in_world.whole in_world.is) anchored.is anchored.part
    (omega (arith, anchored.osc, order a found.1)) in
    let since : MayElapse (rates_of (bare before)) (event_osc e - a.osc) (t -ℤ time_at world anchored.position) =
    subst (λ o. MayElapse (rates_of (bare before)) (event_osc e - o) (t -ℤ time_at world anchored.position)) anchored.osc elapses in
    let low : own.0 ≡ (ends_since (rates_of (bare before)) a (event_osc e)).0 = ap (λ p. p.0) found.2 in
    let high : own.1 ≡ (ends_since (rates_of (bare before)) a (event_osc e)).1 = ap (λ p. p.1) found.2 in
    (omega (arith, ints, low, since.0, anchored.low), omega (arith, ints, high, since.1, anchored.high))

-- the anchor of a stage's record is no later than its event
anchor_order : (before : NodeHistory) (e : Event) (now : List Finding) (so_far : List Action) → Ground before e
    → Steps before e now so_far → IsLiveSync before e
    → (a : Anchor) → (current_record (bare (Next before e now so_far))).anchor ≡ Some a → a.osc ≤ event_osc e
anchor_order before e now so_far ground steps at a is =
    let rec = current_record (bare (Next before e now so_far)) in
    let stage : Stage before e rec =
    subst (Stage before e) (sym (now_record before e now so_far)) (stage_of before e now so_far ground steps) in
    let sound : IsSoundAnchor rec.born a = subst (λ x. IfSome x (IsSoundAnchor rec.born)) is stage.sound.anchor in
    omega (arith, sound.before, stage_before before e rec stage at)

held_now : (before : NodeHistory) (e : Event) (findings now : List Finding) (given so_far : List Action) (world : World)
    → InWorld before e findings given world → Steps before e now so_far
    → ((f : Finding) → Contains now f → Contains findings f)
    → IsHeld before e given world (current_record (bare (Next before e now so_far)))
held_now before e findings now given so_far world in_world steps inside =
    subst (IsHeld before e given world) (sym (now_record before e now so_far))
    (steps_held before e findings now given so_far world in_world steps inside
    (first_held before e findings given world in_world
    (anchor_held before in_world.whole world in_world.honest
    (before_position before in_world.whole e findings given in_world.is) in_world.ruled in_world.range)))

-- ---- an adoption
adoption_names : (before : NodeHistory) (e : Event) (findings now : List Finding) (given so_far : List Action) (world : World)
    (round : Round) (n : ℕ) (i : ℤ × ℤ)
    → InWorld before e findings given world → Ground before e → Steps before e now so_far → IsLiveSync before e
    → outcome_of (Next before e now so_far) round (event_osc e) ≡ Adopted n i
    → ((f : Finding) → Contains now f → Contains findings f) → Contains findings (end_of (Next before e now so_far) (event_osc e) n i)
    → HoldsOfAdoption (NamesFalseOnly world (Next before e findings given)) e (Next before e now so_far) n i
adoption_names before e findings now given so_far world round n i in_world ground steps at comes inside ended_so =
    let whole_now = Next before e findings given in
    let h = Next before e now so_far in
    let answers = answers_in (roster_of before) (found_in h) in
    record {
      adopted = names_nothing world whole_now e _ (λ m. (λ names. names, λ names. names)) (λ names. names);
      servers =
          All-weaker (Contains answers)
          (λ a. are_apart (carried_to (rates_of (bare before)) (event_osc e) a) i ≡ true
          → NamesFalseOnly world whole_now (noted e (note.False (source.Peer a.tag))))
          (λ a in_answers apart. record {
            servers = λ peer names. (
              end_of h (event_osc e) n i,
              ended_so,
              a,
              in_answers,
              names,
              server_is_false before e findings now given so_far world round n i a in_world steps at comes ended_so in_answers apart,
            );
            tags = λ tag names. absurd names;
            own = λ names. names;
          }) answers (All-contains_itself answers);
      own = λ own is apart. record {
        servers = λ peer names. absurd names;
        tags = λ tag names. absurd names;
        own = λ names.
            apart_lack own i (time_at world (bare whole_now)) apart
            (own_holds before e findings now given so_far world own in_world at is (anchor_order before e now so_far ground steps at)
            (held_now before e findings now given so_far world in_world steps inside))
            (round_holds before e findings now given so_far world round n i in_world steps at comes ended_so);
      };
      stepped = names_nothing world whole_now e _ (λ m. (λ names. names, λ names. names)) (λ names. names);
      published = record { servers = λ peer names. absurd names; tags = λ tag names. absurd names; own = λ names. names };
    }

-- ---- an event of a direct round
direct_is_false : (before : NodeHistory) (e : Event) (findings : List Finding) (given : List Action) (world : World) (required n : ℕ)
    (i : ℤ × ℤ) (a : Answer)
    → InWorld before e findings given world → is_live (bare before) e ≡ true → e ≡ event.Adopt (event_osc e) required
    → outcome_alone (rates_of (bare before)) (answers_of (bare before)) required (event_osc e) ≡ Adopted n i
    → Contains (answers_of (bare before)) a
    → are_apart (carried_to (rates_of (bare before)) (event_osc e) a) i ≡ true → is_right world a ≡ false
direct_is_false before e findings given world required n i a in_world live adopt comes in_answers apart =
    let h = bare before in
    let t = time_at world (Then h e given) in
    let place = bare_position (Next before e findings given) in_world.whole in_world.is in
    let time =
    adopted_true h world (bare in_world.whole) e given required n i in_world.honest.alone place in_world.range live adopt comes in
    let answer = All-contains (IsAnswerOf h) (answers_of h) a (answers_are_alone h in_world.range) in_answers in
    elim (cases_Bool (is_right world a)) [
      | inl right ↦ absurd (apart_lack (carried_to (rates_of h) (event_osc e) a) i t apart
          (holds_true _ t (right_holds_alone h world (bare in_world.whole) e given a in_world.honest.alone.drift place
          (ap event_part adopt) live answer right)) time)
      | inr wrong ↦ wrong
    ]

direct_names : (before : NodeHistory) (e : Event) (findings : List Finding) (given : List Action) (world : World)
    → InWorld before e findings given world → IsLiveSync before e
    → All (NamesFalseOnly world (Next before e findings given)) (live_actions (bare before) e)
direct_names before e findings given world in_world at =
    let whole_now = Next before e findings given in
    let P : Action → Type 0 = NamesFalseOnly world whole_now in
    subst (All P) (live_given (bare before) e at.live) (given_all_alone P (bare before) e (record {
      published = λ rec. record { servers = λ peer names. absurd names; tags = λ tag names. absurd names; own = λ names. names };
      closed = λ osc peer. record { servers = λ p names. absurd names; tags = λ tag names. absurd names; own = λ names. names };
      regressed = λ floor. names_nothing world whole_now e _ (λ m. (λ names. names, λ names. names)) (λ names. names);
      repeated = λ tag. names_nothing world whole_now e _ (λ m. (λ names. names, λ names. names)) (λ names. names);
      full = names_nothing world whole_now e _ (λ m. (λ names. names, λ names. names)) (λ names. names);
      unknown = λ tag. names_nothing world whole_now e _ (λ m. (λ names. names, λ names. names)) (λ names. names);
      short = λ answered required. names_nothing world whole_now e _ (λ m. (λ names. names, λ names. names)) (λ names. names);
      split = λ n. names_nothing world whole_now e _ (λ m. (λ names. names, λ names. names)) (λ names. names);
      adopted = λ n lo hi. names_nothing world whole_now e _ (λ m. (λ names. names, λ names. names)) (λ names. names);
      stepped = λ step old new. names_nothing world whole_now e _ (λ m. (λ names. names, λ names. names)) (λ names. names);
      named = λ required n i live adopt comes.
          All-weaker (Contains (answers_of (bare before)))
          (λ a. are_apart (carried_to (rates_of (bare before)) (event_osc e) a) i ≡ true → P (noted e (note.False (source.Tag a.tag))))
          (λ a in_answers apart. record {
            servers = λ peer names. absurd names;
            tags = λ tag names. (
              a,
              subst (λ xs. Contains xs a) (sym (adopts_all (bare before) e required n i live adopt comes)) in_answers,
              names,
              direct_is_false before e findings given world required n i a in_world live adopt comes in_answers apart,
            );
            own = λ names. names;
          }) (answers_of (bare before)) (All-contains_itself (answers_of (bare before)));
      read = λ live is. names_nothing world whole_now e _ (λ m. (λ names. names, λ names. names)) (λ names. names);
    }))

-- ---- any position
position_names : (before : NodeHistory) (e : Event) (findings : List Finding) (given : List Action) (world : World)
    → InWorld before e findings given world → Ground before e
    → Steps before e findings given → All (NamesFalseOnly world (Next before e findings given)) given
position_names before e findings given world in_world ground steps =
    let whole_now = Next before e findings given in
    given_all (NamesFalseOnly world whole_now) before e findings findings given (record {
      plain = plain_names_none world whole_now;
      renewed =
          λ now so_far rec steps_now at is. record { servers = λ peer names. absurd names; tags = λ tag names. absurd names; own = λ names. names };
      adoption = λ now so_far round n i steps_now at comes inside ended_so.
          adoption_names before e findings now given so_far world round n i in_world ground steps_now at comes inside ended_so;
      direct = λ at is. direct_names before e findings given world in_world at;
      read = λ at. names_nothing world whole_now e _ (λ m. (λ names. names, λ names. names)) (λ names. names);
    }) (λ f c. c) steps

-- at the start nothing is named
start_names : (world : World) (position : NodeHistory) (roster : RosterData) (start : Start) (a : Action)
    → Contains (actions_at (Began roster start)) a → NamesFalseOnly world position a
start_names world position roster start a in_given =
    subst (NamesFalseOnly world position) (only_one _ a in_given)
    (record { servers = λ peer names. absurd names; tags = λ tag names. absurd names; own = λ names. names })

action_names : (whole : NodeHistory) → IsRuled whole → HistoryInRange (bare whole) → (world : World) → IsHonest whole world
    → (p : NodeHistory) (a : Action) → IsPositionOf p whole
    → Contains (actions_at p) a → NamesFalseOnly world p a
action_names whole ruled range world honest (Began roster start) a is in_given =
    start_names world (Began roster start) roster start a in_given
action_names whole ruled range world honest (Next before e findings given) a is in_given =
    let own = ruled_position (Next before e findings given) whole ruled is in
    let fits = range_position (Next before e findings given) whole range is in
    All-contains (NamesFalseOnly world (Next before e findings given)) given a
    (position_names before e findings given world (record { whole = whole; honest = honest; is = is; range = fits.0; ruled = own.1 })
    (ground_of before e own.1 fits.0 fits.1)
    (steps_of before e findings given _ own.0 (course before e))) in_given

-- the actions of a position, without its findings
same_given : (p : NodeHistory) → given_at (bare p) ≡ actions_at p
same_given (Began roster start) = refl
same_given (Next before e findings given) = refl

pub names_only_false : (history : NodeHistory) → IsRuled history → HistoryInRange (bare history) → NamesOnlyFalse history
names_only_false h ruled range = record {
  servers = λ world honest p a peer is in_given names. (action_names h ruled range world honest p a is in_given).servers peer names;
  tags = λ world honest p tag is names.
      (action_names h ruled range world honest p names.0 is
      (subst (λ acts. Contains acts names.0) (same_given p) names.1)).tags tag names.2;
  own = λ world honest p a is in_given names. (action_names h ruled range world honest p a is in_given).own names;
}
