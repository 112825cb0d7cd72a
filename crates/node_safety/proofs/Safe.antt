-- Every history of the rules of a node is safe.
use Rattle.std.proofs.Common.{◌≡◌, ℕ, ℤ, ◌-◌, ◌≤◌, inl, inr, Bool, true, false, cond, List, Option, Some, None, refl, sym, ap, ◌∙◌, subst, arith, eq-eqb}
use Rattle.std.specs.Prelude.{◌-ℤ◌, ◌≤ℤ◌, ◌&&◌, nat_le, max, IfSome}
use Rattle.std.proofs.lemmas.Bool.{leb-true}
use Rattle.slew_clock.specs.declared.record.Anchor.{Anchor}
use Rattle.slew_clock.specs.Record.{IsSound, IsSoundAnchor}
use Rattle.slew_clock.specs.Line.{line}
use Rattle.slew_clock.specs.Elapsed.{MayElapse}
use Rattle.slew_clock.specs.Reading.{inaccuracy_of}
use Rattle.slew_clock.proofs.ReadingLaws.{reading_holds, inaccuracy_anchored}
use Rattle.slew_clock.proofs.ClockLaws.{IsSince, IsSince-same, IsSince-after, line_since}
use Rattle.dts_capture.specs.declared.event.Event.{Event}
use Rattle.dts_capture.specs.declared.action.Action.{Action}
use Rattle.sync_rules.specs.History.{History, Begun, Then, Settings, Part, Sync, Lane, event_part, event_osc, settings_of, part_of, current_record, published, IsPositionOf as IsPositionAlone, ComesBefore}
use Rattle.sync_rules.specs.Live.{live_osc, floor_at, floor_of, same_part, is_live}
use Rattle.sync_rules.specs.Rules.{rates_of}
use Rattle.sync_rules.specs.Ranges.{IsInRange as HistoryInRange}
use Rattle.sync_rules.specs.World.{World, time_at, AreComparable, KeepsDrift}
use Rattle.sync_rules.specs.Safety.{Shown, Gives, OfOneLane, ContainsTime, FollowsOn, IsNamedBefore}
use Rattle.sync_rules.proofs.Choices.{both}
use Rattle.sync_rules.proofs.Positions.{same_settings}
use Rattle.sync_rules.proofs.Anchoring.{HeldTime}
use Rattle.sync_rules.proofs.Readings.{shown_by}
use Rattle.node_rules.specs.History.{Finding, NodeHistory, Began, Next, bare}
use Rattle.node_rules.specs.Rules.{IsRuled}
use Rattle.node_rules.proofs.Serving.{serving_leaves_the_clock}
use Rattle.node_safety.specs.World.{IsPositionOf, IsHonest}
use Rattle.node_safety.specs.Safety.{IsSafe}
use Rattle.node_safety.proofs.Courses.{IsLiveLane, steps_of}
use Rattle.node_safety.proofs.Walks.{course}
use Rattle.node_safety.proofs.Records.{stands, Stage, stage_of, ground_of, now_record}
use Rattle.node_safety.proofs.Positions.{node_position, bare_position, ruled_position, range_position, before_position}
use Rattle.node_safety.proofs.Readings.{IsReadAt, read_at}
use Rattle.node_safety.proofs.Naming.{named_steps}
use Rattle.node_safety.proofs.Anchoring.{anchor_held}

if_some : {A : Type 0} (o : Option A) (P : A → Type 0) → ((x : A) → o ≡ Some x → P x) → IfSome o P
if_some None P h = tt
if_some (Some x) P h = h x refl

-- ---- a live event of a lane is no earlier than the current record
lane_enough : (h : History) (e : Event) (k : ℕ) → event_part e ≡ Lane k → is_live h e ≡ true
    → max (live_osc (Lane k) h) (current_record h).born ≤ event_osc e
lane_enough h e k part live =
    let floor : floor_of h e ≡ max (live_osc (Lane k) h) (current_record h).born =
    ap (λ p. floor_at p (live_osc p h) (current_record h)) part in
    omega (arith, leb-true _ _ live, floor)

-- ---- readings contain true time
-- true time that passed from where the anchor held it
anchor_elapses : (h whole : History) (world : World) (e : Event) (given : List Action) (a : Anchor) → KeepsDrift whole world
    → IsPositionAlone (Then h e given) whole → (held : HeldTime h world a) → a.osc ≤ event_osc e
    → MayElapse (rates_of h) (event_osc e - a.osc) (time_at world (Then h e given) -ℤ time_at world held.position)
anchor_elapses h whole world e given a drift is held order =
    let comparable : AreComparable (part_of held.position) (event_part e) =
    subst (λ p. AreComparable p (event_part e)) (sym held.part) tt in
    let elapses = drift held.position (Then h e given) is held.is comparable (omega (arith, held.osc, order)) in
    let F : Settings → ℕ → Type 0 =
    λ s o. MayElapse s.rates (event_osc e - o) (time_at world (Then h e given) -ℤ time_at world held.position) in
    let timed : F (settings_of whole) a.osc = subst (λ o. F (settings_of whole) o) held.osc elapses in
    subst (λ s. F s a.osc) (sym (same_settings (Then h e given) whole is)) timed

read_contains : (before whole : NodeHistory) (world : World) (e : Event) (findings : List Finding) (given : List Action)
    → IsHonest whole world
    → IsPositionOf (Next before e findings given) whole → IsRuled before → HistoryInRange (bare before) → IsLiveLane before e
    → ContainsTime (shown_by (rates_of (bare before)) (current_record (bare before)) (event_osc e))
    (time_at world (Then (bare before) e given))
read_contains before whole world e findings given honest is ruled range at =
    let h = bare before in
    let rec = current_record h in
    let enough = lane_enough h e at.lane at.is at.live in
    let standing = stands before ruled range in
    if_some (inaccuracy_of (rates_of h) rec (event_osc e)) _ (λ i specified.
    let found = inaccuracy_anchored (rates_of h) rec (event_osc e) i specified in
    let a = found.0 in
    let held : HeldTime h world a = subst (λ x. IfSome x (HeldTime h world)) found.1
    (anchor_held before whole world honest (before_position before whole e findings given is) ruled range) in
    let sound : IsSoundAnchor rec.born a = subst (λ x. IfSome x (IsSoundAnchor rec.born)) found.1 standing.sound.anchor in
    let elapses =
    anchor_elapses h (bare whole) world e given a honest.alone.drift (bare_position (Next before e findings given) whole is) held
    (omega (arith, sound.before, enough)) in
    reading_holds (rates_of h) rec (event_osc e) i a (time_at world held.position)
    (time_at world (Then h e given)) found.1 specified held.low held.high elapses)

node_contains : (whole : NodeHistory) → IsRuled whole → HistoryInRange (bare whole) → (world : World) → IsHonest whole world
    → (p : NodeHistory) (shown : Shown)
    → IsPositionOf p whole → Gives (bare p) shown → ContainsTime shown (time_at world (bare p))
node_contains whole ruled range world honest p shown is gives =
    let r = read_at p (ruled_position p whole ruled is) shown gives in
    let Q : NodeHistory → Type 0 = λ q. IsPositionOf q whole → HistoryInRange (bare q) → ContainsTime shown (time_at world (bare q)) in
    let here : Q (Next r.before r.event r.findings r.given) = λ position fits.
    subst (λ s. ContainsTime s (time_at world (Then (bare r.before) r.event r.given))) (sym r.says)
    (read_contains r.before whole world r.event r.findings r.given honest position r.ruled.1 fits.0 r.at) in
    let there : Q p = subst Q (sym r.is) here in
    there is (range_position p whole range is)

contains_time : (whole : NodeHistory) → IsRuled whole → HistoryInRange (bare whole) → (world : World) → IsHonest whole world
    → (p : History) (shown : Shown)
    → IsPositionAlone p (bare whole) → Gives p shown → ContainsTime shown (time_at world p)
contains_time whole ruled range world honest p shown is gives =
    let found = node_position p whole is in
    let Q : History → Type 0 = λ q. Gives q shown → ContainsTime shown (time_at world q) in
    subst Q found.same (λ gives_it. node_contains whole ruled range world honest found.position shown found.is gives_it) gives

-- ---- records follow on one another
since_before : (before : NodeHistory) (e : Event) (findings : List Finding) (given : List Action) → IsRuled (Next before e findings given)
    → HistoryInRange (bare (Next before e findings given))
    → IsSince (rates_of (bare before)) (current_record (bare before)) (current_record (bare (Next before e findings given)))
since_before before e findings given ruled range =
    let stage : Stage before e (published (current_record (bare before)) given) =
    stage_of before e findings given (ground_of before e ruled.1 range.0 range.1)
    (steps_of before e findings given _ ruled.0 (course before e)) in
    subst (IsSince (rates_of (bare before)) (current_record (bare before))) (sym (now_record before e findings given)) stage.since

since_position : (p h : NodeHistory) → IsRuled h → HistoryInRange (bare h) → IsPositionOf p h
    → IsSince (rates_of (bare h)) (current_record (bare p)) (current_record (bare h))
since_position p (Began roster start) ruled range is =
    subst (λ q. IsSince (rates_of (bare (Began roster start))) (current_record (bare q)) (current_record (bare (Began roster start))))
    (sym is)
    (IsSince-same (rates_of (bare (Began roster start))) (current_record (bare (Began roster start))))
since_position p (Next before e findings given) ruled range is =
    let now = current_record (bare (Next before e findings given)) in
    elim is [
      | inl here ↦ subst (λ q. IsSince (rates_of (bare before)) (current_record (bare q)) now) (sym here)
          (IsSince-same (rates_of (bare before)) now)
      | inr earlier ↦ IsSince-after (rates_of (bare before)) (current_record (bare p)) (current_record (bare before)) now
          (since_position p before ruled.1 range.0 earlier) (since_before before e findings given ruled range)
    ]

-- ---- what a lane reads never falls
second : (a b : Bool) → (a && b) ≡ true → b ≡ true
second true b h = h
second false b h = cc

same_lane : (e : Event) (k : ℕ) → event_part e ≡ Lane k → same_part (Lane k) (event_part e) ≡ true
same_lane e k part = ap (same_part (Lane k)) part ∙ eq-eqb k k refl

lane_live : (h : History) (e : Event) (given : List Action) (k : ℕ) → event_part e ≡ Lane k → is_live h e ≡ true
    → live_osc (Lane k) (Then h e given) ≡ event_osc e
unfolding live_osc
lane_live h e given k part live =
    let floor : floor_of h e ≡ floor_at (Lane k) (live_osc (Lane k) h) (current_record h) =
    ap (λ p. floor_at p (live_osc p h) (current_record h)) part in
    let one : (same_part (Lane k) (event_part e) && nat_le (floor_at (Lane k) (live_osc (Lane k) h) (current_record h)) (event_osc e))
    ≡ true =
    ap (λ b. b && nat_le (floor_at (Lane k) (live_osc (Lane k) h) (current_record h)) (event_osc e)) (same_lane e k part)
    ∙ ap (λ f. nat_le f (event_osc e)) (sym floor) ∙ live in
    ap (λ b. cond b (event_osc e) (live_osc (Lane k) h)) one

lane_grows : (k : ℕ) (h : History) (e : Event) (given : List Action) → live_osc (Lane k) h ≤ live_osc (Lane k) (Then h e given)
unfolding live_osc
lane_grows k h e given =
    both (same_part (Lane k) (event_part e) && nat_le (floor_at (Lane k) (live_osc (Lane k) h) (current_record h)) (event_osc e))
    (event_osc e) (live_osc (Lane k) h)
    (λ x. live_osc (Lane k) h ≤ x) (λ is. omega (arith, leb-true _ _ (second (same_part (Lane k) (event_part e)) _ is)))
    (λ dead. omega arith)

lane_position : (k : ℕ) (p h : History) → IsPositionAlone p h → live_osc (Lane k) p ≤ live_osc (Lane k) h
lane_position k p (Begun settings start) is =
    let equal : live_osc (Lane k) p ≡ live_osc (Lane k) (Begun settings start) = ap (live_osc (Lane k)) is in omega arith
lane_position k p (Then h e given) is =
    elim is [
      | inl here ↦ let equal : live_osc (Lane k) p ≡ live_osc (Lane k) (Then h e given) = ap (live_osc (Lane k)) here in omega arith
      | inr earlier ↦ omega (arith, lane_position k p h earlier, lane_grows k h e given)
    ]

order_along : (a b x y : ℤ) → a ≡ x → b ≡ y → x ≤ℤ y → a ≤ℤ b
order_along a b x y e f h = rw (e, f) h

-- two readings of one lane, the second at the last position
record AreOfLane (p q : NodeHistory) (earlier later : Shown) : Type 0 where
  pub first : IsReadAt p earlier
  pub then : IsReadAt q later
  pub comes : IsPositionOf p then.before
  pub range : HistoryInRange (bare then.before)
  pub lane : first.at.lane ≡ then.at.lane

reads_follow : (p q : NodeHistory) (earlier later : Shown) → AreOfLane p q earlier later → FollowsOn (bare q) earlier later
reads_follow p q earlier later r =
    let bp = r.first.before in
    let bq = r.then.before in
    let ep = r.first.event in
    let eq = r.then.event in
    let k = r.first.at.lane in
    let at_p = Next bp ep r.first.findings r.first.given in
    let rates = rates_of (bare bq) in
    let in_bq : IsPositionOf at_p bq = subst (λ x. IsPositionOf x bq) r.first.is r.comes in
    let alone = bare_position at_p bq in_bq in
    let standing = stands bq r.then.ruled.1 r.range in
    let old : current_record (bare at_p) ≡ current_record (bare bp) =
    ap (λ x. current_record (bare x)) r.first.ruled.0 ∙ serving_leaves_the_clock bp ep k r.first.at.is in
    let since : IsSince rates (current_record (bare bp)) (current_record (bare bq)) =
    subst (λ x. IsSince rates x (current_record (bare bq))) old (since_position at_p bq r.then.ruled.1 r.range in_bq) in
    let same_rates : rates_of (bare bp) ≡ rates = ap (λ (s : Settings). s.rates) (same_settings (bare at_p) (bare bq) alone) in
    let fits = range_position at_p bq r.range in_bq in
    let sound : IsSound rates (current_record (bare bp)) =
    subst (λ x. IsSound x (current_record (bare bp))) same_rates (stands bp r.first.ruled.1 fits.0).sound in
    let lane_of_q : event_part eq ≡ Lane k = r.then.at.is ∙ ap Lane (sym r.lane) in
    let enough = lane_enough (bare bq) eq k lane_of_q r.then.at.live in
    let order : event_osc ep ≤ event_osc eq =
    omega (
      arith,
      enough,
      lane_live (bare bp) ep r.first.given k r.first.at.is r.first.at.live,
      lane_position k (bare at_p)
          (bare bq) alone,
    ) in
    let step_one : earlier.step ≡ (current_record (bare bp)).step = ap (λ (s : Shown). s.step) r.first.says in
    let step_two : later.step ≡ (current_record (bare bq)).step = ap (λ (s : Shown). s.step) r.then.says in
    let value_one : earlier.value ≡ line rates (current_record (bare bp)) (event_osc ep) =
    ap (λ (s : Shown). s.value) r.first.says ∙ ap (λ x. line x (current_record (bare bp)) (event_osc ep)) same_rates in
    record {
      no_lower_step = omega (arith, since.step, step_one, step_two);
      no_lower_value = λ equal. order_along _ _ _ _ value_one (ap (λ (s : Shown). s.value) r.then.says)
          (line_since rates (current_record (bare bp)) (current_record (bare bq)) (event_osc ep) (event_osc eq) sound since
          (omega (arith, equal, step_one, step_two)) (omega (arith, enough)) order);
      named = λ more.
          let named = named_steps bq r.then.ruled.1 later.step (omega (arith, more)) (omega (arith, step_two)) in
          let B : NodeHistory → Type 0 = λ x. IsNamedBefore (bare x) later.step in
          let here : B (Next bq eq r.then.findings r.then.given) = named in
          subst B (sym r.then.is) here;
    }

lane_number : (k l : ℕ) → Lane k ≡ Lane l → k ≡ l
lane_number k l is = ap number is
  where
    number : Part → ℕ
    number Sync = 0
    number (Lane n) = n

-- the lane of a position that gave a reading
lane_is : (p : NodeHistory) (shown : Shown) (k : ℕ) → part_of (bare p) ≡ Lane k → (r : IsReadAt p shown) → r.at.lane ≡ k
lane_is p shown k part r =
    lane_number r.at.lane k (sym r.at.is ∙ sym (ap (λ q. part_of (bare q)) r.is) ∙ part)

-- positions before one without findings are positions of what comes before it
before_is : (before : NodeHistory) (e : Event) (findings : List Finding) (given : List Action) (q : NodeHistory) (p : History) → q
    ≡ Next before e findings given
    → ComesBefore p (bare q) → IsPositionAlone p (bare before)
before_is before e findings given q p is comes = subst (λ x. ComesBefore p (bare x)) is comes

node_follows : (whole : NodeHistory) → IsRuled whole → HistoryInRange (bare whole)
    → (p : History) (q : NodeHistory) (earlier later : Shown) → IsPositionOf q whole
    → ComesBefore p (bare q) → OfOneLane p (bare q) → Gives p earlier → Gives (bare q) later → FollowsOn (bare q) earlier later
node_follows whole ruled range p q earlier later is comes lanes gives_earlier gives_later =
    let then = read_at q (ruled_position q whole ruled is) later gives_later in
    let fits : HistoryInRange (bare (Next then.before then.event then.findings then.given)) =
    subst (λ x. HistoryInRange (bare x)) then.is (range_position q whole range is) in
    let found = node_position p then.before (before_is then.before then.event then.findings then.given q p then.is comes) in
    let first = read_at found.position (ruled_position found.position then.before then.ruled.1 found.is) earlier
    (subst (λ x. Gives x earlier) (sym found.same) gives_earlier) in
    reads_follow found.position q earlier later (record {
      first = first;
      then = then;
      comes = found.is;
      range = fits.0;
      lane =
          lane_is found.position earlier lanes.lane (ap part_of found.same ∙ lanes.first) first
          ∙ sym (lane_is q later lanes.lane lanes.second then);
    })

follows : (whole : NodeHistory) → IsRuled whole → HistoryInRange (bare whole) → (p q : History) (earlier later : Shown)
    → IsPositionAlone q (bare whole)
    → ComesBefore p q → OfOneLane p q → Gives p earlier → Gives q later → FollowsOn q earlier later
follows whole ruled range p q earlier later is comes lanes gives_earlier gives_later =
    let found = node_position q whole is in
    let Q : History → Type 0 = λ x. ComesBefore p x → OfOneLane p x → Gives x later → FollowsOn x earlier later in
    subst Q found.same (λ c l g. node_follows whole ruled range p found.position earlier later found.is c l gives_earlier g) comes lanes gives_later

pub safe : (history : NodeHistory) → IsRuled history → HistoryInRange (bare history) → IsSafe history
safe h ruled range = record { contains = contains_time h ruled range; follows_on = follows h ruled range }
