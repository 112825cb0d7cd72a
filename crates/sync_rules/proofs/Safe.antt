-- Every history is safe.
use Rattle.std.proofs.Common.{◌≡◌, ℕ, ◌-◌, ◌≤◌, inl, inr, List, Option, Some, None, Bool, true, false, cond, refl, sym, ap, ◌∙◌, subst, arith}
use Rattle.std.specs.Prelude.{ℤ, ◌-ℤ◌, ◌≤ℤ◌, IfSome, ◌&&◌, nat_le}
use Rattle.std.proofs.lemmas.Bool.{leb-true}
use Rattle.slew_clock.specs.declared.record.Anchor.{Anchor}
use Rattle.slew_clock.specs.declared.record.ClockRecord.{ClockRecord}
use Rattle.slew_clock.specs.Record.{IsSound, IsSoundAnchor}
use Rattle.slew_clock.specs.Line.{line}
use Rattle.slew_clock.specs.Elapsed.{MayElapse}
use Rattle.slew_clock.specs.Reading.{inaccuracy_of}
use Rattle.slew_clock.proofs.ReadingLaws.{reading_holds, inaccuracy_anchored}
use Rattle.slew_clock.proofs.ClockLaws.{IsSince, line_since}
use Rattle.dts_capture.specs.declared.event.Event.{Event}
use Rattle.dts_capture.specs.declared.event.Event.TheVariants as event
use Rattle.dts_capture.specs.declared.action.Action.{Action}
use Rattle.sync_rules.specs.History.{History, Begun, Then, Settings, Lane, event_part, event_osc, settings_of, part_of, current_record, IsPositionOf, ComesBefore}
use Rattle.sync_rules.specs.Live.{live_osc, floor_at, same_part, is_live}
use Rattle.sync_rules.specs.Rules.{rates_of, actions_of, IsRuled}
use Rattle.sync_rules.specs.Ranges.{IsInRange}
use Rattle.sync_rules.specs.World.{World, time_at, AreComparable, IsHonest}
use Rattle.sync_rules.specs.Safety.{Shown, Gives, ContainsTime, FollowsOn, IsNamedBefore, IsSafe}
use Rattle.sync_rules.proofs.Positions.{ruled_position, range_position, same_settings, earlier_position, last_position}
use Rattle.sync_rules.proofs.Choices.{both}
use Rattle.sync_rules.proofs.Changes.{Change, current_then}
use Rattle.sync_rules.proofs.Changes.Change.{same, renewal as renews, adoption}
use Rattle.sync_rules.proofs.Standing.{stands, since_position}
use Rattle.sync_rules.proofs.Anchoring.{HeldTime, anchor_held}
use Rattle.sync_rules.proofs.Readings.{IsReadAt, read_at, shown_by}
use Rattle.sync_rules.proofs.Naming.{named_steps}

if_some : {A : Type 0} (o : Option A) (P : A → Type 0) → ((x : A) → o ≡ Some x → P x) → IfSome o P
if_some None P h = tt
if_some (Some x) P h = h x refl

-- ---- readings contain true time
-- true time that passed from where the anchor held it to a live read
anchor_elapses : (h whole : History) (world : World) (osc : ℕ) (actions : List Action) (a : Anchor) → IsHonest whole world → IsPositionOf (Then h (event.Read osc) actions) whole
    → (held : HeldTime h world a) → a.osc ≤ osc → MayElapse (rates_of h) (osc - a.osc) (time_at world (Then h (event.Read osc) actions) -ℤ time_at world held.position)
anchor_elapses h whole world osc actions a honest is held order =
    let settings = same_settings (Then h (event.Read osc) actions) whole is in
    let comparable : AreComparable (part_of held.position) (Lane 0) = subst (λ p. AreComparable p (Lane 0)) (sym held.part) tt in
    let elapses = honest.drift held.position (Then h (event.Read osc) actions) is held.is comparable (omega (arith, held.osc, order)) in
    let F : Settings → ℕ → Type 0 = λ s o. MayElapse s.rates (osc - o) (time_at world (Then h (event.Read osc) actions) -ℤ time_at world held.position) in
    let timed : F (settings_of whole) a.osc = subst (λ o. F (settings_of whole) o) held.osc elapses in
    subst (λ s. F s a.osc) (sym settings) timed

read_contains : (h whole : History) (world : World) (osc : ℕ) (actions : List Action) → IsHonest whole world → IsPositionOf (Then h (event.Read osc) actions) whole → IsRuled h → IsInRange h
    → is_live h (event.Read osc) ≡ true → ContainsTime (shown_by (rates_of h) (current_record h) osc) (time_at world (Then h (event.Read osc) actions))
read_contains h whole world osc actions honest is ruled range live =
    let rec = current_record h in
    let enough = leb-true _ _ live in
    let standing = stands h ruled range in
    let in_whole = earlier_position h (Then h (event.Read osc) actions) whole (last_position h) is in
    if_some (inaccuracy_of (rates_of h) rec osc) _ (λ i specified.
    let found = inaccuracy_anchored (rates_of h) rec osc i specified in
    let a = found.0 in
    let held : HeldTime h world a = subst (λ x. IfSome x (HeldTime h world)) found.1 (anchor_held h world whole honest in_whole ruled range) in
    let sound : IsSoundAnchor rec.born a = subst (λ x. IfSome x (IsSoundAnchor rec.born)) found.1 standing.sound.anchor in
    let elapses = anchor_elapses h whole world osc actions a honest is held (omega (arith, sound.before, enough)) in
    reading_holds (rates_of h) rec osc i a (time_at world held.position) (time_at world (Then h (event.Read osc) actions)) found.1 specified held.low held.high elapses)

pub contains_time : (whole : History) → IsRuled whole → IsInRange whole → (world : World) → IsHonest whole world → (p : History) (shown : Shown) → IsPositionOf p whole → Gives p shown → ContainsTime shown (time_at world p)
contains_time whole ruled range world honest p shown is gives =
    let r = read_at p (ruled_position p whole ruled is) shown gives in
    let Q : History → Type 0 = λ q. IsPositionOf q whole → IsInRange q → ContainsTime shown (time_at world q) in
    let here : Q (Then r.before (event.Read r.osc) r.actions) = λ position fits.
    subst (λ s. ContainsTime s (time_at world (Then r.before (event.Read r.osc) r.actions))) (sym r.says)
    (read_contains r.before whole world r.osc r.actions honest position r.ruled fits.0 r.live) in
    let there : Q p = subst Q (sym r.is) here in
    there is (range_position p whole range is)

-- ---- readings go back only across a named step
-- a read leaves the record
read_change : (h : History) (osc : ℕ) (next : ClockRecord) → Change h (event.Read osc) next → next ≡ current_record h
read_change h osc next (same is) = is
read_change h osc next (renews live sync made) = cc
read_change h osc next (adoption required n i live is comes becomes) = cc

pub read_keeps : (h : History) (osc : ℕ) (actions : List Action) → actions ≡ actions_of h (event.Read osc) → current_record (Then h (event.Read osc) actions) ≡ current_record h
read_keeps h osc actions given = read_change h osc (current_record (Then h (event.Read osc) actions)) (current_then h (event.Read osc) actions given)

lane_live : (h : History) (osc : ℕ) (actions : List Action) → is_live h (event.Read osc) ≡ true → live_osc (Lane 0) (Then h (event.Read osc) actions) ≡ osc
unfolding live_osc
lane_live h osc actions live = ap (λ b. cond b osc (live_osc (Lane 0) h)) live

second : (a b : Bool) → (a && b) ≡ true → b ≡ true
second true b h = h
second false b h = cc

lane_grows : (h : History) (e : Event) (actions : List Action) → live_osc (Lane 0) h ≤ live_osc (Lane 0) (Then h e actions)
unfolding live_osc
lane_grows h e actions =
    both (same_part (Lane 0) (event_part e) && nat_le (floor_at (Lane 0) (live_osc (Lane 0) h) (current_record h)) (event_osc e)) (event_osc e) (live_osc (Lane 0) h) (λ x. live_osc (Lane 0) h ≤ x)
    (λ is. omega (arith, leb-true _ _ (second (same_part (Lane 0) (event_part e)) _ is))) (λ dead. omega arith)

lane_position : (p h : History) → IsPositionOf p h → live_osc (Lane 0) p ≤ live_osc (Lane 0) h
lane_position p (Begun settings start) is = let equal : live_osc (Lane 0) p ≡ live_osc (Lane 0) (Begun settings start) = ap (live_osc (Lane 0)) is in omega arith
lane_position p (Then h e actions) is =
    elim is [
      | inl here ↦ let equal : live_osc (Lane 0) p ≡ live_osc (Lane 0) (Then h e actions) = ap (live_osc (Lane 0)) here in omega arith
      | inr earlier ↦ omega (arith, lane_position p h earlier, lane_grows h e actions)
    ]

-- two reads, of which the second is the last position
record Reads (p q : History) (earlier later : Shown) : Type 0 where
  pub first : IsReadAt p earlier
  pub then : IsReadAt q later
  pub comes : IsPositionOf p then.before
  pub range : IsInRange then.before

order_along : (a b x y : ℤ) → a ≡ x → b ≡ y → x ≤ℤ y → a ≤ℤ b
order_along a b x y e f h = rw (e, f) h

reads_follow : (p q : History) (earlier later : Shown) → Reads p q earlier later → FollowsOn q earlier later
reads_follow p q earlier later r =
    let bp = r.first.before in
    let bq = r.then.before in
    let rates = rates_of bq in
    let P : History → Type 0 = λ x. IsPositionOf x bq in
    let in_bq : P (Then bp (event.Read r.first.osc) r.first.actions) = subst P r.first.is r.comes in
    let standing = stands bq r.then.ruled r.range in
    let old = read_keeps bp r.first.osc r.first.actions r.first.same in
    let since : IsSince rates (current_record bp) (current_record bq) = subst (λ x. IsSince rates x (current_record bq)) old
    (since_position (Then bp (event.Read r.first.osc) r.first.actions) bq r.then.ruled r.range in_bq) in
    let same_rates : rates_of bp ≡ rates = ap (λ (s : Settings). s.rates) (same_settings (Then bp (event.Read r.first.osc) r.first.actions) bq in_bq) in
    let fits = range_position (Then bp (event.Read r.first.osc) r.first.actions) bq r.range in_bq in
    let sound : IsSound rates (current_record bp) = subst (λ x. IsSound x (current_record bp)) same_rates (stands bp r.first.ruled fits.0).sound in
    let enough = leb-true _ _ r.then.live in
    let order : r.first.osc ≤ r.then.osc = omega (arith, enough, lane_live bp r.first.osc r.first.actions r.first.live, lane_position (Then bp (event.Read r.first.osc) r.first.actions) bq in_bq) in
    let step_one : earlier.step ≡ (current_record bp).step = ap (λ (s : Shown). s.step) r.first.says in
    let step_two : later.step ≡ (current_record bq).step = ap (λ (s : Shown). s.step) r.then.says in
    let value_one : earlier.value ≡ line rates (current_record bp) r.first.osc = ap (λ (s : Shown). s.value) r.first.says ∙ ap (λ x. line x (current_record bp) r.first.osc) same_rates in
    record {
      no_lower_step = omega (arith, since.step, step_one, step_two);
      no_lower_value = λ equal. order_along _ _ _ _ value_one (ap (λ (s : Shown). s.value) r.then.says)
          (line_since rates (current_record bp) (current_record bq) r.first.osc r.then.osc sound since (omega (arith, equal, step_one, step_two)) (omega (arith, enough)) order);
      named = λ more.
          let named = named_steps bq r.then.ruled later.step (omega (arith, more)) (omega (arith, step_two)) in
          let B : History → Type 0 = λ x. IsNamedBefore x later.step in
          let here : B (Then bq (event.Read r.then.osc) r.then.actions) = named in
          subst B (sym r.then.is) here;
    }

pub follows : (whole : History) → IsRuled whole → IsInRange whole → (p q : History) (earlier later : Shown) → IsPositionOf q whole → ComesBefore p q → Gives p earlier → Gives q later → FollowsOn q earlier later
follows whole ruled range p q earlier later is comes gives_earlier gives_later =
    let ruled_q = ruled_position q whole ruled is in
    let in_whole = earlier_position p q whole comes is in
    let first = read_at p (ruled_position p whole ruled in_whole) earlier gives_earlier in
    let then = read_at q ruled_q later gives_later in
    let Fits : History → Type 0 = λ x. IsInRange x in
    let fits : Fits (Then then.before (event.Read then.osc) then.actions) = subst Fits then.is (range_position q whole range is) in
    let C : History → Type 0 = λ x. ComesBefore p x in
    let before : C (Then then.before (event.Read then.osc) then.actions) = subst C then.is comes in
    reads_follow p q earlier later (record { first = first; then = then; comes = before; range = fits.0 })

pub safe : (history : History) → IsRuled history → IsInRange history → IsSafe history
safe h ruled range = record {
  contains = λ world honest p shown is gives. contains_time h ruled range world honest p shown is gives;
  follows_on = λ p q earlier later is comes lanes gives_earlier gives_later. follows h ruled range p q earlier later is comes gives_earlier gives_later;
}
