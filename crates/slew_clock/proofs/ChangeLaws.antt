-- Laws of the changes of a record: each gives a sound one, and none but a step moves the line.
use Rattle.std.proofs.Common.{◌≡◌, inl, inr, ℕ, ◌-◌, ◌<◌, ◌≤◌, min, true, false, cond, ℤ, pos, negsuc, neg_ℤ, ◌+ℤ◌, ◌-ℤ◌, ◌≤ℤ◌, Option, Some, None, refl, sym, ap, ◌∙◌, arith}
use Rattle.std.specs.Prelude.{IfSome, option_map, unwrap_or, is_none, ◌||◌}
use Rattle.std.proofs.lemmas.Int.{ints, clamps}
use Rattle.std.proofs.lemmas.Bool.{cases_lt, le-ltb, lt-ltb}
use Rattle.slew_clock.specs.declared.limits.TheConstants.{GREATEST_OSC}
use Rattle.slew_clock.specs.declared.rates.Rates.{Rates}
use Rattle.slew_clock.specs.declared.record.Anchor.{Anchor}
use Rattle.slew_clock.specs.declared.record.ClockRecord.{ClockRecord}
use Rattle.slew_clock.specs.Record.{end_of, greatest_slew, IsSlew, IsSound, IsSoundAnchor}
use Rattle.slew_clock.specs.Line.{floor_of, advance, first_part, second_part, line}
use Rattle.slew_clock.specs.Reading.{interval_of}
use Rattle.slew_clock.specs.Change.{IsInRange, anchored_record, middle_of, stepped_record, is_far, changed_record, held_to, slew_to_middle, prolonged_record, resumed_record, renewed_record}
use Rattle.slew_clock.proofs.LineLaws.{advance-zero, parts_meet, line_first, line_second, line_never_falls, line_from, line_to}
use Rattle.slew_clock.proofs.StartLaws.{no_slew}

-- half a number, rounded down
half_is : (z : ℤ) → ((floor_of z 2 +ℤ floor_of z 2) ≤ℤ z) × (z ≤ℤ (floor_of z 2 +ℤ floor_of z 2 +ℤ pos 1))
half_is (pos n) = (omega (arith, ints), omega (arith, ints))
half_is (negsuc n) = (omega (arith, ints), omega (arith, ints))

-- the middle of an interval is within it
pub middle_within : (i : ℤ × ℤ) → i.0 ≤ℤ i.1 → (i.0 ≤ℤ middle_of i) × (middle_of i ≤ℤ i.1)
middle_within i h =
    let half = half_is (i.0 +ℤ i.1) in
    (omega (arith, ints, half), omega (arith, ints, half))

-- a number that is held to n is from -n to n
pub held_within : (n : ℕ) (z : ℤ) → (neg_ℤ (pos n) ≤ℤ held_to n z) × (held_to n z ≤ℤ pos n)
held_within n z = (omega (arith, ints, clamps), omega (arith, ints, clamps))

-- the slew of a renewal is allowed
pub slew_allowed : (r : Rates) (rec : ClockRecord) (o : ℕ) (value : ℤ) → IsSlew r (slew_to_middle r rec o value)
slew_allowed r rec o value = allowed (interval_of r rec o)
  where
    allowed : (found : Option (ℤ × ℤ)) → IsSlew r (unwrap_or (option_map (λ i. held_to (greatest_slew r) (middle_of i -ℤ value)) found) (pos 0))
    allowed None = no_slew r
    allowed (Some i) = held_within (greatest_slew r) (middle_of i -ℤ value)

-- what it is with an interval and without one
pub slew_to_middle-some : (r : Rates) (rec : ClockRecord) (o : ℕ) (value : ℤ) (i : ℤ × ℤ) → interval_of r rec o ≡ Some i → slew_to_middle r rec o value ≡ held_to (greatest_slew r) (middle_of i -ℤ value)
slew_to_middle-some r rec o value i h = rw h

pub slew_to_middle-none : (r : Rates) (rec : ClockRecord) (o : ℕ) (value : ℤ) → interval_of r rec o ≡ None → slew_to_middle r rec o value ≡ pos 0
slew_to_middle-none r rec o value h = rw h

-- an anchor of a sound record is sound at a later oscillator reading
anchor_stays : (r : Rates) (rec : ClockRecord) (osc : ℕ) → IsSound r rec → rec.born ≤ osc → IfSome rec.anchor (IsSoundAnchor osc)
anchor_stays r rec osc s after = stays rec.anchor s.anchor
  where
    stays : (found : Option Anchor) → IfSome found (IsSoundAnchor rec.born) → IfSome found (IsSoundAnchor osc)
    stays None sound = tt
    stays (Some a) sound = record { before = omega (arith, sound.before); from = sound.from; ordered = sound.ordered; to = sound.to }

-- ---- each change of a sound record is sound
pub anchored_sound : (r : Rates) (rec : ClockRecord) (osc : ℕ) (i : ℤ × ℤ) → IsSound r rec → rec.born ≤ osc → osc ≤ GREATEST_OSC → IsInRange i → i.0 ≤ℤ i.1 → IsSound r (anchored_record rec osc i)
anchored_sound r rec osc i s after within range ordered = record {
  begun = omega (arith, s.begun);
  born = within;
  parts = s.parts;
  a_slew = s.a_slew;
  b_slew = s.b_slew;
  value_from = s.value_from;
  value_to = s.value_to;
  anchor = record { before = omega arith; from = range.0; ordered = ordered; to = range.1 };
  steps = omega (arith, s.steps);
}

pub stepped_sound : (r : Rates) (rec : ClockRecord) (osc : ℕ) (i : ℤ × ℤ) → IsSound r rec → osc ≤ GREATEST_OSC → IsInRange i → i.0 ≤ℤ i.1 → IsSound r (stepped_record rec osc i)
stepped_sound r rec osc i s within range ordered =
    let middle = middle_within i ordered in
    record {
      begun = omega arith;
      born = within;
      parts = inl refl;
      a_slew = no_slew r;
      b_slew = no_slew r;
      value_from = omega (arith, ints, middle, range.0);
      value_to = omega (arith, ints, middle, range.1);
      anchor = record { before = omega arith; from = range.0; ordered = ordered; to = range.1 };
      steps = omega (arith, s.steps);
    }

pub changed_sound : (r : Rates) (rec : ClockRecord) (osc : ℕ) (i : ℤ × ℤ) → IsSound r rec → rec.born ≤ osc → osc ≤ GREATEST_OSC → IsInRange i → i.0 ≤ℤ i.1 → IsSound r (changed_record r rec osc i)
changed_sound r rec osc i s after within range ordered =
    elim (is_none rec.anchor || is_far r rec osc i) as (λ far. IsSound r (cond far (stepped_record rec osc i) (anchored_record rec osc i))) [
      | true ↦ stepped_sound r rec osc i s within range ordered
      | false ↦ anchored_sound r rec osc i s after within range ordered
    ]

pub prolonged_sound : (r : Rates) (rec : ClockRecord) (osc : ℕ) → IsSound r rec → rec.born ≤ osc → rec.b.from ≤ osc → osc ≤ GREATEST_OSC → IsSound r (prolonged_record r rec osc)
prolonged_sound r rec osc s after begun within =
    let from = line_from r rec rec.b.from s in
    let to = line_to r rec rec.b.from s (parts_meet r rec s) in
    record {
      begun = begun;
      born = within;
      parts = inr refl;
      a_slew = s.b_slew;
      b_slew = slew_allowed r rec (end_of r rec) (line r rec (end_of r rec));
      value_from = from;
      value_to = omega (arith, ints, to);
      anchor = anchor_stays r rec osc s after;
      steps = omega (arith, s.steps);
    }

pub resumed_sound : (r : Rates) (rec : ClockRecord) (osc : ℕ) → IsSound r rec → rec.born ≤ osc → end_of r rec ≤ osc → osc ≤ GREATEST_OSC → IsSound r (resumed_record r rec osc)
resumed_sound r rec osc s after past within =
    let from = line_from r rec (end_of r rec) s in
    let to = line_to r rec (end_of r rec) s (omega (arith, parts_meet r rec s)) in
    record {
      begun = omega arith;
      born = within;
      parts = inl refl;
      a_slew = no_slew r;
      b_slew = slew_allowed r rec osc (line r rec (end_of r rec));
      value_from = from;
      value_to = omega (arith, ints, to);
      anchor = anchor_stays r rec osc s after;
      steps = omega (arith, s.steps);
    }

-- ---- where the line of a renewed record stands
-- at the joint of its parts the line is where the first one ends
pub line_joint : (r : Rates) (rec : ClockRecord) → IsSound r rec → line r rec rec.b.from ≡ first_part r rec rec.b.from
line_joint r rec s =
    let least : min rec.b.from (end_of r rec) - rec.b.from ≡ 0 = omega arith in
    let none = advance-zero r rec.b.x s.b_slew in
    line_second r rec rec.b.from (omega arith) ∙ omega (arith, ints, ap (advance r rec.b.x) least, none)

-- from there to the end it goes on at the second part's pace
pub line_on : (r : Rates) (rec : ClockRecord) (o : ℕ) → IsSound r rec → rec.b.from ≤ o → o ≤ end_of r rec → line r rec o ≡ line r rec rec.b.from +ℤ advance r rec.b.x (o - rec.b.from)
line_on r rec o s begun within =
    let least : min o (end_of r rec) ≡ o = omega arith in
    line_second r rec o begun ∙ ap (second_part r rec) least ∙ ap (λ v. v +ℤ advance r rec.b.x (o - rec.b.from)) (sym (line_joint r rec s))

-- past the end it stands
pub line_past : (r : Rates) (rec : ClockRecord) (o : ℕ) → end_of r rec ≤ o → line r rec o ≡ line r rec (end_of r rec)
line_past r rec o past =
    let least : min o (end_of r rec) ≡ min (end_of r rec) (end_of r rec) = omega arith in
    line_second r rec o (omega arith) ∙ ap (second_part r rec) least ∙ sym (line_second r rec (end_of r rec) (omega arith))

-- a record that is renewed before its end has the same line up to that end
pub prolonged_agrees : (r : Rates) (rec : ClockRecord) (osc o : ℕ) → IsSound r rec → IsSound r (prolonged_record r rec osc) → rec.b.from ≤ o → o ≤ end_of r rec → line r (prolonged_record r rec osc) o ≡ line r rec o
prolonged_agrees r rec osc o s t begun within = elim (cases_lt o (end_of r rec)) [
  | inl before ↦ line_first r (prolonged_record r rec osc) o before ∙ sym (line_on r rec o s begun within)
  | inr at ↦
      let here : o ≡ end_of r rec = omega arith in
      ap (line r (prolonged_record r rec osc)) here ∙ line_joint r (prolonged_record r rec osc) t
      ∙ sym (ap (line r rec) here ∙ line_on r rec (end_of r rec) s (omega arith) (omega arith))
]

-- and is nowhere lower from its beginning on
pub prolonged_not_below : (r : Rates) (rec : ClockRecord) (osc o : ℕ) → IsSound r rec → IsSound r (prolonged_record r rec osc) → rec.b.from ≤ o → line r rec o ≤ℤ line r (prolonged_record r rec osc) o
prolonged_not_below r rec osc o s t begun = elim (cases_lt o (end_of r rec)) [
  | inl before ↦ omega (arith, ints, prolonged_agrees r rec osc o s t begun (omega arith))
  | inr past ↦
      let stood = line_past r rec o past in
      let agrees = prolonged_agrees r rec osc (end_of r rec) s t (omega arith) (omega arith) in
      let on = line_never_falls r (prolonged_record r rec osc) (end_of r rec) o t past in
      omega (arith, ints, stood, agrees, on)
]

-- a record that is renewed past its end begins with the value at that end
pub resumed_joint : (r : Rates) (rec : ClockRecord) (osc : ℕ) → IsSound r (resumed_record r rec osc) → line r (resumed_record r rec osc) osc ≡ line r rec (end_of r rec)
resumed_joint r rec osc t =
    let start : line r (resumed_record r rec osc) osc ≡ line r rec (end_of r rec) +ℤ advance r (pos 0) (osc - osc) = line_joint r (resumed_record r rec osc) t in
    let none : osc - osc ≡ 0 = omega arith in
    omega (arith, ints, start, ap (advance r (pos 0)) none, advance-zero r (pos 0) (no_slew r))

-- and is nowhere lower from then on
pub resumed_not_below : (r : Rates) (rec : ClockRecord) (osc o : ℕ) → IsSound r (resumed_record r rec osc) → end_of r rec ≤ osc → osc ≤ o → line r rec o ≤ℤ line r (resumed_record r rec osc) o
resumed_not_below r rec osc o t past later =
    let stood = line_past r rec o (omega arith) in
    let start = resumed_joint r rec osc t in
    let on = line_never_falls r (resumed_record r rec osc) osc o t later in
    omega (arith, ints, stood, start, on)

-- which renewal there is
pub renewed-prolonged : (r : Rates) (rec : ClockRecord) (osc : ℕ) → rec.b.from ≤ osc → osc < end_of r rec → renewed_record r rec osc ≡ Some (prolonged_record r rec osc)
renewed-prolonged r rec osc begun before = rw (le-ltb osc rec.b.from begun, lt-ltb osc (end_of r rec) before)

pub renewed-resumed : (r : Rates) (rec : ClockRecord) (osc : ℕ) → end_of r rec ≤ osc → renewed_record r rec osc ≡ Some (resumed_record r rec osc)
renewed-resumed r rec osc past =
    let begun : rec.b.from ≤ osc = omega arith in
    rw (le-ltb osc rec.b.from begun, le-ltb osc (end_of r rec) past)
