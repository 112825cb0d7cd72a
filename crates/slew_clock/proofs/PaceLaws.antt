-- Laws of pace: how far the line of a clock history goes from the pace of the oscillator, while it is renewed in time.
use Rattle.std.proofs.Common.{◌≡◌, inl, inr, ℕ, zero, suc, ◌+◌, ◌-◌, ◌*◌, ◌/◌, ◌<◌, ◌≤◌, ℤ, pos, negsuc, ◌+ℤ◌, ◌-ℤ◌, List, [], ◌∷◌, Some, refl, sym, ap, ◌∙◌, subst, arith}
use Rattle.std.specs.Prelude.{slice_get, unsigned_abs}
use Rattle.std.proofs.Math.Nat.{mul_comm, add-mul, mul-add, mul-le-mul_right, div-mul-le_self, lt-div-mul-add, mul-div_cancel}
use Rattle.std.proofs.lemmas.Int.{ints}
use Rattle.std.proofs.lemmas.Bool.{cases_lt}
use Rattle.std.proofs.lemmas.Option.{same_Some, none-some}
use Rattle.slew_clock.specs.declared.rates.Rates.{Rates}
use Rattle.slew_clock.specs.declared.record.ClockRecord.{ClockRecord}
use Rattle.slew_clock.specs.Record.{end_of, greatest_slew, IsSlew, IsSound}
use Rattle.slew_clock.specs.Line.{advance, first_part, line}
use Rattle.slew_clock.specs.Change.{prolonged_record, renewed_record}
use Rattle.slew_clock.specs.Clock.{IsNext, IsClockHistory, IsLateRenewal, NoneIsLate}
use Rattle.slew_clock.specs.Clock.IsNext.{anchored, stepped, renewed}
use Rattle.slew_clock.proofs.Slewing.{slewed}
use Rattle.slew_clock.proofs.LineLaws.{slew_within, quotient_rises, parts_meet, line_first}
use Rattle.slew_clock.proofs.ChangeLaws.{line_joint, line_on, prolonged_agrees}
use Rattle.slew_clock.proofs.ClockLaws.{Renewal, renewal, IsSince-next, newest_since, sound_at}
use Rattle.slew_clock.proofs.ClockLaws.Renewal.{prolonged, resumed}

-- Over d units a value goes on from v to w. The lease times what it gains differs from the lease times d by at most the greatest slew times d, and a slack.
pub record IsPaced (r : Rates) (slack d : ℕ) (v w : ℤ) : Type 0 where
  pub gain : ℕ
  pub is : w ≡ v +ℤ pos gain
  pub fast : gain * r.lease ≤ r.lease * d + greatest_slew r * d + slack
  pub slow : r.lease * d ≤ gain * r.lease + greatest_slew r * d + slack

paced_at : (r : Rates) (s d e : ℕ) (v w v' w' : ℤ) → d ≡ e → v ≡ v' → w ≡ w' → IsPaced r s d v w → IsPaced r s e v' w'
paced_at r s d e v w v' w' same from to p =
    subst (λ n. IsPaced r s n v' w') same (subst (λ z. IsPaced r s d z w') from (subst (λ z. IsPaced r s d v z) to p))

paced_within : (r : Rates) (s t d : ℕ) (v w : ℤ) → s ≤ t → IsPaced r s d v w → IsPaced r t d v w
paced_within r s t d v w h p = record { gain = p.gain; is = p.is; fast = omega (arith, p.fast); slow = omega (arith, p.slow) }

paced_onto : (r : Rates) (s d : ℕ) (c v w : ℤ) → IsPaced r s d v w → IsPaced r s d (c +ℤ v) (c +ℤ w)
paced_onto r s d c v w p = record { gain = p.gain; is = omega (arith, ints, p.is); fast = p.fast; slow = p.slow }

paced_join : (r : Rates) (s t d e : ℕ) (v w u : ℤ) → IsPaced r s d v w → IsPaced r t e w u → IsPaced r (s + t) (d + e) v u
paced_join r s t d e v w u p q =
    let gains = add-mul p.gain q.gain r.lease in
    let units = mul-add r.lease d e in
    let slews = mul-add (greatest_slew r) d e in
    record {
      gain = p.gain + q.gain;
      is = omega (arith, ints, p.is, q.is);
      fast = omega (arith, gains, units, slews, p.fast, q.fast);
      slow = omega (arith, gains, units, slews, p.slow, q.slow);
    }

paced_none : (r : Rates) (s : ℕ) (v : ℤ) → IsPaced r s 0 v v
paced_none r s v = record { gain = 0; is = omega (arith, ints); fast = omega arith; slow = omega arith }

-- with an allowed slew the advance over e units is y * e / lease, with y no farther from the lease than the greatest slew
slew_is : (r : Rates) (x : ℤ) → IsSlew r x → (y : ℕ) × (y ≤ r.lease + greatest_slew r) × (r.lease ≤ y + greatest_slew r) × ((e : ℕ) → advance r x e ≡ pos (y * e / r.lease))
slew_is r (pos a) s =
    let small : a ≤ greatest_slew r = omega (arith, ints, s.1) in
    (a + r.lease, omega arith, omega arith, λ e. slewed (pos a) (a + r.lease) e r.lease (omega (arith, r.lease_from)) refl)
slew_is r (negsuc a) s =
    let small : a + 1 ≤ greatest_slew r = omega (arith, ints, s.0) in
    let within = slew_within r in
    (r.lease - (a + 1), omega arith, omega arith, λ e. slewed (negsuc a) (r.lease - (a + 1)) e r.lease (omega (arith, r.lease_from)) (omega (arith, ints)))

-- what a quotient gains over d units from e on
quotient_gain : (n m y e d q t : ℕ) → 0 < n → y ≤ n + m → n ≤ y + m → q ≡ y * e / n → t ≡ y * (e + d) / n
    → (q ≤ t) × ((t - q) * n ≤ n * d + m * d + n) × (n * d ≤ (t - q) * n + m * d + n)
quotient_gain n m y e d q t p high low is_q is_t =
    let before : q * n ≤ y * e = omega (arith, ap (λ v. v * n) is_q, div-mul-le_self (y * e) n) in
    let before_next : y * e < q * n + n = omega (arith, ap (λ v. v * n) is_q, lt-div-mul-add {a = y * e} {b = n} p) in
    let after : t * n ≤ y * (e + d) = omega (arith, ap (λ v. v * n) is_t, div-mul-le_self (y * (e + d)) n) in
    let after_next : y * (e + d) < t * n + n = omega (arith, ap (λ v. v * n) is_t, lt-div-mul-add {a = y * (e + d)} {b = n} p) in
    let split = mul-add y e d in
    let order : q ≤ t = omega (arith, is_q, is_t, quotient_rises (y * e) (y * (e + d)) n p (omega arith)) in
    let gained : t * n ≡ q * n + (t - q) * n = ap (λ v. v * n) (omega arith) ∙ add-mul q (t - q) n in
    let most : y * d ≤ n * d + m * d = omega (arith, mul-le-mul_right d high, add-mul n m d) in
    let least : n * d ≤ y * d + m * d = omega (arith, mul-le-mul_right d low, add-mul y m d) in
    (order, omega arith, omega arith)

-- over a part of the line
paced_part : (r : Rates) (x : ℤ) (e d : ℕ) → IsSlew r x → IsPaced r r.lease d (advance r x e) (advance r x (e + d))
paced_part r x e d s =
    let is = slew_is r x s in
    let gained = quotient_gain r.lease (greatest_slew r) is.0 e d (is.0 * e / r.lease) (is.0 * (e + d) / r.lease) (omega (arith, r.lease_from)) is.1 is.2 refl refl in
    record {
      gain = is.0 * (e + d) / r.lease - is.0 * e / r.lease;
      is = omega (arith, ints, is.3 e, is.3 (e + d), gained.0);
      fast = gained.1;
      slow = gained.2;
    }

-- over a whole lease there is no slack
paced_whole : (r : Rates) (x v : ℤ) → IsSlew r x → IsPaced r 0 r.lease v (v +ℤ advance r x r.lease)
paced_whole r x v s =
    let is = slew_is r x s in
    let whole : is.0 * r.lease / r.lease ≡ is.0 = mul-div_cancel is.0 (omega (arith, r.lease_from)) in
    let most = mul-le-mul_right r.lease is.1 in
    let least = mul-le-mul_right r.lease is.2 in
    let high = add-mul r.lease (greatest_slew r) r.lease in
    let low = add-mul is.0 (greatest_slew r) r.lease in
    record {
      gain = is.0;
      is = omega (arith, ints, is.3 r.lease, whole);
      fast = omega (arith, most, high);
      slow = omega (arith, least, low);
    }

-- up to the joint the line is the first part
line_before : (r : Rates) (rec : ClockRecord) (o : ℕ) → IsSound r rec → o ≤ rec.b.from → line r rec o ≡ first_part r rec o
line_before r rec o s h = elim (cases_lt o rec.b.from) [
  | inl before ↦ line_first r rec o before
  | inr at ↦ let here : o ≡ rec.b.from = omega arith in ap (line r rec) here ∙ line_joint r rec s ∙ ap (first_part r rec) (sym here)
]

paced_first : (r : Rates) (rec : ClockRecord) (o p : ℕ) → IsSound r rec → rec.a.from ≤ o → o ≤ p → p ≤ rec.b.from → IsPaced r r.lease (p - o) (line r rec o) (line r rec p)
paced_first r rec o p s from order to =
    let on : o - rec.a.from + (p - o) ≡ p - rec.a.from = omega arith in
    paced_at r r.lease (p - o) (p - o) (rec.a.value +ℤ advance r rec.a.x (o - rec.a.from)) (rec.a.value +ℤ advance r rec.a.x (o - rec.a.from + (p - o))) _ _ refl
    (sym (line_before r rec o s (omega arith)))
    (ap (λ e. rec.a.value +ℤ advance r rec.a.x e) on ∙ sym (line_before r rec p s to))
    (paced_onto r r.lease (p - o) rec.a.value _ _ (paced_part r rec.a.x (o - rec.a.from) (p - o) s.a_slew))

paced_second : (r : Rates) (rec : ClockRecord) (o p : ℕ) → IsSound r rec → rec.b.from ≤ o → o ≤ p → p ≤ end_of r rec → IsPaced r r.lease (p - o) (line r rec o) (line r rec p)
paced_second r rec o p s from order to =
    let on : o - rec.b.from + (p - o) ≡ p - rec.b.from = omega arith in
    paced_at r r.lease (p - o) (p - o) (line r rec rec.b.from +ℤ advance r rec.b.x (o - rec.b.from)) (line r rec rec.b.from +ℤ advance r rec.b.x (o - rec.b.from + (p - o))) _ _ refl
    (sym (line_on r rec o s from (omega arith)))
    (ap (λ e. line r rec rec.b.from +ℤ advance r rec.b.x e) on ∙ sym (line_on r rec p s (omega arith) to))
    (paced_onto r r.lease (p - o) (line r rec rec.b.from) _ _ (paced_part r rec.b.x (o - rec.b.from) (p - o) s.b_slew))

-- over the whole second part
paced_over_second : (r : Rates) (rec : ClockRecord) → IsSound r rec → IsPaced r 0 r.lease (line r rec rec.b.from) (line r rec (end_of r rec))
paced_over_second r rec s =
    let whole : end_of r rec - rec.b.from ≡ r.lease = omega arith in
    paced_at r 0 r.lease r.lease (line r rec rec.b.from) (line r rec rec.b.from +ℤ advance r rec.b.x r.lease) _ _ refl refl
    (ap (λ e. line r rec rec.b.from +ℤ advance r rec.b.x e) (sym whole) ∙ sym (line_on r rec (end_of r rec) s (omega arith) (omega arith)))
    (paced_whole r rec.b.x (line r rec rec.b.from) s.b_slew)

-- from anywhere on the line to its end
paced_to_end : (r : Rates) (rec : ClockRecord) (o : ℕ) → IsSound r rec → rec.a.from ≤ o → o ≤ end_of r rec → IsPaced r r.lease (end_of r rec - o) (line r rec o) (line r rec (end_of r rec))
paced_to_end r rec o s from to = elim (cases_lt o rec.b.from) [
  | inr second ↦ paced_second r rec o (end_of r rec) s second to (omega arith)
  | inl first ↦
      paced_within r (r.lease + 0) r.lease (end_of r rec - o) _ _ (omega arith)
      (paced_at r (r.lease + 0) (rec.b.from - o + r.lease) (end_of r rec - o) _ _ _ _ (omega arith) refl refl
      (paced_join r r.lease 0 (rec.b.from - o) r.lease _ _ _ (paced_first r rec o rec.b.from s from (omega arith) (omega arith)) (paced_over_second r rec s)))
]

-- How the line of a later record stands to an earlier one, seen from an oscillator reading of the earlier one: where both have it they agree,
-- and at the ends of the later one's parts the pace was kept since.
record Reaches (r : Rates) (earlier : ClockRecord) (o : ℕ) (later : ClockRecord) : Type 0 where
  joined : end_of r earlier ≤ end_of r later
  agrees : later.a.from ≤ o → line r later o ≡ line r earlier o
  to_begin : o ≤ later.a.from → IsPaced r r.lease (later.a.from - o) (line r earlier o) (line r later later.a.from)
  to_joint : o ≤ later.b.from → IsPaced r r.lease (later.b.from - o) (line r earlier o) (line r later later.b.from)
  to_end : IsPaced r r.lease (end_of r later - o) (line r earlier o) (line r later (end_of r later))

reaches_itself : (r : Rates) (rec : ClockRecord) (o : ℕ) → IsSound r rec → rec.a.from ≤ o → o ≤ end_of r rec → Reaches r rec o rec
reaches_itself r rec o s from to = record {
  joined = omega arith;
  agrees = λ h. refl;
  to_begin = λ h.
      let here : o ≡ rec.a.from = omega arith in
      let none : 0 ≡ rec.a.from - o = omega arith in
      paced_at r r.lease 0 (rec.a.from - o) (line r rec o) (line r rec o) _ _ none refl (ap (line r rec) here) (paced_none r r.lease (line r rec o));
  to_joint = λ h. paced_first r rec o rec.b.from s from h (omega arith);
  to_end = paced_to_end r rec o s from to;
}

-- a record that is renewed before its end
reaches_prolonged : (r : Rates) (earlier : ClockRecord) (o : ℕ) (rec : ClockRecord) (osc : ℕ) → IsSound r rec → IsSound r (prolonged_record r rec osc) → o ≤ end_of r earlier → Reaches r earlier o rec → Reaches r earlier o (prolonged_record r rec osc)
reaches_prolonged r earlier o rec osc s t to f =
    let next : ClockRecord = prolonged_record r rec osc in
    let at_joint = prolonged_agrees r rec osc rec.b.from s t (omega arith) (omega arith) in
    let at_end = prolonged_agrees r rec osc (end_of r rec) s t (omega arith) (omega arith) in
    record {
      joined = omega (arith, f.joined);
      agrees = λ h. prolonged_agrees r rec osc o s t h (omega (arith, f.joined)) ∙ f.agrees (omega (arith, parts_meet r rec s));
      to_begin = λ h. paced_at r r.lease (rec.b.from - o) (rec.b.from - o) _ _ _ _ refl refl (sym at_joint) (f.to_joint h);
      to_joint = λ h. paced_at r r.lease (end_of r rec - o) (end_of r rec - o) _ _ _ _ refl refl (sym at_end) f.to_end;
      to_end =
          paced_within r (r.lease + 0) r.lease (end_of r next - o) _ _ (omega arith)
          (paced_at r (r.lease + 0) (end_of r rec - o + r.lease) (end_of r next - o) _ _ _ _ (omega (arith, f.joined)) refl refl
          (paced_join r r.lease 0 (end_of r rec - o) r.lease _ _ _
          (paced_at r r.lease (end_of r rec - o) (end_of r rec - o) _ _ _ _ refl refl (sym at_end) f.to_end) (paced_over_second r next t)));
    }

reaches_next : (r : Rates) (earlier : ClockRecord) (o : ℕ) (rec next : ClockRecord) → IsSound r rec → IsSound r next → IsNext r rec next → rec.step ≡ next.step → (IsLateRenewal r rec next → ⊥)
    → o ≤ end_of r earlier → Reaches r earlier o rec → Reaches r earlier o next
unfolding line
reaches_next r earlier o rec next s t (anchored osc i after is) same on_time to f =
    subst (Reaches r earlier o) (sym is) (record { joined = f.joined; agrees = f.agrees; to_begin = f.to_begin; to_joint = f.to_joint; to_end = f.to_end })
reaches_next r earlier o rec next s t (stepped osc i after is) same on_time to f =
    absurd (omega (arith, ap (λ (v : ClockRecord). v.step) is))
reaches_next r earlier o rec next s t (renewed osc after made) same on_time to f = reaches (renewal r rec osc next made)
  where
    reaches : Renewal r rec osc next → Reaches r earlier o next
    reaches (prolonged begun before is) = subst (Reaches r earlier o) (sym is) (reaches_prolonged r earlier o rec osc s (subst (IsSound r) is t) to f)
    reaches (resumed past is) =
        let at : next.born ≡ osc = ap (λ (v : ClockRecord). v.born) is in
        absurd (on_time (omega (arith, at, past), subst (λ v. renewed_record r rec v ≡ Some next) (sym at) made))

-- the newest record of a clock history, seen from one of its records
newest_reached : (r : Rates) (newest : ClockRecord) (older : List ClockRecord) (i : ℕ) (earlier : ClockRecord) (o : ℕ) → IsClockHistory r (newest ∷ older) → slice_get (newest ∷ older) i ≡ Some earlier
    → earlier.step ≡ newest.step → NoneIsLate r (newest ∷ older) i 0 → earlier.a.from ≤ o → o ≤ end_of r earlier → Reaches r earlier o newest
newest_reached r newest older zero earlier o h at same on_time from to =
    let is = same_Some newest earlier at in
    subst (Reaches r earlier o) (sym is) (reaches_itself r earlier o (subst (IsSound r) is h.0) from to)
newest_reached r newest [] (suc i) earlier o h at same on_time from to = absurd (none-some earlier at)
newest_reached r newest (rec ∷ older) (suc i) earlier o h at same on_time from to =
    let since = newest_since r rec older i earlier h.2 at in
    let next = IsSince-next r rec newest h.2.0 h.0 h.1 in
    reaches_next r earlier o rec newest h.2.0 h.0 h.1 (omega (arith, since.step, next.step))
    (on_time 0 rec newest (omega arith) (omega arith) refl refl) to
    (newest_reached r rec older i earlier o h.2 at (omega (arith, since.step, next.step))
    (λ k a b from to at_k at_next. on_time (suc k) a b (omega arith) (omega arith) at_k at_next) from to)

-- from one record of a clock history to a later one
reached : (r : Rates) (records : List ClockRecord) (i j : ℕ) (earlier later : ClockRecord) (o : ℕ) → IsClockHistory r records → j ≤ i → slice_get records i ≡ Some earlier → slice_get records j ≡ Some later
    → earlier.step ≡ later.step → NoneIsLate r records i j → earlier.a.from ≤ o → o ≤ end_of r earlier → Reaches r earlier o later
reached r [] i j earlier later o h order at_i at_j same on_time from to = absurd (none-some earlier at_i)
reached r (newest ∷ older) i zero earlier later o h order at_i at_j same on_time from to =
    let is = same_Some newest later at_j in
    subst (Reaches r earlier o) is (newest_reached r newest older i earlier o h at_i (omega (arith, ap (λ (v : ClockRecord). v.step) is)) on_time from to)
reached r (newest ∷ older) zero (suc j) earlier later o h order at_i at_j same on_time from to = absurd (omega arith)
reached r (newest ∷ older) (suc i) (suc j) earlier later o h order at_i at_j same on_time from to =
    reached r older i j earlier later o h.2 (omega arith) at_i at_j same
    (λ k a b low high at_k at_next. on_time (suc k) a b (omega arith) (omega arith) at_k at_next) from to

-- from there to an oscillator reading of the later one
paced_between : (r : Rates) (earlier : ClockRecord) (o : ℕ) (later : ClockRecord) (p : ℕ) → IsSound r later → Reaches r earlier o later → o ≤ end_of r earlier → later.a.from ≤ p → p ≤ end_of r later → o ≤ p
    → IsPaced r (2 * r.lease) (p - o) (line r earlier o) (line r later p)
paced_between r earlier o later p t f to from within order = elim (cases_lt p later.b.from) [
  | inl first ↦ elim (cases_lt later.a.from o) [
    | inl both ↦
        paced_within r r.lease (2 * r.lease) (p - o) _ _ (omega arith)
        (paced_at r r.lease (p - o) (p - o) _ _ _ _ refl (f.agrees (omega arith)) refl (paced_first r later o p t (omega arith) order (omega arith)))
    | inr before ↦
        paced_within r (r.lease + r.lease) (2 * r.lease) (p - o) _ _ (omega arith)
        (paced_at r (r.lease + r.lease) (later.a.from - o + (p - later.a.from)) (p - o) _ _ _ _ (omega arith) refl refl
        (paced_join r r.lease r.lease (later.a.from - o) (p - later.a.from) _ _ _ (f.to_begin before) (paced_first r later later.a.from p t (omega arith) from (omega arith))))
  ]
  | inr second ↦ elim (cases_lt later.b.from o) [
    | inl both ↦
        paced_within r r.lease (2 * r.lease) (p - o) _ _ (omega arith)
        (paced_at r r.lease (p - o) (p - o) _ _ _ _ refl (f.agrees (omega (arith, parts_meet r later t))) refl (paced_second r later o p t (omega arith) order within))
    | inr before ↦
        paced_within r (r.lease + r.lease) (2 * r.lease) (p - o) _ _ (omega arith)
        (paced_at r (r.lease + r.lease) (later.b.from - o + (p - later.b.from)) (p - o) _ _ _ _ (omega arith) refl refl
        (paced_join r r.lease r.lease (later.b.from - o) (p - later.b.from) _ _ _ (f.to_joint before) (paced_second r later later.b.from p t (omega arith) second within)))
  ]
]

-- what a gain over d units differs by, times the lease
difference : (g d n m k : ℕ) → g * n ≤ n * d + m * d + k → n * d ≤ g * n + m * d + k → unsigned_abs (pos g -ℤ pos d) * n ≤ m * d + k
difference g d n m k fast slow = elim (cases_lt g d) [
  | inl less ↦
      let is : unsigned_abs (pos g -ℤ pos d) ≡ d - g = omega (arith, ints) in
      let parts : d * n ≡ g * n + (d - g) * n = ap (λ v. v * n) (omega arith) ∙ add-mul g (d - g) n in
      omega (arith, ap (λ v. v * n) is, parts, mul_comm n d)
  | inr more ↦
      let is : unsigned_abs (pos g -ℤ pos d) ≡ g - d = omega (arith, ints) in
      let parts : g * n ≡ d * n + (g - d) * n = ap (λ v. v * n) (omega arith) ∙ add-mul d (g - d) n in
      omega (arith, ap (λ v. v * n) is, parts, mul_comm n d)
]

-- the bound on the slew between two readings of one step number, of which neither is past its record's end, where no record was renewed too late
pub slew_bound : (r : Rates) (records : List ClockRecord) (i j : ℕ) (earlier later : ClockRecord) (o p : ℕ) → IsClockHistory r records → j ≤ i → slice_get records i ≡ Some earlier → slice_get records j ≡ Some later
    → earlier.step ≡ later.step → NoneIsLate r records i j → earlier.born ≤ o → o ≤ end_of r earlier → later.born ≤ p → p ≤ end_of r later → o ≤ p
    → unsigned_abs ((line r later p -ℤ line r earlier o) -ℤ pos (p - o)) * r.lease ≤ greatest_slew r * (p - o) + 2 * r.lease
slew_bound r records i j earlier later o p h order at_i at_j same on_time from to later_from later_to before =
    let s = sound_at r records i earlier h at_i in
    let t = sound_at r records j later h at_j in
    let f = reached r records i j earlier later o h order at_i at_j same on_time (omega (arith, s.begun)) to in
    let paced = paced_between r earlier o later p t f to (omega (arith, t.begun)) later_to before in
    let gain : line r later p -ℤ line r earlier o ≡ pos paced.gain = omega (arith, ints, paced.is) in
    subst (λ z. unsigned_abs (z -ℤ pos (p - o)) * r.lease ≤ greatest_slew r * (p - o) + 2 * r.lease) (sym gain)
    (difference paced.gain (p - o) r.lease (greatest_slew r) (2 * r.lease) paced.fast paced.slow)
