-- Laws of clock histories: numbers count up, and within one step number readings never fall, also for a slow reader.
use Rattle.std.proofs.Common.{◌≡◌, ℕ, zero, suc, ◌+◌, ◌<◌, ◌≤◌, Bool, true, false, cond, ℤ, ◌≤ℤ◌, List, [], ◌∷◌, Some, None, refl, sym, ap, ◌∙◌, subst, arith}
use Rattle.std.specs.Prelude.{nat_lt, slice_get}
use Rattle.std.proofs.lemmas.Int.{ints}
use Rattle.std.proofs.lemmas.Bool.{ltb-true, ltb-false}
use Rattle.std.proofs.lemmas.Option.{same_Some, none-some}
use Rattle.slew_clock.specs.declared.rates.Rates.{Rates}
use Rattle.slew_clock.specs.declared.record.ClockRecord.{ClockRecord}
use Rattle.slew_clock.specs.Record.{end_of, IsSound}
use Rattle.slew_clock.specs.Line.{line}
use Rattle.slew_clock.specs.Change.{slew_to_middle, anchored_record, prolonged_record, resumed_record, renewed_record}
use Rattle.slew_clock.specs.Clock.{IsNext, IsClockHistory}
use Rattle.slew_clock.specs.Clock.IsNext.{anchored, stepped, renewed}
use Rattle.slew_clock.proofs.LineLaws.{line_never_falls}
use Rattle.slew_clock.proofs.ChangeLaws.{prolonged_agrees, prolonged_not_below, resumed_joint, resumed_not_below}

-- the two ways of a renewal
pub data Renewal (r : Rates) (rec : ClockRecord) (osc : ℕ) (next : ClockRecord) : Type 0 where
  prolonged : rec.b.from ≤ osc → osc < end_of r rec → next ≡ prolonged_record r rec osc → Renewal r rec osc next
  resumed : end_of r rec ≤ osc → next ≡ resumed_record r rec osc → Renewal r rec osc next

pub renewal : (r : Rates) (rec : ClockRecord) (osc : ℕ) (next : ClockRecord) → renewed_record r rec osc ≡ Some next → Renewal r rec osc next
renewal r rec osc next is = early (nat_lt osc rec.b.from) refl
  where
    early : (b : Bool) → nat_lt osc rec.b.from ≡ b → Renewal r rec osc next
    early true h = absurd (none-some next (sym (ap (λ v. cond v None (Some (cond (nat_lt osc (end_of r rec)) (prolonged_record r rec osc) (resumed_record r rec osc)))) h) ∙ is))
    early false h = late (nat_lt osc (end_of r rec)) refl
      where
        chosen : Some (cond (nat_lt osc (end_of r rec)) (prolonged_record r rec osc) (resumed_record r rec osc)) ≡ Some next
        chosen = sym (ap (λ v. cond v None (Some (cond (nat_lt osc (end_of r rec)) (prolonged_record r rec osc) (resumed_record r rec osc)))) h) ∙ is

        late : (b : Bool) → nat_lt osc (end_of r rec) ≡ b → Renewal r rec osc next
        late true k = prolonged (ltb-false _ _ h) (ltb-true _ _ k) (sym (same_Some _ next (sym (ap (λ v. Some (cond v (prolonged_record r rec osc) (resumed_record r rec osc))) k) ∙ chosen)))
        late false k = resumed (ltb-false _ _ k) (sym (same_Some _ next (sym (ap (λ v. Some (cond v (prolonged_record r rec osc) (resumed_record r rec osc))) k) ∙ chosen)))

-- another anchor leaves the line as it was
pub anchored_line : (r : Rates) (rec : ClockRecord) (osc : ℕ) (i : ℤ × ℤ) (o : ℕ) → line r (anchored_record rec osc i) o ≡ line r rec o
unfolding line
anchored_line r rec osc i o = refl

-- what a later record of a clock has over an earlier one
pub record IsSince (r : Rates) (earlier later : ClockRecord) : Type 0 where
  pub number : earlier.number ≤ later.number
  pub step : earlier.step ≤ later.step
  pub born : earlier.born ≤ later.born
  pub not_below : earlier.step ≡ later.step → (o : ℕ) → later.born ≤ o → line r earlier o ≤ℤ line r later o

pub IsSince-same : (r : Rates) (rec : ClockRecord) → IsSince r rec rec
IsSince-same r rec = record { number = omega arith; step = omega arith; born = omega arith; not_below = λ same o after. omega (arith, ints) }

pub IsSince-after : (r : Rates) (earlier rec later : ClockRecord) → IsSince r earlier rec → IsSince r rec later → IsSince r earlier later
IsSince-after r earlier rec later f g = record {
  number = omega arith;
  step = omega arith;
  born = omega arith;
  not_below = λ same o after. omega (arith, ints, f.not_below (omega arith) o (omega arith), g.not_below (omega arith) o after);
}

-- the next record is since the one before
pub IsSince-next : (r : Rates) (rec next : ClockRecord) → IsSound r rec → IsSound r next → IsNext r rec next → IsSince r rec next
IsSince-next r rec next s t (anchored osc i after is) = subst (IsSince r rec) (sym is) (record {
  number = omega arith;
  step = omega arith;
  born = after;
  not_below = λ same o later. omega (arith, ints, anchored_line r rec osc i o);
})
IsSince-next r rec next s t (stepped osc i after is) = subst (IsSince r rec) (sym is) (record {
  number = omega arith;
  step = omega arith;
  born = after;
  not_below = λ same o later. absurd (omega arith);
})
IsSince-next r rec next s t (renewed osc after made) = since (renewal r rec osc next made)
  where
    since : Renewal r rec osc next → IsSince r rec next
    since (prolonged begun before is) = subst (IsSince r rec) (sym is) (record {
      number = omega arith;
      step = omega arith;
      born = after;
      not_below = λ same o later. prolonged_not_below r rec osc o s (subst (IsSound r) is t) (omega arith);
    })
    since (resumed past is) = subst (IsSince r rec) (sym is) (record {
      number = omega arith;
      step = omega arith;
      born = after;
      not_below = λ same o later. resumed_not_below r rec osc o (subst (IsSound r) is t) past later;
    })

-- each record of a clock history is sound
pub sound_at : (r : Rates) (records : List ClockRecord) (i : ℕ) (rec : ClockRecord) → IsClockHistory r records → slice_get records i ≡ Some rec → IsSound r rec
sound_at r [] i rec h at = absurd (none-some rec at)
sound_at r (newest ∷ older) zero rec h at = subst (IsSound r) (same_Some newest rec at) h.0
sound_at r (newest ∷ older) (suc i) rec h at = sound_at r older i rec h.2 at

-- the newest record is since each one of its history
pub newest_since : (r : Rates) (newest : ClockRecord) (older : List ClockRecord) (i : ℕ) (earlier : ClockRecord) → IsClockHistory r (newest ∷ older) → slice_get (newest ∷ older) i ≡ Some earlier → IsSince r earlier newest
newest_since r newest older zero earlier h at = subst (λ v. IsSince r v newest) (same_Some newest earlier at) (IsSince-same r newest)
newest_since r newest [] (suc i) earlier h at = absurd (none-some earlier at)
newest_since r newest (rec ∷ older) (suc i) earlier h at =
    IsSince-after r earlier rec newest (newest_since r rec older i earlier h.2 at) (IsSince-next r rec newest h.2.0 h.0 h.1)

-- and each record is since those before it
pub since_at : (r : Rates) (records : List ClockRecord) (i j : ℕ) (earlier later : ClockRecord) → IsClockHistory r records → j ≤ i → slice_get records i ≡ Some earlier → slice_get records j ≡ Some later → IsSince r earlier later
since_at r [] i j earlier later h order at_i at_j = absurd (none-some earlier at_i)
since_at r (newest ∷ older) i zero earlier later h order at_i at_j = subst (IsSince r earlier) (same_Some newest later at_j) (newest_since r newest older i earlier h at_i)
since_at r (newest ∷ older) zero (suc j) earlier later h order at_i at_j = absurd (omega arith)
since_at r (newest ∷ older) (suc i) (suc j) earlier later h order at_i at_j = since_at r older i j earlier later h.2 (omega arith) at_i at_j

-- within one step number a reading of a later record is not below an earlier reading of an earlier one
pub line_since : (r : Rates) (earlier later : ClockRecord) (o p : ℕ) → IsSound r earlier → IsSince r earlier later → earlier.step ≡ later.step → later.born ≤ p → o ≤ p → line r earlier o ≤ℤ line r later p
line_since r earlier later o p s since same after order =
    omega (arith, ints, line_never_falls r earlier o p s order, since.not_below same p after)

-- the numbers of the next record
pub next-number : (r : Rates) (rec next : ClockRecord) → IsNext r rec next → next.number ≡ rec.number + 1
next-number r rec next (anchored osc i after is) = ap (λ (v : ClockRecord). v.number) is
next-number r rec next (stepped osc i after is) = ap (λ (v : ClockRecord). v.number) is
next-number r rec next (renewed osc after made) = number (renewal r rec osc next made)
  where
    number : Renewal r rec osc next → next.number ≡ rec.number + 1
    number (prolonged begun before is) = ap (λ (v : ClockRecord). v.number) is
    number (resumed past is) = ap (λ (v : ClockRecord). v.number) is

pub next-born : (r : Rates) (rec next : ClockRecord) → IsNext r rec next → rec.born ≤ next.born
next-born r rec next (anchored osc i after is) = omega (arith, ap (λ (v : ClockRecord). v.born) is)
next-born r rec next (stepped osc i after is) = omega (arith, ap (λ (v : ClockRecord). v.born) is)
next-born r rec next (renewed osc after made) = born (renewal r rec osc next made)
  where
    born : Renewal r rec osc next → rec.born ≤ next.born
    born (prolonged begun before is) = omega (arith, ap (λ (v : ClockRecord). v.born) is)
    born (resumed past is) = omega (arith, ap (λ (v : ClockRecord). v.born) is)

pub next-step : (r : Rates) (rec next : ClockRecord) → IsNext r rec next → (rec.step ≤ next.step) × (next.step ≤ rec.step + 1)
next-step r rec next (anchored osc i after is) = let same = ap (λ (v : ClockRecord). v.step) is in (omega (arith, same), omega (arith, same))
next-step r rec next (stepped osc i after is) = let same = ap (λ (v : ClockRecord). v.step) is in (omega (arith, same), omega (arith, same))
next-step r rec next (renewed osc after made) = step (renewal r rec osc next made)
  where
    step : Renewal r rec osc next → (rec.step ≤ next.step) × (next.step ≤ rec.step + 1)
    step (prolonged begun before is) = let same = ap (λ (v : ClockRecord). v.step) is in (omega (arith, same), omega (arith, same))
    step (resumed past is) = let same = ap (λ (v : ClockRecord). v.step) is in (omega (arith, same), omega (arith, same))

-- a renewal before the end leaves the line as it was up to that end
pub renewed_line : (r : Rates) (rec next : ClockRecord) (osc o : ℕ) → IsSound r rec → IsSound r next → renewed_record r rec osc ≡ Some next → osc < end_of r rec → rec.b.from ≤ o → o ≤ end_of r rec → line r next o ≡ line r rec o
renewed_line r rec next osc o s t made early begun within = agrees (renewal r rec osc next made)
  where
    agrees : Renewal r rec osc next → line r next o ≡ line r rec o
    agrees (prolonged from before is) =
        subst (λ v. line r v o ≡ line r rec o) (sym is) (prolonged_agrees r rec osc o s (subst (IsSound r) is t) begun within)
    agrees (resumed past is) = absurd (omega arith)

-- the value that a renewed record has where its second part begins is that of the end of the line before
joint_is_end : (r : Rates) (rec next : ClockRecord) (osc : ℕ) → IsSound r rec → IsSound r next → Renewal r rec osc next → line r next next.b.from ≡ line r rec (end_of r rec)
joint_is_end r rec next osc s t (prolonged from before is) =
    subst (λ v. line r v v.b.from ≡ line r rec (end_of r rec)) (sym is)
    (prolonged_agrees r rec osc (end_of r rec) s (subst (IsSound r) is t) (omega arith) (omega arith))
joint_is_end r rec next osc s t (resumed past is) =
    subst (λ v. line r v v.b.from ≡ line r rec (end_of r rec)) (sym is)
    (resumed_joint r rec osc (subst (IsSound r) is t))

pub renewed_leads : (r : Rates) (rec next : ClockRecord) (osc : ℕ) → IsSound r rec → IsSound r next → renewed_record r rec osc ≡ Some next → next.b.x ≡ slew_to_middle r rec next.b.from (line r next next.b.from)
renewed_leads r rec next osc s t made =
    let way = renewal r rec osc next made in
    slew_of way ∙ ap (slew_to_middle r rec next.b.from) (sym (joint_is_end r rec next osc s t way))
  where
    slew_of : Renewal r rec osc next → next.b.x ≡ slew_to_middle r rec next.b.from (line r rec (end_of r rec))
    slew_of (prolonged from before is) = subst (λ v. v.b.x ≡ slew_to_middle r rec v.b.from (line r rec (end_of r rec))) (sym is) refl
    slew_of (resumed past is) = subst (λ v. v.b.x ≡ slew_to_middle r rec v.b.from (line r rec (end_of r rec))) (sym is) refl
