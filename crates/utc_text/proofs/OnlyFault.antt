-- The fault of a text is the only one that the grammar gives it.
use Rattle.std.proofs.Common.{◌≡◌, inl, inr, ℕ, Bool, true, false, List, [], ◌∷◌, ◌++◌, Result, Ok, Err, refl, sym, ap, subst, ◌∙◌, arith, append_assoc, FitsSigned, w64}
use Rattle.utc_value.specs.Stamp.{Stamp}
use Rattle.utc_text.specs.declared.fault.TextField.{TextField}
use Rattle.utc_text.specs.declared.fault.TextField.TheVariants.{Days}
use Rattle.utc_text.specs.declared.fault.TextFault.{TextFault}
use Rattle.utc_text.specs.Reading.{right_at, clock_of, sign_at, fits_time, time_of, length_of, absolute_of, relative_of, moment_stamp, length_stamp}
use Rattle.utc_text.specs.FirstWrong.{fault_at, IsFirstWrong, IsTooLong, IsAbsoluteFault, IsRelativeFault}
use Rattle.utc_text.specs.Grammar.{signed, RelativeFields, relative_units, Stand, AbsoluteStands, RelativeStands, absolute_order, time_order, relative_order}
use Rattle.utc_text.proofs.TextsTaken.{fits_taken}
use Rattle.utc_text.proofs.Standing.{part_reads, fraction_reads, sign_reads, days_reads}
use Rattle.utc_text.proofs.ReadLaws.{absolute_found, relative_found}
use Rattle.utc_text.proofs.Reached.{Stands, Names, split, err_kept}
use Rattle.utc_text.proofs.AbsoluteFault.{moment_fault}
use Rattle.utc_text.proofs.RelativeFault.{NotLong, Told, length_fault}

-- ---- two first wrong fields of one text

-- where neither of two beginnings of one list, each with the field behind it, is one of the other, they are the same
same_place : (front back other_front other_back : List TextField) (field other : TextField)
    → front ++ field ∷ back ≡ other_front ++ other ∷ other_back
    → ((middle : List TextField) → other_front ≡ (front ++ field ∷ []) ++ middle → ⊥)
    → ((middle : List TextField) → front ≡ (other_front ++ other ∷ []) ++ middle → ⊥) → (front ≡ other_front) × (field ≡ other)
same_place [] back [] other_back field other e behind before = (refl, cc)
same_place [] back (first ∷ front) other_back field other e behind before = absurd (behind front cc)
same_place (first ∷ front) back [] other_back field other e behind before = absurd (before front cc)
same_place (first ∷ front) back (second ∷ other_front) other_back field other e behind before =
    let head : first ≡ second = cc in
    let tails : front ++ field ∷ back ≡ other_front ++ other ∷ other_back = cc in
    let longer : (middle : List TextField) → other_front ≡ (front ++ field ∷ []) ++ middle → ⊥ =
    λ middle e. behind middle (rw (e, head) refl) in
    let shorter : (middle : List TextField) → front ≡ (other_front ++ other ∷ []) ++ middle → ⊥ =
    λ middle e. before middle (rw (e, sym head) refl) in
    let r = same_place front back other_front other_back field other tails longer shorter in
    (rw (head, r.0) refl, r.1)

module _ {F : Type 0} (stands : Stands F) (order : List TextField) (text : List ℕ) where
  -- where fields stand, so do those up to any one of them
  stands_so_far : (front back : List TextField) (field : TextField) (f : F) (rest : List ℕ)
      → Stand stands ((front ++ field ∷ []) ++ back) f text rest
      → (middle : List ℕ) × Stand stands (front ++ field ∷ []) f text middle
  stands_so_far front back field f rest s = let p = split stands (front ++ field ∷ []) back f text rest s in (p.0, p.1)

  -- where all fields stand, none is wrong
  none_wrong : (f : F) (rest : List ℕ) → Stand stands order f text rest → (field : TextField) (left : List ℕ)
      → IsFirstWrong stands order text field left → ⊥
  none_wrong f rest s field left w =
      let at : order ≡ (w.front ++ field ∷ []) ++ w.back = w.order_is ∙ sym (append_assoc w.front (field ∷ []) w.back) in
      let p = stands_so_far w.front w.back field f rest (subst (λ (x : List TextField). Stand stands x f text rest) at s) in
      w.wrong f p.0 p.1

  -- no field before the first wrong one is one
  not_behind : (field other : TextField) (left rest : List ℕ) (w : IsFirstWrong stands order text field left) (v : IsFirstWrong stands order text other rest) (middle : List TextField)
      → v.front ≡ (w.front ++ field ∷ []) ++ middle → ⊥
  not_behind field other left rest w v middle longer =
      let p =
      stands_so_far w.front middle field v.fields rest (subst (λ (x : List TextField). Stand stands x v.fields text rest) longer v.before) in
      w.wrong v.fields p.0 p.1

  only_named : (d fault : TextFault) (left : List ℕ) → Names stands order text d
      → IsFirstWrong stands order text fault.field left → fault ≡ fault_at text fault.field left → d ≡ fault
  only_named d fault left n w is =
      let same =
      same_place w.front w.back n.wrong.front n.wrong.back fault.field d.field (sym w.order_is ∙ n.wrong.order_is) (not_behind fault.field d.field left n.left w n.wrong) (not_behind d.field fault.field n.left left n.wrong w) in
      let its_left : left ≡ n.left =
      n.same w.fields left (subst (λ (x : List TextField). Stand stands x w.fields text left) same.0 w.before) in
      n.is ∙ rw (same.1, its_left) refl ∙ sym is

-- ---- absolute texts

pub absolute_only_fault : (text : List ℕ) (r : Result Stamp TextFault) → r ≡ absolute_of text → (fault : TextFault)
    → IsAbsoluteFault text fault → r ≡ Err fault
unfolding absolute_of
absolute_only_fault text (Ok u) e fault is =
    let f = absolute_found text u (sym e) in
    absurd (none_wrong AbsoluteStands absolute_order text f.fields [] f.spelled fault.field is.0 is.1)
absolute_only_fault text (Err d) e fault is =
    let n = moment_fault text d (err_kept _ (λ m. moment_stamp m) d (sym e)) in
    ap (λ (x : TextFault). Err x) (only_named AbsoluteStands absolute_order text d fault is.0 n is.1 is.2)

-- ---- relative texts

unfit : (negative : Bool) (units : ℕ) (test : Bool) → fits_time negative units ≡ test
    → (FitsSigned w64 (signed negative units) → ⊥) → fits_time negative units ≡ false
unfit negative units true e long = absurd (long (fits_taken negative units e))
unfit negative units false e long = e

-- a time that is too long is read, and then refused
long_time : (text : List ℕ) (f : RelativeFields) (rest : List ℕ) → Stand RelativeStands time_order f text rest
    → fits_time f.negative (relative_units f) ≡ false
    → time_of text (sign_at text).0 (sign_at text).1 ≡ Err (fault_at text Days (sign_at text).1)
unfolding time_of clock_of right_at
long_time text f rest s unfit =
    let at_days = s.0 in
    let at_clock = s.2.0 in
    let at_minute = s.2.2.0 in
    let at_second = s.2.2.2.0 in
    let at_fraction = s.2.2.2.2.0 in
    let at_end = s.2.2.2.2.2.0 in
    let sign = sign_reads f.negative text at_days s.1 in
    let days = days_reads f.days at_days at_clock s.2.1 in
    let hour = part_reads 45 0 23 f.clock.hour at_clock at_minute (omega arith) s.2.2.1 in
    let minute = part_reads 58 0 59 f.clock.minute at_minute at_second (omega arith) s.2.2.2.1 in
    let second = part_reads 58 0 59 f.clock.second at_second at_fraction (omega arith) s.2.2.2.2.1 in
    let fraction = fraction_reads f.clock.fraction at_fraction at_end s.2.2.2.2.2.1 in
    rw (sign, days, hour, minute, second, fraction, unfit) refl

long_length : (text left : List ℕ) → IsTooLong text left → length_of text ≡ Err (fault_at text Days left)
unfolding length_of
long_length text left t =
    let refused = long_time text t.fields t.rest t.time (unfit t.fields.negative (relative_units t.fields) _ refl t.long) in
    let sign : (sign_at text).1 ≡ left =
    ap (λ (x : Bool × List ℕ). x.1) (sign_reads t.fields.negative text t.sign.0 t.sign.1) ∙ t.sign.2 in
    rw (refused, sign) refl

long_text : (text left : List ℕ) → IsTooLong text left → relative_of text ≡ Err (fault_at text Days left)
unfolding relative_of
long_text text left t = rw (long_length text left t) refl

only_told : (text left : List ℕ) (d fault : TextFault) → Told text d → NotLong text
    → IsFirstWrong RelativeStands relative_order text fault.field left → fault ≡ fault_at text fault.field left → d ≡ fault
only_told text left d fault (inl long) short w is = absurd (short long.0 long.1)
only_told text left d fault (inr n) short w is = only_named RelativeStands relative_order text d fault left n.1 w is

short_text : (text left : List ℕ) (fault : TextFault) (r : Result Stamp TextFault) → r ≡ relative_of text → NotLong text
    → IsFirstWrong RelativeStands relative_order text fault.field left → fault ≡ fault_at text fault.field left → r ≡ Err fault
unfolding relative_of
short_text text left fault (Ok u) e short w is =
    let f = relative_found text u (sym e) in
    absurd (none_wrong RelativeStands relative_order text f.fields [] f.spelled fault.field left w)
short_text text left fault (Err d) e short w is =
    let n = length_fault text d (err_kept (length_of text) (λ l. length_stamp l) d (sym e)) in
    ap (λ (x : TextFault). Err x) (only_told text left d fault n short w is)

pub relative_only_fault : (text : List ℕ) (r : Result Stamp TextFault) → r ≡ relative_of text → (fault : TextFault)
    → IsRelativeFault text fault → r ≡ Err fault
relative_only_fault text r e fault (left, inl long) = e ∙ long_text text left long.0 ∙ ap (λ (x : TextFault). Err x) (sym long.1)
relative_only_fault text r e fault (left, inr wrong) = short_text text left fault r e wrong.0 wrong.1 wrong.2
