-- What the text that was printed says of the public clauses.
use Rattle.std.proofs.Common.{◌≡◌, ◌↔◌, ℕ, ◌/◌, ◌%◌, unsigned_abs, List, Option, Result, Ok, Err, refl, sym, ap, subst, ◌∙◌, arith, ℤ, pos}
use Rattle.std.specs.Prelude.{IfOk, IfErr}
use Rattle.jiff_core.proofs.SignedLemmas.{signed_arith}
use Rattle.utc_value.specs.Stamp.{Stamp, IsTdf, IsInaccuracy, IsInRange, IsTdfOf, absolute_stamp, relative_stamp}
use Rattle.utc_value.specs.declared.Kind.{Kind}
use Rattle.utc_value.specs.declared.Kind.TheVariants.{Relative}
use Rattle.utc_text.specs.declared.fault.PrintFault.{PrintFault}
use Rattle.utc_text.specs.declared.fault.PrintFault.TheVariants.{NoMemory}
use Rattle.utc_text.specs.declared.calendar.Civil.{Civil}
use Rattle.utc_text.specs.Civil.{IsCivil, civil_count, local_count}
use Rattle.utc_text.specs.Printing.{IsShown, IsLengthShown, absolute_shown}
use Rattle.utc_text.specs.Written.{absolute_text, relative_text, relative_divided}
use Rattle.utc_text.specs.Reading.{moment_stamp, length_stamp}
use Rattle.utc_text.specs.Texts.{utc_count, SpellsAbsolute, SpellsRelative}
use Rattle.utc_text.proofs.Stood.{absolute_stands, relative_stands}
use Rattle.utc_text.proofs.PrintLemmas.{length_parts, absolute_right, absolute_said_shown, relative_right, relative_said_shown}

-- a text of the fields that are printed shows the time, and spells it
stamp_back : (c : Civil) (time tdf : ℤ) (i : Option ℕ) → civil_count c ≡ local_count time tdf
    → absolute_stamp (utc_count c tdf) i tdf ≡ absolute_stamp time i tdf
stamp_back c time tdf i e =
    let back : utc_count c tdf ≡ time = omega (arith, signed_arith, e) in
    ap (λ (x : ℤ). absolute_stamp x i tdf) back

pub shown : (r : Result (List ℕ) PrintFault) (c : Civil) (time tdf : ℤ) (i : Option ℕ) → IsCivil c → IsTdf tdf → IsInaccuracy i
    → civil_count c ≡ local_count time tdf → IfOk r (λ t. t ≡ absolute_text (absolute_shown c tdf i))
    → IfOk r (λ t. IsShown time tdf i t)
shown (Ok t) c time tdf i h m n e text =
    record {
      civil = c;
      is_civil = h;
      count = e;
      spelled = absolute_stands t (absolute_shown c tdf i) (absolute_right c tdf i h m n) text;
    }
shown (Err f) c time tdf i h m n e text = tt

pub reads_back : (r : Result (List ℕ) PrintFault) (c : Civil) (time tdf : ℤ) (i : Option ℕ) → IsCivil c → IsTdf tdf
    → IsInaccuracy i → civil_count c ≡ local_count time tdf → IfOk r (λ t. t ≡ absolute_text (absolute_shown c tdf i))
    → IfOk r (λ t. SpellsAbsolute t (absolute_stamp time i tdf))
reads_back (Ok t) c time tdf i h m n e text =
    let said = absolute_said_shown c tdf i h m n in
    record {
      fields = absolute_shown c tdf i;
      spelled = absolute_stands t (absolute_shown c tdf i) (absolute_right c tdf i h m n) text;
      said = sym (ap moment_stamp said ∙ stamp_back c time tdf i e);
    }
reads_back (Err f) c time tdf i h m n e text = tt

abbrev stamp_made : ℤ → Option ℕ → ℤ → Kind → Stamp
stamp_made time inaccuracy tdf kind = record { time = time; inaccuracy = inaccuracy; tdf = tdf; kind = kind }

relative_is : (u : Stamp) → IsInRange u → u.kind ≡ Relative → relative_stamp u.time u.inaccuracy ≡ u
relative_is u h k =
    let zone : IsTdfOf Relative u.tdf = subst (λ (x : Kind). IsTdfOf x u.tdf) k h.tdf_fits in
    let whole : stamp_made u.time u.inaccuracy (pos 0) Relative ≡ stamp_made u.time u.inaccuracy u.tdf u.kind = rw (zone, k) refl in
    whole

pub length_shown : (r : Result (List ℕ) PrintFault) (u : Stamp) → IsInRange u
    → IfOk r (λ t. t ≡ relative_text (relative_divided u.time u.inaccuracy)) → IfOk r (λ t. IsLengthShown u.time u.inaccuracy t)
length_shown (Ok t) u h text = record {
  days = unsigned_abs u.time / 864_000_000_000;
  hour = unsigned_abs u.time / 36_000_000_000 % 24;
  minute = unsigned_abs u.time / 600_000_000 % 60;
  second = unsigned_abs u.time / 10_000_000 % 60;
  units = unsigned_abs u.time % 10_000_000;
  less = omega arith;
  length = length_parts (unsigned_abs u.time);
  spelled = relative_stands t (relative_divided u.time u.inaccuracy) (relative_right u.time u.inaccuracy h.time_fits h.inaccuracy_fits) text;
}
length_shown (Err f) u h text = tt

pub length_reads_back : (r : Result (List ℕ) PrintFault) (u : Stamp) → IsInRange u → u.kind ≡ Relative
    → IfOk r (λ t. t ≡ relative_text (relative_divided u.time u.inaccuracy)) → IfOk r (λ t. SpellsRelative t u)
length_reads_back (Ok t) u h k text =
    let said = relative_said_shown u.time u.inaccuracy h.time_fits h.inaccuracy_fits in
    let right = relative_right u.time u.inaccuracy h.time_fits h.inaccuracy_fits in
    record {
      fields = relative_divided u.time u.inaccuracy;
      spelled = relative_stands t (relative_divided u.time u.inaccuracy) right text;
      fits = right.time;
      said = sym (ap length_stamp said ∙ relative_is u h k);
    }
length_reads_back (Err f) u h k text = tt

abbrev failed : PrintFault → Result (List ℕ) PrintFault
failed fault = Err fault

fault_is : (a b : PrintFault) → failed a ≡ failed b → a ≡ b
fault_is a b e = cc

pub only_memory : (r : Result (List ℕ) PrintFault) (fault : PrintFault) → IfErr r (λ f. f ≡ NoMemory) → (fault ≡ NoMemory → ⊥)
    → r ≡ Err fault → ⊥
only_memory (Ok t) fault err apart e = absurd cc
only_memory (Err f) fault err apart e = apart (sym (fault_is f fault e) ∙ err)

abbrev civil_failed : PrintFault → Result Civil PrintFault
civil_failed fault = Err fault

civil_fault_is : (a b : PrintFault) → civil_failed a ≡ civil_failed b → a ≡ b
civil_fault_is a b e = cc

pub as_civil : (fault x : PrintFault) → failed fault ≡ failed x → civil_failed fault ≡ civil_failed x
as_civil fault x e = ap (λ (f : PrintFault). civil_failed f) (fault_is fault x e)

-- a fault of the civil time is passed on
pub moved : (fault x : PrintFault) (P : Type 0) → (civil_failed fault ≡ civil_failed x) ↔ P → (failed fault ≡ failed x) ↔ P
moved fault x P h = (λ e. h.0 (as_civil fault x e), λ p. ap (λ (f : PrintFault). failed f) (civil_fault_is fault x (h.1 p)))
