-- Octets are those of one timestamp, or are refused for one fault.
use Rattle.std.proofs.Common.{◌≡◌, ◌↔◌, ℕ, List, Option, Some, None, Result, Ok, Err, IfOk, refl, sym, ap, subst, ◌∙◌, arith, ℤ, pos, ◌+ℤ◌, ◌-ℤ◌, ◌≤ℤ◌}
use Rattle.std.specs.Option.{option_map}
use Rattle.utc_value.specs.declared.BytesFault.{BytesFault}
use Rattle.utc_value.specs.declared.BytesFault.TheVariants.{Version, Tdf}
use Rattle.utc_value.specs.Stamp.{Stamp, IsInRange}
use Rattle.utc_value.specs.Members.{earliest_of, latest_of, IsMember, IsNear}
use Rattle.utc_value.specs.Octets.{octets_of, version_of, version_in, tdf_in, IsVersion, RefusesOctets}
use Rattle.utc_value.proofs.OctetLemmas.{gives_parts, same_last, read_is_given, version_is_one, allowed_by_version, factor_bits}

-- the octets of a timestamp give its version and its time differential factor
pub octets_version : (a : Stamp) → IsInRange a → version_in (octets_of a) ≡ version_of a.kind
octets_version a h =
    let g = gives_parts a (octets_of a) h refl in
    omega (arith, g.last, factor_bits a.kind a.tdf h.tdf_fits)

pub octets_tdf : (a : Stamp) → IsInRange a → tdf_in (octets_of a) ≡ a.tdf
octets_tdf a h =
    let g = gives_parts a (octets_of a) h refl in
    (same_last a.kind a.kind a.tdf _ h.tdf_fits g.last (sym (octets_version a h))).1

-- timestamps with the same octets are one
pub same_octets : (a b : Stamp) → IsInRange a → IsInRange b → octets_of a ≡ octets_of b → a ≡ b
same_octets a b h k e =
    let g = gives_parts a (octets_of b) h e in
    read_is_given b (octets_of b) a.time a.inaccuracy a.tdf a.kind h.time_fits g.time h.inaccuracy_fits g.inaccuracy
    (rw (← e) (sym (octets_version a h))) (rw (← e) (sym (octets_tdf a h))) k refl

-- the octets of a timestamp are not refused
pub octets_right : (a : Stamp) (fault : BytesFault) → IsInRange a → RefusesOctets (octets_of a) fault → ⊥
octets_right a (Version found) h refused = refused.1 (rw (refused.0, octets_version a h) (version_is_one a.kind))
octets_right a (Tdf found) h refused =
    refused.2 (rw (octets_version a h, refused.0, octets_tdf a h) ((allowed_by_version a.kind a.tdf).0 h.tdf_fits))

-- octets that are no timestamp have one fault
pub one_fault : (octets : List ℕ) (x y : BytesFault) → RefusesOctets octets x → RefusesOctets octets y → x ≡ y
one_fault octets (Version m) (Version n) h k = ap (λ (x : ℕ). Version x) (h.0 ∙ sym k.0)
one_fault octets (Version m) (Tdf t) h k = absurd (h.1 (subst IsVersion (sym h.0) k.1))
one_fault octets (Tdf t) (Version m) h k = absurd (k.1 (subst IsVersion (sym k.0) h.1))
one_fault octets (Tdf t) (Tdf u) h k = ap (λ (x : ℤ). Tdf x) (h.0 ∙ sym k.0)

abbrev read : Stamp → Result Stamp BytesFault
read s = Ok s

read_is : (s t : Stamp) → read s ≡ read t → s ≡ t
read_is s t e = cc

-- a result that has the octets, and is any timestamp that has them
pub spelled : (octets : List ℕ) (r : Result Stamp BytesFault) → IfOk r (λ s. octets_of s ≡ octets) → IfOk r IsInRange
    → ((s : Stamp) → IsInRange s → octets_of s ≡ octets → r ≡ Ok s) → (s : Stamp) → (r ≡ Ok s) ↔ (IsInRange s × (octets_of s ≡ octets))
spelled octets (Ok t) ok range back s = (
  λ e. let same = read_is t s e in (subst IsInRange same range, subst (λ (x : Stamp). octets_of x ≡ octets) same ok),
  λ h. back s h.0 h.1,
)
spelled octets (Err fault) ok range back s = (λ e. absurd (cc), λ h. back s h.0 h.1)

-- both faults as one
pub refused : (octets : List ℕ) (r : Result Stamp BytesFault)
    → ((found : ℕ) → (r ≡ Err (Version found)) ↔ RefusesOctets octets (Version found))
    → ((found : ℤ) → (r ≡ Err (Tdf found)) ↔ RefusesOctets octets (Tdf found)) → (fault : BytesFault) → (r ≡ Err fault) ↔ RefusesOctets octets fault
refused octets r version tdf (Version found) = version found
refused octets r version tdf (Tdf found) = tdf found

near_ends : (t low high x : ℤ) (i : Option ℕ) → option_map (λ n. t -ℤ pos n) i ≡ Some low
    → option_map (λ n. t +ℤ pos n) i ≡ Some high
    → IsNear t i x ↔ ((low ≤ℤ x) × (x ≤ℤ high))
near_ends t low high x None e f = absurd (cc)
near_ends t low high x (Some i) e f =
    let first : t -ℤ pos i ≡ low = cc in
    let last : t +ℤ pos i ≡ high = cc in
    (λ h. (rw first at h.0, rw last at h.1), λ h. (rw first h.0, rw last h.1))

-- the members lie from the earliest to the latest
pub members_in : (s : Stamp) (low high x : ℤ) → earliest_of s ≡ Some low → latest_of s ≡ Some high
    → IsMember s x ↔ ((low ≤ℤ x) × (x ≤ℤ high))
members_in s low high x e f = near_ends s.time low high x s.inaccuracy e f
