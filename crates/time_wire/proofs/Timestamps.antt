-- Octets that utc_value reads as a timestamp, and those that it refuses.
use Rattle.std.proofs.Common.{◌≡◌, ℕ, ℤ, pos, Bool, true, false, List, Result, Ok, Err, refl, sym, ap, subst, ◌∙◌, arith, ◌-◌}
use Rattle.std.proofs.Common.{inl, inr}
use Rattle.std.proofs.lemmas.Int.{ints}
use Rattle.std.specs.Prelude.{◌&&◌, ◌==◌, neg_ℤ, int_le, ◌<◌, ◌^◌, min}
use Rattle.std.specs.Ordering.{int_eq}
use Rattle.std.proofs.lemmas.Bool.Decides.{Decides-eqb, Decides-int_eq}
use Rattle.dts_base.specs.declared.wire.Field.TheVariants as field
use Rattle.dts_base.specs.declared.wire.Refused.{Refused}
use Rattle.dts_base.specs.declared.wire.WireCause.TheVariants as cause
use Rattle.ndr.specs.Reading.{Cursor, read_octets, after, checked}
use Rattle.ndr.specs.Stubs.{Value, some_octets, read_entry}
use Rattle.utc_value.specs.declared.BytesFault.{BytesFault}
use Rattle.utc_value.specs.declared.BytesFault.TheVariants.{Version, Tdf}
use Rattle.utc_value.specs.declared.Kind.{Kind}
use Rattle.utc_value.specs.declared.Kind.TheVariants.{Absolute, Relative}
use Rattle.utc_value.specs.declared.TheConstants.{MAX_TDF}
use Rattle.utc_value.specs.Stamp.{Stamp, IsInRange, IsTdf, IsTdfOf}
use Rattle.utc_value.specs.Octets.{octets_of, version_of, version_in, tdf_in, IsVersion, IsTdfOfVersion, RefusesOctets}
use Rattle.utc_value.proofs.OctetLaws.{octets_version, octets_tdf}
use Rattle.time_wire.specs.declared.TheConstants.{UTC_SIZE}
use Rattle.time_wire.proofs.Booleans.{passed, passes, fails, both, either}
use Rattle.time_wire.specs.Layouts.{is_timestamp, timestamp}
use Rattle.time_wire.specs.Timestamps.{is_tdf, is_tdf_of, is_stamp}

tdf_passes : (t : ℤ) → IsTdf t → is_tdf t ≡ true
tdf_passes t h = rw (passed (int_le (neg_ℤ MAX_TDF) t) h.0.le, passed (int_le t MAX_TDF) h.1.le) refl

tdf_is : (t : ℤ) → is_tdf t ≡ true → IsTdf t
tdf_is t e =
    let parts = both (int_le (neg_ℤ MAX_TDF) t) (int_le t MAX_TDF) e in
    (record { le = passes _ parts.0 }, record { le = passes _ parts.1 })

-- a kind may have what its version may
kind_passes : (k : Kind) (t : ℤ) → IsTdfOf k t → is_tdf_of (version_of k) t ≡ true
kind_passes Absolute t h = rw (tdf_passes t h) refl
kind_passes Relative t h = rw h refl

-- what passes is a version with what it may have
version_is : (version : ℕ) (t : ℤ) → is_tdf_of version t ≡ true → IsVersion version × IsTdfOfVersion version t
version_is version t e = elim (either ((version == 1) && is_tdf t) ((version == 2) && int_eq t (pos 0)) e) [
  | inl first ↦
      let parts = both (version == 1) (is_tdf t) first in
      let one : version ≡ 1 = (Decides-eqb version 1).0 parts.0 in
      (inl one, (tdf_is t parts.1, λ two. absurd (omega (arith, one, two))))
  | inr second ↦
      let parts = both (version == 2) (int_eq t (pos 0)) second in
      let two : version ≡ 2 = (Decides-eqb version 2).0 parts.0 in
      let none : t ≡ pos 0 = (Decides-int_eq t (pos 0)).0 parts.1 in
      (inr two, (rw none (omega (arith, ints), omega (arith, ints)), λ _. none))
]

-- the octets of a timestamp are right
pub stamp_is_right : (s : Stamp) → IsInRange s → is_stamp (octets_of s) ≡ true
stamp_is_right s h = rw (octets_version s h, octets_tdf s h) (kind_passes s.kind s.tdf h.tdf_fits)

-- octets that are refused are not
not_refused : (os : List ℕ) (fault : BytesFault) → RefusesOctets os fault → ¬ (is_stamp os ≡ true)
not_refused os (Version found) h e = h.1 (subst IsVersion (sym h.0) (version_is (version_in os) (tdf_in os) e).0)
not_refused os (Tdf found) h e = h.2 (rw h.0 (version_is (version_in os) (tdf_in os) e).1)

pub refused_is_wrong : (os : List ℕ) (fault : BytesFault) → RefusesOctets os fault → is_stamp os ≡ false
refused_is_wrong os fault h = fails (is_stamp os) (not_refused os fault h)

-- the field of a timestamp, from its octets
timestamp_of : Cursor → Result (List ℕ × Cursor) Refused → Result (Value × Cursor) Refused
timestamp_of c read =
    after (after {B = Value × Cursor} read (λ r. Ok (some_octets r.0, r.1))) (λ r. checked (is_timestamp r.0) field.UtcOctets c.at r)

checks : Cursor → Cursor → List ℕ → Bool → Result (Value × Cursor) Refused
checks c c' os right = checked right field.UtcOctets c.at (some_octets os, c')

pub timestamp_read : (c c' : Cursor) (os : List ℕ) (s : Stamp) → read_octets field.UtcOctets UTC_SIZE c ≡ Ok (os, c') → IsInRange s
    → octets_of s ≡ os → read_entry timestamp c ≡ Ok (some_octets (octets_of s), c')
unfolding timestamp_of checks
timestamp_read c c' os s read range same =
    let right : is_stamp os ≡ true = ap is_stamp (sym same) ∙ stamp_is_right s range in
    let given : List ℕ → Result (Value × Cursor) Refused = λ o. Ok (some_octets o, c') in
    ap (timestamp_of c) read ∙ ap (checks c c' os) right ∙ ap given (sym same)

pub timestamp_wrong : (c c' : Cursor) (os : List ℕ) (fault : BytesFault) (place : ℕ)
    → read_octets field.UtcOctets UTC_SIZE c ≡ Ok (os, c') → RefusesOctets os fault → c.at ≡ place → place < 2 ^ 32
    → read_entry timestamp c ≡ Err (record { field = field.UtcOctets; offset = place; cause = cause.Value })
unfolding timestamp_of checks
timestamp_wrong c c' os fault place read refused at small =
    let offset : min c.at (2 ^ 32 - 1) ≡ place = omega (arith, at) in
    let told : ℕ → Result (Value × Cursor) Refused = λ o. Err (record { field = field.UtcOctets; offset = o; cause = cause.Value }) in
    ap (timestamp_of c) read ∙ ap (checks c c' os) (refused_is_wrong os fault refused) ∙ ap told offset
