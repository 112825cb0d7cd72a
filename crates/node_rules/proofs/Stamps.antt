-- The timestamp that is read of octets is the one that they spell.
use Rattle.std.proofs.Common.{◌≡◌, ◌-◌, ◌^◌, ℕ, List, Some, None, refl, sym, ◌∙◌, ap, le-leb}
use Rattle.std.proofs.lemmas.Int.{to_z-of_z}
use Rattle.std.specs.Prelude.{Option, unwrap_or, nat_le, if◌then◌else◌}
use Rattle.std.specs.Int.{w64, cast_signed}
use Rattle.byteorder.specs.Endian.{little_number}
use Rattle.utc_value.specs.declared.TheConstants.{MAX_INACCURACY}
use Rattle.utc_value.specs.declared.Kind.{Kind}
use Rattle.utc_value.specs.declared.Kind.TheVariants.{Absolute, Relative}
use Rattle.utc_value.specs.Stamp.{IsInaccuracy}
use Rattle.utc_value.specs.Octets.{octets_of, version_of, version_in}
use Rattle.utc_value.proofs.OctetLemmas.{gives_parts}
use Rattle.utc_value.proofs.OctetLaws.{octets_version, octets_tdf}
use Rattle.node_rules.specs.Laws.{ReadsStamps}
use Rattle.node_rules.specs.Using.{kind_in, inaccuracy_in}

inaccuracy_is_read : (a : Option ℕ) → IsInaccuracy a
    → (if nat_le (unwrap_or a (2 ^ 48 - 1)) MAX_INACCURACY then Some (unwrap_or a (2 ^ 48 - 1)) else None) ≡ a
inaccuracy_is_read None fits = refl
inaccuracy_is_read (Some i) fits = rw (le-leb i MAX_INACCURACY fits) refl

kind_is_read : (k : Kind) (octets : List ℕ) → version_in octets ≡ version_of k → kind_in octets ≡ k
kind_is_read Absolute octets e = rw e refl
kind_is_read Relative octets e = rw e refl

pub stamp_is_read : ReadsStamps
stamp_is_read s h = let gives = gives_parts s (octets_of s) h refl in
    let times : cast_signed w64 (little_number 8 (octets_of s)) ≡ s.time =
    ap (λ n. cast_signed w64 n) (sym gives.time) ∙ to_z-of_z w64 s.time h.time_fits in
    let inaccuracies : inaccuracy_in (octets_of s) ≡ s.inaccuracy =
    ap (λ n. if nat_le n MAX_INACCURACY then Some n else None) (sym gives.inaccuracy) ∙ inaccuracy_is_read s.inaccuracy h.inaccuracy_fits in
    rw (times, inaccuracies, octets_tdf s h, kind_is_read s.kind (octets_of s) (octets_version s h)) refl
