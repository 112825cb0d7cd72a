-- Servers one by one, and the interval of a node's own clock.
use Rattle.std.proofs.Common.{◌≡◌, ◌<◌, false, length, append_assoc, SFits, ℕ, zero, suc, ◌+◌, Bool, true, List, [], ◌∷◌, ◌++◌, drop, Some, None, ℤ, pos, ◌≤ℤ◌, refl, sym, ap, ◌∙◌, arith}
use Rattle.std.specs.Prelude.{int_le, if◌then◌else◌}
use Rattle.std.specs.Int.{w64}
use Rattle.slew_clock.proofs.Fits.{fits_from}
use Rattle.std.specs.List.{slice_get}
use Rattle.std.proofs.lemmas.Int.{ints}
use Rattle.std.proofs.lemmas.List.{drop_more}
use Rattle.std.proofs.lemmas.Option.{slice_get_within, get_or_from_slice_get}
use Rattle.slew_clock.specs.declared.limits.TheConstants.{GREATEST_ANCHOR}
use Rattle.slew_clock.specs.declared.record.ClockRecord.{ClockRecord}
use Rattle.slew_clock.specs.Reading.{interval_of}
use Rattle.roster.specs.RosterData.{RosterData}
use Rattle.roster.specs.Rates.{rates_of}
use Rattle.roster.specs.Wrong.{positions_from}
use Rattle.roster.specs.declared.settings.Role.TheVariants as role
use Rattle.server_roles.specs.Own.{own_interval}

-- the positions from one on, which is the first of them where it passes
pub positions_at : {A : Type 0} (p : A → Bool) (xs : List A) (i : ℕ) (x : A) → slice_get xs i ≡ Some x
    → positions_from i p (drop i xs) ≡ (if p x then i ∷ positions_from (i + 1) p (drop (i + 1) xs) else positions_from (i + 1) p (drop (i + 1) xs))
positions_at p xs i x e =
    rw (drop_more xs i x (slice_get_within xs i x e), get_or_from_slice_get xs i x x e) refl

pub own_is : (r : RosterData) (rec : ClockRecord) (osc : ℕ) (lo hi lo' hi' : ℤ) → r.settings.role ≡ role.Server → interval_of (rates_of r.settings) rec osc ≡ Some (lo, hi)
    → int_le hi GREATEST_ANCHOR ≡ true → lo' ≡ lo → hi' ≡ hi → Some (lo', hi') ≡ own_interval r rec osc
own_is r rec osc lo hi lo' hi' server there fits e f = rw (server, there, fits, e, f) refl

-- one that passes is taken, and another passed over
pub taken : {A : Type 0} (p : A → Bool) (all ps : List ℕ) (xs : List A) (i : ℕ) (x : A) → all ≡ ps ++ positions_from i p (drop i xs) → slice_get xs i ≡ Some x → p x ≡ true
    → all ≡ (ps ++ i ∷ []) ++ positions_from (i + 1) p (drop (i + 1) xs)
taken p all ps xs i x e found passes =
    let step = positions_at p xs i x found in
    e ∙ ap (λ qs. ps ++ qs) (step ∙ rw passes refl) ∙ sym (append_assoc ps (i ∷ []) (positions_from (i + 1) p (drop (i + 1) xs)))

pub passed : {A : Type 0} (p : A → Bool) (all ps : List ℕ) (xs : List A) (i : ℕ) (x : A) → all ≡ ps ++ positions_from i p (drop i xs) → slice_get xs i ≡ Some x → p x ≡ false
    → all ≡ ps ++ positions_from (i + 1) p (drop (i + 1) xs)
passed p all ps xs i x e found fails = e ∙ ap (λ qs. ps ++ qs) (positions_at p xs i x found ∙ rw fails refl)

pub not_past : {A : Type 0} (xs : List A) (i : ℕ) → i < length xs → slice_get xs i ≡ None → ⊥
not_past [] i h e = omega arith
not_past (x ∷ xs) zero h e = cc
not_past (x ∷ xs) (suc i) h e = not_past xs i (omega arith) e

pub le_true : (a b : ℤ) → int_le a b ≡ true → a ≤ℤ b
le_true a b h = grind (arith, ints)

-- the ends that can be anchored to fit their type
pub ends_fit : (lo hi : ℤ) → pos 0 ≤ℤ lo → lo ≤ℤ hi → int_le hi GREATEST_ANCHOR ≡ true → SFits w64 lo × SFits w64 hi
ends_fit lo hi from ordered h =
    let to = le_true hi GREATEST_ANCHOR h in
    (fits_from lo from (omega (arith, ints, ordered, to)), fits_from hi (omega (arith, ints, from, ordered)) (omega (arith, ints, to)))
