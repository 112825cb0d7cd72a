-- Lists of values and tables beside the data that they stand for.
use Rattle.std.proofs.Common.{◌≡◌, ℕ, zero, suc, ◌+◌, add-one, get_or, take, arith, Bool, true, false, not, ◌||◌, ◌&&◌, List, [], ◌∷◌, ◌++◌, map, Option, Some, None, string_bytes, refl, ap, ◌∙◌}
use Rattle.roster.specs.declared.keys.Key.{Key}
use Rattle.roster.specs.Seen.{asked}
use Rattle.std.specs.Prelude.{find, bytes_eq, codes, nat_lt, ◌<◌, length}
use Rattle.std.specs.List.{list_any, list_all, AllByRecursion, AllZip}
use Rattle.std.specs.Map.{keys_of}
use Rattle.toml.specs.Data.{Data}
use Rattle.toml.specs.View.{view, items_view, members_view}
use Rattle.toml.specs.declared.value.Value.{Value}
use Rattle.toml.proofs.Views.{Entry}
use Rattle.roster.specs.Wrong.{Wrong, wrong, first, names, items_of, too_many, is_known}
use Rattle.roster.specs.declared.cause.RosterCause.TheVariants as cause
use Rattle.roster.specs.declared.first_wrong.Section.TheVariants as section
use Rattle.std.proofs.lemmas.Bool.{lt-ltb}
use Rattle.std.proofs.lemmas.List.{length-map}

pub any_map : {X Y : Type 0} (p : Y → Bool) (h : X → Y) (xs : List X) → list_any p (map h xs) ≡ list_any (λ x. p (h x)) xs
any_map p h [] = refl
any_map p h (x ∷ xs) = ap (λ b. p (h x) || b) (any_map p h xs)

pub all_map : {X Y : Type 0} (p : Y → Bool) (h : X → Y) (xs : List X) → list_all p (map h xs) ≡ list_all (λ x. p (h x)) xs
all_map p h [] = refl
all_map p h (x ∷ xs) = ap (λ b. p (h x) && b) (all_map p h xs)

pub names_view : (es : List Entry) → names (members_view es) ≡ map string_bytes (keys_of es)
names_view [] = refl
names_view (e ∷ es) = ap (λ ks. string_bytes e.0 ∷ ks) (names_view es)

pub items_view_is : (vs : List Value) → items_of (items_view vs) ≡ map view vs
items_view_is [] = refl
items_view_is (v ∷ vs) = ap (λ ds. view v ∷ ds) (items_view_is vs)

pub too_many_is : (vs : List Value) → 32 < length vs → too_many (map view vs) ≡ Some (wrong section.Top (codes "server") cause.TooMany)
too_many_is vs h = let long : nat_lt 32 (length (map view vs)) ≡ true = rw (length-map vs view) (lt-ltb 32 (length vs) h) in rw long refl

-- the first that there is, after nothing
pub first_none : (o : Option Wrong) (ws : List (Option Wrong)) → o ≡ None → first (o ∷ ws) ≡ first ws
first_none o ws e = rw e refl

pub first_some : (o : Option Wrong) (ws : List (Option Wrong)) (w : Wrong) → o ≡ Some w → first (o ∷ ws) ≡ Some w
first_some o ws w e = rw e refl

known_is : (keys : List Key) (name : List ℕ) → is_known (map asked keys) name ≡ list_any (λ key. bytes_eq key.name.now name) keys
known_is keys name = any_map (λ a. bytes_eq a.name name) asked keys

-- a key that is known is passed over
pub known_step : (keys : List Key) (name : List ℕ) (rest : List (List ℕ)) → list_any (λ key. bytes_eq key.name.now name) keys ≡ true
    → find (λ key. not (is_known (map asked keys) key)) (name ∷ rest) ≡ find (λ key. not (is_known (map asked keys) key)) rest
known_step keys name rest e = rw (known_is keys name ∙ e) refl

-- one that is not is found
pub unknown_step : (keys : List Key) (name : List ℕ) (rest : List (List ℕ)) → list_any (λ key. bytes_eq key.name.now name) keys ≡ false
    → find (λ key. not (is_known (map asked keys) key)) (name ∷ rest) ≡ Some name
unknown_step keys name rest e = rw (known_is keys name ∙ e) refl

-- what holds of each holds of one
pub each_at : (P : Data → Type 0) (vs : List Value) (i : ℕ) (d : Value) → AllByRecursion P (map view vs) → i < length vs → P (view (get_or vs i d))
each_at P [] i d all h = absurd (omega arith)
each_at P (v ∷ vs) zero d all h = all.0
each_at P (v ∷ vs) (suc i) d all h = each_at P vs i d all.1 (omega arith)

zip_suc : {B : Type 0} (R : Data → B → Type 0) (vs : List Value) (i : ℕ) (d : Value) (ys : List B) (y : B) → i < length vs
    → AllZip R (map view (take i vs)) ys → R (view (get_or vs i d)) y → AllZip R (map view (take (suc i) vs)) (ys ++ y ∷ [])
zip_suc R [] i d ys y h all one = absurd (omega arith)
zip_suc R (v ∷ vs) zero d [] y h all one = (one, tt)
zip_suc R (v ∷ vs) zero d (z ∷ zs) y h all one = absurd all
zip_suc R (v ∷ vs) (suc i) d [] y h all one = absurd all
zip_suc R (v ∷ vs) (suc i) d (z ∷ zs) y h all one = (all.0, zip_suc R vs i d zs y (omega arith) all.1 one)

-- one more entry, for one more value
pub zip_more : {B : Type 0} (R : Data → B → Type 0) (vs : List Value) (i : ℕ) (d : Value) (ys : List B) (y : B) → i < length vs
    → AllZip R (map view (take i vs)) ys → R (view (get_or vs i d)) y → AllZip R (map view (take (i + 1) vs)) (ys ++ y ∷ [])
zip_more R vs i d ys y h all one = rw (add-one i) (zip_suc R vs i d ys y h all one)
