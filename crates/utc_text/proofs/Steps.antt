-- What a step of a reader that succeeded says of the step before it.
use Rattle.std.proofs.Common.{◌≡◌, ℕ, Bool, true, false, cond, List, Option, Some, None, Result, Ok, Err, refl, ap}
use Rattle.utc_text.specs.declared.fault.TextField.{TextField}
use Rattle.utc_text.specs.declared.fault.TextFault.{TextFault}
use Rattle.utc_text.specs.Fields.{behind, two_digits, part_at, year_at, digits_at, fraction_at, tdf_hour_at, seconds_at, stated_at, inaccuracy_at, days_at}
use Rattle.utc_text.specs.Reading.{Clock, Moment, Length, right_at, date_of, clock_of, tdf_minute_of, tdf_of, end_of, moment_of, sign_at, fits_time, time_of, length_of, civil_of}
use Rattle.utc_text.specs.Fields as fields
use Rattle.utc_text.specs.Reading as reading

-- a guarded value that is there passed its test
pub guard_some : {A : Type 0} (b : Bool) (x y : A) → cond b (Some x) None ≡ Some y → (b ≡ true) × (x ≡ y)
guard_some true x y e = (refl, cc)
guard_some false x y e = absurd cc

-- a value made of another: the other was there
pub bind_some : {A B : Type 0} (o : Option A) (f : A → Option B) (y : B) → fields.◌>>=◌ o f ≡ Some y
    → (x : A) × (o ≡ Some x) × (f x ≡ Some y)
bind_some None f y e = absurd cc
bind_some (Some x) f y e = (x, refl, e)

-- values as results, options and pairs, so that their parts can be compared
abbrev pub done : {A : Type 0} → A → Result A TextFault
done x = Ok x

abbrev pub there : {A : Type 0} → A → Option A
there x = Some x

abbrev pub both_in : {A B : Type 0} → A → B → Option (A × B)
both_in x r = Some (x, r)

-- equal results have equal values
pub ok_is : {A : Type 0} (x y : A) → done x ≡ done y → x ≡ y
ok_is x y e = cc

-- so have equal options
pub some_is : {A : Type 0} (x y : A) → there x ≡ there y → x ≡ y
some_is x y e = cc

-- and equal pairs equal parts
pub some_first : {A B : Type 0} (x y : A) (r s : B) → both_in x r ≡ both_in y s → x ≡ y
some_first {A} {B} x y r s e = ap (λ (p : A × B). p.0) (some_is (x, r) (y, s) e)

pub some_second : {A B : Type 0} (x y : A) (r s : B) → both_in x r ≡ both_in y s → r ≡ s
some_second {A} {B} x y r s e = ap (λ (p : A × B). p.1) (some_is (x, r) (y, s) e)

-- a field that is right was read
pub right_ok : {A : Type 0} (text : List ℕ) (field : TextField) (left : List ℕ) (o : Option A) (x : A)
    → right_at text field left o ≡ Ok x → o ≡ Some x
unfolding right_at
right_ok text field left None x e = absurd cc
right_ok {A} text field left (Some y) x e = ap (λ (z : A). Some z) (ok_is y x e)

-- a result made of another: the other succeeded
pub bind_ok : {A B : Type 0} (r : Result A TextFault) (f : A → Result B TextFault) (y : B) → reading.◌>>=◌ r f ≡ Ok y
    → (x : A) × (r ≡ Ok x) × (f x ≡ Ok y)
bind_ok (Ok x) f y e = (x, refl, e)
bind_ok (Err d) f y e = absurd cc
