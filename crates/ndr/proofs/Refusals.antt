-- The first field of a list that is refused.
use Rattle.std.proofs.Common.{◌≡◌, List, [], ◌∷◌, Result, Ok, Err, refl, ap, ◌∙◌}
use Rattle.dts_base.specs.declared.wire.Refused.{Refused}
use Rattle.ndr.specs.Reading.{Cursor, after}
use Rattle.ndr.specs.Stubs.{Entry, Value, IsFirstWrong, read_entry, read_entries}

-- fields behind one that was read
behind : (entry : Entry) (entries : List Entry) (c : Cursor) (r : Value × Cursor) (refused : Refused) → read_entry entry c ≡ Ok r → IsFirstWrong entries r.1 refused → IsFirstWrong (entry ∷ entries) c refused
behind entry entries c r refused read w = record {
  before = entry ∷ w.before;
  entry = w.entry;
  behind = w.behind;
  cut = ap (λ es. entry ∷ es) w.cut;
  values = r.0 ∷ w.values;
  at = w.at;
  read = rw (read, w.read) refl;
  wrong = w.wrong;
}

-- a value in front of those behind it
with_first : Value → List Value × Cursor → Result (List Value × Cursor) Refused
with_first value rest = Ok (value ∷ rest.0, rest.1)

-- where the whole is refused behind a value that was read, so is the rest
rest_refused : (rest : Result (List Value × Cursor) Refused) (value : Value) (refused : Refused) → after rest (with_first value) ≡ Err refused → rest ≡ Err refused
unfolding with_first
rest_refused (Ok r) value refused h = cc
rest_refused (Err e) value refused h = h

-- the outcome of the first field, and of those behind it
step : (entry : Entry) (entries : List Entry) (c : Cursor) (refused : Refused) (first : Result (Value × Cursor) Refused) → read_entry entry c ≡ first → after first (λ r. after (read_entries entries r.1) (with_first r.0)) ≡ Err refused → ((c' : Cursor) → read_entries entries c' ≡ Err refused → IsFirstWrong entries c' refused) → IsFirstWrong (entry ∷ entries) c refused
unfolding with_first
step entry entries c refused (Err e) is h ih = record {
  before = [];
  entry = entry;
  behind = entries;
  cut = refl;
  values = [];
  at = c;
  read = refl;
  wrong = let same : e ≡ refused = cc in is ∙ ap Err same;
}
step entry entries c refused (Ok r) is h ih = behind entry entries c r refused is (ih r.1 (rest_refused (read_entries entries r.1) r.0 refused h))

pub first_wrong : (entries : List Entry) (c : Cursor) (refused : Refused) → read_entries entries c ≡ Err refused → IsFirstWrong entries c refused
unfolding with_first
first_wrong [] c refused h = cc
first_wrong (entry ∷ entries) c refused h = step entry entries c refused (read_entry entry c) refl h (λ c' e. first_wrong entries c' refused e)
