-- Messages read back from their spelling, and what is spelled is right.
use Rattle.std.proofs.Common.{◌≡◌, ℕ, ◌+◌, ◌-◌, ◌<◌, ◌≤◌, ◌^◌, Bool, true, false, List, [], ◌∷◌, length, take, Result, Ok, Err, refl}
use Rattle.std.proofs.Common.{sym, ap, subst, ◌∙◌, arith, inl, inr}
use Rattle.std.specs.Prelude.{◌&&◌, ◌⊎◌, nat_le, min, slice_index, ◌==◌}
use Rattle.std.specs.Int.{next_multiple_of}
use Rattle.std.specs.List.{list_all}
use Rattle.std.proofs.lemmas.Bool.{le-leb, leb-true}
use Rattle.std.proofs.lemmas.Bool.Decides.{nat_tests}
use Rattle.std.proofs.lemmas.List.{length-take}
use Rattle.dts_base.specs.declared.wire.Field.{Field}
use Rattle.dts_base.specs.declared.wire.Field.TheVariants as field
use Rattle.dts_base.specs.declared.wire.Refused.{Refused}
use Rattle.ndr.specs.declared.endian.Endian.{Endian}
use Rattle.ndr.specs.declared.endian.TheConstants.{MAX_STRING}
use Rattle.ndr.specs.Numbers.{IsSize}
use Rattle.ndr.specs.Strings.{is_printed, is_text, is_terminated}
use Rattle.ndr.specs.Reading.{Cursor, read_number, read_octets, read_count, read_text, read_string, after, checked, finish}
use Rattle.ndr.specs.Stubs.{Entry, Shape, Value, number, octets, string, a_number, some_octets, place_of, read_shape, read_entry}
use Rattle.ndr.specs.Stubs.{read_entries, read_stub, IsFirstWrong}
use Rattle.ndr.proofs.ReadBack.{reads_stub}
use Rattle.ndr.proofs.Refusals.{first_wrong}
use Rattle.utc_value.specs.Stamp.{Stamp, IsInRange}
use Rattle.utc_value.specs.Octets.{octets_of}
use Rattle.utc_value.proofs.OctetLaws.{same_octets}
use Rattle.time_wire.specs.declared.TheConstants.{WIRE_VERSION, MAX_ROLE, MAX_COURIER}
use Rattle.time_wire.specs.declared.message.GetTime.{GetTime}
use Rattle.time_wire.specs.declared.message.TimeReply.{TimeReply}
use Rattle.time_wire.specs.declared.message.InfoReply.{InfoReply}
use Rattle.time_wire.specs.declared.message.CommandReply.{CommandReply}
use Rattle.time_wire.specs.Layouts.{get_time, time_reply, info_reply, command, command_reply, is_between}
use Rattle.time_wire.specs.Spelling.{Spells, spelling}
use Rattle.time_wire.proofs.Booleans.{both}
use Rattle.time_wire.proofs.Pieces.{length-octets_of}
use Rattle.time_wire.proofs.Timestamps.{stamp_is_right}

size_one : IsSize 1
size_one = grind arith

size_four : IsSize 4
size_four = grind arith

size_eight : IsSize 8
size_eight = grind arith

in_bounds : (least most n : ℕ) → least ≤ n → n ≤ most → is_between least most (a_number n) ≡ true
in_bounds least most n lo hi = grind (arith, nat_tests)

pub get_time_reads : (e : Endian) (m : GetTime) → m.epoch < 2 ^ 8 → Spells get_time e (spelling get_time e m) m
get_time_reads e m epoch = reads_stub e get_time.fields (get_time.values m) ((size_one, omega arith), refl, tt)

pub time_reply_reads : (e : Endian) (m : TimeReply) → m.version ≡ WIRE_VERSION → m.epoch < 2 ^ 8 → IsInRange m.utc → m.status < 2 ^ 32
    → Spells time_reply e (spelling time_reply e m) m
time_reply_reads e m version epoch utc status =
    reads_stub e time_reply.fields (time_reply.values m) (
      (size_one, omega arith),
      in_bounds 1 1 m.version (omega arith) (omega arith),
      (
        (size_one, omega arith),
        refl,
        (
          length-octets_of m.utc,
          stamp_is_right m.utc utc,
          ((size_four, omega arith), refl, tt),
        ),
      ),
    )

pub info_reply_reads : (e : Endian) (m : InfoReply) → m.role ≤ MAX_ROLE → m.courier ≤ MAX_COURIER → m.epoch < 2 ^ 8 → m.number < 2 ^ 64
    → m.step < 2 ^ 64 → is_text m.name ≡ true → Spells info_reply e (spelling info_reply e m) m
info_reply_reads e m role courier epoch records steps name =
    reads_stub e info_reply.fields (info_reply.values m) (
      (size_one, omega arith),
      refl,
      (
        (size_one, omega arith),
        in_bounds 0 1 m.role (omega arith) role,
        (
          (size_one, omega arith),
          in_bounds 0 1 m.courier (omega arith) courier,
          (
            (size_one, omega arith),
            refl,
            (
              (size_eight, omega arith),
              refl,
              (
                (size_eight, omega arith),
                refl,
                (name, refl, tt),
              ),
            ),
          ),
        ),
      ),
    )

pub command_reads : (e : Endian) (text : List ℕ) → is_text text ≡ true → Spells command e (spelling command e text) text
command_reads e text right = reads_stub e command.fields (command.values text) (right, refl, tt)

pub command_reply_reads : (e : Endian) (m : CommandReply) → is_text m.text ≡ true → m.status < 2 ^ 32
    → Spells command_reply e (spelling command_reply e m) m
command_reply_reads e m right status =
    reads_stub e command_reply.fields (command_reply.values m) (right, refl, ((size_four, omega arith), refl, tt))

-- what follows a value was answered of one
after_ok : {A B : Type 0} (r : Result A Refused) (next : A → Result B Refused) (y : B) → after r next ≡ Ok y
    → (x : A) × (r ≡ Ok x) × (next x ≡ Ok y)
after_ok (Ok x) next y h = (x, refl, h)
after_ok (Err refused) next y h = absurd (cc)

-- what was checked is right, and as it was
checked_ok : {A : Type 0} (right : Bool) (f : Field) (place : ℕ) (x y : A) → checked right f place x ≡ Ok y → (right ≡ true) × (x ≡ y)
checked_ok true f place x y h = (refl, cc)
checked_ok false f place x y h = absurd (cc)

-- a count is at most the greatest
count_most : (f : Field) (least most : ℕ) (c : Cursor) (r : ℕ × Cursor) → read_count f least most c ≡ Ok r → r.0 ≤ most
count_most f least most c r h =
    let found = after_ok (read_number f 4 c) (λ v. checked (nat_le least v.0 && nat_le v.0 most) f (next_multiple_of c.at 4) v) r h in
    let kept = checked_ok (nat_le least found.0.0 && nat_le found.0.0 most) f (next_multiple_of c.at 4) found.0 r found.2 in
    let below : found.0.0 ≤ most = leb-true found.0.0 most (both (nat_le least found.0.0) (nat_le found.0.0 most) kept.0).1 in
    omega (arith, below, ap (λ v. v.0) kept.1)

-- the octets that were read as a string can be one
text_read : (count : ℕ) (c : Cursor) (r : List ℕ × Cursor) → read_text count c ≡ Ok r
    → (length r.0 ≤ count - 1) × (list_all is_printed r.0 ≡ true)
text_read count c r h =
    let found = after_ok (read_octets field.StringOctets count c) _ r h in
    let kept = checked_ok (is_terminated count found.0.0) field.StringOctets c.at (take (count - 1) found.0.0, found.0.1) r found.2 in
    let text = take (count - 1) found.0.0 in
    let same : text ≡ r.0 = ap (λ v. v.0) kept.1 in
    let printed : list_all is_printed text ≡ true = (both (slice_index found.0.0 (count - 1) == 0) (list_all is_printed text) kept.0).1 in
    rw (← same) (omega (arith, length-take (count - 1) found.0.0), printed)

text_fits : (text : List ℕ) → length text ≤ 1023 → list_all is_printed text ≡ true → is_text text ≡ true
text_fits text short printed = rw (le-leb (length text + 1) 1024 (omega (arith, short)), printed) refl

-- what was read as a string can be one
string_read : (c : Cursor) (r : List ℕ × Cursor) → read_string c ≡ Ok r → is_text r.0 ≡ true
string_read c r h =
    let most = after_ok (read_count field.MaxCount 1 (2 ^ 32 - 1) c) _ r h in
    let offset = after_ok (read_count field.StringOffset 0 0 most.0.1) _ r most.2 in
    let count = after_ok (read_count field.ActualCount 1 (min most.0.0 MAX_STRING) offset.0.1) _ r offset.2 in
    let few = count_most field.ActualCount 1 (min most.0.0 MAX_STRING) offset.0.1 count.0 count.1 in
    let text = text_read count.0.0 count.0.1 r count.2 in
    text_fits r.0 (omega (arith, few, text.0)) text.1

-- a text in a string can be one
FitsText : Shape → Value → Type 0
FitsText string (some_octets os) = is_text os ≡ true
FitsText string (a_number n) = Unit {0}
FitsText (number size) v = Unit {0}
FitsText (octets count) v = Unit {0}

-- each value is right
AllRight : List Entry → List Value → Type 0
AllRight [] values = Unit {0}
AllRight (entry ∷ entries) [] = Unit {0}
AllRight (entry ∷ entries) (value ∷ values) = FitsText entry.shape value × (entry.right value ≡ true) × AllRight entries values

given : Value × Cursor → Result (Value × Cursor) Refused
given r = Ok r

ok_is : (x y : Value × Cursor) → given x ≡ given y → x ≡ y
unfolding given
ok_is x y h = cc

shape_right : (f : Field) (shape : Shape) (c : Cursor) (r : Value × Cursor) → read_shape f shape c ≡ Ok r → FitsText shape r.0
unfolding FitsText given
shape_right f string c r h =
    let found = after_ok (read_string c) (λ v. Ok (some_octets v.0, v.1)) r h in
    let same : some_octets found.0.0 ≡ r.0 = ap (λ v. v.0) (ok_is (some_octets found.0.0, found.0.1) r found.2) in
    subst (λ v. FitsText string v) same (string_read c found.0 found.1)
shape_right f (number size) c r h = tt
shape_right f (octets count) c r h = tt

-- one field that was read
entry_right : (entry : Entry) (c : Cursor) (r : Value × Cursor) → read_entry entry c ≡ Ok r
    → FitsText entry.shape r.0 × (entry.right r.0 ≡ true)
entry_right entry c r h =
    let found = after_ok (read_shape entry.field entry.shape c) _ r h in
    let kept = checked_ok (entry.right found.0.0) entry.field (place_of entry.shape c.at) found.0 r found.2 in
    rw (← kept.1) (shape_right entry.field entry.shape c found.0 found.1, kept.0)

list_given : List Value × Cursor → Result (List Value × Cursor) Refused
list_given r = Ok r

list_is : (x y : List Value × Cursor) → list_given x ≡ list_given y → x ≡ y
unfolding list_given
list_is x y h = cc

values_given : List Value → Result (List Value) Refused
values_given r = Ok r

values_are : (x y : List Value) → values_given x ≡ values_given y → x ≡ y
unfolding values_given
values_are x y h = cc

-- all fields that were read
entries_right : (entries : List Entry) (c : Cursor) (r : List Value × Cursor) → read_entries entries c ≡ Ok r → AllRight entries r.0
unfolding AllRight list_given
entries_right [] c r h = tt
entries_right (entry ∷ entries) c r h =
    let first = after_ok (read_entry entry c) _ r h in
    let rest = after_ok {B = List Value × Cursor} (read_entries entries first.0.1) (λ vs. Ok (first.0.0 ∷ vs.0, vs.1)) r first.2 in
    let right = entry_right entry c first.0 first.1 in
    let others = entries_right entries first.0.1 rest.0 rest.1 in
    let same : first.0.0 ∷ rest.0.0 ≡ r.0 = ap (λ v. v.0) (list_is (first.0.0 ∷ rest.0.0, rest.0.1) r rest.2) in
    subst (λ vs. AllRight (entry ∷ entries) vs) same (right.0, right.1, others)

-- all fields of a stub
stub_right : (entries : List Entry) (e : Endian) (stub : List ℕ) (values : List Value) → read_stub entries e stub ≡ Ok values
    → AllRight entries values
unfolding values_given
stub_right entries e stub values h =
    let found = after_ok (read_entries entries (record { endian = e; stub = stub; at = 0 })) _ values h in
    let ended = after_ok (finish found.0.1) (λ _. Ok found.0.0) values found.2 in
    subst (AllRight entries) (values_are found.0.0 values ended.2) (entries_right entries _ found.0 found.1)

below : (most n : ℕ) → is_between 0 most (a_number n) ≡ true → n ≤ most
below most n h = leb-true n most (both (nat_le 0 n) (nat_le n most) h).1

exactly : (value n : ℕ) → is_between value value (a_number n) ≡ true → n ≡ value
exactly value n h =
    let parts = both (nat_le value n) (nat_le n value) h in
    omega (arith, leb-true value n parts.0, leb-true n value parts.1)

pub time_reply_right : (e : Endian) (b : List ℕ) (m : TimeReply) → Spells time_reply e b m → m.version ≡ WIRE_VERSION
unfolding AllRight FitsText
time_reply_right e b m h = exactly 1 m.version (stub_right time_reply.fields e b (time_reply.values m) h).1

pub info_reply_right : (e : Endian) (b : List ℕ) (m : InfoReply) → Spells info_reply e b m
    → (m.role ≤ MAX_ROLE) × (m.courier ≤ MAX_COURIER) × (is_text m.name ≡ true)
unfolding AllRight FitsText
info_reply_right e b m h =
    let right = stub_right info_reply.fields e b (info_reply.values m) h in
    (below 1 m.role right.2.1, below 1 m.courier right.2.2.1, right.2.2.2.2.2.2.0)

pub command_right : (e : Endian) (b : List ℕ) (text : List ℕ) → Spells command e b text → is_text text ≡ true
unfolding AllRight FitsText
command_right e b text h = (stub_right command.fields e b (command.values text) h).0

pub command_reply_right : (e : Endian) (b : List ℕ) (m : CommandReply) → Spells command_reply e b m → is_text m.text ≡ true
unfolding AllRight FitsText
command_reply_right e b m h = (stub_right command_reply.fields e b (command_reply.values m) h).0

-- octets of which the one fits the shape of a stub that has them
values_same : (fields : List Entry) (e : Endian) (b : List ℕ) (xs ys : List Value) → read_stub fields e b ≡ Ok xs
    → read_stub fields e b ≡ Ok ys → xs ≡ ys
unfolding values_given
values_same fields e b xs ys h k = values_are xs ys (sym h ∙ k)

pub one_time_reply : (e : Endian) (b : List ℕ) (m n : TimeReply) → IsInRange m.utc → IsInRange n.utc → Spells time_reply e b m
    → Spells time_reply e b n → m ≡ n
one_time_reply e b m n fm fn h k =
    let same = values_same time_reply.fields e b (time_reply.values m) (time_reply.values n) h k in
    let version : m.version ≡ n.version = cc in
    let epoch : m.epoch ≡ n.epoch = cc in
    let os : octets_of m.utc ≡ octets_of n.utc = cc in
    let status : m.status ≡ n.status = cc in
    let utc : m.utc ≡ n.utc = same_octets m.utc n.utc fm fn os in
    let by_version : ℕ → TimeReply = λ x. record m { version = x } in
    let by_epoch : ℕ → TimeReply = λ x. record n { utc = m.utc; epoch = x; status = m.status } in
    let by_utc : Stamp → TimeReply = λ x. record n { utc = x; status = m.status } in
    let by_status : ℕ → TimeReply = λ x. record n { status = x } in
    ap by_version version ∙ ap by_epoch epoch ∙ ap by_utc utc ∙ ap by_status status

by_end : (values : List Value) (r : Result (Unit {0}) Refused) (refused : Refused) → after r (λ _. Ok values) ≡ Err refused
    → r ≡ Err refused
by_end values (Ok done) refused h = absurd (cc)
by_end values (Err other) refused h =
    let same : other ≡ refused = cc in
    ap Err same

-- where a stub is refused that is read from a place
IsRefused : List Entry → Cursor → Refused → Type 0
IsRefused fields c refused =
    IsFirstWrong fields c refused
    ⊎ ((values : List Value) × (at : Cursor) × (read_entries fields c ≡ Ok (values, at)) × (finish at ≡ Err refused))

by_outcome : (fields : List Entry) (c : Cursor) (refused : Refused) (outcome : Result (List Value × Cursor) Refused)
    → read_entries fields c ≡ outcome → after outcome (λ r. after (finish r.1) (λ _. Ok r.0)) ≡ Err refused → IsRefused fields c refused
unfolding IsRefused
by_outcome fields c refused (Ok r) is h = inr (r.0, r.1, is, by_end r.0 (finish r.1) refused h)
by_outcome fields c refused (Err other) is h =
    let same : other ≡ refused = cc in
    inl (first_wrong fields c refused (is ∙ ap Err same))

-- where a stub is refused
pub refused_first : (fields : List Entry) (e : Endian) (b : List ℕ) (refused : Refused) → read_stub fields e b ≡ Err refused
    → IsFirstWrong fields (record { endian = e; stub = b; at = 0 }) refused
    ⊎ ((values : List Value) × (at : Cursor) × (read_entries fields (record { endian = e; stub = b; at = 0 }) ≡ Ok (values, at))
    × (finish at ≡ Err refused))
unfolding IsRefused
refused_first fields e b refused h =
    let start : Cursor = record { endian = e; stub = b; at = 0 } in
    by_outcome fields start refused (read_entries fields start) refl h
