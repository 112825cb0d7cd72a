-- A stub that is read field by field: what its fields give one behind the other.
use Rattle.std.proofs.Common.{◌≡◌, ℕ, List, [], ◌∷◌, drop, Result, Ok, Err, refl, sym, ap, ◌∙◌, true}
use Rattle.dts_base.specs.declared.wire.Field.{Field}
use Rattle.dts_base.specs.declared.wire.Refused.{Refused}
use Rattle.ndr.specs.declared.endian.Endian.{Endian}
use Rattle.ndr.specs.Reading.{Cursor, read_number, read_string, after, checked, finish}
use Rattle.ndr.specs.Stubs.{Entry, Shape, Value, number, string, a_number, some_octets, read_entry, read_entries, read_stub, place_of}
use Rattle.time_wire.specs.declared.TheConstants.{WIRE_VERSION}
use Rattle.time_wire.specs.Layouts.{any, wire_version}

-- what a stub gives, and the outcome of a field
abbrev pub Whole : Type 0
Whole = Result (List Value) Refused

abbrev One : Type 0
One = Result (Value × Cursor) Refused

abbrev Several : Type 0
Several = Result (List Value × Cursor) Refused

-- what several fields give at the end of the stub
ended : Several → Whole
ended read = after read (λ r. after (finish r.1) (λ _. Ok r.0))

-- a value in front of those of the other fields
joined : Value → Several → Several
joined value others = after others (λ r. Ok (value ∷ r.0, r.1))

-- what the fields give that stand from a place on, up to the end of the stub
pub record Gives (entries : List Entry) (c : Cursor) (whole : Whole) : Type 0 where
  pub is : after (read_entries entries c) (λ r. after (finish r.1) (λ _. Ok r.0)) ≡ whole

-- a value in front of what the others give
in_front : Value → Whole → Whole
in_front value whole = after whole (λ values. Ok (value ∷ values))

-- a field, and then the others
followed : List Entry → One → Whole
followed entries first = ended (after first (λ r. joined r.0 (read_entries entries r.1)))

by_end : (value : Value) (values : List Value) (end : Result (Unit {0}) Refused)
    → after end (λ _. Ok (value ∷ values)) ≡ in_front value (after end (λ _. Ok values))
unfolding in_front
by_end value values (Ok done) = refl
by_end value values (Err refused) = refl

by_others : (value : Value) (others : Several) → ended (joined value others) ≡ in_front value (ended others)
unfolding ended joined in_front
by_others value (Ok r) = by_end value r.0 (finish r.1)
by_others value (Err refused) = refl

-- a field was read: its value stands in front of what the others give
first_read : (entry : Entry) (entries : List Entry) (c c' : Cursor) (value : Value) (whole : Whole) → read_entry entry c ≡ Ok (value, c')
    → Gives entries c' whole → Gives (entry ∷ entries) c (in_front value whole)
unfolding followed ended joined
first_read entry entries c c' value whole read given =
    record { is = ap (followed entries) read ∙ by_others value (read_entries entries c') ∙ ap (in_front value) given.is }

-- a field was read, and all behind it are right
pub entry_read : {entry : Entry} {entries : List Entry} {c c' : Cursor} {value : Value} {values : List Value}
    → read_entry entry c ≡ Ok (value, c') → Gives entries c' (Ok values) → Gives (entry ∷ entries) c (Ok (value ∷ values))
unfolding in_front
entry_read {entry} {entries} {c} {c'} {value} {values} = first_read entry entries c c' value (Ok values)

-- or one behind it is refused
pub entry_passed : {entry : Entry} {entries : List Entry} {c c' : Cursor} {value : Value} {refused : Refused}
    → read_entry entry c ≡ Ok (value, c') → Gives entries c' (Err refused) → Gives (entry ∷ entries) c (Err refused)
unfolding in_front
entry_passed {entry} {entries} {c} {c'} {value} {refused} = first_read entry entries c c' value (Err refused)

-- a field is refused
pub entry_refused : {entry : Entry} {entries : List Entry} {c : Cursor} {refused : Refused} → read_entry entry c ≡ Err refused
    → Gives (entry ∷ entries) c (Err refused)
unfolding followed ended joined
entry_refused {entries = entries} read = record { is = ap (followed entries) read }

-- a version is the one that is written
pub version_read : {entries : List Entry} {c c' : Cursor} {version : ℕ} {values : List Value}
    → read_entry wire_version c ≡ Ok (a_number version, c') → version ≡ WIRE_VERSION → Gives entries c' (Ok values)
    → Gives (wire_version ∷ entries) c (Ok (a_number WIRE_VERSION ∷ values))
version_read {c' = c'} read is =
    let given : ℕ → One = λ n. Ok (a_number n, c') in
    entry_read (read ∙ ap given is)

-- a field that is right with every value, from a number or octets
right_with_all : Field → Shape → Cursor → One → One
right_with_all f shape c read = after read (λ v. checked true f (place_of shape c.at) v)

numbered : Field → ℕ → Cursor → Result (ℕ × Cursor) Refused → One
numbered f size c read = right_with_all f (number size) c (after read (λ v. Ok (a_number v.0, v.1)))

texted : Field → Cursor → Result (List ℕ × Cursor) Refused → One
texted f c read = right_with_all f string c (after read (λ v. Ok (some_octets v.0, v.1)))

-- a number
pub number_read : {f : Field} {size : ℕ} {entries : List Entry} {c c' : Cursor} {n : ℕ} {values : List Value}
    → read_number f size c ≡ Ok (n, c') → Gives entries c' (Ok values) → Gives (any f (number size) ∷ entries) c (Ok (a_number n ∷ values))
unfolding right_with_all numbered
number_read {f = f} {size = size} {c = c} read = entry_read (ap (numbered f size c) read)

pub number_passed : {f : Field} {size : ℕ} {entries : List Entry} {c c' : Cursor} {n : ℕ} {refused : Refused}
    → read_number f size c ≡ Ok (n, c') → Gives entries c' (Err refused) → Gives (any f (number size) ∷ entries) c (Err refused)
unfolding right_with_all numbered
number_passed {f = f} {size = size} {c = c} read = entry_passed (ap (numbered f size c) read)

pub number_refused : {f : Field} {size : ℕ} {entries : List Entry} {c : Cursor} {refused : Refused} → read_number f size c ≡ Err refused
    → Gives (any f (number size) ∷ entries) c (Err refused)
unfolding right_with_all numbered
number_refused {f = f} {size = size} {c = c} read = entry_refused (ap (numbered f size c) read)

-- a string
pub string_read : {f : Field} {entries : List Entry} {c c' : Cursor} {text : List ℕ} {values : List Value} → read_string c ≡ Ok (text, c')
    → Gives entries c' (Ok values) → Gives (any f string ∷ entries) c (Ok (some_octets text ∷ values))
unfolding right_with_all texted
string_read {f = f} {c = c} read = entry_read (ap (texted f c) read)

pub string_passed : {f : Field} {entries : List Entry} {c c' : Cursor} {text : List ℕ} {refused : Refused} → read_string c ≡ Ok (text, c')
    → Gives entries c' (Err refused) → Gives (any f string ∷ entries) c (Err refused)
unfolding right_with_all texted
string_passed {f = f} {c = c} read = entry_passed (ap (texted f c) read)

pub string_refused : {f : Field} {entries : List Entry} {c : Cursor} {refused : Refused} → read_string c ≡ Err refused
    → Gives (any f string ∷ entries) c (Err refused)
unfolding right_with_all texted
string_refused {f = f} {c = c} read = entry_refused (ap (texted f c) read)

-- nothing is left, or an octet is
at_end : Result (Unit {0}) Refused → Whole
at_end end = after end (λ _. Ok [])

pub all_read : {c : Cursor} → Ok tt ≡ finish c → Gives [] c (Ok [])
unfolding at_end
all_read end = record { is = ap at_end (sym end) }

pub octet_left : {c : Cursor} {refused : Refused} → Err refused ≡ finish c → Gives [] c (Err refused)
unfolding at_end
octet_left end = record { is = ap at_end (sym end) }

-- so many fields of a stub were read up to a place: what is refused of the others is refused of the whole
abbrev pub Reached : List Entry → Endian → List ℕ → ℕ → Cursor → Type 0
Reached fields e stub done c = (refused : Refused) → Gives (drop done fields) c (Err refused) → read_stub fields e stub ≡ Err refused

-- what the fields of a stub give is what is read of it
pub stub_read : (fields : List Entry) {whole : Whole} {e : Endian} {stub : List ℕ} {c : Cursor}
    → c ≡ record { endian = e; stub = stub; at = 0 } → Gives fields c whole → read_stub fields e stub ≡ whole
unfolding ended
stub_read fields is given = ap (λ at. ended (read_entries fields at)) (sym is) ∙ given.is
