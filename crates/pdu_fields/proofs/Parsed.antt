-- What one step of reading says of a table.
use Rattle.std.proofs.Common.{◌≡◌, ℕ, ◌+◌, ◌<◌, ◌≤◌, Bool, true, false, List, [], length, take, drop, Result, Ok, Err, refl, sym, ap, ◌∙◌, subst, arith}
use Rattle.std.specs.Prelude.{nat_lt, slice_index, is_some, Option, Some, None}
use Rattle.std.specs.Option.{unwrap_or, ok_or}
use Rattle.std.proofs.Math.Seq.{take-length, drop-length}
use Rattle.std.proofs.lemmas.Bool.Decides.{nat_tests}
use Rattle.dts_base.specs.declared.wire.Field.{Field}
use Rattle.dts_base.specs.declared.wire.WireCause.TheVariants as cause
use Rattle.ndr.specs.Numbers.{gap}
use Rattle.ndr.specs.declared.fault.DecodeFault.{DecodeFault}
use Rattle.ndr.specs.declared.fault.DecodeFault.TheVariants as fault
use Rattle.pdu_fields.specs.declared.pdu.Pdu.{Pdu}
use Rattle.pdu_fields.specs.Tables.{Table, Ends, Kept, Passed, Padded, Rest, Shape, octet, size_of, value_of, value_in, reading}
use Rattle.pdu_fields.specs.Headers.{any, between, coded}
use Rattle.pdu_fields.specs.Parsing.{Place, behind, refused_here, Parses, Reading, Finds}

-- tables that are read alike here and there give the same
pub same_reading : (a b : Table) (old new : Place) (r : Result Pdu DecodeFault) → reading a old.at old.left ≡ reading b new.at new.left → Parses b new r → Parses a old r
unfolding Parses
same_reading a b old new (Ok v) same parses = same ∙ parses
same_reading a b old new (Err (fault.Wrong refused)) same parses = same ∙ parses
same_reading a b old new (Err fault.NoMemory) same parses = tt

enough : (size : ℕ) (left : List ℕ) → size ≤ length left → nat_lt (length left) size ≡ false
enough size left h = grind (arith, nat_tests)

missing : (size : ℕ) (left : List ℕ) → length left < size → nat_lt (length left) size ≡ true
missing size left h = grind (arith, nat_tests)

-- a field that is whole and right
pub kept_reading : (name : Field) (shape : Shape) (right : value_of shape → Bool) (more : value_of shape → Table) (at : ℕ) (left : List ℕ) (v : value_of shape) → size_of shape ≤ length left → v ≡ value_in shape left → right v ≡ true → reading (Kept name shape right more) at left ≡ reading (more v) (at + size_of shape) (drop (size_of shape) left)
unfolding reading
kept_reading name shape right more at left v whole is fits =
    let test = enough (size_of shape) left whole in
    let accepted : right (value_in shape left) ≡ true = ap right (sym is) ∙ fits in
    let next = λ (x : value_of shape). reading (more x) (at + size_of shape) (drop (size_of shape) left) in
    rw (test, accepted) (ap next (sym is))

pub kept : (name : Field) (shape : Shape) (right : value_of shape → Bool) (more : value_of shape → Table) (old new : Place) (v : value_of shape) (r : Result Pdu DecodeFault)
    → size_of shape ≤ length old.left → v ≡ value_in shape old.left → new ≡ behind (size_of shape) old → right v ≡ true → Parses (more v) new r → Parses (Kept name shape right more) old r
kept name shape right more old new v r whole is then fits parses =
    same_reading (Kept name shape right more) (more v) old new r (kept_reading name shape right more old.at old.left v whole is fits ∙ ap (λ (p : Place). reading (more v) p.at p.left) (sym then)) parses

-- a field that is whole and not right
pub not_right : (name : Field) (shape : Shape) (right : value_of shape → Bool) (more : value_of shape → Table) (old : Place) (v : value_of shape)
    → size_of shape ≤ length old.left → v ≡ value_in shape old.left → right v ≡ false → Parses (Kept name shape right more) old (Err (refused_here name old cause.Value))
unfolding Parses reading
not_right name shape right more old v whole is wrong =
    let test = enough (size_of shape) old.left whole in
    let refused : right (value_in shape old.left) ≡ false = ap right (sym is) ∙ wrong in
    rw (test, refused) refl

-- a field that is not whole
pub not_whole : (name : Field) (shape : Shape) (right : value_of shape → Bool) (more : value_of shape → Table) (old : Place) → length old.left < size_of shape → Parses (Kept name shape right more) old (Err (refused_here name old cause.Short))
unfolding Parses reading
not_whole name shape right more old short = rw (missing (size_of shape) old.left short) refl

-- octets that are passed over
pub passed : (name : Field) (size : ℕ) (more : Table) (old new : Place) (r : Result Pdu DecodeFault) → size ≤ length old.left → new ≡ behind size old → Parses more new r → Parses (Passed name size more) old r
unfolding reading
passed name size more old new r whole then parses =
    same_reading (Passed name size more) more old new r (rw (enough size old.left whole) (ap (λ (p : Place). reading more p.at p.left) (sym then))) parses

pub passed_short : (name : Field) (size : ℕ) (more : Table) (old : Place) → length old.left < size → Parses (Passed name size more) old (Err (refused_here name old cause.Short))
unfolding Parses reading
passed_short name size more old short = rw (missing size old.left short) refl

pub padded : (name : Field) (size count : ℕ) (more : Table) (old new : Place) (r : Result Pdu DecodeFault) → count ≡ gap size old.at → count ≤ length old.left → new ≡ behind count old → Parses more new r → Parses (Padded name size more) old r
unfolding reading
padded name size count more old new r is whole then parses =
    let place : new ≡ behind (gap size old.at) old = then ∙ ap (λ k. behind k old) is in
    same_reading (Padded name size more) more old new r (rw (enough (gap size old.at) old.left (subst (λ k. k ≤ length old.left) is whole)) (ap (λ (p : Place). reading more p.at p.left) (sym place))) parses

pub padded_short : (name : Field) (size count : ℕ) (more : Table) (old : Place) → count ≡ gap size old.at → length old.left < count → Parses (Padded name size more) old (Err (refused_here name old cause.Short))
unfolding Parses reading
padded_short name size count more old is short = rw (missing (gap size old.at) old.left (subst (λ k. length old.left < k) is short)) refl

-- a field whose every value is right
pub found_any : (name : Field) (shape : Shape) (old new : Place) (result : Result (value_of shape) DecodeFault) → Finds name shape old new result → Reading (Kept name shape any) old new result
found_any name shape old new (Ok v) found = λ more r parses. kept name shape any more old new v r found.0 found.1 found.2 refl parses
found_any name shape old new (Err f) found = λ more. found any more

-- an octet that stands for something
pub found_code : {A : Type 0} (name : Field) (meaning : ℕ → Option A) (other : A) (old new : Place) (n : ℕ) (o : Option A) (wrong : DecodeFault) (result : Result A DecodeFault)
    → 1 ≤ length old.left → n ≡ slice_index old.left 0 → new ≡ behind 1 old → o ≡ meaning n → wrong ≡ refused_here name old cause.Value → result ≡ ok_or o wrong → Reading (coded name meaning other) old new result
found_code name meaning other old new n (Some v) wrong result whole is then says told out =
    rw out (λ more r parses. kept name octet (λ k. is_some (meaning k)) (λ k. more (unwrap_or (meaning k) other)) old new n r whole is then (ap is_some (sym says)) (subst (λ (x : Option _). Parses (more (unwrap_or x other)) new r) says parses))
found_code name meaning other old new n None wrong result whole is then says told out =
    rw (out, told) (λ more. not_right name octet (λ k. is_some (meaning k)) (λ k. more (unwrap_or (meaning k) other)) old n whole is (ap is_some (sym says)))

-- all octets that are left
pub all_left : (name : Field) (count : ℕ) (more : List ℕ → Table) (old new : Place) (v : List ℕ) (r : Result Pdu DecodeFault)
    → count ≡ length old.left → v ≡ take count old.left → new ≡ behind count old → Parses (more v) new r → Parses (Rest name more) old r
unfolding reading
all_left name count more old new v r is value then parses =
    let whole : v ≡ old.left = value ∙ ap (λ k. take k old.left) is ∙ take-length old.left in
    let place : new ≡ record { at = old.at + length old.left; left = [] } = then ∙ ap (λ k. behind k old) is ∙ ap (λ (xs : List ℕ). record { at = old.at + length old.left; left = xs }) (drop-length old.left) in
    let next = λ (xs : List ℕ). reading (more xs) (old.at + length old.left) [] in
    same_reading (Rest name more) (more v) old new r (ap next (sym whole) ∙ ap (λ (p : Place). reading (more v) p.at p.left) (sym place)) parses

-- the end of a table
pub ended : (said : Pdu) (place : Place) → Parses (Ends said) place (Ok said)
unfolding Parses reading
ended said place = refl

-- nothing is said where memory was missing
pub no_memory : (table : Table) (place : Place) → Parses table place (Err fault.NoMemory)
unfolding Parses
no_memory table place = tt

-- tests of a range
pub is_between : (least most n : ℕ) → least ≤ n → n ≤ most → between least most n ≡ true
is_between least most n lo hi = grind (arith, nat_tests)

pub below_least : (least most n : ℕ) → n < least → between least most n ≡ false
below_least least most n lo = grind (arith, nat_tests)

pub above_most : (least most n : ℕ) → most < n → between least most n ≡ false
above_most least most n hi = grind (arith, nat_tests)
