-- One step of walking octets by a table.
use Rattle.std.proofs.Common.{◌≡◌, ℕ, zero, suc, ◌+◌, Bool, List, [], ◌∷◌, ◌++◌, length, take, drop, refl, sym, ap, ◌∙◌, append_assoc, ◌-◌, ◌<◌, ◌≤◌, arith, Result, Ok, Err}
use Rattle.std.specs.Prelude.{OnOk}
use Rattle.std.proofs.lemmas.List.{append-nil}
use mathlib.Core.Path.{fun_ext}
use Rattle.std.proofs.Math.Seq.{take-length, drop-length}
use Rattle.dts_base.specs.declared.wire.Field.{Field}
use Rattle.dts_base.specs.Names.{field_name}
use Rattle.ndr.specs.Numbers.{gap}
use Rattle.pdu_fields.specs.declared.pdu.Pdu.{Pdu}
use Rattle.pdu_fields.specs.Tables.{Table, Ends, Kept, Passed, Padded, Rest, Shape, size_of, value_of, value_in, repeated}
use Rattle.wire_show.specs.Fields.{line_of, text_of, parts_by}
use Rattle.wire_show.specs.Walking.{Walk, behind, behind_fields, behind_times, ended, whole, Walks, WalkedSoFar}

pub kept : (name : Field) (shape : Shape) (right : value_of shape → Bool) (more : value_of shape → Table) (old : Walk)
    → whole (Kept name shape right more) old ≡ whole (more (value_in shape old.left)) (behind (field_name name) (size_of shape) old)
unfolding parts_by
kept name shape right more old =
    let octets = take (size_of shape) old.left in
    sym (append_assoc old.text (line_of (record { name = field_name name; at = old.at; octets = octets })) (text_of (parts_by (more (value_in shape old.left)) (old.at + length octets) (drop (size_of shape) old.left))))

pub passed : (name : Field) (size : ℕ) (more : Table) (old : Walk) → whole (Passed name size more) old ≡ whole more (behind (field_name name) size old)
unfolding parts_by
passed name size more old =
    let octets = take size old.left in
    sym (append_assoc old.text (line_of (record { name = field_name name; at = old.at; octets = octets })) (text_of (parts_by more (old.at + length octets) (drop size old.left))))

pub padded : (name : Field) (size : ℕ) (more : Table) (old : Walk) → whole (Padded name size more) old ≡ whole more (behind (field_name name) (gap size old.at) old)
unfolding parts_by
padded name size more old =
    let octets = take (gap size old.at) old.left in
    sym (append_assoc old.text (line_of (record { name = field_name name; at = old.at; octets = octets })) (text_of (parts_by more (old.at + length octets) (drop (gap size old.at) old.left))))

pub rest : (name : Field) (more : List ℕ → Table) (old : Walk) → whole (Rest name more) old ≡ whole (more old.left) (behind (field_name name) (length old.left) old)
unfolding parts_by
rest name more old =
    rw (take-length old.left, drop-length old.left)
    (sym (append_assoc old.text (line_of (record { name = field_name name; at = old.at; octets = old.left })) (text_of (parts_by (more old.left) (old.at + length old.left) []))))

pub ends : (said : Pdu) (old : Walk) → whole (Ends said) old ≡ ended old
unfolding parts_by
ends said old = refl

-- a part that stands so many times is walked by its lines, so many times
pub repeats : {A : Type 0} (part : (A → Table) → Table) (fields : List (Field × ℕ)) → ((w : Walk) → Walks part w (behind_fields fields w)) → (count : ℕ) (w : Walk) → Walks (repeated part count) w (behind_times count fields w)
repeats part fields each zero w = ([], λ more. refl)
repeats part fields each (suc count) w =
    let first = each w in
    let others = repeats part fields each count (behind_fields fields w) in
    (first.0 ∷ others.0, λ more. first.1 (λ one. repeated part count (λ rest. more (one ∷ rest))) ∙ others.1 (λ rest. more (first.0 ∷ rest)))

-- lines of fields, once more
pub times_more : (fields : List (Field × ℕ)) (count done : ℕ) (now new r : Walk) → done < count → new ≡ behind_fields fields now → behind_times (count - done) fields now ≡ r → behind_times (count - (done + 1)) fields new ≡ r
times_more fields count done now new r h is so =
    let e : count - done ≡ suc (count - (done + 1)) = omega arith in
    ap (behind_times (count - (done + 1)) fields) is ∙ ap (λ k. behind_times k fields now) (sym e) ∙ so

pub none_walked : {A : Type 0} (part : (A → Table) → Table) (count : ℕ) (w : Walk) → WalkedSoFar part count (count - 0) w w
none_walked part count w = let e : count ≡ count - 0 = omega arith in ([], λ more. ap (λ k. whole (repeated part k more) w) e)

pub one_walked : {A : Type 0} (part : (A → Table) → Table) (count done : ℕ) (start old new : Walk) → done < count → WalkedSoFar part count (count - done) start old → Walks part old new → WalkedSoFar part count (count - (done + 1)) start new
one_walked part count done start old new h so w =
    let left = count - (done + 1) in
    let e : count - done ≡ suc (count - (done + 1)) = omega arith in (
      so.0 ++ w.0 ∷ [],
      λ more.
          so.1 more ∙ ap (λ k. whole (repeated part k (λ others. more (so.0 ++ others))) old) e
          ∙ w.1 (λ one. repeated part left (λ others. more (so.0 ++ (one ∷ others))))
          ∙ ap (λ m. whole (repeated part left m) new) (fun_ext (λ others. ap more (sym (append_assoc so.0 (w.0 ∷ []) others)))),
    )

pub all_walked : {A : Type 0} (part : (A → Table) → Table) (count done : ℕ) (start now : Walk) → count ≤ done → WalkedSoFar part count (count - done) start now → Walks (repeated part count) start now
all_walked part count done start now h so =
    let none : count - done ≡ 0 = omega arith in
    (so.0, λ more. so.1 more ∙ ap (λ k. whole (repeated part k (λ others. more (so.0 ++ others))) now) none ∙ ap (λ xs. whole (more xs) now) (append-nil so.0))

-- what a success brings
pub on_ok : {T E : Type 0} (r : Result T E) (P Q : Type 0) → OnOk r P → (P → Q) → OnOk r Q
on_ok (Ok x) P Q h step = step h
on_ok (Err e) P Q h step = tt
