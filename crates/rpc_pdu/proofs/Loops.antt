-- Parts of a table that stand so many times.
use Rattle.std.proofs.Common.{◌≡◌, ℕ, ◌+◌, ◌-◌, ◌<◌, ◌≤◌, List, [], ◌∷◌, ◌++◌, suc, Result, Err, sym, ap, subst, append_assoc, arith}
use Rattle.std.proofs.lemmas.List.{append-nil}
use mathlib.Core.Path.{fun_ext}
use Rattle.ndr.specs.declared.fault.DecodeFault.{DecodeFault}
use Rattle.pdu_fields.specs.declared.pdu.Pdu.{Pdu}
use Rattle.pdu_fields.specs.Tables.{Table, repeated}
use Rattle.pdu_fields.specs.Parsing.{Place, Parses, ReadSoFar}

-- what follows those that were read
after : {A : Type 0} → List A → (List A → Table) → List A → Table
after front more others = more (front ++ others)

pub none_read : {A : Type 0} (part : (A → Table) → Table) (count : ℕ) (place : Place) → ReadSoFar part count 0 [] place place
none_read part count place more r parses = subst (λ k. Parses (repeated part k more) place r) (omega arith) parses

-- the table of those that are left, where at least one is
left_are : {A : Type 0} (part : (A → Table) → Table) (count done : ℕ) (front : List A) (more : List A → Table) → done < count → repeated part (count - done) (λ others. more (front ++ others)) ≡ part (λ first. repeated part (count - (done + 1)) (λ others. more (front ++ (first ∷ others))))
left_are part count done front more h =
    let e : count - done ≡ suc (count - (done + 1)) = omega arith in
    ap (λ k. repeated part k (λ others. more (front ++ others))) e

pub one_more : {A : Type 0} (part : (A → Table) → Table) (count done : ℕ) (front : List A) (v : A) (start old new : Place) → done < count → ReadSoFar part count done front start old
    → ((more : A → Table) (r : Result Pdu DecodeFault) → Parses (more v) new r → Parses (part more) old r) → ReadSoFar part count (done + 1) (front ++ v ∷ []) start new
one_more part count done front v start old new h before read more r parses =
    let regroup : (λ others. more ((front ++ v ∷ []) ++ others)) ≡ (λ others. more (front ++ (v ∷ others))) = fun_ext (λ others. ap more (append_assoc front (v ∷ []) others)) in
    let next = subst (λ m. Parses (repeated part (count - (done + 1)) m) new r) regroup parses in
    before more r (subst (λ t. Parses t old r) (sym (left_are part count done front more h)) (read (λ first. repeated part (count - (done + 1)) (λ others. more (front ++ (first ∷ others)))) r next))

pub one_wrong : {A : Type 0} (part : (A → Table) → Table) (count done : ℕ) (front : List A) (start old : Place) (f : DecodeFault) → done < count → ReadSoFar part count done front start old
    → ((more : A → Table) → Parses (part more) old (Err f)) → (more : List A → Table) → Parses (repeated part count more) start (Err f)
one_wrong part count done front start old f h before wrong more =
    before more (Err f) (subst (λ t. Parses t old (Err f)) (sym (left_are part count done front more h)) (wrong (λ first. repeated part (count - (done + 1)) (λ others. more (front ++ (first ∷ others))))))

pub all_read : {A : Type 0} (part : (A → Table) → Table) (count done : ℕ) (front : List A) (start now : Place) → count ≤ done → ReadSoFar part count done front start now
    → (more : List A → Table) (r : Result Pdu DecodeFault) → Parses (more front) now r → Parses (repeated part count more) start r
all_read part count done front start now h before more r parses =
    let none : count - done ≡ 0 = omega arith in
    let whole = subst (λ (xs : List _). Parses (more xs) now r) (sym (append-nil front)) parses in
    before more r (subst (λ k. Parses (repeated part k (λ others. more (front ++ others))) now r) (sym none) whole)
