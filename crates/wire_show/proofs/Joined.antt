-- The fields of octets hold these octets, each once, one behind the other.
use Rattle.std.proofs.Common.{◌≡◌, ◌⊎◌, inl, inr, ℕ, ◌+◌, List, [], ◌∷◌, ◌++◌, length, take, drop, Result, Ok, Err, refl, ap, ◌∙◌, subst}
use Rattle.std.proofs.lemmas.List.{append-nil}
use Rattle.std.proofs.lemmas.List.{take-append-drop}
use Rattle.std.specs.Prelude.{Bool, true, false, if◌then◌else◌, nat_lt}
use Rattle.dts_base.specs.declared.wire.Refused.{Refused}
use Rattle.ndr.specs.Numbers.{gap}
use Rattle.ndr.specs.Reading.{after}
use Rattle.pdu_fields.specs.Tables.{Table, Ends, Kept, Passed, Padded, Rest, size_of, value_in, reading}
use Rattle.ntp_packet.specs.Packets.{reading as packet}
use Rattle.pdu_fields.specs.Grammar.{table_of}
use Rattle.time_wire.specs.Timestamps.{is_stamp}
use Rattle.wire_show.specs.declared.end.Shown.{Shown}
use Rattle.wire_show.specs.declared.end.Shown.TheVariants.{Pdu, Ntp, Utc}
use Rattle.wire_show.specs.declared.utc.TheConstants.{UTC_SIZE}
use Rattle.wire_show.specs.Fields.{Part, tail_at, parts_by, Sized, parts_of}
use Rattle.wire_show.specs.Output.{ntp_fields, utc_fields, parts_as}
use Rattle.wire_show.specs.Laws.{joined, BeginAt}

joined_tail : (at : ℕ) (left : List ℕ) → joined (tail_at at left) ≡ left
joined_tail at [] = refl
joined_tail at (first ∷ others) = append-nil (first ∷ others)

begin_tail : (at : ℕ) (left : List ℕ) → BeginAt at (tail_at at left)
begin_tail at [] = tt
begin_tail at (first ∷ others) = (refl, tt)

-- the first octets and those behind them
split : (size : ℕ) (left others : List ℕ) → others ≡ drop size left → take size left ++ others ≡ left
split size left others e = ap (λ os. take size left ++ os) e ∙ take-append-drop size left

joined_by : (table : Table) (at : ℕ) (left : List ℕ) → joined (parts_by table at left) ≡ left
unfolding parts_by
joined_by (Ends said) at left = joined_tail at left
joined_by (Kept name shape right more) at left =
    let size = size_of shape in
    split size left _ (joined_by (more (value_in shape left)) (at + length (take size left)) (drop size left))
joined_by (Passed name size more) at left = split size left _ (joined_by more (at + length (take size left)) (drop size left))
joined_by (Padded name size more) at left = let count = gap size at in split count left _ (joined_by more (at + length (take count left)) (drop count left))
joined_by (Rest name more) at left = ap (λ os. left ++ os) (joined_by (more left) (at + length left) []) ∙ append-nil left

begin_by : (table : Table) (at : ℕ) (left : List ℕ) → BeginAt at (parts_by table at left)
unfolding parts_by
begin_by (Ends said) at left = begin_tail at left
begin_by (Kept name shape right more) at left = let size = size_of shape in (refl, begin_by (more (value_in shape left)) (at + length (take size left)) (drop size left))
begin_by (Passed name size more) at left = (refl, begin_by more (at + length (take size left)) (drop size left))
begin_by (Padded name size more) at left = let count = gap size at in (refl, begin_by more (at + length (take count left)) (drop count left))
begin_by (Rest name more) at left = (refl, begin_by (more left) (at + length left) [])

joined_of : (fields : List Sized) (at : ℕ) (left : List ℕ) → joined (parts_of fields at left) ≡ left
joined_of [] at left = joined_tail at left
joined_of (first ∷ others) at left = split first.size left _ (joined_of others (at + length (take first.size left)) (drop first.size left))

begin_of : (fields : List Sized) (at : ℕ) (left : List ℕ) → BeginAt at (parts_of fields at left)
begin_of [] at left = begin_tail at left
begin_of (first ∷ others) at left = (refl, begin_of others (at + length (take first.size left)) (drop first.size left))

-- what holds of the fields that octets would have holds of those that they have
after_ok : {A : Type 0} (r : Result A Refused) (due parts : List Part) → after r (λ said. Ok due) ≡ Ok parts → due ≡ parts
after_ok (Ok said) due parts e = cc
after_ok (Err refused) due parts e = absurd (cc)

if_ok : (short long right : Bool) (a b c : Refused) (due parts : List Part) → (if short then Err a else if long then Err b else if right then Ok due else Err c) ≡ Ok parts → due ≡ parts
if_ok true long right a b c due parts e = absurd (cc)
if_ok false true right a b c due parts e = absurd (cc)
if_ok false false true a b c due parts e = cc
if_ok false false false a b c due parts e = absurd (cc)

pub parts_joined : (kind : Shown) (octets : List ℕ) (parts : List Part) → parts_as kind octets ≡ Ok parts → joined parts ≡ octets
parts_joined Pdu octets parts e =
    subst (λ ps. joined ps ≡ octets) (after_ok (reading (table_of (length octets)) 0 octets) (parts_by (table_of (length octets)) 0 octets) parts e) (joined_by (table_of (length octets)) 0 octets)
parts_joined Ntp octets parts e =
    subst (λ ps. joined ps ≡ octets) (after_ok (packet octets) (parts_of ntp_fields 0 octets) parts e) (joined_of ntp_fields 0 octets)
parts_joined Utc octets parts e =
    subst (λ ps. joined ps ≡ octets) (if_ok (nat_lt (length octets) UTC_SIZE) (nat_lt UTC_SIZE (length octets)) (is_stamp octets) _ _ _ (parts_of utc_fields 0 octets) parts e) (joined_of utc_fields 0 octets)

pub parts_begin : (kind : Shown) (octets : List ℕ) (parts : List Part) → parts_as kind octets ≡ Ok parts → BeginAt 0 parts
parts_begin Pdu octets parts e =
    subst (λ ps. BeginAt 0 ps) (after_ok (reading (table_of (length octets)) 0 octets) (parts_by (table_of (length octets)) 0 octets) parts e) (begin_by (table_of (length octets)) 0 octets)
parts_begin Ntp octets parts e =
    subst (λ ps. BeginAt 0 ps) (after_ok (packet octets) (parts_of ntp_fields 0 octets) parts e) (begin_of ntp_fields 0 octets)
parts_begin Utc octets parts e =
    subst (λ ps. BeginAt 0 ps) (if_ok (nat_lt (length octets) UTC_SIZE) (nat_lt UTC_SIZE (length octets)) (is_stamp octets) _ _ _ (parts_of utc_fields 0 octets) parts e) (begin_of utc_fields 0 octets)

-- a result is one of two
pub either_result : {A : Type 0} (r : Result A Refused) → ((x : A) × (r ≡ Ok x)) ⊎ ((refused : Refused) × (r ≡ Err refused))
either_result (Ok x) = inl (x, refl)
either_result (Err refused) = inr (refused, refl)
