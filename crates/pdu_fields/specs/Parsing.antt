-- How far a PDU has been read, and what reading it by a table gives.
use Rattle.std.specs.Prelude.{◌≡◌, ℕ, ◌+◌, ◌-◌, ◌<◌, ◌≤◌, Bool, List, ◌++◌, length, take, drop, Result, Ok, Err, MatchResult}
use Rattle.std.specs.Borrow.{Bor}
use Rattle.dts_base.specs.declared.wire.Field.{Field}
use Rattle.dts_base.specs.declared.wire.WireCause.{WireCause}
use Rattle.dts_base.specs.declared.wire.WireCause.TheVariants as cause
use Rattle.ndr.specs.Reading.{refusal}
use Rattle.ndr.specs.declared.fault.DecodeFault.{DecodeFault}
use Rattle.ndr.specs.declared.fault.DecodeFault.TheVariants as fault
use Rattle.pdu_fields.specs.declared.pdu.Pdu.{Pdu}
use Rattle.pdu_fields.specs.Tables.{Table, Kept, Shape, size_of, value_of, value_in, repeated, reading}

-- how many octets were read, and those that are left
pub record Place : Type 0 where
  pub at : ℕ
  pub left : List ℕ

-- the place behind so many octets
abbrev pub behind : ℕ → Place → Place
behind size place = record { at = place.at + size; left = drop size place.left }

-- a field that begins here is refused
abbrev pub refused_here : Field → Place → WireCause → DecodeFault
refused_here name place why = fault.Wrong (refusal name place.at why)

-- So many octets are lent, or fewer are left.
abbrev pub Takes : Field → ℕ → Place → Place → Result (Bor (List ℕ)) DecodeFault → Type 0
Takes name size old new result = MatchResult result
    (λ lent. (size ≤ length old.left) × (lent.now ≡ take size old.left) × (new ≡ behind size old))
    (λ f. (length old.left < size) × (f ≡ refused_here name old cause.Short))

-- the place read as the table gives this PDU or this fault
unfoldable pub Parses : Table → Place → Result Pdu DecodeFault → Type 0
Parses table place (Ok v) = reading table place.at place.left ≡ Ok v
Parses table place (Err (fault.Wrong refused)) = reading table place.at place.left ≡ Err refused
Parses table place (Err fault.NoMemory) = Unit {0}

-- What is said of the rest is said of the whole: where a value was read by a part of a table that goes on as it is told.
abbrev pub Reading : {A : Type 0} → ((A → Table) → Table) → Place → Place → Result A DecodeFault → Type 0
Reading {A} part old new result = MatchResult result
    (λ v. (more : A → Table) (r : Result Pdu DecodeFault) → Parses (more v) new r → Parses (part more) old r)
    (λ f. (more : A → Table) → Parses (part more) old (Err f))

-- the same for octets that are passed over
abbrev pub Passing : (Table → Table) → Place → Place → Result Unit DecodeFault → Type 0
Passing part old new result = MatchResult result
    (λ _. (more : Table) (r : Result Pdu DecodeFault) → Parses more new r → Parses (part more) old r)
    (λ f. (more : Table) → Parses (part more) old (Err f))

-- A value of a shape stands here, whichever of them are right, or it is not whole.
abbrev pub Finds : Field → (shape : Shape) → Place → Place → Result (value_of shape) DecodeFault → Type 0
Finds name shape old new result = MatchResult result
    (λ v. (size_of shape ≤ length old.left) × (v ≡ value_in shape old.left) × (new ≡ behind (size_of shape) old))
    (λ f. (right : value_of shape → Bool) (more : value_of shape → Table) → Parses (Kept name shape right more) old (Err f))

-- Of so many parts of a table so many were read, which gave these. What is said of the others is said of the whole.
abbrev pub ReadSoFar : {A : Type 0} → ((A → Table) → Table) → ℕ → ℕ → List A → Place → Place → Type 0
ReadSoFar {A} part count done front start now =
    (more : List A → Table) (r : Result Pdu DecodeFault)
    → Parses (repeated part (count - done) (λ others. more (front ++ others))) now r → Parses (repeated part count more) start r
