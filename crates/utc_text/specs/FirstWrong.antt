-- The first field of a text that is not right: the fields before it stand there, and in no way do they and it.
use Rattle.std.specs.Prelude.{◌≡◌, ◌⊎◌, ℕ, ◌-◌, ◌^◌, min, List, [], ◌∷◌, ◌++◌, length, FitsSigned}
use Rattle.std.specs.Int.{w64}
use Rattle.utc_text.specs.declared.fault.TextField.{TextField}
use Rattle.utc_text.specs.declared.fault.TextField.TheVariants.{Sign, Days}
use Rattle.utc_text.specs.declared.fault.TextFault.{TextFault}
use Rattle.utc_text.specs.Grammar.{Stand, AbsoluteStands, absolute_order, RelativeFields, RelativeStands, time_order, relative_order, relative_time}

-- a field that is not right, at the place where it should begin: how many octets of the text stand before what is left of it
unfoldable pub fault_at : List ℕ → TextField → List ℕ → TextFault
fault_at text field left = record { field = field; offset = min (length text - length left) (2 ^ 32 - 1) }

-- the fields before it stand, and leave these octets of the text; and in no way do they and it stand
pub record IsFirstWrong {F : Type 0} (stands : TextField → F → List ℕ → List ℕ → Type 0) (order : List TextField) (text : List ℕ) (field : TextField) (left : List ℕ) : Type 0 where
  pub front : List TextField
  pub back : List TextField
  pub order_is : order ≡ front ++ field ∷ back
  pub fields : F
  pub before : Stand stands front fields text left
  pub wrong : (other : F) (rest : List ℕ) → Stand stands (front ++ field ∷ []) other text rest → ⊥

-- the fault of an absolute text
abbrev pub IsAbsoluteFault : List ℕ → TextFault → Type 0
IsAbsoluteFault text fault = (left : List ℕ) × IsFirstWrong AbsoluteStands absolute_order text fault.field left × (fault ≡ fault_at text fault.field left)

-- the fields of the time of a relative text stand there, and the time does not fit 64 bits; `left` begins with its days
pub record IsTooLong (text left : List ℕ) : Type 0 where
  pub fields : RelativeFields
  pub rest : List ℕ
  pub sign : Stand RelativeStands (Sign ∷ []) fields text left
  pub time : Stand RelativeStands time_order fields text rest
  pub long : FitsSigned w64 (relative_time fields) → ⊥

-- The fault of a relative text: its time is too long, which is told of its days, or else a field is the first that is not right.
abbrev pub IsRelativeFault : List ℕ → TextFault → Type 0
IsRelativeFault text fault = (left : List ℕ) ×
    ((IsTooLong text left × (fault ≡ fault_at text Days left))
    ⊎ (((days : List ℕ) → IsTooLong text days → ⊥) × IsFirstWrong RelativeStands relative_order text fault.field left × (fault ≡ fault_at text fault.field left)))
