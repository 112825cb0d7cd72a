-- What is read and written, and what is answered.
use Rattle.std.specs.Prelude.{◌≡◌, ℕ, ◌≤◌, List, [], ◌++◌, length, ◌+◌, Option, Some, Ok, Err}
use Rattle.dts_base.specs.Causes.{Rose}
use Rattle.dts_base.specs.Streams.{BeginsWith, Wrote}
use Rattle.wire_show.specs.declared.end.Shown.{Shown}
use Rattle.wire_show.specs.declared.end.ShowEnd.{ShowEnd}
use Rattle.wire_show.specs.declared.end.ShowEnd.TheVariants as end
use Rattle.wire_show.specs.declared.input.TheConstants.{MAX_INPUT, PIECE}
use Rattle.wire_show.specs.Output.{output_of}

-- the beginning of the lines of an input
abbrev pub BeginsOutput : Shown → List ℕ → List ℕ → Type 0
BeginsOutput kind input text = (whole : List ℕ) × (output_of kind input ≡ Ok whole) × BeginsWith text whole

-- What was written for this input, of which these octets are left, where this is answered. Nothing is written where the input is
-- refused, and it is done only where the input was read to its end.
abbrev pub Shows : Shown → List ℕ → List ℕ → ShowEnd → List ℕ → Type 0
Shows kind input left end.Done text = (output_of kind input ≡ Ok text) × (left ≡ [])
Shows kind input left (end.Refused refused) text = (output_of kind input ≡ Err refused) × (text ≡ [])
Shows kind input left end.ReadFault text = text ≡ []
Shows kind input left end.WriteFault text = BeginsOutput kind input text × (left ≡ [])
Shows kind input left end.NoMemory text = text ≡ []

-- This is answered for this input, and of what the source tells to be left and the sink to hold now, this is what was read and
-- written. So much is read at most, also of an input without an end.
pub record HasShown (kind : Shown) (input : List ℕ) (left : Option (List ℕ)) (answer : ShowEnd) (before now : Option (List ℕ)) : Type 0 where
  pub read : List ℕ
  pub more : List ℕ
  pub left_is : left ≡ Some more
  pub all : input ≡ read ++ more
  pub few : length read ≤ MAX_INPUT + PIECE
  pub text : List ℕ
  pub shows : Shows kind input more answer text
  pub wrote : Wrote before now text

-- The count of an object's faults did not fall. It rose where the answer is this fault, and stayed where it isn't: no fault is passed over.
pub record HasFaults (fault : ShowEnd) (before now : ℕ) (answer : ShowEnd) : Type 0 where
  pub later : before ≤ now
  pub failed : answer ≡ fault → Rose before now
  pub kept : (answer ≡ fault → ⊥) → now ≡ before

-- the input was refused, or it failed, or memory was missing
abbrev pub IsUnwritten : ShowEnd → Type 0
IsUnwritten (end.Refused refused) = Unit {0}
IsUnwritten end.ReadFault = Unit {0}
IsUnwritten end.NoMemory = Unit {0}
IsUnwritten _ = ⊥
