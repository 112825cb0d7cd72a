-- What the private calls answer. No public clause reaches it.
use Rattle.std.specs.Prelude.{◌≡◌, ◌⊎◌, ℕ, ◌+◌, ◌<◌, ◌≤◌, List, [], ◌++◌, length, Option, Some, Result, Ok, Err}
use Rattle.dts_base.specs.Causes.{Rose}
use Rattle.dts_base.specs.Told.{Told}
use Rattle.dts_base.specs.Streams.{Wrote, AppendsPart}
use Rattle.dts_base.specs.declared.wire.Refused.{Refused}
use Rattle.ndr.specs.declared.fault.DecodeFault.{DecodeFault}
use Rattle.ndr.specs.declared.fault.DecodeFault.TheVariants as fault
use Rattle.wire_show.specs.declared.end.Shown.{Shown}
use Rattle.wire_show.specs.declared.end.ShowEnd.{ShowEnd}
use Rattle.wire_show.specs.declared.end.ShowEnd.TheVariants as end
use Rattle.wire_show.specs.declared.input.TheConstants.{MAX_INPUT, PIECE}
use Rattle.wire_show.specs.Output.{output_of}

-- how showing ends for a fault
abbrev pub end_of : DecodeFault → ShowEnd
end_of (fault.Wrong refused) = end.Refused refused
end_of fault.NoMemory = end.NoMemory

-- the fault is the refusal that is due, or memory is missing
abbrev pub IsFaultOf : {A : Type 0} → Result A Refused → DecodeFault → Type 0
IsFaultOf due (fault.Wrong refused) = due ≡ Err refused
IsFaultOf due fault.NoMemory = Unit {0}

-- octets, and behind them those that a result gives
abbrev pub behind_front : List ℕ → Result (List ℕ) Refused → Result (List ℕ) Refused
behind_front front (Ok others) = Ok (front ++ others)
behind_front front (Err refused) = Err refused

-- The count of an object's faults did not fall. It rose where the call stops so, and stayed where it doesn't.
pub record StopCause {T : Type 0} (s : ShowEnd) (before now : ℕ) (result : Result T ShowEnd) : Type 0 where
  pub later : before ≤ now
  pub failed : result ≡ Err s → Rose before now
  pub kept : (result ≡ Err s → ⊥) → now ≡ before

-- a part of the input was read, and this is left
pub record Holds (input held left : List ℕ) : Type 0 where
  pub all : input ≡ held ++ left
  pub few : length held ≤ MAX_INPUT + PIECE

-- the input was read to its end, or so much of it that it is too long
abbrev pub HoldsEnough : List ℕ → List ℕ → List ℕ → Type 0
HoldsEnough input held left = Holds input held left × ((left ≡ []) ⊎ (MAX_INPUT < length held))

-- some of the input was read, and this is left
abbrev pub HoldsSome : List ℕ → Option (List ℕ) → List ℕ → Type 0
HoldsSome input left held = (more : List ℕ) × (left ≡ Some more) × Holds input held more

-- enough of it was read
abbrev pub HasHeld : List ℕ → Option (List ℕ) → List ℕ → Type 0
HasHeld input left held = (more : List ℕ) × (left ≡ Some more) × HoldsEnough input held more

-- reading stopped
abbrev pub HasStopped : List ℕ → Option (List ℕ) → Type 0
HasStopped input left = (held : List ℕ) × HoldsSome input left held

-- reading stops for a fault of the input, or for want of memory
abbrev pub IsReadStop : ShowEnd → Type 0
IsReadStop end.ReadFault = Unit {0}
IsReadStop end.NoMemory = Unit {0}
IsReadStop _ = ⊥

-- why no lines were made of an input
abbrev pub IsMakingStop : ShowEnd → Type 0
IsMakingStop (end.Refused refused) = Unit {0}
IsMakingStop end.ReadFault = Unit {0}
IsMakingStop end.NoMemory = Unit {0}
IsMakingStop _ = ⊥

-- the lines of an input were made, which was read to its end
abbrev pub HasMade : Shown → List ℕ → Option (List ℕ) → List ℕ → Type 0
HasMade kind input left text = (left ≡ Some []) × (length input ≤ MAX_INPUT + PIECE) × (output_of kind input ≡ Ok text)

-- the lines of an input are not made
abbrev pub Unmade : Shown → List ℕ → ShowEnd → Type 0
Unmade kind input (end.Refused refused) = output_of kind input ≡ Err refused
Unmade kind input _ = Unit {0}

abbrev pub HasNotMade : Shown → List ℕ → Option (List ℕ) → ShowEnd → Type 0
HasNotMade kind input left stop = HasStopped input left × Unmade kind input stop

-- the text was written, or its beginning
abbrev pub HasWritten : List ℕ → ShowEnd → Option (List ℕ) → Option (List ℕ) → Type 0
HasWritten text end.Done old new = Wrote old new text
HasWritten text end.WriteFault old new = Told old new (AppendsPart text)
HasWritten text _ old new = ⊥
