-- What the private parts keep. No public clause reaches it.
use Rattle.std.specs.Prelude.{◌≡◌, ℕ, ◌+◌, ◌≤◌, Result, Ok, Err, if◌then◌else◌, Bool, true, false, List, [], ◌∷◌, length, ℤ, int_lt, Option, Some, None}
use Rattle.dts_base.specs.Causes.{Rose}
use Rattle.utc_value.specs.Members.{latest_of}
use Rattle.dts_base.specs.Streams.{BeginsWith, Wrote}
use Rattle.line_reader.specs.Lines.{lines_of}
use Rattle.line_reader.specs.Reader.{Reader}
use Rattle.line_reader.specs.Taken.{HasTaken}
use Rattle.utc_order.specs.declared.cause.OrderStatus.{OrderStatus}
use Rattle.utc_order.specs.declared.cause.OrderStatus.TheVariants as status
use Rattle.utc_order.specs.declared.reach.Reach.{Reach}
use Rattle.utc_order.specs.declared.reach.Reach.TheVariants.{Nowhere, To, Anywhere}
use Rattle.utc_order.specs.Lines.{LogLine}
use Rattle.utc_order.specs.Taking.{TakesEach, Refuses, RefusesAt}
use Rattle.utc_order.specs.Orders.{TakesWhole, IsTextOf}

-- all lines that reach so far are certainly earlier than what begins there
abbrev pub is_beyond : Reach → Option ℤ → Bool
is_beyond Nowhere earliest = true
is_beyond (To latest) None = false
is_beyond (To latest) (Some earliest) = int_lt latest earliest
is_beyond Anywhere earliest = false

-- how far they and a line with this latest point reach
abbrev pub reach_with : Reach → Option ℤ → Reach
reach_with reach None = Anywhere
reach_with Nowhere (Some latest) = To latest
reach_with (To reached) (Some latest) = if int_lt latest reached then To reached else To latest
reach_with Anywhere (Some latest) = Anywhere

-- how far lines reach, the last of which stands first
abbrev pub reach_of : List LogLine → Reach
reach_of [] = Nowhere
reach_of (line ∷ printed) = reach_with (reach_of printed) (latest_of line.time)

-- why reading stops at octets behind lines
abbrev pub StopsAt : List LogLine → List ℕ → OrderStatus → Type 0
StopsAt lines octets (status.Refused n cause) = (n ≡ length lines + 1) × Refuses lines octets cause
StopsAt lines octets status.NoMemory = Unit {0}
StopsAt lines octets _ = ⊥

-- why reading stops
abbrev pub Stops : List ℕ → List ℕ → OrderStatus → Type 0
Stops octets left (status.Refused n cause) = RefusesAt (lines_of octets) n cause
Stops octets left status.ReadFault = TakesWhole octets left
Stops octets left status.NoMemory = Unit {0}
Stops octets left _ = ⊥

-- The count of an object's faults did not fall. It rose where the call stops so, and stayed where it doesn't.
pub record StopCause {T : Type 0} (s : OrderStatus) (before now : ℕ) (result : Result T OrderStatus) : Type 0 where
  pub later : before ≤ now
  pub failed : result ≡ Err s → Rose before now
  pub kept : (result ≡ Err s → ⊥) → now ≡ before

-- so reading may stop
abbrev pub IsReadStop : OrderStatus → Type 0
IsReadStop (status.Refused n cause) = Unit {0}
IsReadStop status.ReadFault = Unit {0}
IsReadStop status.NoMemory = Unit {0}
IsReadStop _ = ⊥

-- of the octets these lines were taken so far
pub record Reads (octets : List ℕ) (reader : Reader) (left : Option (List ℕ)) (lines : List LogLine) : Type 0 where
  pub taken : List (List ℕ)
  pub has : HasTaken octets taken reader left
  pub each : TakesEach [] taken lines

-- reading stopped at the octets, of which some are left
abbrev pub HasStopped : List ℕ → Option (List ℕ) → OrderStatus → Type 0
HasStopped octets left s = (more : List ℕ) × (left ≡ Some more) × Stops octets more s

-- all lines of the octets were read, or reading stopped
abbrev pub HasRead : List ℕ → Option (List ℕ) → Result (List LogLine) OrderStatus → Type 0
HasRead octets left (Ok lines) = TakesEach [] (lines_of octets) lines × (left ≡ Some [])
HasRead octets left (Err s) = HasStopped octets left s

-- the beginning of the text was written
pub record WroteBeginning (before now : Option (List ℕ)) (text : List ℕ) : Type 0 where
  pub part : List ℕ
  pub begins : BeginsWith part text
  pub wrote : Wrote before now part

-- the text of the lines in their order was written, or its beginning
abbrev pub HasWritten : List LogLine → OrderStatus → Option (List ℕ) → Option (List ℕ) → Type 0
HasWritten lines status.Done before now = (text : List ℕ) × IsTextOf lines text × Wrote before now text
HasWritten lines status.WriteFault before now = (text : List ℕ) × IsTextOf lines text × WroteBeginning before now text
HasWritten lines status.NoMemory before now = (text : List ℕ) × IsTextOf lines text × WroteBeginning before now text
HasWritten lines _ before now = ⊥
