-- What is written for an input, and what is answered.
use Rattle.std.specs.Prelude.{◌≡◌, ◌⊎◌, ℕ, ◌≤◌, List, [], ◌++◌, Option, Some}
use Rattle.dts_base.specs.Causes.{Rose}
use Rattle.dts_base.specs.Streams.{BeginsWith, Wrote}
use Rattle.line_reader.specs.Lines.{lines_of, whole_lines}
use Rattle.utc_order.specs.declared.cause.OrderStatus.{OrderStatus}
use Rattle.utc_order.specs.declared.cause.OrderStatus.TheVariants as status
use Rattle.utc_order.specs.declared.place.Place.{Place}
use Rattle.utc_order.specs.Lines.{LogLine}
use Rattle.utc_order.specs.Places.{IsOrder, lines_at}
use Rattle.utc_order.specs.Marks.{text_of}
use Rattle.utc_order.specs.Taking.{TakesEach, RefusesAt}

-- the text is that of the lines in their order
pub record IsTextOf (lines : List LogLine) (text : List ℕ) : Type 0 where
  pub order : List Place
  pub is : IsOrder lines order
  pub text_is : text ≡ text_of (lines_at lines order)

-- every line of the octets is taken, and the text is that of these lines in their order
pub record IsOrdered (octets text : List ℕ) : Type 0 where
  pub lines : List LogLine
  pub taken : TakesEach [] (lines_of octets) lines
  pub is : IsTextOf lines text

-- the text is one that is written for the octets, or the beginning of one
abbrev pub BeginsOrdered : List ℕ → List ℕ → Type 0
BeginsOrdered octets text = (whole : List ℕ) × IsOrdered octets whole × BeginsWith text whole

-- so much of the octets was read that these are left, and the lines that are whole in it are taken
pub record TakesWhole (octets left : List ℕ) : Type 0 where
  pub read : List ℕ
  pub all : octets ≡ read ++ left
  pub lines : List LogLine
  pub taken : TakesEach [] (whole_lines read) lines

-- What was written for these octets, of which those are left, where this is answered. Where a line is refused or a read failed
-- it is nothing.
abbrev pub Orders : List ℕ → List ℕ → OrderStatus → List ℕ → Type 0
Orders octets left status.Done text = IsOrdered octets text × (left ≡ [])
Orders octets left (status.Refused n cause) text = RefusesAt (lines_of octets) n cause × (text ≡ [])
Orders octets left status.ReadFault text = TakesWhole octets left × (text ≡ [])
Orders octets left status.WriteFault text = BeginsOrdered octets text × (left ≡ [])
Orders octets left status.NoMemory text = (text ≡ []) ⊎ BeginsOrdered octets text

-- This is answered for these octets, and of what the source tells to be left and the sink to hold now, this is what was read and written.
pub record HasOrdered (octets : List ℕ) (left : Option (List ℕ)) (answer : OrderStatus) (before now : Option (List ℕ)) : Type 0 where
  pub more : List ℕ
  pub left_is : left ≡ Some more
  pub text : List ℕ
  pub orders : Orders octets more answer text
  pub wrote : Wrote before now text

-- The count of an object's faults did not fall. It rose where the answer is this fault, and stayed where it isn't: no fault is passed over.
pub record HasFaults (fault : OrderStatus) (before now : ℕ) (answer : OrderStatus) : Type 0 where
  pub later : before ≤ now
  pub failed : answer ≡ fault → Rose before now
  pub kept : (answer ≡ fault → ⊥) → now ≡ before

-- a line was refused, or a read failed
abbrev pub IsUnwritten : OrderStatus → Type 0
IsUnwritten (status.Refused n cause) = Unit {0}
IsUnwritten status.ReadFault = Unit {0}
IsUnwritten _ = ⊥
