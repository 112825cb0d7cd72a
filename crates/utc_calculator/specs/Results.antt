-- What operations result in, and how that is written.
use Rattle.std.specs.Prelude.{◌≡◌, ◌⊎◌, ℕ, List, [], ◌∷◌, codes}
use Rattle.utc_value.specs.declared.Kind.{Kind}
use Rattle.utc_value.specs.declared.Kind.TheVariants as kind
use Rattle.utc_value.specs.Stamp.{Stamp, IsInRange}
use Rattle.utc_value.specs.Octets.{octets_of}
use Rattle.utc_routines.specs.declared.UtcFault.{UtcFault}
use Rattle.utc_routines.specs.declared.Order4.{Order4}
use Rattle.utc_routines.specs.declared.Order4.TheVariants as order
use Rattle.utc_routines.specs.Arithmetic.{Adds, RefusesSum, Subtracts, RefusesDifference, TakesAbsolute, RefusesAbsolute, Multiplies, RefusesProduct, ChangesTdf, RefusesTdf}
use Rattle.utc_routines.specs.Comparison.{IsIntervalOrder, IsTimeOrder, RefusesUnlike}
use Rattle.utc_routines.specs.Tightest.{Spans, Bounds, RefusesBound, ArePoints, RefusesPoints}
use Rattle.utc_text.specs.Civil.{IsInYears, local_count}
use Rattle.utc_text.specs.Printing.{IsShown, IsLengthShown}
use Rattle.hex.specs.Hex.{encode_lower}
use Rattle.line_reader.specs.Fields.{text_of}
use Rattle.utc_calculator.specs.declared.operation.Operation.{Operation}
use Rattle.utc_calculator.specs.declared.operation.Operation.TheVariants as op
use Rattle.utc_calculator.specs.declared.operation.Outcome.{Outcome}
use Rattle.utc_calculator.specs.declared.operation.Outcome.TheVariants as out

-- a timestamp results from an operation
abbrev pub YieldsTime : Operation → Stamp → Type 0
YieldsTime (op.Add a b) r = Adds a b r × IsInRange r
YieldsTime (op.Sub a b) r = Subtracts a b r × IsInRange r
YieldsTime (op.Abs a) r = TakesAbsolute a r × IsInRange r
YieldsTime (op.Mul a k) r = Multiplies a k r × IsInRange r
YieldsTime (op.Span a b) r = Spans a b r × IsInRange r
YieldsTime (op.Bound a b) r = Bounds a b r × IsInRange r
YieldsTime (op.Tdf a t) r = ChangesTdf a t r × IsInRange r
YieldsTime (op.Interval a b) r = ⊥
YieldsTime (op.Mid a b) r = ⊥
YieldsTime (op.Point a) r = ⊥
YieldsTime (op.Bytes a) r = ⊥
YieldsTime (op.Text a) r = r ≡ a

-- three timestamps, an order and octets result from these operations alone
abbrev pub YieldsPoints : Operation → Stamp → Stamp → Stamp → Type 0
YieldsPoints (op.Point a) first middle last = ArePoints a first middle last × IsInRange first × IsInRange middle × IsInRange last
YieldsPoints _ first middle last = ⊥

abbrev pub YieldsOrder : Operation → Order4 → Type 0
YieldsOrder (op.Interval a b) o = (a.kind ≡ b.kind) × IsIntervalOrder a b o
YieldsOrder (op.Mid a b) o = (a.kind ≡ b.kind) × IsTimeOrder a b o
YieldsOrder _ o = ⊥

abbrev pub YieldsOctets : Operation → List ℕ → Type 0
YieldsOctets (op.Bytes a) octets = octets ≡ octets_of a
YieldsOctets _ octets = ⊥

abbrev pub Yields : Operation → Outcome → Type 0
Yields o (out.Time r) = YieldsTime o r
Yields o (out.Points first middle last) = YieldsPoints o first middle last
Yields o (out.Order order) = YieldsOrder o order
Yields o (out.Octets octets) = YieldsOctets o octets

-- when a routine refuses an operation
abbrev pub RefusesRoutine : Operation → UtcFault → Type 0
RefusesRoutine (op.Add a b) fault = RefusesSum a b fault
RefusesRoutine (op.Sub a b) fault = RefusesDifference a b fault
RefusesRoutine (op.Abs a) fault = RefusesAbsolute a fault
RefusesRoutine (op.Mul a k) fault = RefusesProduct a k fault
RefusesRoutine (op.Span a b) fault = RefusesUnlike a b fault
RefusesRoutine (op.Bound a b) fault = RefusesBound a b fault
RefusesRoutine (op.Tdf a t) fault = RefusesTdf a t fault
RefusesRoutine (op.Interval a b) fault = RefusesUnlike a b fault
RefusesRoutine (op.Mid a b) fault = RefusesUnlike a b fault
RefusesRoutine (op.Point a) fault = RefusesPoints a fault
RefusesRoutine (op.Bytes a) fault = ⊥
RefusesRoutine (op.Text a) fault = ⊥

-- the text of a timestamp: a moment as clocks show it at its own time differential factor, or a length of time
abbrev pub IsTextOfKind : Kind → Stamp → List ℕ → Type 0
IsTextOfKind kind.Absolute s text = IsShown s.time s.tdf s.inaccuracy text
IsTextOfKind kind.Relative s text = IsLengthShown s.time s.inaccuracy text

abbrev pub IsTextOf : Stamp → List ℕ → Type 0
IsTextOf s text = IsTextOfKind s.kind s text

-- the word of an order
abbrev pub order_word : Order4 → List ℕ
order_word order.EqualTo = codes "equalTo"
order_word order.LessThan = codes "lessThan"
order_word order.GreaterThan = codes "greaterThan"
order_word order.Indeterminate = codes "indeterminate"

-- the texts of three timestamps, joined by single spaces
pub record AreTextsOf (first middle last : Stamp) (text : List ℕ) : Type 0 where
  pub x : List ℕ
  pub y : List ℕ
  pub z : List ℕ
  pub of_first : IsTextOf first x
  pub of_middle : IsTextOf middle y
  pub of_last : IsTextOf last z
  pub joined : text ≡ text_of (x ∷ y ∷ z ∷ [])

-- how an outcome is written
abbrev pub Shows : Outcome → List ℕ → Type 0
Shows (out.Time r) text = IsTextOf r text
Shows (out.Points first middle last) text = AreTextsOf first middle last text
Shows (out.Order o) text = text ≡ order_word o
Shows (out.Octets octets) text = text ≡ encode_lower octets

-- a moment whose year, as clocks show it at its own time differential factor, is not one of 1582 to 9999
pub record HasNoText (s : Stamp) : Type 0 where
  pub moment : s.kind ≡ kind.Absolute
  pub year : ¬ IsInYears (local_count s.time s.tdf)

-- when an outcome is not written
abbrev pub RefusesShowing : Outcome → Type 0
RefusesShowing (out.Time r) = HasNoText r
RefusesShowing (out.Points first middle last) = HasNoText first ⊎ (HasNoText middle ⊎ HasNoText last)
RefusesShowing (out.Order o) = ⊥
RefusesShowing (out.Octets octets) = ⊥
