-- Which lines of an input are taken, and why one is refused.
use Rattle.std.specs.Prelude.{◌≡◌, ℕ, ◌+◌, ◌<◌, ◌≤◌, ◌==◌, Bool, ◌&&◌, List, [], ◌∷◌, ◌++◌, length, Option, Some, None, position}
use Rattle.utc_order.specs.declared.limits.TheConstants.{MAX_LINES, MAX_OCTETS}
use Rattle.utc_order.specs.declared.cause.OrderCause.{OrderCause}
use Rattle.utc_order.specs.declared.cause.OrderCause.TheVariants as cause
use Rattle.utc_order.specs.Lines.{LogLine, Spells, Misspells}
use Rattle.utc_order.specs.Marks.{is_certainly_earlier}

-- a line of the same host is certainly earlier than one that was read before it
abbrev pub goes_back : LogLine → LogLine → Bool
goes_back line before = (before.host == line.host) && is_certainly_earlier line.time before.time

-- how many of the lines stand before the first of them behind which a line goes back
abbrev pub first_contrary : List LogLine → LogLine → Option ℕ
first_contrary before line = position (goes_back line) before

-- the octets are no line too many, and not too many octets
abbrev pub Fits : List LogLine → List ℕ → Type 0
Fits before octets = (length before < MAX_LINES) × (length octets ≤ MAX_OCTETS)

-- the octets are taken as a line behind others
pub record Takes (before : List LogLine) (octets : List ℕ) (line : LogLine) : Type 0 where
  pub fits : Fits before octets
  pub spells : Spells octets line
  pub forward : first_contrary before line ≡ None

-- the octets are a line that goes back behind one of those before it, of which this is the number, from 1
pub record IsBackward (before : List LogLine) (octets : List ℕ) (earlier : ℕ) : Type 0 where
  pub line : LogLine
  pub spells : Spells octets line
  pub index : ℕ
  pub first : first_contrary before line ≡ Some index
  pub number : earlier ≡ index + 1

-- why octets behind other lines are refused: the first cause in this order, which is that of the tests
abbrev pub Refuses : List LogLine → List ℕ → OrderCause → Type 0
Refuses before octets cause.Lines = MAX_LINES ≤ length before
Refuses before octets cause.Long = (length before < MAX_LINES) × (MAX_OCTETS < length octets)
Refuses before octets cause.Host = Fits before octets × Misspells octets cause.Host
Refuses before octets (cause.Time fault) = Fits before octets × Misspells octets (cause.Time fault)
Refuses before octets cause.Text = Fits before octets × Misspells octets cause.Text
Refuses before octets (cause.Backward earlier) = Fits before octets × IsBackward before octets earlier

-- each of the octets is taken as a line behind those before it
abbrev pub TakesEach : List LogLine → List (List ℕ) → List LogLine → Type 0
TakesEach before [] lines = lines ≡ []
TakesEach before (octets ∷ more) [] = ⊥
TakesEach before (octets ∷ more) (line ∷ lines) = Takes before octets line × TakesEach (before ++ line ∷ []) more lines

-- line n, from 1, is the first of all that is refused
pub record RefusesAt (all : List (List ℕ)) (n : ℕ) (cause : OrderCause) : Type 0 where
  pub front : List (List ℕ)
  pub octets : List ℕ
  pub rest : List (List ℕ)
  pub all_is : all ≡ front ++ octets ∷ rest
  pub number : n ≡ length front + 1
  pub lines : List LogLine
  pub taken : TakesEach [] front lines
  pub refused : Refuses lines octets cause
