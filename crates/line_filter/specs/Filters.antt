-- What a filter of lines takes, refuses and writes.
use Rattle.std.specs.Prelude.{◌≡◌, ◌⊎◌, ℕ, ◌+◌, ◌<◌, ◌≤◌, List, [], ◌∷◌, ◌++◌, length, Option, Some, Result, Ok, Err}
use Rattle.dts_base.specs.Streams.{BeginsWith, Wrote}
use Rattle.line_reader.specs.declared.limits.TheConstants.{MAX_LINE, MAX_LINES}
use Rattle.line_reader.specs.Lines.{lines_of, whole_lines}
use Rattle.line_filter.specs.declared.stop.Stop.{Stop}
use Rattle.line_filter.specs.declared.stop.Stop.TheVariants as stop

-- The rules of a filter, which goes from state to state as it takes lines.
pub record Rules (State Cause : Type 0) : Type 1 where
  -- in this state this line is taken: the next state, and the text that it gives
  pub Takes : State → List ℕ → State → List ℕ → Type 0
  -- in this state this line is refused for this cause
  pub Refuses : State → List ℕ → Cause → Type 0
  -- in this state the end of the input is refused for this cause
  pub RefusesEnd : State → Cause → Type 0
  -- the cause of a line behind as many as an input may have
  pub too_many : Cause
  -- the cause of a line of more octets than a line may have
  pub too_long : Cause

-- each of the lines is taken, in the state that those before it made, and the texts that they give are one
abbrev pub TakesEach : {State Cause : Type 0} → Rules State Cause → State → List (List ℕ) → State → List ℕ → Type 0
TakesEach rules from [] to text = (to ≡ from) × (text ≡ [])
TakesEach {State} rules from (line ∷ lines) to text =
    (next : State) × (first : List ℕ) × (rest : List ℕ) × (length line ≤ MAX_LINE) × rules.Takes from line next first × TakesEach rules next lines to rest × (text ≡ first ++ rest)

-- the lines are taken, and they are not too many
pub record TakesLines {State Cause : Type 0} (rules : Rules State Cause) (from : State) (lines : List (List ℕ)) (to : State) (text : List ℕ) : Type 0 where
  pub few : length lines ≤ MAX_LINES
  pub each : TakesEach rules from lines to text

-- why a line behind so many others is refused in a state: there are too many lines, else it is too long, else by the rules
abbrev pub RefusesLine : {State Cause : Type 0} → Rules State Cause → ℕ → State → List ℕ → Cause → Type 0
RefusesLine rules before state line cause = ((MAX_LINES ≤ before) × (cause ≡ rules.too_many))
    ⊎ (((before < MAX_LINES) × (MAX_LINE < length line) × (cause ≡ rules.too_long))
    ⊎ ((before < MAX_LINES) × (length line ≤ MAX_LINE) × rules.Refuses state line cause))

-- line n, from 1, is the first of the lines that is refused, and those before it give the text
pub record RefusesAt {State Cause : Type 0} (rules : Rules State Cause) (from : State) (lines : List (List ℕ)) (n : ℕ) (cause : Cause) (text : List ℕ) : Type 0 where
  pub front : List (List ℕ)
  pub line : List ℕ
  pub rest : List (List ℕ)
  pub all : lines ≡ front ++ line ∷ rest
  pub number : n ≡ length front + 1
  pub state : State
  pub taken : TakesLines rules from front state text
  pub refused : RefusesLine rules (length front) state line cause

-- all lines are taken and give the text, and the end of the input, which is told of as line n behind them, is refused
pub record RefusesBehind {State Cause : Type 0} (rules : Rules State Cause) (from : State) (lines : List (List ℕ)) (n : ℕ) (cause : Cause) (text : List ℕ) : Type 0 where
  pub number : n ≡ length lines + 1
  pub state : State
  pub taken : TakesLines rules from lines state text
  pub refused : rules.RefusesEnd state cause

-- all lines are taken and give the text, and the end of the input is not refused
pub record TakesAll {State Cause : Type 0} (rules : Rules State Cause) (from : State) (lines : List (List ℕ)) (text : List ℕ) : Type 0 where
  pub state : State
  pub taken : TakesLines rules from lines state text
  pub accepted : (cause : Cause) → rules.RefusesEnd state cause → ⊥

-- some first lines are taken, and give the text
pub record TakesFront {State Cause : Type 0} (rules : Rules State Cause) (from : State) (lines : List (List ℕ)) (text : List ℕ) : Type 0 where
  pub front : List (List ℕ)
  pub rest : List (List ℕ)
  pub all : lines ≡ front ++ rest
  pub state : State
  pub taken : TakesLines rules from front state text

-- so much of the octets was read that these are left, and the lines that are whole in it are taken and give the text
pub record TakesWhole {State Cause : Type 0} (rules : Rules State Cause) (from : State) (octets left : List ℕ) (text : List ℕ) : Type 0 where
  pub read : List ℕ
  pub all : octets ≡ read ++ left
  pub state : State
  pub taken : TakesLines rules from (whole_lines read) state text

-- What a filter that begins in this state wrote for these octets, of which those are left, where it ended or stopped so.
abbrev pub Filters : {State Cause : Type 0} → Rules State Cause → State → List ℕ → List ℕ → Result (Unit {0}) (Stop Cause) → List ℕ → Type 0
Filters rules from octets left (Ok done) text = TakesAll rules from (lines_of octets) text × (left ≡ [])
Filters rules from octets left (Err (stop.Refused n cause)) text =
    RefusesAt rules from (lines_of octets) n cause text ⊎ (RefusesBehind rules from (lines_of octets) n cause text × (left ≡ []))
Filters rules from octets left (Err stop.Read) text = TakesWhole rules from octets left text
Filters rules from octets left (Err stop.Write) text = (whole : List ℕ) × TakesFront rules from (lines_of octets) whole × BeginsWith text whole
Filters rules from octets left (Err stop.NoMemory) text = TakesFront rules from (lines_of octets) text

-- The filter ended or stopped so over these octets, and of what the source tells to be left and the sink to hold now, this is what it read and wrote.
pub record HasFiltered {State Cause : Type 0} (rules : Rules State Cause) (from : State) (octets : List ℕ) (left : Option (List ℕ)) (result : Result (Unit {0}) (Stop Cause)) (before now : Option (List ℕ)) : Type 0 where
  pub more : List ℕ
  pub left_is : left ≡ Some more
  pub text : List ℕ
  pub filters : Filters rules from octets more result text
  pub wrote : Wrote before now text

-- the octets are an input that is taken as a whole, and gives the text
abbrev pub IsValid : {State Cause : Type 0} → Rules State Cause → State → List ℕ → List ℕ → Type 0
IsValid rules from octets text = TakesAll rules from (lines_of octets) text
