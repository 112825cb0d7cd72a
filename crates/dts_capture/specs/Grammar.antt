-- The grammar of a capture line: what stands in it from left to right, and what each line says.
use Rattle.std.specs.Prelude.{◌≡◌, ◌≢◌, ◌⊎◌, ℕ, ◌-◌, ◌^◌, ◌<◌, ◌≤◌, Bool, true, false, List, [], ◌∷◌, Option, Some, None, codes}
use Rattle.dts_base.specs.declared.interval.Interval.{Interval}
use Rattle.dts_capture.specs.declared.limits.TheConstants.{FIRST_CONNECTION, MAX_TAGS}
use Rattle.dts_capture.specs.declared.event.Event.{Event}
use Rattle.dts_capture.specs.declared.event.Event.TheVariants as event
use Rattle.dts_capture.specs.declared.line.Line.{Line}
use Rattle.dts_capture.specs.declared.line.Line.TheVariants as line
use Rattle.dts_capture.specs.declared.line.LineCause.{LineCause}
use Rattle.dts_capture.specs.declared.line.LineCause.TheVariants as cause
use Rattle.slew_clock.specs.declared.limits.TheConstants.{GREATEST_OSC}
use Rattle.line_reader.specs.Fields.{column_of}
use Rattle.dts_capture.specs.Kinds.{Kind, Natural, RecordNumber, Count, NotBelow, Word, Octets, value_of, Reads, Wrong}

pub data Form : Type 0 where
  -- nothing more: the line says this
  Ends : Line → Form
  -- a field of this kind, and what follows it
  Field : (kind : Kind) → (value_of kind → Form) → Form
  -- this word and what follows it, or else the second form
  Choice : List ℕ → Form → Form → Form
  -- none of the words that might stand here: what is wrong with an empty field, and with another
  NoWord : LineCause → LineCause → Form
  -- the word that a later cause speaks of begins here
  FromHere : Form → Form
  -- the peer is a connection that a client made; else the word is wrong
  Served : ℕ → Form → Form

-- a number of 32 bits
abbrev pub number32 : Kind
number32 = Natural 0 (2 ^ 32 - 1)

-- connections that clients made have numbers from this one
abbrev pub first_connection : ℕ
first_connection = FIRST_CONNECTION

-- a direct round has at most so many tags
abbrev pub most_tags : ℕ
most_tags = MAX_TAGS

abbrev pub at_osc : (ℕ → Form) → Form
at_osc more = Field (Natural 0 GREATEST_OSC) more

-- an interval: its ends
abbrev pub ends : (Interval → Form) → Form
ends more = Field Count (λ lo. Field (NotBelow lo) more)

-- the ends of an interval, or the word that there is none
abbrev pub first_interval : (Option Interval → Form) → Form
first_interval more = Choice (codes "unknown") (more None) (ends (λ first. more (Some first)))

-- `start OSC VALUE LO HI` or `start OSC VALUE unknown`
abbrev pub start_form : Form
start_form = at_osc (λ osc. Field Count (λ value. first_interval (λ first. Ends (line.Start osc value first))))

abbrev pub tick_form : Form
tick_form = at_osc (λ osc. Field Word (λ word. Ends (line.Event None (event.Tick osc word))))

-- `WORD OSC PEER HEX`, of a peer from the first one on
abbrev pub octets_form : ℕ → Bool → (ℕ → ℕ → List ℕ → Event) → Option ℕ → Form
octets_form first may_be_empty e k = at_osc (λ osc. Field (Natural first (2 ^ 32 - 1)) (λ peer. Field (Octets may_be_empty) (λ bytes. Ends (line.Event k (e osc peer bytes)))))

-- `WORD OSC PEER`, of any peer, or of one that a lane serves
abbrev pub peer_form : (ℕ → ℕ → Event) → Form
peer_form e = at_osc (λ osc. Field number32 (λ peer. Ends (line.Event None (e osc peer))))

abbrev pub served_form : (ℕ → ℕ → Event) → Option ℕ → Form
served_form e k = at_osc (λ osc. Field number32 (λ peer. Served peer (Ends (line.Event k (e osc peer)))))

abbrev pub read_form : Option ℕ → Form
read_form k = at_osc (λ osc. Ends (line.Event k (event.Read osc)))

abbrev pub ask_form : Option ℕ → Form
ask_form k = octets_form first_connection false event.Ask k

-- the events of a serve capture
abbrev pub serve_forms : Option ℕ → Form
serve_forms k =
    Choice (codes "read") (read_form k)
    (Choice (codes "ask") (ask_form k)
    (Choice (codes "lost") (served_form event.Lost k)
    (Choice (codes "unsent") (served_form event.Unsent k)
    (NoWord cause.Missing cause.At))))

-- the events of a direct round: `query OSC TAG`, `source OSC TAG LO HI`, `adopt OSC REQUIRED`
abbrev pub query_form : Form
query_form = at_osc (λ osc. Field number32 (λ tag. Ends (line.Event None (event.Query osc tag))))

abbrev pub source_form : Form
source_form = at_osc (λ osc. Field number32 (λ tag. ends (λ interval. Ends (line.Event None (event.Source osc tag interval)))))

abbrev pub adopt_form : Form
adopt_form = at_osc (λ osc. Field (Natural 1 most_tags) (λ required. Ends (line.Event None (event.Adopt osc required))))

-- `at K LINE`, of this record where one is given
abbrev pub at_form : Option ℕ → Form
at_form current = Field (RecordNumber current) (λ k. FromHere (serve_forms (Some k)))

-- all lines but blank ones, by their first words
abbrev pub direct_forms : Option ℕ → Form
direct_forms current =
    Choice (codes "query") query_form
    (Choice (codes "source") source_form
    (Choice (codes "adopt") adopt_form
    (Choice (codes "at") (at_form current)
    (NoWord cause.Word cause.Word))))

abbrev pub peer_forms : Option ℕ → Form
peer_forms current =
    Choice (codes "data") (octets_form 0 false event.Stream None)
    (Choice (codes "gram") (octets_form 0 true event.Gram None)
    (Choice (codes "lost") (peer_form event.Lost)
    (Choice (codes "unsent") (peer_form event.Unsent)
    (direct_forms current))))

abbrev pub line_forms : Option ℕ → Form
line_forms current =
    Choice (codes "start") start_form
    (Choice (codes "tick") tick_form
    (Choice (codes "read") (read_form None)
    (Choice (codes "ask") (ask_form None)
    (peer_forms current))))

-- the fields are those that the form asks for, and the line says this
abbrev pub Makes : Form → List (List ℕ) → Line → Type 0
Makes (Ends said) [] l = l ≡ said
Makes (Ends said) (field ∷ fields) l = ⊥
Makes (Field kind more) [] l = ⊥
Makes (Field kind more) (field ∷ fields) l = (v : value_of kind) × Reads kind field v × Makes (more v) fields l
Makes (Choice word chosen other) [] l = ⊥
Makes (Choice word chosen other) (field ∷ fields) l = ((field ≡ word) × Makes chosen fields l) ⊎ ((field ≢ word) × Makes other (field ∷ fields) l)
Makes (NoWord empty unknown) fields l = ⊥
Makes (FromHere form) fields l = Makes form fields l
Makes (Served peer form) fields l = (first_connection ≤ peer) × Makes form fields l

-- where a field is wrong, and why
pub record Fault : Type 0 where
  pub column : ℕ
  pub why : LineCause

abbrev pub IsFault : ℕ → LineCause → Fault → Type 0
IsFault column why fault = fault ≡ record { column = column; why = why }

-- what is wrong with a field behind the last one, and with a word that is none of those that might stand there
abbrev pub left_over : List ℕ → LineCause
left_over [] = cause.Missing
left_over (octet ∷ octets) = cause.Extra

abbrev pub no_word : LineCause → LineCause → List ℕ → LineCause
no_word empty unknown [] = empty
no_word empty unknown (octet ∷ octets) = unknown

-- The first wrong field of a line, of which these fields are left, and where the word that a cause may speak of stands at this column.
abbrev pub Fails : Form → List ℕ → ℕ → List (List ℕ) → Fault → Type 0
Fails (Ends said) line word [] fault = ⊥
Fails (Ends said) line word (field ∷ fields) fault = IsFault (column_of line (field ∷ fields)) (left_over field) fault
Fails (Field kind more) line word [] fault = IsFault (column_of line []) cause.Missing fault
Fails (Field kind more) line word (field ∷ fields) fault =
    ((why : LineCause) × Wrong kind field why × IsFault (column_of line (field ∷ fields)) why fault)
    ⊎ ((v : value_of kind) × Reads kind field v × Fails (more v) line word fields fault)
Fails (Choice text chosen other) line word [] fault = IsFault (column_of line []) cause.Missing fault
Fails (Choice text chosen other) line word (field ∷ fields) fault =
    ((field ≡ text) × Fails chosen line word fields fault) ⊎ ((field ≢ text) × Fails other line word (field ∷ fields) fault)
Fails (NoWord empty unknown) line word [] fault = IsFault (column_of line []) cause.Missing fault
Fails (NoWord empty unknown) line word (field ∷ fields) fault = IsFault (column_of line (field ∷ fields)) (no_word empty unknown field) fault
Fails (FromHere form) line word fields fault = Fails form line (column_of line fields) fields fault
Fails (Served peer form) line word fields fault = ((peer < first_connection) × IsFault word cause.At fault) ⊎ ((first_connection ≤ peer) × Fails form line word fields fault)
