-- The text of a capture line, without its line feed.
use Rattle.std.specs.Prelude.{ℕ, List, [], ◌∷◌, Option, Some, None, codes, decimal}
use Rattle.std.specs.Fmt.{signed_decimal}
use Rattle.std.specs.Int.{to_be_bytes, w64}
use Rattle.hex.specs.Hex.{encode_lower}
use Rattle.dts_base.specs.declared.interval.Interval.{Interval}
use Rattle.line_reader.specs.Fields.{text_of}
use Rattle.dts_capture.specs.declared.event.Event.{Event}
use Rattle.dts_capture.specs.declared.event.Event.TheVariants as event
use Rattle.dts_capture.specs.declared.line.Line.{Line}
use Rattle.dts_capture.specs.declared.line.Line.TheVariants as line
use Rattle.dts_capture.specs.Log.{hex_or_dash}

-- the ends of an interval, or the word that there is none
abbrev pub interval_fields : Interval → List (List ℕ)
interval_fields i = signed_decimal i.lo ∷ signed_decimal i.hi ∷ []

abbrev pub first_fields : Option Interval → List (List ℕ)
first_fields None = codes "unknown" ∷ []
first_fields (Some i) = interval_fields i

-- the word that an event's line begins with
abbrev pub event_word : Event → List ℕ
event_word (event.Tick osc word) = codes "tick"
event_word (event.Stream osc peer bytes) = codes "data"
event_word (event.Gram osc peer bytes) = codes "gram"
event_word (event.Lost osc peer) = codes "lost"
event_word (event.Unsent osc peer) = codes "unsent"
event_word (event.Read osc) = codes "read"
event_word (event.Ask osc conn bytes) = codes "ask"
event_word (event.Query osc tag) = codes "query"
event_word (event.Source osc tag interval) = codes "source"
event_word (event.Adopt osc required) = codes "adopt"

-- the fields behind it: numbers in decimal, octets in hex in lower case
abbrev pub event_fields : Event → List (List ℕ)
event_fields (event.Tick osc word) = decimal osc ∷ encode_lower (to_be_bytes w64 word) ∷ []
event_fields (event.Stream osc peer bytes) = decimal osc ∷ decimal peer ∷ hex_or_dash bytes ∷ []
event_fields (event.Gram osc peer bytes) = decimal osc ∷ decimal peer ∷ hex_or_dash bytes ∷ []
event_fields (event.Lost osc peer) = decimal osc ∷ decimal peer ∷ []
event_fields (event.Unsent osc peer) = decimal osc ∷ decimal peer ∷ []
event_fields (event.Read osc) = decimal osc ∷ []
event_fields (event.Ask osc conn bytes) = decimal osc ∷ decimal conn ∷ hex_or_dash bytes ∷ []
event_fields (event.Query osc tag) = decimal osc ∷ decimal tag ∷ []
event_fields (event.Source osc tag interval) = decimal osc ∷ decimal tag ∷ interval_fields interval
event_fields (event.Adopt osc required) = decimal osc ∷ decimal required ∷ []

-- the fields of a line: none where it says nothing
abbrev pub line_fields : Line → List (List ℕ)
line_fields line.Blank = []
line_fields (line.Start osc value first) = codes "start" ∷ decimal osc ∷ signed_decimal value ∷ first_fields first
line_fields (line.Event None e) = event_word e ∷ event_fields e
line_fields (line.Event (Some k) e) = codes "at" ∷ decimal k ∷ event_word e ∷ event_fields e

-- the text of a line; nothing prints as an empty line
abbrev pub line_text : Line → List ℕ
line_text l = text_of (line_fields l)
