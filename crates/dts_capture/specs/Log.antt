-- The lines of a log as octets, with their line feeds.
use Rattle.std.specs.Prelude.{ℕ, List, [], ◌∷◌, ◌++◌, Option, Some, None, codes, decimal}
use Rattle.std.specs.Fmt.{signed_decimal}
use Rattle.std.specs.Int.{to_be_bytes, w32}
use Rattle.hex.specs.Hex.{encode_lower}
use Rattle.dts_base.specs.Names.{field_name, cause_name, state_name}
use Rattle.slew_clock.specs.declared.record.Anchor.{Anchor}
use Rattle.slew_clock.specs.declared.record.PartA.{PartA}
use Rattle.slew_clock.specs.declared.record.PartB.{PartB}
use Rattle.slew_clock.specs.declared.record.ClockRecord.{ClockRecord}
use Rattle.dts_capture.specs.declared.action.Action.{Action}
use Rattle.dts_capture.specs.declared.action.Action.TheVariants as action
use Rattle.dts_capture.specs.declared.action.FalseSource.{FalseSource}
use Rattle.dts_capture.specs.declared.action.FalseSource.TheVariants as source
use Rattle.dts_capture.specs.declared.action.NoteKind.{NoteKind}
use Rattle.dts_capture.specs.declared.action.NoteKind.TheVariants as kind
use Rattle.line_reader.specs.Fields.{text_of}
use Rattle.dts_capture.specs.Grammar.{most_tags}

-- a number in decimal, or '-' where there is none
abbrev pub number_or_dash : Option ℕ → List ℕ
number_or_dash None = codes "-"
number_or_dash (Some n) = decimal n

-- octets in hex, or '-' where there are none
abbrev pub hex_or_dash : List ℕ → List ℕ
hex_or_dash [] = codes "-"
hex_or_dash (octet ∷ octets) = encode_lower (octet ∷ octets)

-- when the anchor was adopted and its ends, or three dashes where there is none
abbrev pub anchor_fields : Option Anchor → List (List ℕ)
anchor_fields None = codes "-" ∷ codes "-" ∷ codes "-" ∷ []
anchor_fields (Some anchor) = decimal anchor.osc ∷ signed_decimal anchor.lo ∷ signed_decimal anchor.hi ∷ []

-- where each part of the clock's line begins and how far it slews, the first with its value
abbrev pub parts_fields : PartA → PartB → List (List ℕ)
parts_fields a b = decimal a.from ∷ signed_decimal a.value ∷ signed_decimal a.x ∷ decimal b.from ∷ signed_decimal b.x ∷ []

-- a record's number, its step number and where it was born, then the anchor and the line
abbrev pub record_fields : ClockRecord → List (List ℕ)
record_fields r = codes "record" ∷ decimal r.number ∷ decimal r.step ∷ decimal r.born ∷ anchor_fields r.anchor ++ parts_fields r.a r.b

abbrev pub source_field : FalseSource → List ℕ
source_field (source.Peer n) = decimal n
source_field (source.Tag n) = decimal n
source_field source.Own = codes "own"

-- the text of a note that has no line of its own
abbrev pub note_words : NoteKind → List (List ℕ)
note_words (kind.Refused refused) = codes "refused" ∷ field_name refused.field ∷ decimal refused.offset ∷ cause_name refused.cause ∷ []
note_words (kind.UnknownCall call_id) = codes "unknown_call" ∷ decimal call_id ∷ []
note_words (kind.Unexpected ptype state) = codes "unexpected" ∷ decimal ptype ∷ state_name state ∷ []
note_words (kind.Fragments have limit) = codes "fragments" ∷ decimal have ∷ decimal limit ∷ []
note_words (kind.Rejected result reason) = codes "rejected" ∷ decimal result ∷ decimal reason ∷ []
note_words (kind.Nak reason) = codes "nak" ∷ decimal reason ∷ []
note_words (kind.Fault status) = codes "fault" ∷ decimal status ∷ []
note_words kind.Shutdown = codes "shutdown" ∷ []
note_words kind.CallsSpent = codes "calls_spent" ∷ []
note_words kind.Stray = codes "stray" ∷ []
note_words kind.Lost = codes "lost" ∷ []
note_words kind.Unsent = codes "unsent" ∷ []
note_words kind.Busy = codes "busy" ∷ []
note_words (kind.Regressed floor) = codes "regressed" ∷ decimal floor ∷ []
note_words (kind.Epoch own theirs) = codes "epoch" ∷ decimal own ∷ decimal theirs ∷ []
note_words (kind.UnusedStatus status) = codes "unused" ∷ codes "status" ∷ decimal status ∷ []
note_words kind.UnusedKind = codes "unused" ∷ codes "kind" ∷ []
note_words kind.UnusedUnspecified = codes "unused" ∷ codes "unspecified" ∷ []
note_words kind.UnusedRange = codes "unused" ∷ codes "range" ∷ []
note_words kind.NoQuery = codes "no_query" ∷ []
note_words (kind.Mode found) = codes "mode" ∷ decimal found ∷ []
note_words (kind.Kiss code) = codes "kiss" ∷ encode_lower (to_be_bytes w32 code) ∷ []
note_words (kind.Stratum found) = codes "stratum" ∷ decimal found ∷ []
note_words kind.Unsynchronised = codes "unsynchronised" ∷ []
note_words kind.Origin = codes "origin" ∷ []
note_words kind.ZeroStamp = codes "zero_stamp" ∷ []
note_words kind.Order = codes "order" ∷ []
note_words kind.Distance = codes "distance" ∷ []
note_words (kind.RepeatedTag tag) = codes "repeated_tag" ∷ decimal tag ∷ []
note_words (kind.UnknownTag tag) = codes "unknown_tag" ∷ decimal tag ∷ []
note_words kind.TagsFull = codes "tags_full" ∷ decimal most_tags ∷ []
note_words _ = []

-- the fields of a note at this oscillator reading, of the peer
abbrev pub note_fields : ℕ → Option ℕ → NoteKind → List (List ℕ)
note_fields osc peer (kind.Reading value inaccuracy step number) =
    codes "reading" ∷ decimal osc ∷ signed_decimal value ∷ number_or_dash inaccuracy ∷ decimal step ∷ decimal number ∷ []
note_fields osc peer (kind.Round number sources) = codes "round" ∷ decimal osc ∷ decimal number ∷ decimal sources ∷ []
note_fields osc peer (kind.Adopted n lo hi) = codes "adopted" ∷ decimal osc ∷ decimal n ∷ signed_decimal lo ∷ signed_decimal hi ∷ []
note_fields osc peer (kind.False which) = codes "false" ∷ decimal osc ∷ source_field which ∷ []
note_fields osc peer (kind.Step step old new) = codes "step" ∷ decimal osc ∷ decimal step ∷ signed_decimal old ∷ signed_decimal new ∷ []
note_fields osc peer (kind.Short answered required) = codes "short" ∷ decimal osc ∷ decimal answered ∷ decimal required ∷ []
note_fields osc peer (kind.Split n) = codes "split" ∷ decimal osc ∷ decimal n ∷ []
note_fields osc peer other = codes "note" ∷ decimal osc ∷ number_or_dash peer ∷ note_words other

-- the fields of an action's line
abbrev pub action_fields : Action → List (List ℕ)
action_fields (action.Send osc peer bytes) = codes "send" ∷ decimal osc ∷ decimal peer ∷ hex_or_dash bytes ∷ []
action_fields (action.Close osc peer) = codes "close" ∷ decimal osc ∷ decimal peer ∷ []
action_fields (action.Publish r) = record_fields r
action_fields (action.Log note) = note_fields note.osc note.peer note.kind

-- the line of an action, and its line feed
abbrev pub log_text : Action → List ℕ
log_text a = text_of (action_fields a) ++ 10 ∷ []
