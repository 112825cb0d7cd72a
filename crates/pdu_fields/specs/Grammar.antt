-- What the octets of a PDU spell, and the first field of them that is short or not right.
use Rattle.std.specs.Prelude.{◌≡◌, ℕ, List, length, Ok, Err}
use Rattle.dts_base.specs.declared.wire.Refused.{Refused}
use Rattle.ndr.specs.declared.fault.DecodeFault.{DecodeFault}
use Rattle.ndr.specs.declared.fault.DecodeFault.TheVariants as fault
use Rattle.pdu_fields.specs.declared.pdu.Pdu.{Pdu}
use Rattle.pdu_fields.specs.Tables.{Table, reading}
use Rattle.pdu_fields.specs.Headers.{header, exactly}
use Rattle.pdu_fields.specs.Bodies.{body_of}

-- the table of a PDU of so many octets, which are one fragment: the header and then the table of its kind
abbrev pub table_of : ℕ → Table
table_of size = header (exactly size) (λ h. body_of h.ptype h)

-- every field of the octets is whole and right, and they spell this
abbrev pub Spells : Pdu → List ℕ → Type 0
Spells v b = reading (table_of (length b)) 0 b ≡ Ok v

-- the first field that is short or not right
abbrev pub FirstWrong : List ℕ → Refused → Type 0
FirstWrong b refused = reading (table_of (length b)) 0 b ≡ Err refused

-- what is told of octets that spell nothing: their first wrong field, or that memory was missing
abbrev pub IsFaultOf : List ℕ → DecodeFault → Type 0
IsFaultOf b (fault.Wrong refused) = FirstWrong b refused
IsFaultOf b fault.NoMemory = Unit {0}
