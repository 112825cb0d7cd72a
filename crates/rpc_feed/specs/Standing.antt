-- What private calls find at the front of a stream. No public clause cites this file.
use Rattle.std.specs.Prelude.{◌≡◌, ℕ, ◌≤◌, List, length, drop, Option, Some, None, Result, Ok, Err}
use Rattle.dts_base.specs.declared.wire.Refused.{Refused}
use Rattle.ndr.specs.declared.fault.DecodeFault.{DecodeFault}
use Rattle.ndr.specs.declared.fault.DecodeFault.TheVariants as fault
use Rattle.pdu_fields.specs.declared.pdu.Pdu.{Pdu}
use Rattle.pdu_fields.specs.Tables.{reading}
use Rattle.rpc_feed.specs.Pieces.{partial, whole, wrong, front, header_table, length_in}

-- a feed with this refusal, if any, and these octets
abbrev pub feed_of : Option Refused → List ℕ → Result (List ℕ) Refused
feed_of None b = Ok b
feed_of (Some refused) b = Err refused

-- a header is right and names this length, or a field of it is wrong
abbrev pub Names : List ℕ → Result ℕ DecodeFault → Type 0
Names head (Ok size) = (size ≡ length_in head) × ((right : Pdu) × (reading header_table 0 head ≡ Ok right))
Names head (Err (fault.Wrong refused)) = reading header_table 0 head ≡ Err refused
Names head (Err fault.NoMemory) = Unit {0}

-- no PDU, or a PDU whose fragment has so many octets, or a wrong field
abbrev pub Stands : List ℕ → Result (Option (Pdu × ℕ)) DecodeFault → Type 0
Stands b (Ok None) = front b ≡ partial
Stands b (Ok (Some p)) = (p.1 ≤ length b) × (front b ≡ whole p.0 (drop p.1 b))
Stands b (Err (fault.Wrong refused)) = front b ≡ wrong refused
Stands b (Err fault.NoMemory) = Unit {0}
