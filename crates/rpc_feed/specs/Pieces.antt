-- The PDUs of a stream of octets: fragments one behind the other, each as long as its header says (C706, chapter 12).
use Rattle.std.specs.Prelude.{ℕ, zero, suc, nat_lt, if◌then◌else◌, List, [], ◌∷◌, length, take, drop, slice_index, Result, Ok, Err}
use Rattle.std.specs.Option.{unwrap_or}
use Rattle.dts_base.specs.declared.wire.Refused.{Refused}
use Rattle.ndr.specs.declared.endian.Endian.TheVariants.{Big}
use Rattle.ndr.specs.Numbers.{number_in}
use Rattle.pdu_fields.specs.declared.header.TheConstants.{HEADER_LENGTH}
use Rattle.pdu_fields.specs.declared.pdu.Pdu.{Pdu}
use Rattle.pdu_fields.specs.declared.pdu.Body.TheVariants as body
use Rattle.pdu_fields.specs.Tables.{Table, reading}
use Rattle.pdu_fields.specs.Headers.{any, header, order_at}
use Rattle.pdu_fields.specs.Bodies.{ends}
use Rattle.pdu_fields.specs.Grammar.{table_of}

-- what stands at the front of a stream
pub data Front : Type 0 where
  -- no whole header, or a right header whose fragment is not whole
  partial : Front
  -- a fragment that spells this, and the octets behind it
  whole : Pdu → List ℕ → Front
  -- a field of the header or of a whole fragment that is not right
  wrong : Refused → Front

-- a header alone, whatever kind and length it names
abbrev pub header_table : Table
header_table = header any (λ h. ends h body.Shutdown)

-- the offsets of the byte order and of the fragment's length in a header
abbrev pub order_offset : ℕ
order_offset = 4

abbrev pub length_offset : ℕ
length_offset = 8

-- the length that a header names, a number of two octets in its byte order
abbrev pub length_in : List ℕ → ℕ
length_in head = number_in (unwrap_or (order_at (slice_index head order_offset)) Big) 2 (drop length_offset head)

-- what a whole fragment is read as, and the octets behind it
abbrev pub fragment : Result Pdu Refused → List ℕ → Front
fragment (Ok v) behind = whole v behind
fragment (Err refused) behind = wrong refused

-- the front of octets whose first fragment has this length
abbrev pub front_of : ℕ → List ℕ → Front
front_of size b =
    if nat_lt (length b) size then partial
    else let first = take size b in fragment (reading (table_of (length first)) 0 first) (drop size b)

-- the front of octets that begin with this header, which was read so
abbrev pub behind_header : Result Pdu Refused → List ℕ → List ℕ → Front
behind_header (Ok right) head b = front_of (length_in head) b
behind_header (Err refused) head b = wrong refused

abbrev pub front : List ℕ → Front
front b =
    if nat_lt (length b) HEADER_LENGTH then partial
    else let head = take HEADER_LENGTH b in behind_header (reading header_table 0 head) head b

-- the PDUs of a stream, and then the octets that are no whole fragment, or the refusal of the first wrong fragment
pub record Pieces : Type 0 where
  pub pdus : List Pdu
  pub left : Result (List ℕ) Refused

-- the pieces of octets with this front
abbrev pub beginning : Front → List ℕ → (List ℕ → Pieces) → Pieces
beginning partial b more = record { pdus = []; left = Ok b }
beginning (whole v behind) b more = record { pdus = v ∷ (more behind).pdus; left = (more behind).left }
beginning (wrong refused) b more = record { pdus = []; left = Err refused }

-- the pieces up to so many PDUs
abbrev pub pieces_within : ℕ → List ℕ → Pieces
pieces_within zero b = record { pdus = []; left = Ok b }
pieces_within (suc most) b = beginning (front b) b (pieces_within most)

-- all pieces: there are no more PDUs than octets
abbrev pub pieces : List ℕ → Pieces
pieces b = pieces_within (length b) b
