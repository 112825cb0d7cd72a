-- The fragments of a message (C706, chapter 12): a request or a response whose stub is cut at the greatest fragment that the peer takes.
use Rattle.std.specs.Prelude.{ℕ, Bool, true, false, not, ◌==◌, if◌then◌else◌, ◌+◌, ◌-◌, ◌/◌, ◌^◌, min, max, zero, suc, List, [], ◌∷◌, length, take, drop, None, bit_and}
use Rattle.pdu_fields.specs.declared.pdu.Pdu.{Pdu}
use Rattle.pdu_fields.specs.declared.pdu.Body.{Body}
use Rattle.pdu_fields.specs.declared.pdu.Body.TheVariants as body
use Rattle.rpc_session.specs.declared.fragments.TheConstants.{FIRST_FRAGMENT, LAST_FRAGMENT, GREATEST_FRAGMENT, LEAST_RECEIVE, STUB_OFFSET, MINOR}
use Rattle.rpc_session.specs.declared.fragments.Direction.{Direction}
use Rattle.rpc_session.specs.declared.fragments.Direction.TheVariants as direction
use Rattle.rpc_session.specs.declared.fragments.Message.{Message}

-- whether a flag is set
abbrev pub has_flag : ℕ → ℕ → Bool
has_flag flags flag = not (bit_and flags flag == 0)

-- the greatest fragment that is sent to a peer that takes so many octets at once
abbrev pub fragment_limit : ℕ → ℕ
fragment_limit max_recv = min (max max_recv LEAST_RECEIVE) GREATEST_FRAGMENT

-- a count of octets as a refusal tells it
abbrev pub octets_past : ℕ → ℕ
octets_past count = min count (2 ^ 32 - 1)

-- the flags of a fragment, which is the first or the last or neither
abbrev pub flags_of : Bool → Bool → ℕ
flags_of first last = (if first then FIRST_FRAGMENT else 0) + (if last then LAST_FRAGMENT else 0)

-- a fragment of a message with these flags, the octets of the stub from it on as its hint, and its own octets
abbrev pub body_of : Message → Direction → ℕ → List ℕ → Body
body_of m (direction.Request opnum) hint stub = body.Request hint m.context opnum None stub
body_of m direction.Response hint stub = body.Response hint m.context 0 stub

abbrev pub fragment : Message → ℕ → ℕ → List ℕ → Pdu
fragment m flags hint stub = record
    { call_id = m.call_id; flags = flags; minor = MINOR; endian = m.endian; body = body_of m m.direction hint stub }

-- the fragments of what is left of a message: so many that take this size of the stub each, and then the last one
abbrev pub fragments : Message → ℕ → Bool → ℕ → List ℕ → List Pdu
fragments m size first zero stub = fragment m (flags_of first true) (length stub) stub ∷ []
fragments m size first (suc full) stub = fragment m (flags_of first false) (length stub) (take size stub) ∷ fragments m size false
    full (drop size stub)

-- the octets of the stub that a fragment has at most
abbrev pub stub_room : ℕ → ℕ
stub_room limit = limit - STUB_OFFSET

-- how many fragments come before the last one, which has an octet at least where the stub has
abbrev pub full_fragments : ℕ → List ℕ → ℕ
full_fragments size stub = (length stub - 1) / size

-- all fragments of a message to a peer that takes fragments of this limit
abbrev pub message : Message → ℕ → List ℕ → List Pdu
message m limit stub = fragments m (stub_room limit) true (full_fragments (stub_room limit) stub) stub
