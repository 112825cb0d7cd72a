-- A feed is the octets that were fed and not yet given, or the refusal that it is dead of.
use Rattle.std.specs.Prelude.{◌≡◌, ◌⊎◌, ℕ, List, ◌++◌, Option, Some, None, Result, Ok, Err}
use Rattle.dts_base.specs.declared.wire.Refused.{Refused}
use Rattle.ndr.specs.declared.fault.DecodeFault.{DecodeFault}
use Rattle.ndr.specs.declared.fault.DecodeFault.TheVariants as fault
use Rattle.pdu_fields.specs.declared.pdu.Pdu.{Pdu}
use Rattle.rpc_feed.specs.Pieces.{Front, partial, whole, wrong, front}

-- a feed that a piece was fed to: a dead one takes no octets
abbrev pub fed : Result (List ℕ) Refused → List ℕ → Result (List ℕ) Refused
fed (Ok b) piece = Ok (b ++ piece)
fed (Err refused) piece = Err refused

-- what a front is answered with
abbrev pub answer_of : Front → Option (Result Pdu DecodeFault)
answer_of partial = None
answer_of (whole v behind) = Some (Ok v)
answer_of (wrong refused) = Some (Err (fault.Wrong refused))

-- the feed that these octets leave behind their front
abbrev pub left_of : Front → List ℕ → Result (List ℕ) Refused
left_of partial b = Ok b
left_of (whole v behind) b = Ok behind
left_of (wrong refused) b = Err refused

-- the next answer of a feed, which a dead one repeats, and the feed that it leaves
abbrev pub next_of : Result (List ℕ) Refused → Option (Result Pdu DecodeFault)
next_of (Ok b) = answer_of (front b)
next_of (Err refused) = Some (Err (fault.Wrong refused))

abbrev pub after_next : Result (List ℕ) Refused → Result (List ℕ) Refused
after_next (Ok b) = left_of (front b) b
after_next (Err refused) = Err refused

-- the next answer is given, or memory was missing and the feed stays as it was
abbrev pub Gives : Result (List ℕ) Refused → Result (List ℕ) Refused → Option (Result Pdu DecodeFault) → Type 0
Gives old new answer = ((answer ≡ next_of old) × (new ≡ after_next old)) ⊎ ((answer ≡ Some (Err fault.NoMemory)) × (new ≡ old))
