-- What a feed answers along a list of calls, however the stream was cut. Laws alone cite this file.
use Rattle.std.specs.Prelude.{ℕ, Bool, true, false, List, [], ◌∷◌, ◌++◌, map, Result, Ok, Err}
use Rattle.dts_base.specs.declared.wire.Refused.{Refused}
use Rattle.pdu_fields.specs.declared.pdu.Pdu.{Pdu}
use Rattle.rpc_feed.specs.Pieces.{Front, partial, whole, wrong, front, pieces}
use Rattle.rpc_feed.specs.Feeding.{fed, after_next}

-- a call: a piece is fed, or the next answer is asked for; and whether there was memory for it
pub data Call : Type 0 where
  feeds : List ℕ → Bool → Call
  asks : Bool → Call

-- the octets of all pieces that were taken, one behind the other
abbrev pub joined : List Call → List ℕ
joined [] = []
joined (feeds piece true ∷ calls) = piece ++ joined calls
joined (feeds piece false ∷ calls) = joined calls
joined (asks memory ∷ calls) = joined calls

-- the feed behind these calls
abbrev pub feed_after : Result (List ℕ) Refused → List Call → Result (List ℕ) Refused
feed_after feed [] = feed
feed_after feed (feeds piece true ∷ calls) = feed_after (fed feed piece) calls
feed_after feed (feeds piece false ∷ calls) = feed_after feed calls
feed_after feed (asks true ∷ calls) = feed_after (after_next feed) calls
feed_after feed (asks false ∷ calls) = feed_after feed calls

-- what a live feed answers first, where it is not None
abbrev pub new_answers : Front → List (Result Pdu Refused)
new_answers partial = []
new_answers (whole v behind) = Ok v ∷ []
new_answers (wrong refused) = Err refused ∷ []

-- a dead feed only repeats its refusal
abbrev pub next_answers : Result (List ℕ) Refused → List (Result Pdu Refused)
next_answers (Ok b) = new_answers (front b)
next_answers (Err refused) = []

-- the answers of a feed to these calls, without None, want of memory and repeats of a refusal
abbrev pub answers : Result (List ℕ) Refused → List Call → List (Result Pdu Refused)
answers feed [] = []
answers feed (feeds piece true ∷ calls) = answers (fed feed piece) calls
answers feed (feeds piece false ∷ calls) = answers feed calls
answers feed (asks true ∷ calls) = next_answers feed ++ answers (after_next feed) calls
answers feed (asks false ∷ calls) = answers feed calls

-- the refusal that ends a list of pieces, if one does
abbrev pub refusal_in : Result (List ℕ) Refused → List (Result Pdu Refused)
refusal_in (Ok b) = []
refusal_in (Err refused) = Err refused ∷ []

-- the PDUs of a stream, and then its refusal
abbrev pub all_answers : List ℕ → List (Result Pdu Refused)
all_answers b = map Ok (pieces b).pdus ++ refusal_in (pieces b).left

-- what a feed can still answer
abbrev pub answers_left : Result (List ℕ) Refused → List (Result Pdu Refused)
answers_left (Ok b) = all_answers b
answers_left (Err refused) = []
