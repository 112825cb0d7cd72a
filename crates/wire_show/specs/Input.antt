-- The octets that an input spells: one line of hex digits, two an octet, in either case, with or without a line feed. Our own choice.
use Rattle.std.specs.Prelude.{ℕ, ◌+◌, ◌*◌, ◌&&◌, ◌==◌, nat_lt, if◌then◌else◌, List, [], ◌∷◌, Option, Some, None, Result, Ok, Err}
use Rattle.hex.specs.Hex.{hex_digit_value, is_hex_digit}
use Rattle.dts_base.specs.declared.wire.Field.TheVariants as field
use Rattle.dts_base.specs.declared.wire.WireCause.TheVariants as cause
use Rattle.dts_base.specs.declared.wire.Refused.{Refused}
use Rattle.ndr.specs.Reading.{refusal, after}
use Rattle.pdu_fields.specs.declared.header.TheConstants.{MAX_FRAGMENT}

-- the octet of two digits
abbrev pub octet_of_values : Option ℕ → Option ℕ → Option ℕ
octet_of_values (Some high) (Some low) = Some (high * 16 + low)
octet_of_values (Some high) None = None
octet_of_values None low = None

abbrev pub octet_of : ℕ → ℕ → Option ℕ
octet_of high low = octet_of_values (hex_digit_value high) (hex_digit_value low)

-- the refusal of what begins with this octet behind so many right pairs: a further digit behind as many as there may be is
-- too long, and all else is no pair of digits
abbrev pub refused_at : ℕ → ℕ → Refused
refused_at at first = refusal field.Input at (if at == MAX_FRAGMENT && is_hex_digit first then cause.Long else cause.Value)

-- the octet of a pair, which is right behind fewer pairs than there may be
abbrev pub pair_at : ℕ → ℕ → ℕ → Option ℕ
pair_at at high low = if nat_lt at MAX_FRAGMENT then octet_of high low else None

-- an octet and those behind it, or the refusal
abbrev pub with_octet : Option ℕ → Result (List ℕ) Refused → Refused → Result (List ℕ) Refused
with_octet (Some octet) others wrong = after others (λ octets. Ok (octet ∷ octets))
with_octet None others wrong = Err wrong

-- the octets that the text behind so many pairs spells, or the first pair of it that is not right
unfoldable pub octets_from : ℕ → List ℕ → Result (List ℕ) Refused
octets_from at [] = Ok []
octets_from at (last ∷ []) = if last == 10 then Ok [] else Err (refused_at at last)
octets_from at (high ∷ low ∷ rest) = with_octet (pair_at at high low) (octets_from (at + 1) rest) (refused_at at high)

abbrev pub octets_in : List ℕ → Result (List ℕ) Refused
octets_in input = octets_from 0 input
