-- What a reader gives of a stub, and what it refuses. Our own choice.
use Rattle.std.specs.Prelude.{◌≡◌, ℕ, ◌+◌, ◌-◌, ◌^◌, Bool, ◌&&◌, nat_le, min, if◌then◌else◌, List, length, take, drop, Result, Ok, Err}
use Rattle.std.specs.Borrow.{Bor}
use Rattle.std.specs.Int.{next_multiple_of}
use Rattle.dts_base.specs.declared.wire.Field.{Field}
use Rattle.dts_base.specs.declared.wire.Field.TheVariants as field
use Rattle.dts_base.specs.declared.wire.WireCause.{WireCause}
use Rattle.dts_base.specs.declared.wire.WireCause.TheVariants as cause
use Rattle.dts_base.specs.declared.wire.Refused.{Refused}
use Rattle.ndr.specs.declared.endian.Endian.{Endian}
use Rattle.ndr.specs.declared.endian.TheConstants.{MAX_STRING}
use Rattle.ndr.specs.Numbers.{number_in}
use Rattle.ndr.specs.Strings.{is_terminated}

-- a stub, its byte order, and how many of its octets were read
pub record Cursor : Type 0 where
  pub endian : Endian
  pub stub : List ℕ
  pub at : ℕ

-- a refused field at a place, which is given up to the last number of its type
abbrev pub refusal : Field → ℕ → WireCause → Refused
refusal f place why = record { field = f; offset = min place (2 ^ 32 - 1); cause = why }

-- the octets that stand next
abbrev pub read_octets : Field → ℕ → Cursor → Result (List ℕ × Cursor) Refused
read_octets f count c =
    if nat_le (c.at + count) (length c.stub)
    then Ok (take count (drop c.at c.stub), record c { at = c.at + count })
    else Err (refusal f c.at cause.Short)

-- the number behind the gap that stands next
abbrev pub read_number : Field → ℕ → Cursor → Result (ℕ × Cursor) Refused
read_number f size c =
    let place = next_multiple_of c.at size in
    if nat_le (place + size) (length c.stub)
    then Ok (number_in c.endian size (drop place c.stub), record c { at = place + size })
    else Err (refusal f place cause.Short)

-- what follows a value, or the refusal in its place
abbrev pub after : {A B : Type 0} → Result A Refused → (A → Result B Refused) → Result B Refused
after (Ok value) next = next value
after (Err refused) next = Err refused

-- a value that is right, or the refusal of its field at a place
abbrev pub checked : {A : Type 0} → Bool → Field → ℕ → A → Result A Refused
checked right f place value = if right then Ok value else Err (refusal f place cause.Value)

-- a number of four octets from the least to the most
abbrev pub read_count : Field → ℕ → ℕ → Cursor → Result (ℕ × Cursor) Refused
read_count f least most c =
    after (read_number f 4 c) (λ r. checked (nat_le least r.0 && nat_le r.0 most) f (next_multiple_of c.at 4) r)

-- the octets of a string, of which there are so many, without the last 0
abbrev pub read_text : ℕ → Cursor → Result (List ℕ × Cursor) Refused
read_text count c =
    after (read_octets field.StringOctets count c)
    (λ r. checked (is_terminated count r.0) field.StringOctets c.at (take (count - 1) r.0, r.1))

-- the string that stands next, without its last 0
abbrev pub read_string : Cursor → Result (List ℕ × Cursor) Refused
read_string c =
    after (read_count field.MaxCount 1 (2 ^ 32 - 1) c)
    (λ most. after (read_count field.StringOffset 0 0 most.1)
    (λ offset. after (read_count field.ActualCount 1 (min most.0 MAX_STRING) offset.1)
    (λ count. read_text count.0 count.1)))

-- the value and the place behind it, or the refusal and the same place
abbrev pub Reads : {A : Type 0} → Cursor → Cursor → Result A Refused → Result (A × Cursor) Refused → Type 0
Reads old new (Ok value) outcome = outcome ≡ Ok (value, new)
Reads old new (Err refused) outcome = (outcome ≡ Err refused) × (new ≡ old)

-- the same for octets that are lent
abbrev pub Lends : Cursor → Cursor → Result (Bor (List ℕ)) Refused → Result (List ℕ × Cursor) Refused → Type 0
Lends old new (Ok lent) outcome = outcome ≡ Ok (lent.now, new)
Lends old new (Err refused) outcome = (outcome ≡ Err refused) × (new ≡ old)

-- a stub ends where nothing is left
abbrev pub finish : Cursor → Result Unit Refused
finish c = if nat_le (length c.stub) c.at then Ok tt else Err (refusal field.Tail c.at cause.Extra)
