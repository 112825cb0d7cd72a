-- What a stub spells, what it is refused for, and the spelling that is written. Our own choice.
use Rattle.std.specs.Prelude.{◌≡◌, ℕ, Bool, true, false, List, Result, Ok, Err}
use Rattle.dts_base.specs.declared.wire.Refused.{Refused}
use Rattle.ndr.specs.declared.endian.Endian.{Endian}
use Rattle.ndr.specs.declared.fault.DecodeFault.{DecodeFault}
use Rattle.ndr.specs.declared.fault.DecodeFault.TheVariants as unread
use Rattle.ndr.specs.declared.fault.WriteFault.{WriteFault}
use Rattle.ndr.specs.declared.fault.WriteFault.TheVariants as unwritten
use Rattle.ndr.specs.Stubs.{read_stub, stub_octets}
use Rattle.time_wire.specs.Layouts.{Layout}

-- every field of the octets is whole and right, nothing is left, and they are the values of the message
abbrev pub Spells : {M : Type 0} → Layout M → Endian → List ℕ → M → Type 0
Spells layout e stub m = read_stub layout.fields e stub ≡ Ok (layout.values m)

-- the first field of the octets that is not whole or not right, or an octet that is left
abbrev pub FirstWrong : {M : Type 0} → Layout M → Endian → List ℕ → Refused → Type 0
FirstWrong layout e stub refused = read_stub layout.fields e stub ≡ Err refused

-- the message that octets spell, or the refusal of their first wrong field
abbrev pub Reads : {M : Type 0} → Layout M → Endian → List ℕ → Result M Refused → Type 0
Reads layout e stub (Ok m) = Spells layout e stub m
Reads layout e stub (Err refused) = FirstWrong layout e stub refused

-- octets are decoded as the message that they spell, or refused at their first wrong field; without memory, they spell some message
abbrev pub Decodes : {M : Type 0} → Layout M → Endian → List ℕ → Result M DecodeFault → Type 0
Decodes layout e stub (Ok m) = Spells layout e stub m
Decodes layout e stub (Err (unread.Wrong refused)) = FirstWrong layout e stub refused
Decodes {M = M} layout e stub (Err unread.NoMemory) = (m : M) × Spells layout e stub m

-- the canonical spelling of a message: gaps are 0, and the greatest count of a string is its count
abbrev pub spelling : {M : Type 0} → Layout M → Endian → M → List ℕ
spelling layout e m = stub_octets e 0 layout.fields (layout.values m)

-- the spelling is written, unless a text is no string or there is no memory; it is never too long
abbrev pub Writes : Bool → List ℕ → Result (List ℕ) WriteFault → Type 0
Writes is_string spelled (Ok written) = (is_string ≡ true) × (written ≡ spelled)
Writes is_string spelled (Err unwritten.StringValue) = is_string ≡ false
Writes is_string spelled (Err (unwritten.TooLong have)) = ⊥
Writes is_string spelled (Err unwritten.NoMemory) = Unit {0}
