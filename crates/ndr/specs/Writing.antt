-- What a writer appends, and what it refuses. Our own choice.
use Rattle.std.specs.Prelude.{◌≡◌, ℕ, ◌-◌, ◌^◌, ◌<◌, ◌≤◌, min, false, true, List, ◌++◌, length, Result, Ok, Err}
use Rattle.ndr.specs.declared.endian.Endian.{Endian}
use Rattle.ndr.specs.declared.fault.WriteFault.{WriteFault}
use Rattle.ndr.specs.declared.fault.WriteFault.TheVariants as fault
use Rattle.ndr.specs.declared.endian.TheConstants.{MAX_STUB}
use Rattle.ndr.specs.Strings.{is_text}

-- the octets that were written, and their byte order
pub record Draft : Type 0 where
  pub endian : Endian
  pub octets : List ℕ

-- the piece was appended, or it was too long, or there was no memory
abbrev pub Appends : List ℕ → Draft → Draft → Result Unit WriteFault → Type 0
Appends piece old new (Ok done) = (new ≡ record old { octets = old.octets ++ piece }) × (length (old.octets ++ piece) ≤ MAX_STUB)
Appends piece old new (Err (fault.TooLong have)) =
    (new ≡ old) × (MAX_STUB < length (old.octets ++ piece)) × (have ≡ min (length (old.octets ++ piece)) (2 ^ 32 - 1))
Appends piece old new (Err fault.StringValue) = ⊥
Appends piece old new (Err fault.NoMemory) = new ≡ old

-- the same for a text, which is tested first
abbrev pub AppendsText : List ℕ → List ℕ → Draft → Draft → Result Unit WriteFault → Type 0
AppendsText text piece old new (Ok done) = (is_text text ≡ true) × Appends piece old new (Ok done)
AppendsText text piece old new (Err (fault.TooLong have)) = (is_text text ≡ true) × Appends piece old new (Err (fault.TooLong have))
AppendsText text piece old new (Err fault.StringValue) = (new ≡ old) × (is_text text ≡ false)
AppendsText text piece old new (Err fault.NoMemory) = new ≡ old
