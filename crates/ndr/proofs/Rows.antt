-- Rows of the definitions, by computation.
use Rattle.std.proofs.Common.{◌≡◌, true, List, [], ◌∷◌, Ok, Err, refl}
use Rattle.std.specs.Prelude.{codes}
use Rattle.dts_base.specs.declared.wire.Field.TheVariants as field
use Rattle.dts_base.specs.declared.wire.WireCause.TheVariants as cause
use Rattle.ndr.specs.declared.endian.Endian.TheVariants.{Big, Little}
use Rattle.ndr.specs.Stubs.{Entry, number, string, a_number, some_octets, read_stub, stub_octets}

-- an epoch of one octet, and a status of four behind its gap
abbrev epoch_and_status : List Entry
epoch_and_status =
    record { field = field.Epoch; shape = number 1; right = λ _. true }
    ∷ record { field = field.Status; shape = number 4; right = λ _. true }
    ∷ []

both_are_read : read_stub epoch_and_status Little (5 ∷ 0 ∷ 0 ∷ 0 ∷ 2 ∷ 0 ∷ 0 ∷ 0 ∷ []) ≡ Ok (a_number 5 ∷ a_number 2 ∷ [])
both_are_read = refl

the_high_octet_first : read_stub epoch_and_status Big (5 ∷ 1 ∷ 2 ∷ 3 ∷ 0 ∷ 0 ∷ 1 ∷ 2 ∷ []) ≡ Ok (a_number 5 ∷ a_number 258 ∷ [])
the_high_octet_first = refl

the_status_is_short : read_stub epoch_and_status Little (5 ∷ 0 ∷ 0 ∷ 0 ∷ 2 ∷ []) ≡ Err (record { field = field.Status; offset = 4; cause = cause.Short })
the_status_is_short = refl

its_gap_is_short : read_stub epoch_and_status Little (5 ∷ 0 ∷ 0 ∷ []) ≡ Err (record { field = field.Status; offset = 4; cause = cause.Short })
its_gap_is_short = refl

an_octet_is_left : read_stub epoch_and_status Little (5 ∷ 0 ∷ 0 ∷ 0 ∷ 2 ∷ 0 ∷ 0 ∷ 0 ∷ 9 ∷ []) ≡ Err (record { field = field.Tail; offset = 8; cause = cause.Extra })
an_octet_is_left = refl

-- the name of a node behind an octet
abbrev number_and_name : List Entry
number_and_name =
    record { field = field.Epoch; shape = number 1; right = λ _. true }
    ∷ record { field = field.Number; shape = string; right = λ _. true }
    ∷ []

a_string_is_written : stub_octets Little 0 number_and_name (a_number 1 ∷ some_octets (codes "s") ∷ []) ≡ 1 ∷ 0 ∷ 0 ∷ 0 ∷ 2 ∷ 0 ∷ 0 ∷ 0 ∷ 0 ∷ 0 ∷ 0 ∷ 0 ∷ 2 ∷ 0 ∷ 0 ∷ 0 ∷ 115 ∷ 0 ∷ []
a_string_is_written = refl

a_greater_count_is_read : read_stub number_and_name Big (1 ∷ 7 ∷ 7 ∷ 7 ∷ 255 ∷ 255 ∷ 255 ∷ 255 ∷ 0 ∷ 0 ∷ 0 ∷ 0 ∷ 0 ∷ 0 ∷ 0 ∷ 2 ∷ 126 ∷ 0 ∷ []) ≡ Ok (a_number 1 ∷ some_octets (126 ∷ []) ∷ [])
a_greater_count_is_read = refl

the_count_is_above_the_greatest : read_stub number_and_name Little (1 ∷ 0 ∷ 0 ∷ 0 ∷ 1 ∷ 0 ∷ 0 ∷ 0 ∷ 0 ∷ 0 ∷ 0 ∷ 0 ∷ 2 ∷ 0 ∷ 0 ∷ 0 ∷ 115 ∷ 0 ∷ []) ≡ Err (record { field = field.ActualCount; offset = 12; cause = cause.Value })
the_count_is_above_the_greatest = refl

no_greatest_count : read_stub number_and_name Little (1 ∷ 0 ∷ 0 ∷ 0 ∷ 0 ∷ 0 ∷ 0 ∷ 0 ∷ []) ≡ Err (record { field = field.MaxCount; offset = 4; cause = cause.Value })
no_greatest_count = refl

an_offset : read_stub number_and_name Little (1 ∷ 0 ∷ 0 ∷ 0 ∷ 2 ∷ 0 ∷ 0 ∷ 0 ∷ 1 ∷ 0 ∷ 0 ∷ 0 ∷ 9 ∷ []) ≡ Err (record { field = field.StringOffset; offset = 8; cause = cause.Value })
an_offset = refl

no_last_zero : read_stub number_and_name Little (1 ∷ 0 ∷ 0 ∷ 0 ∷ 2 ∷ 0 ∷ 0 ∷ 0 ∷ 0 ∷ 0 ∷ 0 ∷ 0 ∷ 2 ∷ 0 ∷ 0 ∷ 0 ∷ 115 ∷ 1 ∷ []) ≡ Err (record { field = field.StringOctets; offset = 16; cause = cause.Value })
no_last_zero = refl

an_octet_is_not_printed : read_stub number_and_name Little (1 ∷ 0 ∷ 0 ∷ 0 ∷ 2 ∷ 0 ∷ 0 ∷ 0 ∷ 0 ∷ 0 ∷ 0 ∷ 0 ∷ 2 ∷ 0 ∷ 0 ∷ 0 ∷ 127 ∷ 0 ∷ []) ≡ Err (record { field = field.StringOctets; offset = 16; cause = cause.Value })
an_octet_is_not_printed = refl

octets_are_short : read_stub number_and_name Little (1 ∷ 0 ∷ 0 ∷ 0 ∷ 2 ∷ 0 ∷ 0 ∷ 0 ∷ 0 ∷ 0 ∷ 0 ∷ 0 ∷ 2 ∷ 0 ∷ 0 ∷ 0 ∷ 115 ∷ []) ≡ Err (record { field = field.StringOctets; offset = 16; cause = cause.Short })
octets_are_short = refl
