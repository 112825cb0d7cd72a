-- Rows of the definitions, by computation.
use Rattle.std.proofs.Common.{◌≡◌, ℕ, List, [], ◌∷◌, ◌++◌, Ok, Err, refl}
use Rattle.std.specs.Prelude.{codes, drop, take, slice_set}
use Rattle.dts_base.specs.declared.wire.Field.TheVariants as field
use Rattle.dts_base.specs.declared.wire.WireCause.TheVariants as cause
use Rattle.ndr.specs.Reading.{refusal}
use Rattle.ntp_packet.specs.Packets.{reading as packet}
use Rattle.pdu_fields.specs.Tables.{reading}
use Rattle.pdu_fields.proofs.Rows.{bind_octets}
use Rattle.hex.specs.Hex.{encode_with, encode_lower}
use Rattle.wire_show.specs.declared.end.Shown.TheVariants.{Pdu, Ntp, Utc}
use Rattle.wire_show.specs.Fields.{Part, parts_by}
use Rattle.wire_show.specs.Input.{octets_in, octets_from}
use Rattle.wire_show.specs.Output.{parts_as, output_of}

abbrev part : List ℕ → ℕ → List ℕ → Part
part name at octets = record { name = name; at = at; octets = octets }

a_bind_has_these_fields : parts_as Pdu bind_octets
    ≡ Ok (
    part (codes "rpc_vers") 0 (5 ∷ [])
    ∷ part (codes "rpc_vers_minor") 1 (0 ∷ [])
    ∷ part (codes "ptype") 2 (11 ∷ [])
    ∷ part (codes "pfc_flags") 3 (3 ∷ [])
    ∷ part (codes "drep_order") 4 (16 ∷ [])
    ∷ part (codes "drep_rest") 5 (0 ∷ 0 ∷ 0 ∷ [])
    ∷ part (codes "frag_length") 8 (72 ∷ 0 ∷ [])
    ∷ part (codes "auth_length") 10 (0 ∷ 0 ∷ [])
    ∷ part (codes "call_id") 12 (1 ∷ 0 ∷ 0 ∷ 0 ∷ [])
    ∷ part (codes "max_xmit_frag") 16 (208 ∷ 22 ∷ [])
    ∷ part (codes "max_recv_frag") 18 (208 ∷ 22 ∷ [])
    ∷ part (codes "assoc_group_id") 20 (0 ∷ 0 ∷ 0 ∷ 0 ∷ [])
    ∷ part (codes "n_context_elem") 24 (1 ∷ [])
    ∷ part (codes "reserved") 25 (0 ∷ 0 ∷ 0 ∷ [])
    ∷ part (codes "p_cont_id") 28 (0 ∷ 0 ∷ [])
    ∷ part (codes "n_transfer_syn") 30 (1 ∷ [])
    ∷ part (codes "reserved") 31 (0 ∷ [])
    ∷ part (codes "abstract_uuid") 32 (take 16 (drop 32 bind_octets))
    ∷ part (codes "version") 48 (1 ∷ 0 ∷ 0 ∷ 0 ∷ [])
    ∷ part (codes "transfer_uuid") 52 (take 16 (drop 52 bind_octets))
    ∷ part (codes "version") 68 (2 ∷ 0 ∷ 0 ∷ 0 ∷ [])
    ∷ []
    )
unfolding reading parts_by
a_bind_has_these_fields = refl

the_first_wrong_field_of_a_bind : output_of Pdu (encode_lower (slice_set (slice_set bind_octets 10 8) 30 0)) ≡ Err (refusal field.AuthLength 10 cause.Value)
unfolding reading octets_from encode_with
the_first_wrong_field_of_a_bind = refl

a_response_without_a_stub_with_octets_that_are_passed_over : parts_as Pdu (5 ∷ 0 ∷ 2 ∷ 3 ∷ 0 ∷ 7 ∷ 8 ∷ 9 ∷ 0 ∷ 24 ∷ 0 ∷ 0 ∷ 0 ∷ 0 ∷ 0 ∷ 2 ∷ 0 ∷ 0 ∷ 0 ∷ 0 ∷ 0 ∷ 1 ∷ 0 ∷ 6 ∷ [])
    ≡ Ok (
    part (codes "rpc_vers") 0 (5 ∷ [])
    ∷ part (codes "rpc_vers_minor") 1 (0 ∷ [])
    ∷ part (codes "ptype") 2 (2 ∷ [])
    ∷ part (codes "pfc_flags") 3 (3 ∷ [])
    ∷ part (codes "drep_order") 4 (0 ∷ [])
    ∷ part (codes "drep_rest") 5 (7 ∷ 8 ∷ 9 ∷ [])
    ∷ part (codes "frag_length") 8 (0 ∷ 24 ∷ [])
    ∷ part (codes "auth_length") 10 (0 ∷ 0 ∷ [])
    ∷ part (codes "call_id") 12 (0 ∷ 0 ∷ 0 ∷ 2 ∷ [])
    ∷ part (codes "alloc_hint") 16 (0 ∷ 0 ∷ 0 ∷ 0 ∷ [])
    ∷ part (codes "p_cont_id") 20 (0 ∷ 1 ∷ [])
    ∷ part (codes "cancel_count") 22 (0 ∷ [])
    ∷ part (codes "reserved") 23 (6 ∷ [])
    ∷ part (codes "stub") 24 []
    ∷ []
    )
unfolding reading parts_by
a_response_without_a_stub_with_octets_that_are_passed_over = refl

a_shutdown_with_a_tail : parts_as Pdu (5 ∷ 0 ∷ 17 ∷ 3 ∷ 16 ∷ 0 ∷ 0 ∷ 0 ∷ 18 ∷ 0 ∷ 0 ∷ 0 ∷ 1 ∷ 0 ∷ 0 ∷ 0 ∷ 10 ∷ 11 ∷ [])
    ≡ Ok (
    part (codes "rpc_vers") 0 (5 ∷ [])
    ∷ part (codes "rpc_vers_minor") 1 (0 ∷ [])
    ∷ part (codes "ptype") 2 (17 ∷ [])
    ∷ part (codes "pfc_flags") 3 (3 ∷ [])
    ∷ part (codes "drep_order") 4 (16 ∷ [])
    ∷ part (codes "drep_rest") 5 (0 ∷ 0 ∷ 0 ∷ [])
    ∷ part (codes "frag_length") 8 (18 ∷ 0 ∷ [])
    ∷ part (codes "auth_length") 10 (0 ∷ 0 ∷ [])
    ∷ part (codes "call_id") 12 (1 ∷ 0 ∷ 0 ∷ 0 ∷ [])
    ∷ part (codes "tail") 16 (10 ∷ 11 ∷ [])
    ∷ []
    )
unfolding reading parts_by
a_shutdown_with_a_tail = refl

-- 1970-01-01
abbrev moment : List ℕ
moment = 0 ∷ 64 ∷ 129 ∷ 19 ∷ 210 ∷ 29 ∷ 178 ∷ 1 ∷ 0 ∷ 0 ∷ 0 ∷ 0 ∷ 0 ∷ 0 ∷ 0 ∷ 16 ∷ []

a_timestamp_has_three_fields : parts_as Utc moment ≡ Ok (part (codes "time") 0 (take 8 moment) ∷ part (codes "inaccuracy") 8 (0 ∷ 0 ∷ 0 ∷ 0 ∷ 0 ∷ 0 ∷ []) ∷ part (codes "tdf_version") 14 (0 ∷ 16 ∷ []) ∷ [])
a_timestamp_has_three_fields = refl

a_third_version_is_no_timestamp : parts_as Utc (slice_set moment 15 48) ≡ Err (refusal field.UtcOctets 14 cause.Value)
a_third_version_is_no_timestamp = refl

fifteen_octets_are_short : parts_as Utc (take 15 moment) ≡ Err (refusal field.UtcOctets 15 cause.Short)
fifteen_octets_are_short = refl

seventeen_octets_are_too_many : parts_as Utc (moment ++ 0 ∷ []) ≡ Err (refusal field.UtcOctets 16 cause.Extra)
seventeen_octets_are_too_many = refl

digits_are_of_either_case : octets_in (codes "0aA0" ++ 10 ∷ []) ≡ Ok (10 ∷ 160 ∷ [])
unfolding octets_from
digits_are_of_either_case = refl

an_odd_last_digit_is_no_pair : octets_in (codes "050") ≡ Err (refusal field.Input 1 cause.Value)
unfolding octets_from
an_odd_last_digit_is_no_pair = refl

a_line_feed_ends_the_input : octets_in (codes "05" ++ 10 ∷ codes "00") ≡ Err (refusal field.Input 1 cause.Value)
unfolding octets_from
a_line_feed_ends_the_input = refl

a_digit_behind_the_last_pair_is_too_long : octets_from 5840 (codes "0x") ≡ Err (refusal field.Input 5840 cause.Long)
unfolding octets_from
a_digit_behind_the_last_pair_is_too_long = refl

another_octet_behind_the_last_pair_is_no_pair : octets_from 5840 (codes "x0") ≡ Err (refusal field.Input 5840 cause.Value)
unfolding octets_from
another_octet_behind_the_last_pair_is_no_pair = refl

a_wrong_pair_comes_before_the_length : octets_from 5839 (codes "0x00") ≡ Err (refusal field.Input 5839 cause.Value)
unfolding octets_from
a_wrong_pair_comes_before_the_length = refl

a_line_feed_may_stand_behind_the_last_pair : octets_from 5840 (10 ∷ []) ≡ Ok []
unfolding octets_from
a_line_feed_may_stand_behind_the_last_pair = refl

-- a reply of an NTP server
abbrev reply : List ℕ
reply =
    36
    ∷ 1
    ∷ 6
    ∷ 236
    ∷ 0 ∷ 0 ∷ 0 ∷ 1
    ∷ 0 ∷ 0 ∷ 0 ∷ 16
    ∷ 71 ∷ 80 ∷ 83 ∷ 0
    ∷ 225 ∷ 182 ∷ 95 ∷ 64 ∷ 0 ∷ 0 ∷ 0 ∷ 0
    ∷ 0 ∷ 0 ∷ 0 ∷ 0 ∷ 0 ∷ 0 ∷ 0 ∷ 1
    ∷ 225 ∷ 182 ∷ 95 ∷ 128 ∷ 0 ∷ 0 ∷ 0 ∷ 1
    ∷ 225 ∷ 182 ∷ 95 ∷ 128 ∷ 0 ∷ 0 ∷ 0 ∷ 1
    ∷ []

a_packet_has_eleven_fields_and_a_tail : parts_as Ntp (reply ++ 255 ∷ []) ≡ Ok (
    part (codes "first") 0 (36 ∷ [])
    ∷ part (codes "stratum") 1 (1 ∷ [])
    ∷ part (codes "poll") 2 (6 ∷ [])
    ∷ part (codes "precision") 3 (236 ∷ [])
    ∷ part (codes "root_delay") 4 (0 ∷ 0 ∷ 0 ∷ 1 ∷ [])
    ∷ part (codes "root_dispersion") 8 (0 ∷ 0 ∷ 0 ∷ 16 ∷ [])
    ∷ part (codes "reference_id") 12 (71 ∷ 80 ∷ 83 ∷ 0 ∷ [])
    ∷ part (codes "reference") 16 (225 ∷ 182 ∷ 95 ∷ 64 ∷ 0 ∷ 0 ∷ 0 ∷ 0 ∷ [])
    ∷ part (codes "origin") 24 (0 ∷ 0 ∷ 0 ∷ 0 ∷ 0 ∷ 0 ∷ 0 ∷ 1 ∷ [])
    ∷ part (codes "receive") 32 (225 ∷ 182 ∷ 95 ∷ 128 ∷ 0 ∷ 0 ∷ 0 ∷ 1 ∷ [])
    ∷ part (codes "transmit") 40 (225 ∷ 182 ∷ 95 ∷ 128 ∷ 0 ∷ 0 ∷ 0 ∷ 1 ∷ [])
    ∷ part (codes "tail") 48 (255 ∷ [])
    ∷ []
    )
unfolding packet
a_packet_has_eleven_fields_and_a_tail = refl

forty_seven_octets_are_no_packet : parts_as Ntp (take 47 reply) ≡ Err (refusal field.NtpLength 47 cause.Short)
unfolding packet
forty_seven_octets_are_no_packet = refl

a_packet_has_a_version : parts_as Ntp (slice_set reply 0 4) ≡ Err (refusal field.NtpVersion 0 cause.Value)
unfolding packet
a_packet_has_a_version = refl
