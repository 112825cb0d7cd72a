-- Rows of the definitions, by computation.
use Rattle.std.proofs.Common.{ℕ, ◌++◌, List, [], ◌∷◌, refl}
use Rattle.std.specs.Prelude.{Some, None, take, slice_set}
use Rattle.dts_base.specs.declared.wire.Field.{Field}
use Rattle.dts_base.specs.declared.wire.Field.TheVariants as field
use Rattle.dts_base.specs.declared.wire.WireCause.{WireCause}
use Rattle.dts_base.specs.declared.wire.WireCause.TheVariants as cause
use Rattle.dts_base.specs.declared.wire.Refused.{Refused}
use Rattle.ndr.specs.declared.endian.Endian.{Endian}
use Rattle.ndr.specs.declared.endian.Endian.TheVariants.{Big, Little}
use Rattle.pdu_fields.specs.declared.pdu.Pdu.{Pdu}
use Rattle.pdu_fields.specs.declared.pdu.Body.TheVariants as body
use Rattle.pdu_fields.specs.Tables.{reading}
use Rattle.pdu_fields.specs.Grammar.{Spells, FirstWrong}

-- an interface and the transfer syntax NDR
abbrev pub interface : List ℕ
interface = 106 ∷ 14 ∷ 90 ∷ 16 ∷ 60 ∷ 82 ∷ 75 ∷ 126 ∷ 157 ∷ 33 ∷ 94 ∷ 143 ∷ 124 ∷ 26 ∷ 43 ∷ 48 ∷ []

abbrev pub ndr : List ℕ
ndr = 138 ∷ 136 ∷ 93 ∷ 4 ∷ 28 ∷ 235 ∷ 17 ∷ 201 ∷ 159 ∷ 232 ∷ 8 ∷ 0 ∷ 43 ∷ 16 ∷ 72 ∷ 96 ∷ []

abbrev pub bind_octets : List ℕ
bind_octets = 5 ∷ 0 ∷ 11 ∷ 3 ∷ 16 ∷ 0 ∷ 0 ∷ 0 ∷ 72 ∷ 0 ∷ 0 ∷ 0 ∷ 1 ∷ 0 ∷ 0 ∷ 0 ∷ 208 ∷ 22 ∷ 208 ∷ 22 ∷ 0 ∷ 0 ∷ 0 ∷ 0 ∷ 1 ∷ 0 ∷ 0 ∷ 0 ∷ 0 ∷ 0 ∷ 1 ∷ 0 ∷ 16 ∷ 90 ∷ 14 ∷ 106 ∷ 82 ∷ 60 ∷ 126 ∷ 75 ∷ 157 ∷ 33 ∷ 94 ∷ 143 ∷ 124 ∷ 26 ∷ 43 ∷ 48 ∷ 1 ∷ 0 ∷ 0 ∷ 0 ∷ 4 ∷ 93 ∷ 136 ∷ 138 ∷ 235 ∷ 28 ∷ 201 ∷ 17 ∷ 159 ∷ 232 ∷ 8 ∷ 0 ∷ 43 ∷ 16 ∷ 72 ∷ 96 ∷ 2 ∷ 0 ∷ 0 ∷ 0 ∷ []

abbrev pub big_bind_octets : List ℕ
big_bind_octets =
    5 ∷ 0 ∷ 11 ∷ 3 ∷ 0 ∷ 0 ∷ 0 ∷ 0 ∷ 0 ∷ 72 ∷ 0 ∷ 0 ∷ 0 ∷ 0 ∷ 0 ∷ 1 ∷
    22 ∷ 208 ∷ 22 ∷ 208 ∷ 0 ∷ 0 ∷ 0 ∷ 0 ∷ 1 ∷ 0 ∷ 0 ∷ 0 ∷ 0 ∷ 0 ∷ 1 ∷ 0 ∷ []
    ++ interface ++ 0 ∷ 0 ∷ 0 ∷ 1 ∷ []
    ++ ndr ++ 0 ∷ 0 ∷ 0 ∷ 2 ∷ []

abbrev ack_octets : List ℕ
ack_octets = 5 ∷ 0 ∷ 12 ∷ 3 ∷ 16 ∷ 0 ∷ 0 ∷ 0 ∷ 56 ∷ 0 ∷ 0 ∷ 0 ∷ 1 ∷ 0 ∷ 0 ∷ 0 ∷ 208 ∷ 22 ∷ 208 ∷ 22 ∷ 1 ∷ 0 ∷ 0 ∷ 0 ∷ 0 ∷ 0 ∷ 0 ∷ 0 ∷ 1 ∷ 0 ∷ 0 ∷ 0 ∷ 0 ∷ 0 ∷ 0 ∷ 0 ∷ 4 ∷ 93 ∷ 136 ∷ 138 ∷ 235 ∷ 28 ∷ 201 ∷ 17 ∷ 159 ∷ 232 ∷ 8 ∷ 0 ∷ 43 ∷ 16 ∷ 72 ∷ 96 ∷ 2 ∷ 0 ∷ 0 ∷ 0 ∷ []

abbrev request_octets : List ℕ
request_octets = 5 ∷ 0 ∷ 0 ∷ 3 ∷ 16 ∷ 0 ∷ 0 ∷ 0 ∷ 25 ∷ 0 ∷ 0 ∷ 0 ∷ 2 ∷ 0 ∷ 0 ∷ 0 ∷ 1 ∷ 0 ∷ 0 ∷ 0 ∷ 0 ∷ 0 ∷ 0 ∷ 0 ∷ 0 ∷ []

abbrev pub response_octets : List ℕ
response_octets = 5 ∷ 0 ∷ 2 ∷ 3 ∷ 16 ∷ 0 ∷ 0 ∷ 0 ∷ 48 ∷ 0 ∷ 0 ∷ 0 ∷ 2 ∷ 0 ∷ 0 ∷ 0 ∷ 24 ∷ 0 ∷ 0 ∷ 0 ∷ 0 ∷ 0 ∷ 0 ∷ 0 ∷ 1 ∷ 0 ∷ 0 ∷ 242 ∷ 5 ∷ 42 ∷ 1 ∷ 0 ∷ 0 ∷ 0 ∷ 232 ∷ 3 ∷ 0 ∷ 0 ∷ 0 ∷ 0 ∷ 0 ∷ 16 ∷ 0 ∷ 0 ∷ 0 ∷ 0 ∷ 0 ∷ 0 ∷ []

abbrev pub bind_value : Endian → Pdu
bind_value e =
    record {
      call_id = 1;
      flags = 3;
      minor = 0;
      endian = e;
      body = body.Bind (record {
        max_xmit = 5840;
        max_recv = 5840;
        group = 0;
        contexts = record { id = 0; abstract_syntax = record { uuid = interface; version = 1 }; transfers = record { uuid = ndr; version = 2 } ∷ [] } ∷ [];
      });
    }

abbrev pub wrong : Field → ℕ → WireCause → Refused
wrong name offset why = record { field = name; offset = offset; cause = why }

a_bind_is_read : Spells (bind_value Little) bind_octets
unfolding reading
a_bind_is_read = refl

a_bind_in_the_other_order_is_read : Spells (bind_value Big) big_bind_octets
unfolding reading
a_bind_in_the_other_order_is_read = refl

an_answer_is_read : Spells (record { call_id = 1; flags = 3; minor = 0; endian = Little; body = body.BindAck (record { max_xmit = 5840; max_recv = 5840; group = 1; address = []; results = record { «result» = 0; reason = 0; transfer = record { uuid = ndr; version = 2 } } ∷ [] }) }) ack_octets
unfolding reading
an_answer_is_read = refl

padding_is_passed_over : Spells (record { call_id = 1; flags = 3; minor = 0; endian = Little; body = body.AlterContextResp (record { max_xmit = 5840; max_recv = 5840; group = 1; address = 49 ∷ 50 ∷ 0 ∷ []; results = record { «result» = 0; reason = 0; transfer = record { uuid = ndr; version = 2 } } ∷ [] }) }) (take 2 ack_octets ++ 15 ∷ 3 ∷ 16 ∷ 0 ∷ 0 ∷ 0 ∷ 60 ∷ 0 ∷ 0 ∷ 0 ∷ 1 ∷ 0 ∷ 0 ∷ 0 ∷ 208 ∷ 22 ∷ 208 ∷ 22 ∷ 1 ∷ 0 ∷ 0 ∷ 0 ∷ 3 ∷ 0 ∷ 49 ∷ 50 ∷ 0 ∷ [] ++ 7 ∷ 7 ∷ 7 ∷ [] ++ 1 ∷ 0 ∷ 0 ∷ 0 ∷ 0 ∷ 0 ∷ 0 ∷ 0 ∷ 4 ∷ 93 ∷ 136 ∷ 138 ∷ 235 ∷ 28 ∷ 201 ∷ 17 ∷ 159 ∷ 232 ∷ 8 ∷ 0 ∷ 43 ∷ 16 ∷ 72 ∷ 96 ∷ 2 ∷ 0 ∷ 0 ∷ 0 ∷ [])
unfolding reading
padding_is_passed_over = refl

a_request_is_read : Spells (record { call_id = 2; flags = 3; minor = 0; endian = Little; body = body.Request 1 0 0 None (0 ∷ []) }) request_octets
unfolding reading
a_request_is_read = refl

a_request_of_an_object_is_read : Spells (record { call_id = 2; flags = 131; minor = 0; endian = Little; body = body.Request 1 0 0 (Some interface) [] }) (5 ∷ 0 ∷ 0 ∷ 131 ∷ 16 ∷ 0 ∷ 0 ∷ 0 ∷ 40 ∷ 0 ∷ 0 ∷ 0 ∷ 2 ∷ 0 ∷ 0 ∷ 0 ∷ 1 ∷ 0 ∷ 0 ∷ 0 ∷ 0 ∷ 0 ∷ 0 ∷ 0 ∷ [] ++ 16 ∷ 90 ∷ 14 ∷ 106 ∷ 82 ∷ 60 ∷ 126 ∷ 75 ∷ 157 ∷ 33 ∷ 94 ∷ 143 ∷ 124 ∷ 26 ∷ 43 ∷ 48 ∷ [])
unfolding reading
a_request_of_an_object_is_read = refl

a_response_is_read : Spells (record { call_id = 2; flags = 3; minor = 0; endian = Little; body = body.Response 24 0 0 (1 ∷ 0 ∷ 0 ∷ 242 ∷ 5 ∷ 42 ∷ 1 ∷ 0 ∷ 0 ∷ 0 ∷ 232 ∷ 3 ∷ 0 ∷ 0 ∷ 0 ∷ 0 ∷ 0 ∷ 16 ∷ 0 ∷ 0 ∷ 0 ∷ 0 ∷ 0 ∷ 0 ∷ []) }) response_octets
unfolding reading
a_response_is_read = refl

a_fault_with_octets_behind_it_is_read : Spells (record { call_id = 7; flags = 35; minor = 0; endian = Big; body = body.Fault 0 1 2 469827586 }) (5 ∷ 0 ∷ 3 ∷ 35 ∷ 0 ∷ 0 ∷ 0 ∷ 0 ∷ 0 ∷ 34 ∷ 0 ∷ 0 ∷ 0 ∷ 0 ∷ 0 ∷ 7 ∷ 0 ∷ 0 ∷ 0 ∷ 0 ∷ 0 ∷ 1 ∷ 2 ∷ 9 ∷ 28 ∷ 1 ∷ 0 ∷ 2 ∷ 9 ∷ 9 ∷ 9 ∷ 9 ∷ 8 ∷ 8 ∷ [])
unfolding reading
a_fault_with_octets_behind_it_is_read = refl

a_refused_bind_is_read : Spells (record { call_id = 1; flags = 3; minor = 0; endian = Little; body = body.BindNak 4 (record { major = 5; minor = 0 } ∷ record { major = 5; minor = 1 } ∷ []) }) (5 ∷ 0 ∷ 13 ∷ 3 ∷ 16 ∷ 0 ∷ 0 ∷ 0 ∷ 23 ∷ 0 ∷ 0 ∷ 0 ∷ 1 ∷ 0 ∷ 0 ∷ 0 ∷ 4 ∷ 0 ∷ 2 ∷ 5 ∷ 0 ∷ 5 ∷ 1 ∷ [])
unfolding reading
a_refused_bind_is_read = refl

a_further_context_is_read : Spells (record { call_id = 1; flags = 3; minor = 0; endian = Little; body = body.AlterContext (record { max_xmit = 5840; max_recv = 5840; group = 0; contexts = record { id = 0; abstract_syntax = record { uuid = interface; version = 1 }; transfers = record { uuid = ndr; version = 2 } ∷ [] } ∷ [] }) }) (slice_set bind_octets 2 14)
unfolding reading
a_further_context_is_read = refl

a_shutdown_is_read : Spells (record { call_id = 0; flags = 3; minor = 0; endian = Little; body = body.Shutdown }) (5 ∷ 0 ∷ 17 ∷ 3 ∷ 16 ∷ 0 ∷ 0 ∷ 0 ∷ 16 ∷ 0 ∷ 0 ∷ 0 ∷ 0 ∷ 0 ∷ 0 ∷ 0 ∷ [])
unfolding reading
a_shutdown_is_read = refl

a_cancel_is_read : Spells (record { call_id = 2; flags = 3; minor = 0; endian = Big; body = body.CoCancel }) (5 ∷ 0 ∷ 18 ∷ 3 ∷ 0 ∷ 0 ∷ 0 ∷ 0 ∷ 0 ∷ 16 ∷ 0 ∷ 0 ∷ 0 ∷ 0 ∷ 0 ∷ 2 ∷ [])
unfolding reading
a_cancel_is_read = refl

a_call_that_is_given_up_is_read : Spells (record { call_id = 2; flags = 3; minor = 1; endian = Little; body = body.Orphaned }) (slice_set (5 ∷ 0 ∷ 19 ∷ 3 ∷ 16 ∷ 0 ∷ 0 ∷ 0 ∷ 17 ∷ 0 ∷ 0 ∷ 0 ∷ 2 ∷ 0 ∷ 0 ∷ 0 ∷ 1 ∷ []) 1 1)
unfolding reading
a_call_that_is_given_up_is_read = refl

the_first_of_two_wrong_fields : FirstWrong (slice_set (slice_set bind_octets 10 8) 30 0) (wrong field.AuthLength 10 cause.Value)
unfolding reading
the_first_of_two_wrong_fields = refl

no_transfer_syntax : FirstWrong (slice_set bind_octets 30 0) (wrong field.NTransferSyn 30 cause.Value)
unfolding reading
no_transfer_syntax = refl

an_octet_is_cut : FirstWrong (take 71 bind_octets) (wrong field.FragLength 8 cause.Value)
unfolding reading
an_octet_is_cut = refl

two_octets : FirstWrong (5 ∷ 0 ∷ []) (wrong field.Ptype 2 cause.Short)
unfolding reading
two_octets = refl

no_octets : FirstWrong [] (wrong field.RpcVers 0 cause.Short)
unfolding reading
no_octets = refl

no_kind_of_this_number : FirstWrong (slice_set response_octets 2 1) (wrong field.Ptype 2 cause.Value)
unfolding reading
no_kind_of_this_number = refl

another_character_set : FirstWrong (slice_set bind_octets 4 17) (wrong field.DrepOrder 4 cause.Value)
unfolding reading
another_character_set = refl

a_length_above_the_greatest : FirstWrong (slice_set (slice_set bind_octets 8 209) 9 22) (wrong field.FragLength 8 cause.Value)
unfolding reading
a_length_above_the_greatest = refl

seventeen_contexts : FirstWrong (slice_set bind_octets 24 17) (wrong field.NContext 24 cause.Value)
unfolding reading
seventeen_contexts = refl

no_answers : FirstWrong (slice_set ack_octets 28 0) (wrong field.NResults 28 cause.Value)
unfolding reading
no_answers = refl

a_response_without_its_context : FirstWrong (5 ∷ 0 ∷ 2 ∷ 3 ∷ 16 ∷ 0 ∷ 0 ∷ 0 ∷ 20 ∷ 0 ∷ 0 ∷ 0 ∷ 2 ∷ 0 ∷ 0 ∷ 0 ∷ 0 ∷ 0 ∷ 0 ∷ 0 ∷ []) (wrong field.ContextId 20 cause.Short)
unfolding reading
a_response_without_its_context = refl

a_fault_without_its_reserved_octets : FirstWrong (5 ∷ 0 ∷ 3 ∷ 3 ∷ 16 ∷ 0 ∷ 0 ∷ 0 ∷ 28 ∷ 0 ∷ 0 ∷ 0 ∷ 2 ∷ 0 ∷ 0 ∷ 0 ∷ 0 ∷ 0 ∷ 0 ∷ 0 ∷ 0 ∷ 0 ∷ 0 ∷ 0 ∷ 0 ∷ 0 ∷ 0 ∷ 0 ∷ []) (wrong field.Reserved 28 cause.Short)
unfolding reading
a_fault_without_its_reserved_octets = refl

an_object_that_is_not_whole : FirstWrong (5 ∷ 0 ∷ 0 ∷ 131 ∷ 16 ∷ 0 ∷ 0 ∷ 0 ∷ 30 ∷ 0 ∷ 0 ∷ 0 ∷ 2 ∷ 0 ∷ 0 ∷ 0 ∷ 0 ∷ 0 ∷ 0 ∷ 0 ∷ 0 ∷ 0 ∷ 0 ∷ 0 ∷ 0 ∷ 0 ∷ 0 ∷ 0 ∷ 0 ∷ 0 ∷ []) (wrong field.ObjectUuid 24 cause.Short)
unfolding reading
an_object_that_is_not_whole = refl

a_reason_above_the_greatest : FirstWrong (slice_set ack_octets 34 4) (wrong field.Reason 34 cause.Value)
unfolding reading
a_reason_above_the_greatest = refl

padding_that_is_not_whole : FirstWrong (5 ∷ 0 ∷ 12 ∷ 3 ∷ 0 ∷ 0 ∷ 0 ∷ 0 ∷ 0 ∷ 27 ∷ 0 ∷ 0 ∷ 0 ∷ 0 ∷ 0 ∷ 1 ∷ 0 ∷ 0 ∷ 0 ∷ 0 ∷ 0 ∷ 0 ∷ 0 ∷ 0 ∷ 0 ∷ 1 ∷ 65 ∷ []) (wrong field.Padding 27 cause.Short)
unfolding reading
padding_that_is_not_whole = refl
