-- Rows of the definitions, by computation.
use Rattle.std.proofs.Common.{◌≡◌, ℕ, ◌-◌, ◌^◌, List, [], ◌∷◌, true, false, Some, None, Ok, Err, refl}
use Rattle.dts_base.specs.declared.wire.State.TheVariants as state
use Rattle.ndr.specs.declared.endian.Endian.{Endian}
use Rattle.ndr.specs.declared.endian.Endian.TheVariants.{Big, Little}
use Rattle.pdu_fields.specs.declared.pdu.Pdu.{Pdu}
use Rattle.pdu_fields.specs.declared.pdu.Body.{Body}
use Rattle.pdu_fields.specs.declared.pdu.Body.TheVariants as body
use Rattle.pdu_fields.specs.declared.pdu.AckBody.{AckBody}
use Rattle.pdu_fields.specs.declared.pdu.ContextResult.{ContextResult}
use Rattle.pdu_fields.proofs.Rows.{bind_value}
use Rattle.rpc_session.specs.declared.fault.SessionFault.TheVariants as fault
use Rattle.rpc_session.specs.declared.fault.RequestFault.TheVariants as refusal
use Rattle.rpc_session.specs.declared.client.ClientOut.TheVariants as out
use Rattle.rpc_session.specs.declared.server.Out.TheVariants as given
use Rattle.rpc_session.specs.Contexts.{ndr_syntax, no_syntax}
use Rattle.rpc_session.specs.Client.{ClientHistory, Started, Requested, Took, bind_of, client_state, request_refused, request_sent, taken}
use Rattle.rpc_session.specs.Server.{ServerHistory, Opened, Received, answered, response_sent, server_state}

-- a history with one more PDU
abbrev then : ClientHistory → Pdu → ClientHistory
then h p = Took h p (taken h p)

abbrev and_then : ServerHistory → Pdu → ServerHistory
and_then h p = Received h p (answered h p)

abbrev pdu : ℕ → ℕ → Endian → Body → Pdu
pdu call_id flags e b = record { call_id = call_id; flags = flags; minor = 0; endian = e; body = b }

abbrev acked : ℕ → AckBody → Pdu
acked call_id a = pdu call_id 3 Little (body.BindAck a)

abbrev accepting : ContextResult
accepting = record { «result» = 0; reason = 0; transfer = ndr_syntax }

abbrev rejecting : ContextResult
rejecting = record { «result» = 2; reason = 1; transfer = no_syntax }

-- an acknowledgement of an association group, which takes fragments of this size
abbrev ack : ℕ → ℕ → ℕ → Pdu
ack call_id group size = acked call_id (record { max_xmit = 5840; max_recv = size; group = group; address = []; results = accepting ∷ [] })

abbrev refused_ack : Pdu
refused_ack = acked 1 (record { max_xmit = 5840; max_recv = 5840; group = 1; address = []; results = rejecting ∷ [] })

abbrev request : ℕ → ℕ → ℕ → Pdu
request call_id flags opnum = pdu call_id flags Little (body.Request 1 0 opnum None (0 ∷ []))

abbrev response : ℕ → ℕ → List ℕ → Pdu
response call_id flags stub = pdu call_id flags Little (body.Response 24 0 0 stub)

abbrev bound : ClientHistory
bound = then (Started 1) (ack 1 1 5840)

abbrev asked : ClientHistory
asked = Requested bound 0 (0 ∷ [])

the_bind : bind_of 1 ≡ bind_value Little
the_bind = refl

no_request_before_an_answer : request_refused (Started 1) (0 ∷ []) ≡ Some (refusal.NotBound state.Binding)
no_request_before_an_answer = refl

the_bind_is_acknowledged : taken (Started 1) (ack 1 1 5840) ≡ Ok out.Bound
the_bind_is_acknowledged = refl

the_first_request : request_sent bound 0 (0 ∷ []) ≡ request 2 3 0 ∷ []
the_first_request = refl

its_response : taken asked (response 2 3 (7 ∷ 8 ∷ [])) ≡ Ok (out.Reply 2 (7 ∷ 8 ∷ []) Little)
its_response = refl

the_response_again : taken (then asked (response 2 3 [])) (response 2 3 []) ≡ Err (fault.UnknownCall 2)
the_response_again = refl

a_response_in_two_parts : taken (then asked (response 2 1 (7 ∷ []))) (response 2 2 (8 ∷ [])) ≡ Ok (out.Reply 2 (7 ∷ 8 ∷ []) Little)
a_response_in_two_parts = refl

a_response_that_starts_in_the_middle : taken asked (response 2 2 []) ≡ Err (fault.Unexpected 2 state.Waiting)
a_response_that_starts_in_the_middle = refl

another_response_between : taken (then (then asked (response 2 1 (7 ∷ []))) (response 1 3 [])) (response 2 2 (8 ∷ []))
    ≡ Ok (out.Reply 2 (7 ∷ 8 ∷ []) Little)
another_response_between = refl

a_refused_context : client_state (then (Started 1) refused_ack) ≡ state.Dead
a_refused_context = refl

a_fault_ends_the_request_alone : client_state (then asked (pdu 2 35 Little (body.Fault 0 0 0 1))) ≡ state.Bound
a_fault_ends_the_request_alone = refl

the_dead_take_nothing : taken (then asked (pdu 9 3 Little body.Shutdown)) (ack 1 1 5840) ≡ Err (fault.Unexpected 12 state.Dead)
the_dead_take_nothing = refl

all_calls_are_spent : request_refused
    (then (Requested (then (Started (2 ^ 32 - 2)) (ack (2 ^ 32 - 2) 1 5840)) 0 []) (response (2 ^ 32 - 1) 3 [])) []
    ≡ Some refusal.CallsSpent
all_calls_are_spent = refl

abbrev served : ServerHistory
served = and_then (Opened 1000) (bind_value Little)

a_bind_is_answered : answered (Opened 1000) (bind_value Little) ≡ Ok (given.Send (ack 1 1000 5840) ∷ [])
a_bind_is_answered = refl

a_call : answered served (request 2 3 0) ≡ Ok (given.Call 2 0 0 (0 ∷ []) Little false ∷ [])
a_call = refl

an_operation_past_the_last : answered served (request 2 3 3) ≡ Ok (given.Send (pdu 2 35 Little (body.Fault 0 0 0 469827586)) ∷ [])
an_operation_past_the_last = refl

a_call_in_two_parts : answered (and_then served (request 2 65 1)) (request 2 2 9) ≡ Ok (given.Call 2 0 1 (0 ∷ 0 ∷ []) Little true ∷ [])
a_call_in_two_parts = refl

a_call_that_starts_in_the_middle : answered served (request 2 2 0) ≡ Err (fault.Unexpected 0 state.Bound)
a_call_that_starts_in_the_middle = refl

an_orphaned_call : server_state (and_then (and_then served (request 2 1 0)) (pdu 2 3 Little body.Orphaned)) ≡ state.Bound
an_orphaned_call = refl

another_orphaned_call : server_state (and_then (and_then served (request 2 1 0)) (pdu 3 3 Little body.Orphaned)) ≡ state.Gathering
another_orphaned_call = refl

a_second_bind : answered served (bind_value Big) ≡ Err (fault.Unexpected 11 state.Bound)
a_second_bind = refl

a_response_to_a_call : response_sent served 2 0 Big (7 ∷ []) ≡ pdu 2 3 Big (body.Response 1 0 0 (7 ∷ [])) ∷ []
a_response_to_a_call = refl
