-- A server of a connection-oriented remote call (C706, chapters 9 and 12): its contexts, the call that it gathers, and its answers.
use Rattle.std.specs.Prelude.{ℕ, ◌==◌, nat_lt, if◌then◌else◌, ◌+◌, List, [], ◌∷◌, ◌++◌, length, Option, Some, None, Result, Ok, Err}
use Rattle.dts_base.specs.declared.wire.State.{State}
use Rattle.dts_base.specs.declared.wire.State.TheVariants as state
use Rattle.ndr.specs.declared.endian.Endian.{Endian}
use Rattle.pdu_fields.specs.declared.pdu.Pdu.{Pdu}
use Rattle.pdu_fields.specs.declared.pdu.Body.{Body}
use Rattle.pdu_fields.specs.declared.pdu.Body.TheVariants as body
use Rattle.pdu_fields.specs.declared.pdu.AckBody.{AckBody}
use Rattle.pdu_fields.specs.declared.pdu.BindBody.{BindBody}
use Rattle.rpc_session.specs.declared.fault.SessionFault.{SessionFault}
use Rattle.rpc_session.specs.declared.fault.SessionFault.TheVariants as fault
use Rattle.rpc_session.specs.declared.fragments.TheConstants.{FIRST_FRAGMENT, LAST_FRAGMENT, DID_NOT_EXECUTE, MAYBE, GREATEST_FRAGMENT, MAX_STUB, MINOR}
use Rattle.rpc_session.specs.declared.fragments.Direction.TheVariants as direction
use Rattle.rpc_session.specs.declared.server.Out.{Out}
use Rattle.rpc_session.specs.declared.server.Out.TheVariants as out
use Rattle.rpc_session.specs.declared.server.CallHead.{CallHead}
use Rattle.rpc_session.specs.declared.server.Phase.{Phase}
use Rattle.rpc_session.specs.declared.server.Phase.TheVariants as phase
use Rattle.rpc_session.specs.declared.server.TheConstants.{UNKNOWN_CONTEXT, OPERATION_RANGE, LAST_OPERATION}
use Rattle.rpc_session.specs.Fragments.{has_flag, fragment_limit, octets_past, message}
use Rattle.rpc_session.specs.Contexts.{holds, accepted_after, context_results}
use Rattle.rpc_session.specs.Unexpected.{unexpected}

-- What happened to a server, the newest on the outside: the connection with this number was opened, and PDUs were taken, each with
-- what it was answered with.
pub data ServerHistory : Type 0 where
  Opened : ℕ → ServerHistory
  Received : ServerHistory → Pdu → Result (List Out) SessionFault → ServerHistory

-- the number of the connection
abbrev pub connection : ServerHistory → ℕ
connection (Opened conn) = conn
connection (Received before p answer) = connection before

-- what the first fragment of a request says of its call
abbrev pub head_of : Pdu → ℕ → ℕ → CallHead
head_of p context opnum = record
    { call_id = p.call_id; context = context; opnum = opnum; maybe = has_flag p.flags MAYBE; endian = p.endian }

-- the call that a fragment is of: a new one with its first flag where none is gathered, and else the one that is
abbrev pub call_of : Phase → Pdu → ℕ → ℕ → Option CallHead
call_of phase.Bound p context opnum = if has_flag p.flags FIRST_FRAGMENT then Some (head_of p context opnum) else None
call_of (phase.Gathering call) p context opnum =
    if has_flag p.flags FIRST_FRAGMENT then None
    else if call.call_id == p.call_id then Some call
    else None
call_of _ p context opnum = None

-- behind a fragment its call is gathered on, unless it was the last one
abbrev pub gathers_on : Phase → Pdu → Option CallHead → Phase
gathers_on now p None = now
gathers_on now p (Some call) = if has_flag p.flags LAST_FRAGMENT then phase.Bound else phase.Gathering call

-- an orphaned PDU of the call that is gathered gives it up
abbrev pub given_up : Phase → ℕ → Phase
given_up (phase.Gathering call) id = if call.call_id == id then phase.Bound else phase.Gathering call
given_up now id = now

-- how far a server is behind a PDU that it took
abbrev pub phase_with : Phase → Pdu → Body → Phase
phase_with now p (body.Bind b) = phase.Bound
phase_with now p (body.Request hint context opnum object stub) = gathers_on now p (call_of now p context opnum)
phase_with now p body.Orphaned = given_up now p.call_id
phase_with now p _ = now

-- and behind one that it answered so
abbrev pub phase_after : Phase → Pdu → Result (List Out) SessionFault → Phase
phase_after now p (Ok outs) = phase_with now p p.body
phase_after now p (Err f) = phase.Dead

-- how far a server is: no bind came, no call is gathered, this one is, or it is dead
abbrev pub serving : ServerHistory → Phase
serving (Opened conn) = phase.New
serving (Received before p answer) = phase_after (serving before) p answer

-- the contexts that were accepted by these PDUs, each once
abbrev pub accepted_with_body : List ℕ → Body → List ℕ
accepted_with_body ids (body.Bind b) = accepted_after ids b.contexts
accepted_with_body ids (body.AlterContext b) = accepted_after ids b.contexts
accepted_with_body ids _ = ids

abbrev pub accepted_behind : List ℕ → Pdu → Result (List Out) SessionFault → List ℕ
accepted_behind ids p (Ok outs) = accepted_with_body ids p.body
accepted_behind ids p (Err f) = ids

abbrev pub accepted : ServerHistory → List ℕ
accepted (Opened conn) = []
accepted (Received before p answer) = accepted_behind (accepted before) p answer

-- the octets behind a fragment
abbrev pub octets_with : List ℕ → Pdu → List ℕ → List ℕ
octets_with octets p stub = if has_flag p.flags LAST_FRAGMENT then [] else octets ++ stub

abbrev pub octets_unless : List ℕ → Phase → ℕ → List ℕ
octets_unless octets (phase.Gathering call) id = if call.call_id == id then [] else octets
octets_unless octets now id = octets

abbrev pub octets_after_body : List ℕ → Phase → Pdu → Body → List ℕ
octets_after_body octets now p (body.Request hint context opnum object stub) = octets_with octets p stub
octets_after_body octets now p body.Orphaned = octets_unless octets now p.call_id
octets_after_body octets now p _ = octets

abbrev pub octets_after : List ℕ → Phase → Pdu → Result (List Out) SessionFault → List ℕ
octets_after octets now p (Ok outs) = octets_after_body octets now p p.body
octets_after octets now p (Err f) = []

-- the octets that are gathered of the call: those of its fragments so far
abbrev pub request_octets : ServerHistory → List ℕ
request_octets (Opened conn) = []
request_octets (Received before p answer) = octets_after (request_octets before) (serving before) p answer

-- the greatest fragment that the client takes, as it says in its bind
abbrev pub limit_with : ℕ → Body → ℕ
limit_with limit (body.Bind b) = fragment_limit b.max_recv
limit_with limit _ = limit

abbrev pub limit_behind : ℕ → Pdu → Result (List Out) SessionFault → ℕ
limit_behind limit p (Ok outs) = limit_with limit p.body
limit_behind limit p (Err f) = limit

-- the greatest fragment that is sent
abbrev pub server_limit : ServerHistory → ℕ
server_limit (Opened conn) = GREATEST_FRAGMENT
server_limit (Received before p answer) = limit_behind (server_limit before) p answer

abbrev pub phase_state : Phase → State
phase_state phase.New = state.New
phase_state phase.Bound = state.Bound
phase_state (phase.Gathering call) = state.Gathering
phase_state phase.Dead = state.Dead

-- the state of the session
abbrev pub server_state : ServerHistory → State
server_state h = phase_state (serving h)

-- the association group of an answer: the client's, or the number of the connection for a new one
abbrev pub group_of : ℕ → ℕ → ℕ
group_of conn group = if group == 0 then conn else group

-- what is answered to proposed contexts, with this greatest fragment that is sent
abbrev pub ack_body : ℕ → List ℕ → ℕ → BindBody → AckBody
ack_body conn ids limit b =
    record {
      max_xmit = limit;
      max_recv = GREATEST_FRAGMENT;
      group = group_of conn b.group;
      address = [];
      results = context_results ids b.contexts;
    }

-- a whole PDU that answers another one in its byte order
abbrev pub answer_pdu : Pdu → Body → Pdu
answer_pdu p b = record { call_id = p.call_id; flags = FIRST_FRAGMENT + LAST_FRAGMENT; minor = MINOR; endian = p.endian; body = b }

-- the fault of a call that was not begun
abbrev pub fault_pdu : CallHead → ℕ → Pdu
fault_pdu call status =
    record {
      call_id = call.call_id;
      flags = FIRST_FRAGMENT + LAST_FRAGMENT + DID_NOT_EXECUTE;
      minor = MINOR;
      endian = call.endian;
      body = body.Fault 0 call.context 0 status;
    }

-- what a whole request gives, where these contexts were accepted
abbrev pub call_out : List ℕ → CallHead → List ℕ → Out
call_out ids call stub =
    if holds ids call.context then
    (if nat_lt LAST_OPERATION call.opnum then out.Send (fault_pdu call OPERATION_RANGE)
    else out.Call call.call_id call.context call.opnum stub call.endian call.maybe)
    else out.Send (fault_pdu call UNKNOWN_CONTEXT)

-- what a fragment of a call gives: too many octets, a part of the request or its end
abbrev pub request_gathers : List ℕ → List ℕ → Pdu → List ℕ → CallHead → Result (List Out) SessionFault
request_gathers ids octets p stub call =
    if nat_lt MAX_STUB (length octets + length stub) then Err (fault.Fragments (octets_past (length octets + length stub)) MAX_STUB)
    else if has_flag p.flags LAST_FRAGMENT then Ok (call_out ids call (octets ++ stub) ∷ [])
    else Ok []

abbrev pub requested : Phase → List ℕ → List ℕ → Pdu → List ℕ → Option CallHead → Result (List Out) SessionFault
requested now ids octets p stub None = unexpected (phase_state now) p
requested now ids octets p stub (Some call) = request_gathers ids octets p stub call

-- a bind is answered where none came, and further contexts where no call is gathered
abbrev pub bind_answer : ℕ → Phase → List ℕ → Pdu → BindBody → Result (List Out) SessionFault
bind_answer conn phase.New ids p b = Ok (out.Send (answer_pdu p (body.BindAck (ack_body conn ids (fragment_limit b.max_recv) b))) ∷ [])
bind_answer conn now ids p b = unexpected (phase_state now) p

abbrev pub alter_answer : ℕ → Phase → List ℕ → ℕ → Pdu → BindBody → Result (List Out) SessionFault
alter_answer conn phase.Bound ids limit p b = Ok (out.Send (answer_pdu p (body.AlterContextResp (ack_body conn ids limit b))) ∷ [])
alter_answer conn now ids limit p b = unexpected (phase_state now) p

-- what a server answers to a PDU, where it is so far, has accepted these contexts, gathered these octets and sends so much at once
abbrev pub server_answer : ℕ → Phase → List ℕ → List ℕ → ℕ → Pdu → Body → Result (List Out) SessionFault
server_answer conn now ids octets limit p (body.Bind b) = bind_answer conn now ids p b
server_answer conn now ids octets limit p (body.AlterContext b) = alter_answer conn now ids limit p b
server_answer conn now ids octets limit p (body.Request hint context opnum object stub) = requested now ids octets p stub
    (call_of now p context opnum)
server_answer conn now ids octets limit p body.Orphaned = Ok []
server_answer conn now ids octets limit p body.CoCancel = Ok []
server_answer conn now ids octets limit p _ = unexpected (phase_state now) p

-- the answer to a PDU behind a history
abbrev pub answered : ServerHistory → Pdu → Result (List Out) SessionFault
answered h p = server_answer (connection h) (serving h) (accepted h) (request_octets h) (server_limit h) p p.body

-- the fragments of a response
abbrev pub response_sent : ServerHistory → ℕ → ℕ → Endian → List ℕ → List Pdu
response_sent h call_id context endian stub = message
    (record { call_id = call_id; context = context; endian = endian; direction = direction.Response }) (server_limit h) stub
