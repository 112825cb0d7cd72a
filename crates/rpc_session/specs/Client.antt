-- A client of a connection-oriented remote call (C706, chapters 9 and 12): which call is open, and what each PDU is for it.
use Rattle.std.specs.Prelude.{ℕ, Bool, false, ◌==◌, nat_lt, if◌then◌else◌, ◌+◌, ◌-◌, ◌^◌, List, [], ◌∷◌, ◌++◌, length, Option, Some, None, Result, Ok, Err}
use Rattle.std.specs.Option.{unwrap_or}
use Rattle.dts_base.specs.declared.wire.State.{State}
use Rattle.dts_base.specs.declared.wire.State.TheVariants as state
use Rattle.ndr.specs.declared.endian.Endian.{Endian}
use Rattle.ndr.specs.declared.endian.Endian.TheVariants.{Little}
use Rattle.pdu_fields.specs.declared.pdu.Pdu.{Pdu}
use Rattle.pdu_fields.specs.declared.pdu.Body.{Body}
use Rattle.pdu_fields.specs.declared.pdu.Body.TheVariants as body
use Rattle.pdu_fields.specs.declared.pdu.Context.{Context}
use Rattle.pdu_fields.specs.declared.pdu.ContextResult.{ContextResult}
use Rattle.rpc_session.specs.declared.fault.SessionFault.{SessionFault}
use Rattle.rpc_session.specs.declared.fault.SessionFault.TheVariants as fault
use Rattle.rpc_session.specs.declared.fault.RequestFault.{RequestFault}
use Rattle.rpc_session.specs.declared.fault.RequestFault.TheVariants as refusal
use Rattle.rpc_session.specs.declared.fragments.TheConstants.{FIRST_FRAGMENT, LAST_FRAGMENT, GREATEST_FRAGMENT, MAX_STUB, MINOR}
use Rattle.rpc_session.specs.declared.fragments.Direction.TheVariants as direction
use Rattle.rpc_session.specs.declared.client.ClientOut.{ClientOut}
use Rattle.rpc_session.specs.declared.client.ClientOut.TheVariants as out
use Rattle.rpc_session.specs.declared.client.OpenCall.{OpenCall}
use Rattle.rpc_session.specs.declared.client.OpenCall.TheVariants as opened
use Rattle.rpc_session.specs.declared.client.TheConstants.{THE_CONTEXT}
use Rattle.rpc_session.specs.declared.contexts.TheConstants.{ACCEPTANCE}
use Rattle.rpc_session.specs.Fragments.{has_flag, fragment_limit, octets_past, message}
use Rattle.rpc_session.specs.Unexpected.{unexpected}
use Rattle.rpc_session.specs.Contexts.{time_interface, ndr_syntax}

-- What happened to a client, the newest on the outside: its bind was sent with a first call identifier, requests were sent, each
-- for an operation with a stub, and PDUs were taken, each with what it was answered with.
pub data ClientHistory : Type 0 where
  Started : ℕ → ClientHistory
  Requested : ClientHistory → ℕ → List ℕ → ClientHistory
  Took : ClientHistory → Pdu → Result ClientOut SessionFault → ClientHistory

-- the identifier of the last call: the bind has the first one, and each request the next
abbrev pub last_call : ClientHistory → ℕ
last_call (Started first) = first
last_call (Requested before opnum stub) = last_call before + 1
last_call (Took before p answer) = last_call before

-- the byte order of the response that is gathered: that of its first fragment
abbrev pub order_of : OpenCall → Pdu → Endian
order_of (opened.Request (Some endian)) p = endian
order_of _ p = p.endian

-- what is open behind an answer, where this was open before it
abbrev pub open_after : OpenCall → Pdu → Result ClientOut SessionFault → OpenCall
open_after o p (Ok out.Bound) = opened.Nothing
open_after o p (Ok out.Partial) = opened.Request (Some (order_of o p))
open_after o p (Ok (out.Reply call_id stub endian)) = opened.Nothing
open_after o p (Ok out.Shutdown) = opened.Ended
open_after o p (Err (fault.Unexpected ptype state)) = opened.Ended
open_after o p (Err (fault.UnknownCall call_id)) = o
open_after o p (Err (fault.Fragments have limit)) = opened.Ended
open_after o p (Err (fault.Rejected outcome reason)) = opened.Ended
open_after o p (Err (fault.Nak reason)) = opened.Ended
open_after o p (Err (fault.Fault status)) = opened.Nothing
open_after o p (Err fault.NoMemory) = o

-- the open call: the bind or request that was sent last, until an answer ends it
abbrev pub open_call : ClientHistory → OpenCall
open_call (Started first) = opened.Bind
open_call (Requested before opnum stub) = opened.Request None
open_call (Took before p answer) = open_after (open_call before) p answer

-- the stub of a request or a response
abbrev pub stub_of : Body → List ℕ
stub_of (body.Request hint context opnum object stub) = stub
stub_of (body.Response hint context cancels stub) = stub
stub_of _ = []

-- what is gathered behind an answer
abbrev pub gathered_after : List ℕ → Pdu → Result ClientOut SessionFault → List ℕ
gathered_after octets p (Ok out.Partial) = octets ++ stub_of p.body
gathered_after octets p (Ok _) = []
gathered_after octets p (Err (fault.UnknownCall call_id)) = octets
gathered_after octets p (Err fault.NoMemory) = octets
gathered_after octets p (Err _) = []

-- the octets that are gathered of the response to the open request: those of the fragments since it was sent
abbrev pub gathered : ClientHistory → List ℕ
gathered (Started first) = []
gathered (Requested before opnum stub) = []
gathered (Took before p answer) = gathered_after (gathered before) p answer

-- the greatest fragment that the peer takes, as it says in its acknowledgement
abbrev pub receive_size : Body → ℕ
receive_size (body.BindAck a) = a.max_recv
receive_size _ = 0

abbrev pub limit_after : ℕ → Pdu → Result ClientOut SessionFault → ℕ
limit_after limit p (Ok out.Bound) = fragment_limit (receive_size p.body)
limit_after limit p _ = limit

-- the greatest fragment that is sent
abbrev pub client_limit : ClientHistory → ℕ
client_limit (Started first) = GREATEST_FRAGMENT
client_limit (Requested before opnum stub) = client_limit before
client_limit (Took before p answer) = limit_after (client_limit before) p answer

abbrev pub state_in : OpenCall → State
state_in opened.Bind = state.Binding
state_in opened.Nothing = state.Bound
state_in (opened.Request order) = state.Waiting
state_in opened.Ended = state.Dead

-- the state of the session
abbrev pub client_state : ClientHistory → State
client_state h = state_in (open_call h)

-- whether the call with this identifier is the open one
abbrev pub is_open : ℕ → OpenCall → ℕ → Bool
is_open last opened.Bind id = last == id
is_open last opened.Nothing id = false
is_open last (opened.Request order) id = last == id
is_open last opened.Ended id = false

-- what an acknowledgement with these results is: that of the bind, whose context is accepted or not, or unexpected
abbrev pub first_result : Pdu → List ContextResult → Result ClientOut SessionFault
first_result p [] = unexpected state.Binding p
first_result p (r ∷ rs) = if r.«result» == ACCEPTANCE then Ok out.Bound else Err (fault.Rejected r.«result» r.reason)

abbrev pub acknowledged : OpenCall → Pdu → List ContextResult → Result ClientOut SessionFault
acknowledged opened.Bind p results = first_result p results
acknowledged o p results = unexpected (state_in o) p

-- what a fragment is whose first flag fits what is gathered: too many octets, a part of the response or its end
abbrev pub gathers : Option Endian → List ℕ → Pdu → List ℕ → Result ClientOut SessionFault
gathers order octets p stub =
    if nat_lt MAX_STUB (length octets + length stub) then Err (fault.Fragments (octets_past (length octets + length stub)) MAX_STUB)
    else if has_flag p.flags LAST_FRAGMENT then Ok (out.Reply p.call_id (octets ++ stub) (unwrap_or order p.endian))
    else Ok out.Partial

-- what a fragment of a response is: its first flag is set exactly where nothing is gathered
abbrev pub responded : OpenCall → List ℕ → Pdu → List ℕ → Result ClientOut SessionFault
responded (opened.Request None) octets p stub = if has_flag p.flags FIRST_FRAGMENT then gathers None octets p stub
    else unexpected state.Waiting p
responded (opened.Request (Some endian)) octets p stub = if has_flag p.flags FIRST_FRAGMENT then unexpected state.Waiting p
    else gathers (Some endian) octets p stub
responded o octets p stub = unexpected (state_in o) p

-- what a fault is: the open request has failed
abbrev pub failed : OpenCall → Pdu → ℕ → Result ClientOut SessionFault
failed (opened.Request order) p status = Err (fault.Fault status)
failed o p status = unexpected (state_in o) p

-- an answer to a call that is not open
abbrev pub unless_open : ℕ → OpenCall → Pdu → Result ClientOut SessionFault → Result ClientOut SessionFault
unless_open last o p answer = if is_open last o p.call_id then answer else Err (fault.UnknownCall p.call_id)

abbrev pub live_answer : ℕ → OpenCall → List ℕ → Pdu → Body → Result ClientOut SessionFault
live_answer last o octets p body.Shutdown = Ok out.Shutdown
live_answer last o octets p (body.BindAck a) = unless_open last o p (acknowledged o p a.results)
live_answer last o octets p (body.BindNak reason protocols) = unless_open last o p (Err (fault.Nak reason))
live_answer last o octets p (body.Response hint context cancels stub) = unless_open last o p (responded o octets p stub)
live_answer last o octets p (body.Fault hint context cancels status) = unless_open last o p (failed o p status)
live_answer last o octets p _ = unexpected (state_in o) p

-- what a PDU is where this call was the last, this is open and this was gathered. Behind the end of the session it is unexpected.
abbrev pub client_answer : ℕ → OpenCall → List ℕ → Pdu → Result ClientOut SessionFault
client_answer last opened.Ended octets p = unexpected state.Dead p
client_answer last opened.Bind octets p = live_answer last opened.Bind octets p p.body
client_answer last opened.Nothing octets p = live_answer last opened.Nothing octets p p.body
client_answer last (opened.Request order) octets p = live_answer last (opened.Request order) octets p p.body

-- what a PDU is behind a history
abbrev pub taken : ClientHistory → Pdu → Result ClientOut SessionFault
taken h p = client_answer (last_call h) (open_call h) (gathered h) p

-- why no request with so many octets is sent: nothing but an accepted context with no open call will do
abbrev pub refused_in : ℕ → OpenCall → ℕ → Option RequestFault
refused_in last opened.Nothing octets =
    if last == 2 ^ 32 - 1 then Some refusal.CallsSpent
    else if nat_lt MAX_STUB octets then Some (refusal.Fragments (octets_past octets) MAX_STUB)
    else None
refused_in last o octets = Some (refusal.NotBound (state_in o))

abbrev pub request_refused : ClientHistory → List ℕ → Option RequestFault
request_refused h stub = refused_in (last_call h) (open_call h) (length stub)

-- the fragments of the next request
abbrev pub sent_in : ℕ → ℕ → ℕ → List ℕ → List Pdu
sent_in last limit opnum stub = message
    (record { call_id = last + 1; context = THE_CONTEXT; endian = Little; direction = direction.Request opnum }) limit stub

abbrev pub request_sent : ClientHistory → ℕ → List ℕ → List Pdu
request_sent h opnum stub = sent_in (last_call h) (client_limit h) opnum stub

-- the contexts that a client proposes
abbrev pub proposed : List Context
proposed = record { id = THE_CONTEXT; abstract_syntax = time_interface; transfers = ndr_syntax ∷ [] } ∷ []

-- the bind of a client: the time interface in NDR as its one context, and no association group
abbrev pub bind_of : ℕ → Pdu
bind_of first =
    record {
      call_id = first;
      flags = FIRST_FRAGMENT + LAST_FRAGMENT;
      minor = MINOR;
      endian = Little;
      body = body.Bind (record {
        max_xmit = GREATEST_FRAGMENT;
        max_recv = GREATEST_FRAGMENT;
        group = 0;
        contexts = proposed;
      });
    }
