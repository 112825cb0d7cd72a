-- What the state of a server session stands for.
use Rattle.std.specs.Prelude.{◌≡◌, ◌⊎◌, ℕ, List, [], Option, Some, None, Result, Ok, Err, Vec}
use Rattle.std.specs.declared.alloc.Global.{Global}
use Rattle.pdu_fields.specs.declared.pdu.Pdu.{Pdu}
use Rattle.rpc_session.specs.declared.fault.SessionFault.{SessionFault}
use Rattle.rpc_session.specs.declared.fault.SessionFault.TheVariants as fault
use Rattle.rpc_session.specs.declared.server.Out.{Out}
use Rattle.rpc_session.specs.declared.server.CallHead.{CallHead}
use Rattle.rpc_session.specs.declared.server.Phase.{Phase}
use Rattle.rpc_session.specs.declared.server.Phase.TheVariants as phase
use Rattle.rpc_session.specs.declared.server.ServerSession.{ServerSession}
use Rattle.rpc_session.specs.Server.{ServerHistory, Received, connection, serving, accepted, request_octets, server_limit, phase_after, accepted_behind, octets_after, limit_behind, answered, gathers_on, octets_with}

-- a session stands for a history: it keeps what is selected from it
pub record ServerStands (s : ServerSession) (h : ServerHistory) : Type 0 where
  pub conn : s.conn ≡ connection h
  pub phase : s.phase ≡ serving h
  pub ids : s.accepted ≡ accepted h
  pub octets : s.gathered ≡ request_octets h
  pub limit : s.limit ≡ server_limit h

-- the answers as a list
abbrev pub outs_of : Result (Vec Out Global) SessionFault → Result (List Out) SessionFault
outs_of (Ok outs) = Ok outs.items
outs_of (Err f) = Err f

-- a PDU was taken: for every history that the session stood for, the answer is that to the PDU behind that history, and the
-- session stands for the history with the PDU on top. Without memory the session is as it was.
abbrev pub Receives : ServerSession → ServerSession → Pdu → Result (Vec Out Global) SessionFault → Type 0
Receives old new p given =
    ((h : ServerHistory) → ServerStands old h → (outs_of given ≡ answered h p) × ServerStands new (Received h p (answered h p)))
    ⊎ ((given ≡ Err fault.NoMemory) × (new ≡ old))

-- the identifier of the call that is gathered
abbrev pub gathering_in : Phase → Option ℕ
gathering_in (phase.Gathering call) = Some call.call_id
gathering_in _ = None

-- the session behind an answer
abbrev pub server_after : ServerSession → Pdu → Result (List Out) SessionFault → ServerSession
server_after s p answer =
    record s {
      phase = phase_after s.phase p answer;
      accepted = accepted_behind s.accepted p answer;
      gathered = octets_after s.gathered s.phase p answer;
      limit = limit_behind s.limit p answer;
    }

-- the session behind a fragment of this call
abbrev pub request_after : ServerSession → Pdu → Option CallHead → List ℕ → Result (List Out) SessionFault → ServerSession
request_after s p call stub (Ok outs) = record s { phase = gathers_on s.phase p call; gathered = octets_with s.gathered p stub }
request_after s p call stub (Err f) = record s { phase = phase.Dead; gathered = [] }

abbrev pub Continues : ServerSession → ServerSession → Pdu → Option CallHead → List ℕ → Result (List Out) SessionFault
    → Result (Vec Out Global) SessionFault → Type 0
Continues old new p call stub answer given = ((outs_of given ≡ answer) × (new ≡ request_after old p call stub answer)) ⊎
    ((given ≡ Err fault.NoMemory) × (new ≡ old))

-- a PDU was answered so, or there was no memory
abbrev pub Serves : ServerSession → ServerSession → Pdu → Result (List Out) SessionFault → Result (Vec Out Global) SessionFault → Type 0
Serves old new p answer given = ((outs_of given ≡ answer) × (new ≡ server_after old p answer)) ⊎
    ((given ≡ Err fault.NoMemory) × (new ≡ old))
