-- What the state of a client session stands for.
use Rattle.std.specs.Prelude.{◌≡◌, ◌⊎◌, ◌+◌, ℕ, List, Some, None, Result, Err}
use Rattle.pdu_fields.specs.declared.pdu.Pdu.{Pdu}
use Rattle.rpc_session.specs.declared.fault.SessionFault.{SessionFault}
use Rattle.rpc_session.specs.declared.fault.SessionFault.TheVariants as fault
use Rattle.rpc_session.specs.declared.fault.RequestFault.{RequestFault}
use Rattle.rpc_session.specs.declared.fault.RequestFault.TheVariants as refusal
use Rattle.rpc_session.specs.declared.client.ClientOut.{ClientOut}
use Rattle.rpc_session.specs.declared.client.ClientSession.{ClientSession}
use Rattle.rpc_session.specs.Client.{ClientHistory, Requested, Took, last_call, open_call, gathered, client_limit, open_after, gathered_after, limit_after, taken, request_refused, request_sent}

-- a session stands for a history: it keeps what is selected from it
pub record ClientStands (s : ClientSession) (h : ClientHistory) : Type 0 where
  pub last : s.last ≡ last_call h
  pub call : s.call ≡ open_call h
  pub octets : s.gathered ≡ gathered h
  pub limit : s.limit ≡ client_limit h

-- a PDU was taken: for every history that the session stood for, the answer is what the PDU is behind that history, and the
-- session stands for the history with the PDU on top. Without memory the session is as it was.
abbrev pub Takes : ClientSession → ClientSession → Pdu → Result ClientOut SessionFault → Type 0
Takes old new p answer =
    ((h : ClientHistory) → ClientStands old h → (answer ≡ taken h p) × ClientStands new (Took h p (taken h p)))
    ⊎ ((answer ≡ Err fault.NoMemory) × (new ≡ old))

-- a request was sent: for every history that the session stood for, it has the next call identifier and its fragments
pub record IsRequest (old new : ClientSession) (opnum : ℕ) (stub : List ℕ) (call_id : ℕ) (sent : List Pdu) : Type 0 where
  pub permitted : (h : ClientHistory) → ClientStands old h → request_refused h stub ≡ None
  pub next : (h : ClientHistory) → ClientStands old h → call_id ≡ last_call h + 1
  pub fragments : (h : ClientHistory) → ClientStands old h → sent ≡ request_sent h opnum stub
  pub stands : (h : ClientHistory) → ClientStands old h → ClientStands new (Requested h opnum stub)

-- a request was refused for the reason that each history gives that the session stood for, or for want of memory
abbrev pub IsRequestRefused : ClientSession → List ℕ → RequestFault → Type 0
IsRequestRefused old stub f = ((h : ClientHistory) → ClientStands old h → request_refused h stub ≡ Some f) ⊎ (f ≡ refusal.NoMemory)

-- the session behind an answer
abbrev pub session_after : ClientSession → Pdu → Result ClientOut SessionFault → ClientSession
session_after s p answer = record s
    { call = open_after s.call p answer; gathered = gathered_after s.gathered p answer; limit = limit_after s.limit p answer }

-- a PDU was answered so, or there was no memory
abbrev pub Answers : ClientSession → ClientSession → Pdu → Result ClientOut SessionFault → Result ClientOut SessionFault → Type 0
Answers old new p answer given = ((given ≡ answer) × (new ≡ session_after old p answer)) ⊎ ((given ≡ Err fault.NoMemory) × (new ≡ old))
