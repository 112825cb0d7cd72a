-- A session that stands for a history, and an answer that is what its state gives: then it is what the history gives.
use Rattle.std.proofs.Common.{◌≡◌, ℕ, List, Result, Err, inl, inr, None, length, [], ◌+◌, refl, sym, ap, subst, ◌∙◌}
use Rattle.std.specs.Prelude.{Vec}
use Rattle.std.specs.declared.alloc.Global.{Global}
use Rattle.pdu_fields.specs.declared.pdu.Pdu.{Pdu}
use Rattle.rpc_session.specs.declared.fault.SessionFault.{SessionFault}
use Rattle.rpc_session.specs.declared.client.ClientOut.{ClientOut}
use Rattle.rpc_session.specs.declared.client.ClientSession.{ClientSession}
use Rattle.rpc_session.specs.declared.server.Out.{Out}
use Rattle.rpc_session.specs.declared.server.ServerSession.{ServerSession}
use Rattle.rpc_session.specs.declared.fault.SessionFault.TheVariants as fault
use Rattle.rpc_session.specs.declared.client.OpenCall.TheVariants as opened
use Rattle.rpc_session.specs.Client.{ClientHistory, Took, refused_in, request_refused, sent_in, client_answer, taken, last_call, open_call, open_after, gathered_after, limit_after}
use Rattle.rpc_session.specs.ClientStanding.{ClientStands, Answers, IsRequest, Takes, session_after}
use Rattle.rpc_session.specs.Server.{ServerHistory, Received, server_answer, answered, connection, serving, accepted, request_octets, phase_after, accepted_behind, octets_after, limit_behind}
use Rattle.rpc_session.specs.ServerStanding.{ServerStands, Serves, Receives, server_after}

client_is : (s : ClientSession) (p : Pdu) (h : ClientHistory) → ClientStands s h → client_answer s.last s.call s.gathered p ≡ taken h p
client_is s p h stands =
    ap (λ n. client_answer n s.call s.gathered p) stands.last
    ∙ ap (λ o. client_answer (last_call h) o s.gathered p) stands.call
    ∙ ap (λ g. client_answer (last_call h) (open_call h) g p) stands.octets

client_stands : (s : ClientSession) (p : Pdu) (h : ClientHistory) (answer : Result ClientOut SessionFault) → ClientStands s h
    → ClientStands (session_after s p answer) (Took h p answer)
client_stands s p h answer stands =
    record {
      last = stands.last;
      call = ap (λ o. open_after o p answer) stands.call;
      octets = ap (λ g. gathered_after g p answer) stands.octets;
      limit = ap (λ n. limit_after n p answer) stands.limit;
    }

pub client_takes : (old new : ClientSession) (p : Pdu) (given : Result ClientOut SessionFault)
    → Answers old new p (client_answer old.last old.call old.gathered p) given → Takes old new p given
client_takes old new p given (inl (gives, leaves)) = inl (λ h stands.
    let is = client_is old p h stands in (
      gives ∙ is,
      subst (λ s. ClientStands s (Took h p (taken h p))) (sym (leaves ∙ ap (session_after old p) is))
          (client_stands old p h (taken h p) stands),
    ))
client_takes old new p given (inr (gives, leaves)) = inr (gives, leaves)

-- an answer to a call that is not open leaves the session as it was
pub client_keeps : (old new : ClientSession) (p : Pdu) (given : Result ClientOut SessionFault)
    → Answers old new p (client_answer old.last old.call old.gathered p) given → (id : ℕ) → given ≡ Err (fault.UnknownCall id) → new ≡ old
client_keeps old new p given (inl (gives, leaves)) id is = leaves ∙ ap (session_after old p) (sym gives ∙ is)
client_keeps old new p given (inr (gives, leaves)) id is = leaves

refusal_is : (s : ClientSession) (stub : List ℕ) (h : ClientHistory) → ClientStands s h
    → refused_in s.last s.call (length stub) ≡ request_refused h stub
refusal_is s stub h stands = ap (λ n. refused_in n s.call (length stub)) stands.last
    ∙ ap (λ o. refused_in (last_call h) o (length stub)) stands.call

-- a request that is not refused
pub client_requests : (old : ClientSession) (opnum : ℕ) (stub : List ℕ) (sent : List Pdu)
    → refused_in old.last old.call (length stub) ≡ None → sent ≡ sent_in old.last old.limit opnum stub
    → IsRequest old (record old { last = old.last + 1; call = opened.Request None; gathered = [] }) opnum stub (old.last + 1) sent
client_requests old opnum stub sent permitted made =
    record {
      permitted = λ h stands. sym (refusal_is old stub h stands) ∙ permitted;
      next = λ h stands. ap (λ n. n + 1) stands.last;
      fragments = λ h stands. made ∙ ap (λ n. sent_in n old.limit opnum stub) stands.last
          ∙ ap (λ n. sent_in (last_call h) n opnum stub) stands.limit;
      stands = λ h stands. record { last = ap (λ n. n + 1) stands.last; call = refl; octets = refl; limit = stands.limit };
    }

server_is : (s : ServerSession) (p : Pdu) (h : ServerHistory) → ServerStands s h
    → server_answer s.conn s.phase s.accepted s.gathered s.limit p p.body ≡ answered h p
server_is s p h stands =
    ap (λ n. server_answer n s.phase s.accepted s.gathered s.limit p p.body) stands.conn
    ∙ ap (λ q. server_answer (connection h) q s.accepted s.gathered s.limit p p.body) stands.phase
    ∙ ap (λ ids. server_answer (connection h) (serving h) ids s.gathered s.limit p p.body) stands.ids
    ∙ ap (λ g. server_answer (connection h) (serving h) (accepted h) g s.limit p p.body) stands.octets
    ∙ ap (λ n. server_answer (connection h) (serving h) (accepted h) (request_octets h) n p p.body) stands.limit

server_stands : (s : ServerSession) (p : Pdu) (h : ServerHistory) (answer : Result (List Out) SessionFault) → ServerStands s h
    → ServerStands (server_after s p answer) (Received h p answer)
server_stands s p h answer stands =
    record {
      conn = stands.conn;
      phase = ap (λ q. phase_after q p answer) stands.phase;
      ids = ap (λ ids. accepted_behind ids p answer) stands.ids;
      octets = ap (λ g. octets_after g s.phase p answer) stands.octets ∙ ap (λ q. octets_after (request_octets h) q p answer) stands.phase;
      limit = ap (λ n. limit_behind n p answer) stands.limit;
    }

pub server_receives : (old new : ServerSession) (p : Pdu) (given : Result (Vec Out Global) SessionFault)
    → Serves old new p (server_answer old.conn old.phase old.accepted old.gathered old.limit p p.body) given → Receives old new p given
server_receives old new p given (inl (gives, leaves)) = inl (λ h stands.
    let is = server_is old p h stands in (
      gives ∙ is,
      subst (λ s. ServerStands s (Received h p (answered h p))) (sym (leaves ∙ ap (server_after old p) is))
          (server_stands old p h (answered h p) stands),
    ))
server_receives old new p given (inr (gives, leaves)) = inr (gives, leaves)
