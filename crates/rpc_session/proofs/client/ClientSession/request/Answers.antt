use Rattle.std.proofs.Common.{◌+◌, sym, subst, ◌∙◌}
use Rattle.rpc_session.specs.ClientStanding.{IsRequest}
use Rattle.rpc_session.proofs.Taken.{client_requests}
use Rattle.rpc_session.proofs.client.ClientSession.request.Goals as goal

pub returns-clause-sent : goal.returns-clause-sent
returns-clause-sent c =
    let old = c.args.self.now in
    let stub = c.args.stub.now in
    subst (λ s. IsRequest old s c.args.opnum stub (old.last + 1) c.in_ok-sent.sent.items) (sym c.turn.ensures)
    (client_requests old c.args.opnum stub c.in_ok-sent.sent.items (sym c.refused.ensures ∙ c.in_default.is) c.in_ok-sent.ensures)
