use Rattle.rpc_session.proofs.Taken.{server_receives}
use Rattle.rpc_session.proofs.server.ServerSession.take.Goals as goal

pub returns : goal.returns
returns c = record { taken = server_receives c.args.self.now c.serve.new.self c.args.p.now c.serve.result c.serve.ensures }
