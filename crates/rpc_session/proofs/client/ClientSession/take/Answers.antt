use Rattle.rpc_session.proofs.Taken.{client_takes, client_keeps}
use Rattle.rpc_session.proofs.client.ClientSession.take.Goals as goal

pub returns-clause-taken : goal.returns-clause-taken
returns-clause-taken c = client_takes c.args.self.now c.answer.new.self c.args.p.now c.answer.result c.answer.ensures

pub returns-clause-kept : goal.returns-clause-kept
returns-clause-kept c = client_keeps c.args.self.now c.answer.new.self c.args.p.now c.answer.result c.answer.ensures
