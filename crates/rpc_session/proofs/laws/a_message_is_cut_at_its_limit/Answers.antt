use Rattle.rpc_session.proofs.Fitting.{whole, fitting}
use Rattle.rpc_session.proofs.laws.a_message_is_cut_at_its_limit.Goals as goal

pub returns : goal.returns
returns c = record { whole = whole; fitting = fitting }
