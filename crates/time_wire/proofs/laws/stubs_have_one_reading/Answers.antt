use Rattle.time_wire.proofs.ReadBack.{one_time_reply}
use Rattle.time_wire.proofs.laws.stubs_have_one_reading.Goals as goal

pub returns-clause-time_reply : goal.returns-clause-time_reply
returns-clause-time_reply c = one_time_reply
