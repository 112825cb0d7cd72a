use Rattle.rpc_session.proofs.Whole.{dead_client, dead_client_stays, dead_server_stays}
use Rattle.rpc_session.proofs.laws.the_dead_stay_dead.Goals as goal

pub returns : goal.returns
returns c = record { refused = dead_client; client = dead_client_stays; server = dead_server_stays }
