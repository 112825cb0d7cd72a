use Rattle.rpc_pdu.proofs.ReadBack.{reads_back}
use Rattle.rpc_pdu.proofs.laws.decode_undoes_encode.Goals as goal

pub returns : goal.returns
returns c = reads_back
