use Rattle.ndr.proofs.ReadBack.{reads_stub}
use Rattle.ndr.proofs.laws.written_reads_back.Goals as goal

pub returns : goal.returns
returns c = reads_stub
