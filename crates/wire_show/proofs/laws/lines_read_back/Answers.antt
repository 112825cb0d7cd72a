use Rattle.wire_show.proofs.ReadBack.{parts_read_back}
use Rattle.wire_show.proofs.laws.lines_read_back.Goals as goal

pub returns : goal.returns
returns c = parts_read_back
