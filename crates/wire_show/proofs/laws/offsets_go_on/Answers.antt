use Rattle.wire_show.proofs.Joined.{parts_begin}
use Rattle.wire_show.proofs.laws.offsets_go_on.Goals as goal

pub returns : goal.returns
returns c = parts_begin
