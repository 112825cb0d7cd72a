use Rattle.wire_show.proofs.Joined.{parts_joined}
use Rattle.wire_show.proofs.laws.lines_hold_the_octets.Goals as goal

pub returns : goal.returns
returns c = parts_joined
