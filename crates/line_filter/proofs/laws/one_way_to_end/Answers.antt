use Rattle.line_filter.proofs.Settling.{one_way}
use Rattle.line_filter.proofs.laws.one_way_to_end.Goals as goal

pub returns : goal.returns
returns g c = λ exclusive from octets left more text other result answer. one_way g.F.LineFilter.rules exclusive from octets left more text other result answer
