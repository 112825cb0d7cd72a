use Rattle.line_filter.proofs.Settling.{settles}
use Rattle.line_filter.proofs.laws.each_input_is_settled.Goals as goal

pub returns : goal.returns
returns g c = λ total from octets. let s = settles g.F.LineFilter.rules total from octets in (s.result, s.text, s.is, s.filters)
