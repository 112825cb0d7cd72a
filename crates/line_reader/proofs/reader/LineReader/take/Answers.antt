use Rattle.std.proofs.Common.{◌≤◌, ◌+◌, ◌-◌, length, drop, ap, arith}
use Rattle.std.proofs.lemmas.List.{length-take}
use Rattle.line_reader.proofs.Places.{takes_octets}
use Rattle.line_reader.proofs.reader.LineReader.take.Goals as goal

pub returns : goal.returns
returns c =
    let from = c.self.inside.ahead_from in
    let to = c.self.inside.ahead_to in
    let octets = c.self.inside.buffer.items in
    let fits : c.args.count + c.args.feeds ≤ to - from = omega (arith, c.requires, ap (λ r. length r.ahead) c.self.view_is, length-take (to - from) (drop from octets)) in
    rw (← c.self.view_is) (takes_octets octets from to c.args.count c.args.feeds c.self.inside.ended fits)
