use Rattle.std.proofs.Common.{◌∙◌, sym, refl, ap, length, arith}
use Rattle.utc_order.proofs.PlaceFacts.{some_mapped}
use Rattle.utc_order.proofs.log.Log.take.Goals as goal

pub returns-in-Some-clause-stops : goal.returns-in-Some-clause-stops
returns-in-Some-clause-stops c =
    let back = some_mapped _ c.in-Some.earlier (sym (c.contrary.ensures c.args.octets.now) ∙ c.in-Some.is) in
    rw c.refused-in-Some.ensures (
      refl,
      (
        (omega (arith, c.if-len-ge-MAX_LINES.false, c.len.ensures, ap length c.self.view_is), omega arith),
        record {
          line = record { host = c.in-Ok.heading.host; time = c.in-Ok.heading.time; octets = c.args.octets.now };
          spells = c.in-Ok.ensures.line;
          index = back.0;
          first = back.1;
          number = back.2;
        },
      ),
    )
