use Rattle.std.proofs.Common.{arith}
use Rattle.std.specs.Prelude.{pos}
use Rattle.std.proofs.lemmas.Int.{ints}
use Rattle.line_reader.proofs.Decimals.{no_number}
use Rattle.utc_order.proofs.heading.host_in.Goals as goal

pub returns-in-Err : goal.returns-in-Err
returns-in-Err c = λ host is. no_number c.args.field.now (pos 0) _ (pos host) c.in-Err.field-0 c.in-Err.ensures.fault is.0 (omega (arith, ints), omega (arith, ints, is.1))
