use Rattle.std.proofs.Common.{length, arith}
use Rattle.utc_text.proofs.DigitLemmas.{units_below}
use Rattle.utc_text.proofs.fields.units.Goals as goal

pub overflow_mul-result : goal.overflow_mul-result
overflow_mul-result c = let below = units_below c.number.result (length c.args.digits.now) c.pow.result c.number.ensures.bound c.requires.few c.pow.ensures in omega (arith, below)

pub returns-clause-bound : goal.returns-clause-bound
returns-clause-bound c = units_below c.number.result (length c.args.digits.now) c.pow.result c.number.ensures.bound c.requires.few c.pow.ensures
