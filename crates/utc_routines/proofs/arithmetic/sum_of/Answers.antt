use Rattle.std.proofs.Common.{rules}
use Rattle.utc_routines.proofs.LeastLemmas.{adds}
use Rattle.utc_routines.proofs.arithmetic.sum_of.Goals as goal

pub returns-clause-ok : goal.returns-clause-ok
returns-clause-ok c =
    rw c.made.ensures (adds c.args.a c.args.b _ (search rules) (search rules) (search rules) (search rules))
