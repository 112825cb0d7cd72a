use Rattle.std.proofs.Common.{rules}
use Rattle.utc_routines.proofs.LeastLemmas.{multiplies}
use Rattle.utc_routines.proofs.arithmetic.multiple_of.Goals as goal

pub returns-clause-ok : goal.returns-clause-ok
returns-clause-ok c =
    rw c.made.ensures (multiplies c.args.a c.args.k _ (search rules) (search rules) (search rules) (search rules) (search rules))
