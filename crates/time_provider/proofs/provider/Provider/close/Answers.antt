use Rattle.std.proofs.Common.{arith}
use Rattle.time_provider.proofs.Counting.{count_within}
use Rattle.time_provider.proofs.provider.Provider.close.Goals as goal

pub invariant_of-self : goal.invariant_of-self
invariant_of-self c = (c.self.invariant.0, omega (arith, c.self.invariant.1, count_within c.self.inside.pending c.args.place))
