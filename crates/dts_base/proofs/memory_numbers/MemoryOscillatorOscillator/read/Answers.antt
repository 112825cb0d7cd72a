use Rattle.dts_base.proofs.ScriptFacts.{bounded_next}
use Rattle.dts_base.proofs.memory_numbers.MemoryOscillatorOscillator.read.Goals as goal

pub invariant_of-self : goal.invariant_of-self
invariant_of-self c = record { bounded = bounded_next _ c.next.result c.args.self.now.script _ c.args.self.now.bounded c.next.ensures.gives }
