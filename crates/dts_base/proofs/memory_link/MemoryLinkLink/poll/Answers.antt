use Rattle.dts_base.proofs.ScriptFacts.{first_has_octets}
use Rattle.dts_base.proofs.memory_link.MemoryLinkLink.poll.Goals as goal

pub invariant_of-self-in-None-clause-more : goal.invariant_of-self-in-None-clause-more
invariant_of-self-in-None-clause-more c = first_has_octets _ c.args.self.now.script.items c.args.self.now.octets
