use Rattle.std.proofs.Common.{◌≡◌, drop}
use Rattle.rpc_pdu.specs.Soundness.{unsound_contexts}
use Rattle.rpc_pdu.proofs.soundness.unsound_contexts.Given as goal

abbrev pub invariant-loop-context : goal.invariant-loop-context
invariant-loop-context l = unsound_contexts (drop l.context-index l.contexts) ≡ unsound_contexts l.contexts
