use Rattle.std.proofs.Common.{◌≡◌, ◌++◌, drop}
use Rattle.rpc_session.specs.Contexts.{accepted_after, context_results}
use Rattle.rpc_session.proofs.contexts.Accepted.answer_all.Given as goal

abbrev pub invariant-loop-context : goal.invariant-loop-context
invariant-loop-context l =
    record {
      answered : l.results ++ context_results l.self (drop l.context-index l.contexts) ≡ context_results l.fn.self l.contexts;
      accepted : accepted_after l.self (drop l.context-index l.contexts) ≡ accepted_after l.fn.self l.contexts;
    }
