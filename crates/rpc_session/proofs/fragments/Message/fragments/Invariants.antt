use Rattle.std.proofs.Common.{◌≡◌, ◌≤◌, ◌++◌, length}
use Rattle.rpc_session.specs.declared.fragments.TheConstants.{MAX_STUB}
use Rattle.rpc_session.specs.Fragments.{fragments, full_fragments, message}
use Rattle.rpc_session.proofs.fragments.Message.fragments.Given as goal

abbrev pub invariant-loop-rest : goal.invariant-loop-rest
invariant-loop-rest l =
    record {
      made : l.sent.items ++ fragments l.self l.size l.first (full_fragments l.size l.rest) l.rest ≡ message l.self l.limit l.stub;
      limit : length l.rest ≤ MAX_STUB;
    }

abbrev pub decreases-loop-rest : goal.decreases-loop-rest
decreases-loop-rest l = length l.rest
