use Rattle.std.proofs.Common.{◌≡◌, drop}
use Rattle.rpc_pdu.specs.Soundness.{unsound_results}
use Rattle.rpc_pdu.proofs.soundness.unsound_results.Given as goal

abbrev pub invariant-loop-answer : goal.invariant-loop-answer
invariant-loop-answer l = unsound_results (drop l.answer-index l.results) ≡ unsound_results l.results
