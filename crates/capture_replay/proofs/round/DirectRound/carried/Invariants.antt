use Rattle.std.proofs.Common.{◌≡◌, map, take}
use Rattle.intersection.specs.Adoption.{ends_of}
use Rattle.sync_rules.specs.Rounds.{carried_to}
use Rattle.capture_replay.specs.Rounds.{answer_kept}
use Rattle.capture_replay.proofs.round.DirectRound.carried.Given as goal

abbrev pub invariant-loop-answer : goal.invariant-loop-answer
invariant-loop-answer l = map ends_of l.carried.items ≡ map (λ a. carried_to l.rates l.osc (answer_kept a)) (take l.answer-index l.self.answers.items)
