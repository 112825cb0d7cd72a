use Rattle.std.proofs.Common.{take}
use Rattle.intersection.specs.Adoption.{ends_of}
use Rattle.capture_replay.specs.Rounds.{false_notes}
use Rattle.capture_replay.specs.Taken.{GoesOn}
use Rattle.capture_replay.proofs.round.DirectRound.note_false.Given as goal

abbrev pub invariant-loop-answer : goal.invariant-loop-answer
invariant-loop-answer g l = GoesOn g.T.ActionTaker.took l.initial.taker l.taker (false_notes l.rates l.osc (ends_of l.adopted) (take l.answer-index l.self.answers.items))
