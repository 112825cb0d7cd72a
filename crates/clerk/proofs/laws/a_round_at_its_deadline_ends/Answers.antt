use Rattle.clerk.proofs.Outcomes.{ends_late, ends_answered}
use Rattle.clerk.proofs.laws.a_round_at_its_deadline_ends.Goals as goal

pub returns : goal.returns
returns c = record { deadline = ends_late; answered = ends_answered }
