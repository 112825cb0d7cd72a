use Rattle.std.proofs.Common.{arith}
use Rattle.intersection.proofs.AdoptionLaws.{agreed_since, since_agreed}
use Rattle.intersection.proofs.laws.points_are_agreed_by_more_than_half.Goals as goal

pub returns : goal.returns
returns c = record { agreed = agreed_since; left = since_agreed; need = λ n h. omega arith }
