use Rattle.wire_show.specs.Output.{output_of}
use Rattle.wire_show.proofs.Joined.{either_result}
use Rattle.wire_show.proofs.laws.one_output.Goals as goal

pub returns-clause-some : goal.returns-clause-some
returns-clause-some c = λ kind input. either_result (output_of kind input)
