use Rattle.time_wire.proofs.ReadBack.{refused_first}
use Rattle.time_wire.proofs.laws.refused_at_the_first_wrong_field.Goals as goal

pub returns : goal.returns
returns c = refused_first
