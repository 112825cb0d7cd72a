use Rattle.server_roles.proofs.Answered.{refused_as_its_stub}
use Rattle.server_roles.proofs.laws.calls_are_refused_as_their_stubs.Goals as goal

pub returns : goal.returns
returns c = refused_as_its_stub
