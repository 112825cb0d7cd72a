use Rattle.node_safety.proofs.Serving.{serving_publishes_nothing}
use Rattle.node_safety.proofs.serving_publishes_nothing.Goals as goal

pub returns : goal.returns
returns c = serving_publishes_nothing
