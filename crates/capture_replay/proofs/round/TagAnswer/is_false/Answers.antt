use Rattle.std.proofs.Common.{ap, ◌∙◌}
use Rattle.intersection.specs.Adoption.{ends_of}
use Rattle.sync_rules.specs.Rounds.{are_apart}
use Rattle.capture_replay.proofs.Adopting.{apart_is}
use Rattle.capture_replay.proofs.round.TagAnswer.is_false.Goals as goal

pub returns : goal.returns
returns c =
    apart_is c.is_false.result (ends_of c.carried.result) (ends_of c.args.adopted.now) c.carried.result.ordered c.args.adopted.now.ordered c.is_false.ensures
    ∙ ap (λ i. are_apart i (ends_of c.args.adopted.now)) c.carried.ensures
