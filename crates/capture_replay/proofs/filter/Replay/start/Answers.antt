use Rattle.std.proofs.Common.{flat_map, [], ◌∷◌, ap, ◌∙◌, w64}
use Rattle.std.proofs.lemmas.Int.{to_z-of_z}
use Rattle.slew_clock.specs.Started.{started}
use Rattle.dts_capture.specs.declared.action.Action.TheVariants as action
use Rattle.dts_capture.specs.Log.{log_text}
use Rattle.capture_replay.proofs.filter.Replay.start.Goals as goal

pub returns-clause-log : goal.returns-clause-log
returns-clause-log c =
    c.in-Ok.ensures [] c.requires.empty
    ∙ ap (λ a. flat_map log_text (a ∷ [])) c.start-node.ensures.published
    ∙ ap (λ v. flat_map log_text (action.Publish (started c.args.osc v c.args.first) ∷ [])) (to_z-of_z w64 c.args.value c.ranges.value)
