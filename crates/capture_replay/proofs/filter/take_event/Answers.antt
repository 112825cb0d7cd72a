use Rattle.std.proofs.Common.{flat_map, [], sym, ap, ◌∙◌}
use Rattle.dts_capture.specs.Log.{log_text}
use Rattle.capture_replay.proofs.filter.take_event.Goals as goal

pub returns-clause-log : goal.returns-clause-log
returns-clause-log c = λ history stands.
    let step = c.in-Ok.ensures.step in
    step.taken [] c.requires.empty ∙ ap (flat_map log_text) (sym (step.are.gives history stands))
