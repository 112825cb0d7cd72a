use Rattle.std.proofs.Common.{sym, ◌∙◌}
use Rattle.dts_program.proofs.Ending.{shown_to_end}
use Rattle.dts_program.proofs.command.show.Goals as goal

pub returns-clause-read_to_end : goal.returns-clause-read_to_end
returns-clause-read_to_end g c = λ done octets there.
    shown_to_end _ octets _ _ _ c.show.result (c.show.ensures.shown octets there) (sym c.show_status.ensures ∙ done)
