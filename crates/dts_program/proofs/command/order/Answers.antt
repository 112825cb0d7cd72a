use Rattle.std.proofs.Common.{sym, ◌∙◌}
use Rattle.dts_program.proofs.Ending.{ordered_to_end, ordered_or_no_memory}
use Rattle.dts_program.proofs.command.order.Goals as goal

pub returns-clause-read_to_end : goal.returns-clause-read_to_end
returns-clause-read_to_end g c = λ done octets there.
    ordered_to_end octets _ _ _ c.order.result (c.order.ensures.ordered octets there) (sym c.order_status.ensures ∙ done)

pub returns-clause-complete : goal.returns-clause-complete
returns-clause-complete g c = λ octets there unrefused calm_in calm_out.
    rw c.order_status.ensures (ordered_or_no_memory c.order.result (c.order.ensures.complete octets there unrefused calm_in calm_out))
