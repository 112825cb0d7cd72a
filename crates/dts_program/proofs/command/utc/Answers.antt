use Rattle.std.proofs.Common.{sym, ◌∙◌}
use Rattle.dts_program.specs.declared.status.Status.TheVariants as status
use Rattle.dts_program.proofs.Ending.{read_to_end, done_or_no_memory}
use Rattle.dts_program.proofs.command.utc.Goals as goal

pub returns-clause-read_to_end : goal.returns-clause-read_to_end
returns-clause-read_to_end g c = λ done octets there.
    read_to_end _ _ (λ line refusal. status.UtcRefused line refusal.column refusal.cause) (λ n cause e. cc) octets _ _ _ c.calculate.result (c.calculate.ensures.answers octets there) (sym c.utc_status.ensures ∙ done)

pub returns-clause-complete : goal.returns-clause-complete
returns-clause-complete g c = λ octets text there valid calm_in calm_out.
    rw c.utc_status.ensures (done_or_no_memory (λ line refusal. status.UtcRefused line refusal.column refusal.cause) c.calculate.result (c.calculate.ensures.complete octets text there valid calm_in calm_out))
