use Rattle.std.proofs.Common.{sym, ◌∙◌}
use Rattle.dts_program.specs.declared.status.Status.TheVariants as status
use Rattle.capture_replay.specs.declared.fault.CaptureFault.{CaptureFault}
use Rattle.dts_program.proofs.Ending.{read_to_end, done_or_no_memory}
use Rattle.dts_program.proofs.command.replay.Goals as goal

pub returns-clause-read_to_end : goal.returns-clause-read_to_end
returns-clause-read_to_end g c = λ done octets there.
    read_to_end _ _ (λ line (fault : CaptureFault). status.CaptureRefused line fault.column fault.cause) (λ n cause e. cc) octets _ _ _ c.replay.result (c.replay.ensures.log octets there) (sym c.capture_status.ensures ∙ done)

pub returns-clause-complete : goal.returns-clause-complete
returns-clause-complete g c = λ octets text there valid calm_in calm_out.
    rw c.capture_status.ensures (done_or_no_memory (λ line (fault : CaptureFault). status.CaptureRefused line fault.column fault.cause) c.replay.result (c.replay.ensures.complete octets text there valid calm_in calm_out))
