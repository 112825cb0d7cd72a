use Rattle.std.proofs.Common.{Err, refl, sym, subst}
use Rattle.line_filter.specs.Filters.{IsValid}
use Rattle.slew_clock.specs.UsualRates.{usual_rates}
use Rattle.capture_replay.specs.Capture.{capture, unstarted}
use Rattle.capture_replay.specs.declared.fault.CaptureFault.{CaptureFault}
use Rattle.utc_calculator.specs.declared.cause.UtcRefusal.{UtcRefusal}
use Rattle.utc_calculator.specs.Answers.{calculator}
use Rattle.event_drill.specs.declared.command.DrillStop.TheVariants as drill_stop
use Rattle.dts_program.specs.declared.status.Status.TheVariants as status
use Rattle.dts_program.specs.Kinds.{shown_as}
use Rattle.dts_program.proofs.Ending.{nothing_answered, nothing_ordered, nothing_replayed, nothing_shown}
use Rattle.dts_program.proofs.outside.run.Goals as goal

pub returns-in-Ok-Replay-false-clause-complete : goal.returns-in-Ok-Replay-false-clause-complete
returns-in-Ok-Replay-false-clause-complete g c = λ is octets text there valid calm_in calm_out.
    c.replay.ensures.complete octets text there (subst (λ r. IsValid capture (unstarted r) octets text) (sym c.usual.ensures.usual) valid) calm_in calm_out

pub returns-in-Err-NoMemory-clause-log : goal.returns-in-Err-NoMemory-clause-log
returns-in-Err-NoMemory-clause-log g c = λ is octets there.
    nothing_answered capture (unstarted usual_rates) (λ line (fault : CaptureFault). status.CaptureRefused line fault.column fault.cause) octets _ _ there

pub returns-in-Err-NoMemory-clause-safe : goal.returns-in-Err-NoMemory-clause-safe
returns-in-Err-NoMemory-clause-safe g c = λ is octets there. nothing_replayed usual_rates _

pub returns-in-Err-NoMemory-clause-answers : goal.returns-in-Err-NoMemory-clause-answers
returns-in-Err-NoMemory-clause-answers g c = λ is octets there.
    nothing_answered calculator tt (λ line (refusal : UtcRefusal). status.UtcRefused line refusal.column refusal.cause) octets _ _ there

pub returns-in-Err-NoMemory-clause-drill : goal.returns-in-Err-NoMemory-clause-drill
returns-in-Err-NoMemory-clause-drill g c = λ seed events is. record { end = Err drill_stop.NoMemory; is = refl; drilled = refl }

pub returns-in-Err-NoMemory-clause-ordered : goal.returns-in-Err-NoMemory-clause-ordered
returns-in-Err-NoMemory-clause-ordered g c = λ is octets there. nothing_ordered octets _ _ there

pub returns-in-Err-NoMemory-clause-fields : goal.returns-in-Err-NoMemory-clause-fields
returns-in-Err-NoMemory-clause-fields g c = λ kind is octets there. nothing_shown (shown_as kind) octets _ _ there
