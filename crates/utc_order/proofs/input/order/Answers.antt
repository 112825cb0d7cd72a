use Rattle.std.proofs.Common.{Err, ap}
use Rattle.utc_order.proofs.CauseFacts.{taken_not_refused, stops_there}
use Rattle.utc_order.proofs.input.order.Goals as goal

pub returns-in-Ok-clause-refused : goal.returns-in-Ok-clause-refused
returns-in-Ok-clause-refused g c = λ octets n cause at refused quiet. absurd (taken_not_refused _ c.in-Ok.log n cause (c.in-Ok.ensures.read octets at).0 refused)

pub returns-in-Err-clause-refused : goal.returns-in-Err-clause-refused
returns-in-Err-clause-refused g c = λ octets n cause at refused quiet.
    let stopped = c.in-Err.ensures.read octets at in
    stops_there octets stopped.0 c.in-Err.status n cause stopped.2 refused (λ e. quiet (c.in-Err.ensures.cause.failed (ap Err e)))
