use Rattle.capture_replay.specs.Capture.{unstarted}
use Rattle.capture_replay.proofs.Exclusive.{exclusive}
use Rattle.capture_replay.proofs.SafeLogs.{filters_safely}
use Rattle.capture_replay.proofs.input.replay.Goals as goal

pub returns-clause-safe : goal.returns-clause-safe
returns-clause-safe g c octets there =
    let filtered = c.filter_lines.ensures.filtered octets (unstarted c.args.rates) there c.new.ensures in
    record { text = filtered.text; wrote = filtered.wrote; safe = filters_safely c.args.rates octets filtered.more c.filter_lines.result filtered.text filtered.filters }

pub returns-clause-complete : goal.returns-clause-complete
returns-clause-complete g c octets text there valid calm_in calm_out =
    c.filter_lines.ensures.complete exclusive octets text (unstarted c.args.rates) there c.new.ensures valid calm_in calm_out
