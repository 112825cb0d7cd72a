use Rattle.utc_calculator.proofs.Settled.{comes_to_end, exclusive}
use Rattle.utc_calculator.proofs.input.calculate.Goals as goal

pub returns-clause-complete : goal.returns-clause-complete
returns-clause-complete g c octets text there valid calm_in calm_out =
    c.filter_lines.ensures.complete exclusive octets text tt there tt valid calm_in calm_out

pub returns-clause-unrefused : goal.returns-clause-unrefused
returns-clause-unrefused g c octets there none calm_in calm_out =
    comes_to_end octets _ _ _ c.filter_lines.result _ _ _ _ (c.filter_lines.ensures.filtered octets tt there tt) none c.filter_lines.ensures.read_cause
    c.filter_lines.ensures.write_cause calm_in calm_out
