use Rattle.slew_clock.proofs.ClockLaws.{anchored_line, renewed_line, renewed_leads}
use Rattle.slew_clock.proofs.laws.changes_keep_the_line.Goals as goal

pub returns : goal.returns
returns c = record {
  anchored = λ r rec osc o i. anchored_line r rec osc i o;
  renewed = renewed_line;
  leads = renewed_leads;
}
