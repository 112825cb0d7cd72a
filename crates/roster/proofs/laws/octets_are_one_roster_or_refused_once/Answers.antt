use Rattle.roster.proofs.Settled.{either, not_both, one_roster, one_refusal}
use Rattle.roster.proofs.laws.octets_are_one_roster_or_refused_once.Goals as goal

pub returns : goal.returns
returns c = record { either = either; not_both = not_both; one_roster = one_roster; one_refusal = one_refusal }
