use Rattle.event_drill.proofs.MadeLists.{one_list, oscillator_goes_on}
use Rattle.event_drill.proofs.laws.a_seed_makes_one_list.Goals as goal

pub returns-clause-list : goal.returns-clause-list
returns-clause-list c = one_list

pub returns-clause-oscillator : goal.returns-clause-oscillator
returns-clause-oscillator c = oscillator_goes_on
