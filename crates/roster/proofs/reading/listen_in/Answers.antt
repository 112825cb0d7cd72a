use Rattle.roster.proofs.AddressIs.{default_is}
use Rattle.roster.proofs.reading.listen_in.Goals as goal

pub returns-in-None-clause-address : goal.returns-in-None-clause-address
returns-in-None-clause-address c = rw (← c.in-None.ensures) default_is
