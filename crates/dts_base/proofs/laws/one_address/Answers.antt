use Rattle.dts_base.proofs.AddressFacts.{one_address_lem}
use Rattle.dts_base.proofs.laws.one_address.Goals as goal

pub returns : goal.returns
returns c = one_address_lem
