use Rattle.std.proofs.Common.{arith, ◌∙◌}
use Rattle.roster.proofs.AddressIs.{spelled_is, too_great_is, unspelled_is}
use Rattle.roster.proofs.addresses.address.Goals as goal

pub returns-in_err-address : goal.returns-in_err-address
returns-in_err-address c = c.from_residual.ensures ∙ unspelled_is c.args.text.now c.args.greatest_port (omega (arith, c.ranges.greatest_port.fits)) c.in_err-address.ensures.spelled

pub returns-then-address-greatest_port : goal.returns-then-address-greatest_port
returns-then-address-greatest_port c = too_great_is c.args.text.now c.in_ok-address.address c.args.greatest_port c.in_ok-address.ensures.spelled (omega arith)

pub returns : goal.returns
returns c = spelled_is c.args.text.now c.in_ok-address.address c.args.greatest_port c.in_ok-address.ensures.spelled (omega arith)
