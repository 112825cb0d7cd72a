use Rattle.std.proofs.Common.{refl}
use Rattle.hex.specs.Hex.{encode_lower}
use Rattle.utc_calculator.specs.Results.{order_word}
use Rattle.utc_calculator.proofs.results.is_written.Goals as goal

pub returns-in-Order : goal.returns-in-Order
returns-in-Order c = rw c.in-Order.is (order_word c.in-Order.field-0, refl)

pub returns-in-Octets : goal.returns-in-Octets
returns-in-Octets c = rw c.in-Octets.is (encode_lower c.in-Octets.field-0, refl)
