use Rattle.std.proofs.Common.{refl}
use Rattle.ntp_tests.proofs.packets.written_again.Goals as goal

-- what is read of octets fits its fields
pub encode-requires : goal.encode-requires
encode-requires c = ((c.in-Ok.ensures.spelled c.in-Ok.read).0 refl).fits
