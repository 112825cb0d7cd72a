use Rattle.std.proofs.Common.{refl}
use Rattle.time_wire.proofs.Texts.{not_utf8}
use Rattle.time_wire.proofs.encoding.put_text.Goals as goal

pub returns-in_default : goal.returns-in_default
returns-in_default c = (refl, not_utf8 c.args.text.now c.in_default.ensures.cases.0)
