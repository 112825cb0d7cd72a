use Rattle.std.proofs.Common.{[], ◌∷◌}
use Rattle.std.specs.Prelude.{codes, decimal}
use Rattle.dts_base.specs.Names.{state_name}
use Rattle.dts_capture.proofs.Adding.{adds_tail}
use Rattle.dts_capture.proofs.log.unexpected.Goals as goal

pub returns : goal.returns
returns c = adds_tail c.word.result c.args.line.now _ _ (codes "unexpected" ∷ decimal c.args.ptype ∷ []) (state_name c.args.state ∷ []) c.in_ok-named.ensures (rw c.name.ensures.name at c.word.ensures)
