use Rattle.std.proofs.Common.{[], ◌∷◌}
use Rattle.std.specs.Prelude.{codes, decimal}
use Rattle.dts_capture.proofs.Adding.{adds_tail}
use Rattle.dts_capture.proofs.log.unused_status.Goals as goal

pub returns : goal.returns
returns c = adds_tail c.number.result c.args.line.now _ _ (codes "unused" ∷ codes "status" ∷ []) (decimal c.args.status ∷ []) c.in_ok-unused.ensures c.number.ensures
