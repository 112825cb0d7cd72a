use Rattle.wire_show.proofs.Steps.{on_ok}
use Rattle.wire_show.proofs.Tables.{fault_from}
use Rattle.wire_show.proofs.lines.FieldLines.fault.Goals as goal

pub returns : goal.returns
returns c = on_ok c.fields-2.result _ _ c.fields-2.ensures (λ last h. fault_from h c.args.self.now c.fields.new.self c.fields-2.new.self c.in_ok-fields.ensures last)
