use Rattle.wire_show.proofs.Steps.{on_ok}
use Rattle.wire_show.proofs.Tables.{response_from}
use Rattle.wire_show.proofs.lines.FieldLines.response.Goals as goal

pub returns : goal.returns
returns c = on_ok c.rest.result _ _ c.rest.ensures (λ last h. response_from h c.args.self.now c.fields.new.self c.rest.new.self c.in_ok-fields.ensures last)
