use Rattle.wire_show.proofs.Held.{made, unmade}
use Rattle.wire_show.proofs.command.make_text.Goals as goal

pub returns-in-Ok-clause-made : goal.returns-in-Ok-clause-made
returns-in-Ok-clause-made g c = λ octets at. made c.args.kind octets c.in_ok-held.held.items c.in-Ok.text.items (g.I.Source.left c.read_input.new.input) (c.in_ok-held.ensures.read octets at) (rw c.as_slice.ensures.value at c.in-Ok.ensures)

pub returns-clause-made : goal.returns-clause-made
returns-clause-made g c = λ octets at. unmade c.args.kind octets c.in_ok-held.held.items (g.I.Source.left c.read_input.new.input) c.from.result c.in-Err.fault (c.in_ok-held.ensures.read octets at) (rw c.as_slice.ensures.value at c.in-Err.ensures) c.from.ensures
