use Rattle.wire_show.proofs.Held.{shown}
use Rattle.wire_show.proofs.command.show.Goals as goal

pub returns-in-Ok-clause-shown : goal.returns-in-Ok-clause-shown
returns-in-Ok-clause-shown g c = λ octets at. shown c.args.kind octets c.in-Ok.text.items (g.I.Source.left c.make_text.new.input) c.write_text.result (g.O.Sink.written c.args.output.now) (g.O.Sink.written c.write_text.new.output) (c.in-Ok.ensures.made octets at) (rw c.as_slice.ensures.value at c.write_text.ensures.wrote)
