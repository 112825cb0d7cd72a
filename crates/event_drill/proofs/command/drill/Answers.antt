use Rattle.std.proofs.Common.{◌≡◌, ap, ◌∙◌, subst}
use Rattle.dts_base.specs.Streams.{Wrote, AppendsPart}
use Rattle.dts_base.specs.Told.{Told}
use Rattle.event_drill.specs.Summary.{summary_text, drill_text}
use Rattle.event_drill.proofs.command.drill.Goals as goal

pub returns-in-Ok-clause-written : goal.returns-in-Ok-clause-written
returns-in-Ok-clause-written g c =
    let before = g.O.Sink.written c.args.output.now in
    let after = g.O.Sink.written c.write_all.new.sink in
    let text : c.as_slice.result.now ≡ drill_text c.args.seed c.args.events =
    c.as_slice.ensures.octets ∙ c.in_ok-line.ensures ∙ ap (summary_text c.args.seed c.args.events) c.in_ok-counts.ensures in
    subst (Wrote before after) text c.in-Ok.ensures.whole

pub returns-clause-written : goal.returns-clause-written
returns-clause-written g c =
    let before = g.O.Sink.written c.args.output.now in
    let after = g.O.Sink.written c.write_all.new.sink in
    let text : c.as_slice.result.now ≡ drill_text c.args.seed c.args.events =
    c.as_slice.ensures.octets ∙ c.in_ok-line.ensures ∙ ap (summary_text c.args.seed c.args.events) c.in_ok-counts.ensures in
    subst (λ xs. Told before after (AppendsPart xs)) text c.in-Err.ensures.part
