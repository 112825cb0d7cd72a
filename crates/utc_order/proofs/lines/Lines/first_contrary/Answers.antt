use Rattle.std.proofs.Common.{◌∙◌, ap, sym, position}
use Rattle.utc_order.specs.declared.lines.Entry.{Entry}
use Rattle.utc_order.specs.Taking.{goes_back}
use Rattle.utc_order.specs.Lines.{LogLine}
use Rattle.utc_order.specs.Kept.{line_kept}
use Rattle.utc_order.proofs.KeptFacts.{first_kept}
use Rattle.utc_order.proofs.lines.Lines.first_contrary.Goals as goal

pub returns-clause-first : goal.returns-clause-first
returns-clause-first c = λ octets.
    let line : LogLine = record { host = c.args.heading.now.host; time = c.args.heading.now.time; octets = octets } in
    let kept = c.self.inside.octets.items in
    c.first_contrary.ensures.first ∙ ap (position (λ (entry : Entry). goes_back line (line_kept kept entry))) c.as_slice.ensures.value
    ∙ sym (first_kept kept (goes_back line) c.self.inside.entries.items) ∙ ap (position (goes_back line)) c.self.view_is
