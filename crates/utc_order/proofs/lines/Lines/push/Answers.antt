use Rattle.std.proofs.Common.{◌≡◌, ◌+◌, length, ◌∙◌, ap, length-append}
use Rattle.utc_order.specs.declared.lines.Entry.{Entry}
use Rattle.utc_order.specs.Kept.{lines_kept}
use Rattle.utc_order.proofs.KeptFacts.{on_err, kept_still, kept_more, within_push}
use Rattle.utc_order.proofs.lines.Lines.push.Goals as goal

pub returns-in_err-push-clause-kept : goal.returns-in_err-push-clause-kept
returns-in_err-push-clause-kept c = on_err (lines_kept (record { octets = c.extend_from_slice.new.self; entries = c.push.new.self }) ≡ c.args.self.now) c.from_residual-in_err-push.result
    (rw (c.in_err-push.ensures.items, c.in_ok-extend_from_slice.ensures.items, ← c.self.view_is)
    (kept_still c.self.inside.octets.items c.args.octets.now c.self.inside.entries.items c.self.invariant))

pub invariant_of-self-2 : goal.invariant_of-self-2
invariant_of-self-2 c =
    let to : c.len-to.result ≡ length c.self.inside.octets.items + length c.args.octets.now = c.len-to.ensures ∙ c.extend_from_slice.new.self.ok.0 ∙ ap length c.in_ok-extend_from_slice.ensures.items ∙ length-append c.self.inside.octets.items c.args.octets.now in
    let entry : Entry = record { host = c.args.heading.now.host; time = c.args.heading.now.time; from = c.len-from.result; to = c.len-to.result } in
    rw (c.in_ok-push.ensures.items, c.in_ok-extend_from_slice.ensures.items)
    (within_push c.self.inside.octets.items c.args.octets.now c.self.inside.entries.items entry c.self.invariant (c.len-from.ensures ∙ c.self.inside.octets.ok.0) to)

pub returns-clause-pushed : goal.returns-clause-pushed
returns-clause-pushed c =
    let to : c.len-to.result ≡ length c.self.inside.octets.items + length c.args.octets.now = c.len-to.ensures ∙ c.extend_from_slice.new.self.ok.0 ∙ ap length c.in_ok-extend_from_slice.ensures.items ∙ length-append c.self.inside.octets.items c.args.octets.now in
    let entry : Entry = record { host = c.args.heading.now.host; time = c.args.heading.now.time; from = c.len-from.result; to = c.len-to.result } in
    rw (c.in_ok-push.ensures.items, c.in_ok-extend_from_slice.ensures.items, ← c.self.view_is)
    (kept_more c.self.inside.octets.items c.args.octets.now c.self.inside.entries.items entry c.self.invariant (c.len-from.ensures ∙ c.self.inside.octets.ok.0) to)
