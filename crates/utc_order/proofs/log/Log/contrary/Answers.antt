use Rattle.std.proofs.Common.{◌≡◌, false, ◌+◌, ◌∙◌, sym, ap, arith}
use Rattle.std.specs.Option.{option_map}
use Rattle.utc_value.specs.Members.{latest_of}
use Rattle.utc_order.specs.Lines.{LogLine}
use Rattle.utc_order.specs.Marks.{is_below}
use Rattle.utc_order.specs.Places.{key_of}
use Rattle.utc_order.proofs.PlaceFacts.{none_contrary, item_there}
use Rattle.utc_order.proofs.log.Log.contrary.Goals as goal

pub returns-then-not-is_below : goal.returns-then-not-is_below
returns-then-not-is_below c = λ octets.
    let line : LogLine = record { host = c.args.heading.now.host; time = c.args.heading.now.time; octets = octets } in
    let below : is_below (latest_of line.time) (key_of line.host c.args.self.now) ≡ false =
    sym (ap (is_below (latest_of line.time)) (c.self.invariant.highest c.args.heading.now.host c.requires ∙ ap (key_of c.args.heading.now.host) c.self.view_is))
    ∙ ap (is_below (latest_of line.time)) (item_there c.self.inside.highest.items c.args.heading.now.host c.index.result.now (omega (arith, c.requires, c.self.invariant.hosts)) c.index.ensures) ∙ (rw c.latest.ensures.value at (sym c.is_below.ensures ∙ c.if-not-is_below.true)) in
    ap (option_map (λ index. index + 1)) (sym (none_contrary c.args.self.now line below))
