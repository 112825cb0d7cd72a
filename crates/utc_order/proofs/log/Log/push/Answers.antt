use Rattle.std.proofs.Common.{◌∙◌, ap, sym, refl, arith}
use Rattle.std.specs.Vec.{with_item}
use Rattle.utc_value.specs.Members.{earliest_of}
use Rattle.utc_order.specs.declared.log.Log.TheInside.{Inside}
use Rattle.utc_order.specs.Lines.{LogLine}
use Rattle.utc_order.specs.Places.{greater}
use Rattle.utc_order.proofs.PlaceFacts.{placed_more, item_there}
use Rattle.utc_order.proofs.log.Log.push.Goals as goal

pub invariant_of-self-in-Ok : goal.invariant_of-self-in-Ok
invariant_of-self-in-Ok c =
    let new : Inside = record { lines = c.push-2.new.self; places = c.push.new.self; highest = with_item c.self.inside.highest c.args.heading.now.host c.greater-key.result } in
    let line : LogLine = record { host = c.args.heading.now.host; time = c.args.heading.now.time; octets = c.args.octets.now } in
    let highest = item_there c.self.inside.highest.items c.args.heading.now.host c.index.result.now (omega (arith, c.requires.host, c.self.invariant.hosts)) c.index.ensures in
    placed_more c.self.inside new line c.greater-key.result c.self.invariant c.requires.host (rw c.self.view_is c.requires.few)
    (c.greater-key.ensures ∙ ap (greater c.index.result.now) c.earliest.ensures.value ∙ ap (λ h. greater h (earliest_of line.time)) (sym highest))
    c.in-Ok.ensures.pushed (rw (← c.len-index.ensures) c.in_ok-push.ensures.items) refl
