use Rattle.std.proofs.Common.{◌≡◌, refl, sym, ap, ◌∙◌, subst, arith}
use Rattle.dts_capture.specs.declared.event.Event.{Event}
use Rattle.event_drill.specs.declared.kind.Kind.{Kind}
use Rattle.event_drill.specs.declared.kind.Kind.TheVariants as kind
use Rattle.event_drill.specs.declared.maker.Maker.{Maker}
use Rattle.event_drill.specs.Draws.{drawn}
use Rattle.event_drill.specs.Made.{Made, made, made_as, advanced, kind_taken}
use Rattle.event_drill.proofs.Making.{osc_small}
use Rattle.event_drill.proofs.maker.Maker.next_event.Goals as goal

-- what is made of the kind that was drawn
made_by : (m gone_on now : Maker) (taken k : Kind) → gone_on ≡ advanced m → now ≡ drawn gone_on → taken ≡ kind_taken now → taken ≡ k
    → made_as k now ≡ made m
unfolding made
made_by m gone_on now taken k goes draws takes is =
    let Is : Maker → Type 0 = λ x. made_as k now ≡ made_as (kind_taken x) x in
    subst Is (draws ∙ ap drawn goes) (ap (λ q. made_as q now) (sym is ∙ takes))

event_by : (m gone_on now : Maker) (taken k : Kind) (e : Event) → gone_on ≡ advanced m → now ≡ drawn gone_on
    → taken ≡ kind_taken now → taken ≡ k → e ≡ (made_as k now).event → e ≡ (made m).event
event_by m gone_on now taken k e goes draws takes is made_so =
    made_so ∙ ap (λ (d : Made). d.event) (made_by m gone_on now taken k goes draws takes is)

next_by : (m gone_on now : Maker) (taken k : Kind) (next : Maker) → gone_on ≡ advanced m → now ≡ drawn gone_on
    → taken ≡ kind_taken now → taken ≡ k → next ≡ (made_as k now).next → next ≡ (made m).next
next_by m gone_on now taken k next goes draws takes is made_so =
    made_so ∙ ap (λ (d : Made). d.next) (made_by m gone_on now taken k goes draws takes is)

pub source-requires-clause-osc : goal.source-requires-clause-osc
source-requires-clause-osc c =
    let h = c.requires in
    let now = c.draw_kind.ensures.state ∙ ap drawn c.advance.ensures in
    omega (arith, osc_small h.0 c.args.self.now c.draw_kind.new.self h.1 h.2 now)

pub adopt-requires-clause-osc : goal.adopt-requires-clause-osc
adopt-requires-clause-osc c =
    let h = c.requires in
    let now = c.draw_kind.ensures.state ∙ ap drawn c.advance.ensures in
    omega (arith, osc_small h.0 c.args.self.now c.draw_kind.new.self h.1 h.2 now)

pub returns-in-Tick-clause-event : goal.returns-in-Tick-clause-event
returns-in-Tick-clause-event c =
    event_by c.args.self.now c.advance.new.self c.draw_kind.new.self c.draw_kind.result kind.Tick c.tick.result
    c.advance.ensures c.draw_kind.ensures.state c.draw_kind.ensures.kind c.in-Tick.is c.tick.ensures

pub returns-in-Tick-clause-next : goal.returns-in-Tick-clause-next
returns-in-Tick-clause-next c =
    next_by c.args.self.now c.advance.new.self c.draw_kind.new.self c.draw_kind.result kind.Tick c.draw_kind.new.self
    c.advance.ensures c.draw_kind.ensures.state c.draw_kind.ensures.kind c.in-Tick.is refl

pub returns-in-Read-clause-event : goal.returns-in-Read-clause-event
returns-in-Read-clause-event c =
    event_by c.args.self.now c.advance.new.self c.draw_kind.new.self c.draw_kind.result kind.Read c.read.result
    c.advance.ensures c.draw_kind.ensures.state c.draw_kind.ensures.kind c.in-Read.is c.read.ensures

pub returns-in-Read-clause-next : goal.returns-in-Read-clause-next
returns-in-Read-clause-next c =
    next_by c.args.self.now c.advance.new.self c.draw_kind.new.self c.draw_kind.result kind.Read c.draw_kind.new.self
    c.advance.ensures c.draw_kind.ensures.state c.draw_kind.ensures.kind c.in-Read.is refl

pub returns-in-Query-clause-event : goal.returns-in-Query-clause-event
returns-in-Query-clause-event c =
    event_by c.args.self.now c.advance.new.self c.draw_kind.new.self c.draw_kind.result kind.Query c.query.result
    c.advance.ensures c.draw_kind.ensures.state c.draw_kind.ensures.kind c.in-Query.is c.query.ensures.event

pub returns-in-Query-clause-next : goal.returns-in-Query-clause-next
returns-in-Query-clause-next c =
    next_by c.args.self.now c.advance.new.self c.draw_kind.new.self c.draw_kind.result kind.Query c.query.new.self
    c.advance.ensures c.draw_kind.ensures.state c.draw_kind.ensures.kind c.in-Query.is c.query.ensures.next

pub returns-in-Source-clause-event : goal.returns-in-Source-clause-event
returns-in-Source-clause-event c =
    event_by c.args.self.now c.advance.new.self c.draw_kind.new.self c.draw_kind.result kind.Source c.source.result
    c.advance.ensures c.draw_kind.ensures.state c.draw_kind.ensures.kind c.in-Source.is c.source.ensures.event

pub returns-in-Source-clause-next : goal.returns-in-Source-clause-next
returns-in-Source-clause-next c =
    next_by c.args.self.now c.advance.new.self c.draw_kind.new.self c.draw_kind.result kind.Source c.source.new.self
    c.advance.ensures c.draw_kind.ensures.state c.draw_kind.ensures.kind c.in-Source.is c.source.ensures.next

pub returns-in-Adopt-clause-event : goal.returns-in-Adopt-clause-event
returns-in-Adopt-clause-event c =
    event_by c.args.self.now c.advance.new.self c.draw_kind.new.self c.draw_kind.result kind.Adopt c.adopt.result
    c.advance.ensures c.draw_kind.ensures.state c.draw_kind.ensures.kind c.in-Adopt.is c.adopt.ensures.event

pub returns-in-Adopt-clause-next : goal.returns-in-Adopt-clause-next
returns-in-Adopt-clause-next c =
    next_by c.args.self.now c.advance.new.self c.draw_kind.new.self c.draw_kind.result kind.Adopt c.adopt.new.self
    c.advance.ensures c.draw_kind.ensures.state c.draw_kind.ensures.kind c.in-Adopt.is c.adopt.ensures.next
