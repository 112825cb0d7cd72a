-- What a lane does publishes nothing.
use Rattle.std.proofs.Common.{◌≡◌, ℕ, true, refl, sym, ap, ◌∙◌, subst}
use Rattle.std.specs.Prelude.{Contains}
use Rattle.std.proofs.lemmas.List.Elements.{All-contains}
use Rattle.slew_clock.specs.declared.record.ClockRecord.{ClockRecord}
use Rattle.dts_capture.specs.declared.event.Event.{Event}
use Rattle.dts_capture.specs.declared.action.Action.{Action}
use Rattle.dts_capture.specs.declared.action.Action.TheVariants as action
use Rattle.sync_rules.specs.History.{Part, Sync, Lane, event_part}
use Rattle.node_rules.specs.History.{NodeHistory}
use Rattle.node_rules.specs.Rules.{followed_by, actions_at}
use Rattle.node_safety.specs.Safety.{ServingPublishesNothing}
use Rattle.node_safety.proofs.Courses.{is_plain_action, IsLiveSync, Course}
use Rattle.node_safety.proofs.Walks.{course}
use Rattle.node_safety.proofs.Given.{Holds, given_all}

abbrev IsOfSync : Part → Type 0
IsOfSync Sync = Unit {0}
IsOfSync (Lane k) = ⊥

never_both : (before : NodeHistory) (e : Event) (k : ℕ) → event_part e ≡ Lane k → IsLiveSync before e → ⊥
never_both before e k lane at = subst IsOfSync (sym at.sync ∙ lane) tt

abbrev IsNoRecord : Action → Type 0
IsNoRecord a = (rec : ClockRecord) → a ≡ action.Publish rec → ⊥

plain_is_none : (a : Action) → is_plain_action a ≡ true → IsNoRecord a
plain_is_none a plain rec is = let bad = sym (ap is_plain_action is) ∙ plain in cc

lanes_hold : (before : NodeHistory) (e : Event) (k : ℕ) → event_part e ≡ Lane k → (course_of : Course before e (followed_by before e))
    → Holds before e course_of.findings IsNoRecord
lanes_hold before e k lane course_of = record {
  plain = plain_is_none;
  renewed = λ findings given rec steps at is. absurd (never_both before e k lane at);
  adoption = λ findings given round n i steps at comes inside ended. absurd (never_both before e k lane at);
  direct = λ at is. absurd (never_both before e k lane at);
  read = λ at rec is. cc;
}

pub serving_publishes_nothing : ServingPublishesNothing
serving_publishes_nothing before e k lane rec published =
    let c = course before e in
    let given : Contains c.given (action.Publish rec) = subst (λ h. Contains (actions_at h) (action.Publish rec)) c.is published in
    All-contains IsNoRecord c.given (action.Publish rec)
    (given_all IsNoRecord before e c.findings c.findings c.given (lanes_hold before e k lane c) (λ f found. found) c.steps) given rec refl
