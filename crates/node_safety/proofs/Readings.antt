-- A position that gave a reading is a live one of a lane, and the reading is that of the record that was current before it.
use Rattle.std.proofs.Common.{◌≡◌, true, List, refl, sym, ap, ◌∙◌, subst}
use Rattle.std.specs.Prelude.{All}
use Rattle.std.proofs.lemmas.List.Elements.{All-contains, All-weaker}
use Rattle.dts_capture.specs.declared.event.Event.{Event}
use Rattle.dts_capture.specs.declared.action.Action.{Action}
use Rattle.dts_capture.specs.declared.action.Action.TheVariants as action
use Rattle.dts_capture.specs.declared.action.NoteKind.{NoteKind}
use Rattle.dts_capture.specs.declared.action.NoteKind.TheVariants as note
use Rattle.dts_capture.specs.declared.action.FalseSource.TheVariants as source
use Rattle.sync_rules.specs.History.{Part, Sync, Lane, event_part, event_osc, current_record}
use Rattle.sync_rules.specs.Rounds.{Answer, carried_to, are_apart}
use Rattle.sync_rules.specs.Rules.{rates_of, live_actions, noted}
use Rattle.sync_rules.specs.Safety.{Shown, ShowsReading, LogsReading, Gives}
use Rattle.sync_rules.proofs.Choices.{only_one}
use Rattle.sync_rules.proofs.Readings.{shown_by, readings_are, IsTheReading as IsReadingAlone, every}
use Rattle.node_rules.specs.History.{Finding, NodeHistory, Began, Next, bare}
use Rattle.node_rules.specs.Rules.{IsRuled}
use Rattle.node_safety.proofs.Courses.{is_plain_kind, is_plain_action, IsLiveSync, IsLiveLane, steps_of}
use Rattle.node_safety.proofs.Walks.{course}
use Rattle.node_safety.proofs.Records.{live_given}
use Rattle.node_safety.proofs.Given.{Holds, given_all}

abbrev pub IsTheReading : NodeHistory → Event → Action → Type 0
IsTheReading before e a = (shown : Shown) → LogsReading a shown
    → IsLiveLane before e × (shown ≡ shown_by (rates_of (bare before)) (current_record (bare before)) (event_osc e))

plain_kind_shows_none : (kind : NoteKind) (shown : Shown) → is_plain_kind kind ≡ true → ShowsReading kind shown → ⊥
plain_kind_shows_none (note.Reading value inaccuracy step number) shown is shows = cc
plain_kind_shows_none _ shown is shows = shows

plain_shows_none : (a : Action) (shown : Shown) → is_plain_action a ≡ true → LogsReading a shown → ⊥
plain_shows_none (action.Log n) shown is logs = plain_kind_shows_none n.kind shown is logs
plain_shows_none (action.Publish rec) shown is logs = logs
plain_shows_none (action.Send osc peer octets) shown is logs = logs
plain_shows_none (action.Close osc peer) shown is logs = logs

abbrev IsOfSync : Part → Type 0
IsOfSync Sync = Unit {0}
IsOfSync (Lane k) = ⊥

-- an event of a direct round shows none
direct_shows_none : (before : NodeHistory) (e : Event) → IsLiveSync before e → (a : Action) → IsReadingAlone (bare before) e a
    → IsTheReading before e a
direct_shows_none before e at a alone shown logs =
    let found = alone shown logs in
    absurd (subst IsOfSync (sym at.sync ∙ ap event_part found.1) tt)

readings_are_of_lanes : (before : NodeHistory) (e : Event) (final : List Finding) → Holds before e final (IsTheReading before e)
readings_are_of_lanes before e final = record {
  plain = λ a is shown logs. absurd (plain_shows_none a shown is logs);
  renewed = λ findings given rec steps at is shown logs. absurd logs;
  adoption = λ findings given round n i steps at comes inside in_final. record {
    adopted = λ shown logs. absurd logs;
    servers =
        every (λ (a : Answer). are_apart (carried_to (rates_of (bare before)) (event_osc e) a) i ≡ true
        → IsTheReading before e (noted e (note.False (source.Peer a.tag)))) _ (λ a apart shown logs. absurd logs);
    own = λ own is apart shown logs. absurd logs;
    stepped = λ shown logs. absurd logs;
    published = λ shown logs. absurd logs;
  };
  direct =
      λ at is. All-weaker (IsReadingAlone (bare before) e) (IsTheReading before e) (direct_shows_none before e at)
      (live_actions (bare before) e)
      (subst (All (IsReadingAlone (bare before) e)) (live_given (bare before) e at.live) (readings_are (bare before) e));
  read = λ at shown logs. (at, logs);
}

-- a position that gave a reading
pub record IsReadAt (p : NodeHistory) (shown : Shown) : Type 0 where
  pub before : NodeHistory
  pub event : Event
  pub findings : List Finding
  pub given : List Action
  pub is : p ≡ Next before event findings given
  pub ruled : IsRuled (Next before event findings given)
  pub at : IsLiveLane before event
  pub says : shown ≡ shown_by (rates_of (bare before)) (current_record (bare before)) (event_osc event)

pub read_at : (p : NodeHistory) → IsRuled p → (shown : Shown) → Gives (bare p) shown → IsReadAt p shown
read_at (Began roster start) ruled shown (a, in_given, logs) =
    absurd (subst (λ x. LogsReading x shown) (sym (only_one _ a in_given)) logs)
read_at (Next before e findings given) ruled shown (a, in_given, logs) =
    let r = All-contains (IsTheReading before e) given a
    (given_all (IsTheReading before e) before e findings findings given (readings_are_of_lanes before e findings) (λ f c. c)
    (steps_of before e findings given _ ruled.0 (course before e))) in_given shown logs in
    record { before = before; event = e; findings = findings; given = given; is = refl; ruled = ruled; at = r.0; says = r.1 }
