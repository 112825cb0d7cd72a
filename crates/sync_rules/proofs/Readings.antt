-- What a position that gave a reading is.
use Rattle.std.proofs.Common.{◌≡◌, ℕ, true, List, [], ◌∷◌, sym, ap, ◌∙◌, subst}
use Rattle.std.specs.Prelude.{Contains, All}
use Rattle.std.proofs.lemmas.List.Elements.{All-contains, All-nil, All-cons}
use Rattle.slew_clock.specs.declared.rates.Rates.{Rates}
use Rattle.slew_clock.specs.declared.record.ClockRecord.{ClockRecord}
use Rattle.slew_clock.specs.Line.{line}
use Rattle.slew_clock.specs.Reading.{inaccuracy_of}
use Rattle.dts_capture.specs.declared.event.Event.{Event}
use Rattle.dts_capture.specs.declared.event.Event.TheVariants as event
use Rattle.dts_capture.specs.declared.action.Action.{Action}
use Rattle.dts_capture.specs.declared.action.NoteKind.TheVariants as note
use Rattle.dts_capture.specs.declared.action.FalseSource.TheVariants as source
use Rattle.sync_rules.specs.History.{History, Begun, Then, event_osc, current_record}
use Rattle.sync_rules.specs.Live.{is_live}
use Rattle.sync_rules.specs.Rounds.{answers_of, carried_to, are_apart}
use Rattle.sync_rules.specs.Rules.{rates_of, actions_of, noted, IsRuled}
use Rattle.sync_rules.specs.Safety.{Shown, Gives, LogsReading}
use Rattle.sync_rules.proofs.Choices.{only_one}
use Rattle.sync_rules.proofs.Given.{given_all}

-- what a reading of this record says
abbrev pub shown_by : Rates → ClockRecord → ℕ → Shown
shown_by r rec osc = record { value = line r rec osc; inaccuracy = inaccuracy_of r rec osc; step = rec.step }

-- a reading is given by a live read alone, and is that of the current record
abbrev pub IsTheReading : History → Event → Action → Type 0
IsTheReading h e a = (shown : Shown) → LogsReading a shown → (is_live h e ≡ true) × (e ≡ event.Read (event_osc e)) × (shown ≡ shown_by (rates_of h) (current_record h) (event_osc e))

pub every : {X : Type 0} (P : X → Type 0) (xs : List X) → ((x : X) → P x) → All P xs
every P [] h = All-nil P
every P (x ∷ xs) h = All-cons P x xs (h x) (every P xs h)

pub readings_are : (h : History) (e : Event) → All (IsTheReading h e) (actions_of h e)
readings_are h e = given_all (IsTheReading h e) h e (record {
  published = λ rec shown logs. absurd logs;
  closed = λ osc peer shown logs. absurd logs;
  regressed = λ floor shown logs. absurd logs;
  repeated = λ tag shown logs. absurd logs;
  full = λ shown logs. absurd logs;
  unknown = λ tag shown logs. absurd logs;
  short = λ answered required shown logs. absurd logs;
  split = λ n shown logs. absurd logs;
  adopted = λ n lo hi shown logs. absurd logs;
  stepped = λ step old new shown logs. absurd logs;
  named = λ required n i live is comes. every (λ a. are_apart (carried_to (rates_of h) (event_osc e) a) i ≡ true → IsTheReading h e (noted e (note.False (source.Tag a.tag)))) (answers_of h) (λ a apart shown logs. absurd logs);
  read = λ live is shown logs. (live, is, logs);
})

-- a position that gave a reading
pub record IsReadAt (p : History) (shown : Shown) : Type 0 where
  pub before : History
  pub osc : ℕ
  pub actions : List Action
  pub is : p ≡ Then before (event.Read osc) actions
  pub ruled : IsRuled before
  pub live : is_live before (event.Read osc) ≡ true
  pub says : shown ≡ shown_by (rates_of before) (current_record before) osc
  pub same : actions ≡ actions_of before (event.Read osc)

pub read_at : (p : History) → IsRuled p → (shown : Shown) → Gives p shown → IsReadAt p shown
read_at (Begun settings start) ruled shown (a, in_actions, logs) = absurd (subst (λ x. LogsReading x shown) (sym (only_one _ a in_actions)) logs)
read_at (Then h e actions) (given, ruled) shown (a, in_actions, logs) =
    let r = All-contains (IsTheReading h e) (actions_of h e) a (readings_are h e) (subst (λ xs. Contains xs a) given in_actions) shown logs in
    record {
      before = h;
      osc = event_osc e;
      actions = actions;
      is = ap (λ x. Then h x actions) r.1;
      ruled = ruled;
      live = subst (λ x. is_live h x ≡ true) r.1 r.0;
      says = r.2;
      same = given ∙ ap (actions_of h) r.1;
    }
