-- Two histories of which the sync part knows the same, and how they stay so while both give the same.
use Rattle.std.proofs.Common.{◌≡◌, ℕ, ◌+◌, Bool, true, false, List, [], ◌∷◌, ◌++◌, Some, refl, sym, ap, ap₂, ◌∙◌, subst}
use Rattle.std.specs.Prelude.{◌||◌, ◌&&◌, nat_le, if◌then◌else◌, map}
use Rattle.std.specs.List.{list_any}
use Rattle.std.proofs.lemmas.List.Folds.{list_any-append}
use Rattle.slew_clock.specs.declared.record.ClockRecord.{ClockRecord}
use Rattle.roster.specs.RosterData.{RosterData}
use Rattle.roster.specs.Rates.{rates_of as roster_rates}
use Rattle.dts_capture.specs.declared.event.Event.{Event}
use Rattle.dts_capture.specs.declared.action.Action.{Action}
use Rattle.sync_rules.specs.History.{Part, Sync, Lane, event_part, event_osc, number_of, published, current_record}
use Rattle.sync_rules.specs.Live.{live_osc, floor_at, same_part, is_live}
use Rattle.sync_rules.specs.Rounds.{Moment, Query, Answer, queries_of, answers_of, moment_of, asked_after, answered_after}
use Rattle.sync_rules.specs.Rules.{rates_of}
use Rattle.sync_rules.proofs.Changes.{published-append}
use Rattle.node_rules.specs.History.{Finding, NodeHistory, Began, Next, roster_of, bare, gives, findings_at, Found, found_in}
use Rattle.node_rules.specs.Taking.{is_refusal}
use Rattle.node_rules.specs.Rules.{actions_at, followed_by}
use Rattle.node_rules.proofs.Serving.{record_of}
use Rattle.sync_apart.specs.Apart.{is_sync_part, is_sync, sync_given, IsBelowConnections}
use Rattle.sync_apart.proofs.Plain.{moment_at, plain, in_front, plain_in_front, more_in_front}
use Rattle.sync_apart.proofs.Places.{last_event, event_stays, given_next}
use Rattle.sync_apart.proofs.Lookups.{plain_answer}
use Rattle.sync_apart.proofs.Direct.{plain_query, asked_if_so, answered_if_so}

-- what the sync part knows of a history
pub record Known : Type 0 where
  pub roster : RosterData
  pub clock : ClockRecord
  pub found : List Found
  pub live : ℕ
  pub queries : List Query
  pub answers : List Answer

abbrev pub known_of : NodeHistory → Known
known_of history = record {
  roster = roster_of history;
  clock = record_of history;
  found = plain (found_in history);
  live = live_osc Sync (bare history);
  queries = map plain_query (queries_of (bare history));
  answers = map plain_answer (answers_of (bare history));
}

-- of both the sync part knows the same, and has given the same
pub record AreAlike (history other : NodeHistory) : Type 0 where
  pub known : known_of history ≡ known_of other
  pub given : sync_given history ≡ sync_given other
  pub below : IsBelowConnections (roster_of history)

-- ---- an event
-- something that a peer sent was refused at it
abbrev pub refused_at : NodeHistory → Bool
refused_at history = list_any is_refusal (findings_at history)

-- both are at the same point of an event
pub record InStep (e : Event) (history other : NodeHistory) : Type 0 where
  pub known : known_of history ≡ known_of other
  pub last : last_event history ≡ Some e
  pub other_last : last_event other ≡ Some e
  pub given : actions_at history ≡ actions_at other
  pub refused : refused_at history ≡ refused_at other
  pub below : IsBelowConnections (roster_of history)

-- ---- what both have alike
pub same_roster : {e : Event} {h k : NodeHistory} → InStep e h k → roster_of h ≡ roster_of k
same_roster same = ap (λ (s : Known). s.roster) same.known

pub same_clock : {e : Event} {h k : NodeHistory} → InStep e h k → record_of h ≡ record_of k
same_clock same = ap (λ (s : Known). s.clock) same.known

pub same_found : {e : Event} {h k : NodeHistory} → InStep e h k → plain (found_in h) ≡ plain (found_in k)
same_found same = ap (λ (s : Known). s.found) same.known

pub rates_are : (history : NodeHistory) → rates_of (bare history) ≡ roster_rates (roster_of history).settings
rates_are (Began roster start) = refl
rates_are (Next before e findings actions) = rates_are before

pub same_rates : {e : Event} {h k : NodeHistory} → InStep e h k → rates_of (bare h) ≡ rates_of (bare k)
same_rates {e} {h} {k} same = rates_are h ∙ ap (λ (r : RosterData). roster_rates r.settings) (same_roster same) ∙ sym (rates_are k)

-- what is looked up among all findings as among the plain ones
pub looks : {A : Type 0} (look : List Found → A) → ((found : List Found) → look found ≡ look (plain found))
    → {e : Event} {h k : NodeHistory} → InStep e h k → look (found_in h) ≡ look (found_in k)
looks look through {e} {h} {k} same = through (found_in h) ∙ ap look (same_found same) ∙ sym (through (found_in k))

-- ---- what a position gives more
pub roster_stays : (history : NodeHistory) (findings : List Finding) (given : List Action)
    → roster_of (gives history findings given) ≡ roster_of history
roster_stays (Began roster start) findings given = refl
roster_stays (Next before e found actions) findings given = refl

given_more : (history : NodeHistory) (e : Event) (findings : List Finding) (given : List Action) → last_event history ≡ Some e
    → actions_at (gives history findings given) ≡ actions_at history ++ given
given_more (Began roster start) e findings given is = cc
given_more (Next before last found actions) e findings given is = refl

refused_more : (history : NodeHistory) (e : Event) (findings : List Finding) (given : List Action) → last_event history ≡ Some e
    → refused_at (gives history findings given) ≡ (refused_at history || list_any is_refusal findings)
refused_more (Began roster start) e findings given is = cc
refused_more (Next before last found actions) e findings given is = list_any-append is_refusal found findings

-- what is known behind it
abbrev pub known_with : ℕ → List Finding → List Action → Known → Known
known_with osc findings given s = record {
  roster = s.roster;
  clock = published s.clock given;
  found = in_front osc findings s.found;
  live = s.live;
  queries = s.queries;
  answers = s.answers;
}

pub known_more : (before : NodeHistory) (e : Event) (found more : List Finding) (actions given : List Action)
    → known_of (gives (Next before e found actions) more given)
    ≡ known_with (event_osc e) more given (known_of (Next before e found actions))
unfolding current_record live_osc queries_of answers_of
known_more before e found more actions given =
    let at : Moment = record { position = number_of (bare before) + 1; osc = event_osc e } in
    let history : NodeHistory = Next before e found actions in
    let clocks = published-append (current_record (bare before)) actions given in
    let founds : plain (found_in (gives history more given)) ≡ in_front (event_osc e) more (plain (found_in history)) =
    ap plain (more_in_front at found more (found_in before)) ∙ plain_in_front at more (found_in history) in
    λ i. record {
      roster = roster_of before;
      clock = clocks i;
      found = founds i;
      live = live_osc Sync (bare history);
      queries = map plain_query (queries_of (bare history));
      answers = map plain_answer (answers_of (bare history));
    }

known_given : (history : NodeHistory) (e : Event) (findings : List Finding) (given : List Action) → last_event history ≡ Some e
    → known_of (gives history findings given) ≡ known_with (event_osc e) findings given (known_of history)
known_given (Began roster start) e findings given is = cc
known_given (Next before last found actions) e findings given is =
    let same : last ≡ e = cc in
    known_more before last found findings actions given
    ∙ ap (λ x. known_with (event_osc x) findings given (known_of (Next before last found actions))) same

-- both give the same, but for the positions in what they find
pub giving : (e : Event) (h k : NodeHistory) (findings others : List Finding) (given told : List Action) → InStep e h k
    → ((osc : ℕ) (older : List Found) → in_front osc findings older ≡ in_front osc others older)
    → list_any is_refusal findings ≡ list_any is_refusal others → given ≡ told
    → InStep e (gives h findings given) (gives k others told)
giving e h k findings others given told same fronts refusals actions =
    let between : known_with (event_osc e) findings given (known_of k) ≡ known_with (event_osc e) others told (known_of k) =
    λ i. record (known_of k) { clock = published (record_of k) (actions i); found = fronts (event_osc e) (plain (found_in k)) i } in
    record {
      known = known_given h e findings given same.last
          ∙ ap (known_with (event_osc e) findings given) same.known
          ∙ between
          ∙ sym (known_given k e others told same.other_last);
      last = event_stays h findings given ∙ same.last;
      other_last = event_stays k others told ∙ same.other_last;
      given = given_more h e findings given same.last ∙ ap₂ ◌++◌ same.given actions ∙ sym (given_more k e others told same.other_last);
      refused = refused_more h e findings given same.last
          ∙ ap₂ ◌||◌ same.refused refusals
          ∙ sym (refused_more k e others told same.other_last);
      below = subst IsBelowConnections (sym (roster_stays h findings given)) same.below;
    }

pub giving_same : (e : Event) (h k : NodeHistory) (findings : List Finding) (given : List Action) → InStep e h k
    → InStep e (gives h findings given) (gives k findings given)
giving_same e h k findings given same = giving e h k findings findings given given same (λ osc older. refl) refl refl

-- both give what equal values make
pub giving_from : {A : Type 0} (e : Event) (h k : NodeHistory) (find : A → List Finding) (give : A → List Action) (x y : A) → x ≡ y
    → InStep e h k
    → InStep e (gives h (find x) (give x)) (gives k (find y) (give y))
giving_from e h k find give x y is same =
    subst (λ z. InStep e (gives h (find x) (give x)) (gives k (find z) (give z))) is (giving_same e h k (find x) (give x) same)

pub either_way : {e : Event} (b : Bool) {h k x y : NodeHistory} → InStep e h k → InStep e x y
    → InStep e (if b then h else x) (if b then k else y)
either_way true first second = first
either_way false first second = second

-- ---- an event of the sync part
pub sync_part : (e : Event) → is_sync e ≡ true → event_part e ≡ Sync
sync_part e is = of_part (event_part e) is
  where
    of_part : (p : Part) → is_sync_part p ≡ true → p ≡ Sync
    of_part Sync is = refl
    of_part (Lane k) is = cc

-- it is live where its oscillator reading is not below that of the last live one
abbrev is_above : NodeHistory → Event → Bool
is_above history e = nat_le (live_osc Sync (bare history)) (event_osc e)

live_when : (history : NodeHistory) (e : Event) → is_sync e ≡ true → is_live (bare history) e ≡ is_above history e
live_when history e sync =
    ap (λ p. nat_le (floor_at p (live_osc p (bare history)) (current_record (bare history))) (event_osc e)) (sync_part e sync)

pub same_live : (e : Event) (h k : NodeHistory) → is_sync e ≡ true → AreAlike h k → is_live (bare h) e ≡ is_live (bare k) e
same_live e h k sync same =
    live_when h e sync ∙ ap (λ (s : Known). nat_le s.live (event_osc e)) same.known ∙ sym (live_when k e sync)

-- its direct round
abbrev queries_after : Bool → Event → Known → List Query
queries_after live e s = if live then asked_after s.queries (moment_at (event_osc e)) e else s.queries

abbrev answers_after : Bool → Event → Known → List Answer
answers_after live e s = if live then answered_after s.queries s.answers (moment_at (event_osc e)) e else s.answers

queries_next : (history : NodeHistory) (e : Event) → is_sync e ≡ true
    → map plain_query (queries_of (bare (Next history e [] []))) ≡ queries_after (is_above history e) e (known_of history)
unfolding queries_of
queries_next history e sync =
    asked_if_so (is_live (bare history) e) (queries_of (bare history)) (moment_of (bare history) e) e
    ∙ ap (λ live. queries_after live e (known_of history)) (live_when history e sync)

answers_next : (history : NodeHistory) (e : Event) → is_sync e ≡ true
    → map plain_answer (answers_of (bare (Next history e [] []))) ≡ answers_after (is_above history e) e (known_of history)
unfolding answers_of
answers_next history e sync =
    answered_if_so (is_live (bare history) e) (queries_of (bare history)) (answers_of (bare history)) (moment_of (bare history) e) e
    ∙ ap (λ live. answers_after live e (known_of history)) (live_when history e sync)

-- what is known at its beginning
abbrev known_after : Event → Known → Known
known_after e s = record {
  roster = s.roster;
  clock = s.clock;
  found = s.found;
  live = if same_part Sync (event_part e) && nat_le s.live (event_osc e) then event_osc e else s.live;
  queries = queries_after (nat_le s.live (event_osc e)) e s;
  answers = answers_after (nat_le s.live (event_osc e)) e s;
}

known_next : (history : NodeHistory) (e : Event) → is_sync e ≡ true → known_of (Next history e [] []) ≡ known_after e (known_of history)
unfolding current_record live_osc
known_next history e sync =
    let queries = queries_next history e sync in
    let answers = answers_next history e sync in
    λ i. record (known_after e (known_of history)) { queries = queries i; answers = answers i }

pub beginning : (e : Event) (h k : NodeHistory) → is_sync e ≡ true → AreAlike h k → InStep e (Next h e [] []) (Next k e [] [])
beginning e h k sync same = record {
  known = known_next h e sync ∙ ap (known_after e) same.known ∙ sym (known_next k e sync);
  last = refl;
  other_last = refl;
  given = refl;
  refused = refl;
  below = same.below;
}

pub ending : (e : Event) (h k : NodeHistory) → is_sync e ≡ true → AreAlike h k → InStep e (followed_by h e) (followed_by k e)
    → AreAlike (followed_by h e) (followed_by k e)
ending e h k sync same step =
    let more : sync_given h ++ (e, actions_at (followed_by h e)) ∷ [] ≡ sync_given k ++ (e, actions_at (followed_by k e)) ∷ [] =
    λ i. same.given i ++ (e, step.given i) ∷ [] in
    record { known = step.known; given = given_then h ∙ more ∙ sym (given_then k); below = step.below }
  where
    given_then : (history : NodeHistory) → sync_given (followed_by history e)
        ≡ sync_given history ++ (e, actions_at (followed_by history e)) ∷ []
    given_then history =
        given_next history e
        ∙ ap (λ (b : Bool). if b then sync_given history ++ (e, actions_at (followed_by history e)) ∷ [] else sync_given history) sync
