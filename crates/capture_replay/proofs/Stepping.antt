-- The steps of a node, by the rules.
use Rattle.std.proofs.Common.{◌≡◌, ℕ, ◌<◌, ◌≤◌, cond, Bool, true, false, List, [], ◌∷◌, Some, None, refl, sym, ap, ◌∙◌, subst, arith}
use Rattle.std.specs.Prelude.{nat_le, ◌&&◌, is_some, Result, Ok, Err, IfOk, OnOk}
use Rattle.slew_clock.specs.declared.reading.Reading.{Reading}
use Rattle.std.proofs.lemmas.Bool.{leb-true, leb-false}
use Rattle.slew_clock.specs.declared.limits.TheConstants.{GREATEST_OSC}
use Rattle.slew_clock.specs.declared.record.ClockRecord.{ClockRecord}
use Rattle.slew_clock.specs.Record.{IsSound}
use Rattle.slew_clock.specs.Line.{line}
use Rattle.slew_clock.specs.Reading.{inaccuracy_of, IsReading}
use Rattle.slew_clock.specs.Change.{renewed_record}
use Rattle.dts_capture.specs.declared.event.Event.{Event}
use Rattle.dts_capture.specs.declared.event.Event.TheVariants as event
use Rattle.dts_capture.specs.declared.action.Action.{Action}
use Rattle.dts_capture.specs.declared.action.Action.TheVariants as action
use Rattle.dts_capture.specs.declared.action.NoteKind.TheVariants as note
use Rattle.sync_rules.specs.History.{History, Sync, Lane, event_part, event_osc, current_record, published}
use Rattle.sync_rules.specs.Live.{floor_at, floor_of, is_live, live_osc, same_part}
use Rattle.sync_rules.specs.Ranges.{IsTime, IsEventInRange}
use Rattle.sync_rules.specs.Rounds.{queries_of, answers_of, is_asked, is_full, open_query}
use Rattle.sync_rules.proofs.Choices.{both}
use Rattle.sync_rules.specs.Rules.{actions_of, followed_by, live_actions, regressed_actions, publication, rates_of, closes, event_peer}
use Rattle.sync_rules.proofs.Moments.{sync_live}
use Rattle.sync_rules.proofs.Safe.{read_keeps}
use Rattle.sync_rules.proofs.Standing.{stands}
use Rattle.dts_base.specs.declared.interval.Interval.{Interval}
use Rattle.dts_base.specs.declared.outcome.NoMemory.{NoMemory}
use Rattle.capture_replay.specs.declared.node.Node.{Node}
use Rattle.capture_replay.specs.declared.round.DirectRound.{DirectRound}
use Rattle.capture_replay.specs.Notes.{noted_at}
use Rattle.capture_replay.specs.Rounds.{RoundStands, IsRoundStep}
use Rattle.capture_replay.specs.Standing.{StandsFor, IsStep}
use Rattle.capture_replay.specs.Taken.{HasTaken, GoesOn}
use Rattle.capture_replay.proofs.Giving.{one_ok}
use Rattle.capture_replay.proofs.RoundLaws.{dead_round, aside_round}

-- the record of a node is sound for its rates
pub sound_node : (node : Node) (h : History) → StandsFor node h → IsSound node.rates node.current
sound_node node h s = subst (λ r. IsSound r node.current) (sym s.sync.rates) (subst (IsSound (rates_of h)) (sym s.sync.current) (stands h s.ruled s.range).sound)

-- and was born at a live event of the sync part, or before
pub born_node : (node : Node) (h : History) → StandsFor node h → node.current.born ≤ node.sync_osc
born_node node h s = omega (arith, ap (λ (r : ClockRecord). r.born) s.sync.current, s.sync.last, (stands h s.ruled s.range).born)

given_by : (h : History) (e : Event) (b : Bool) → is_live h e ≡ b → actions_of h e ≡ cond b (live_actions h e) (regressed_actions h e)
unfolding actions_of
given_by h e b live = ap (λ x. cond x (live_actions h e) (regressed_actions h e)) live

record_after : (h : History) (e : Event) (actions : List Action) → actions_of h e ≡ actions → current_record (followed_by h e) ≡ published (current_record h) actions
unfolding current_record
record_after h e actions is = ap (published (current_record h)) is

-- ---- events of the sync part
sync_floor : (h : History) (e : Event) → event_part e ≡ Sync → floor_of h e ≡ live_osc Sync h
sync_floor h e sync = ap (λ p. floor_at p (live_osc p h) (current_record h)) sync

lane_aside : (h : History) (e : Event) → event_part e ≡ Sync → live_osc (Lane 0) (followed_by h e) ≡ live_osc (Lane 0) h
unfolding live_osc
lane_aside h e sync = ap (λ p. cond (same_part (Lane 0) p && nat_le (floor_at (Lane 0) (live_osc (Lane 0) h) (current_record h)) (event_osc e)) (event_osc e) (live_osc (Lane 0) h)) sync

sync_dead : (h : History) (e : Event) → event_part e ≡ Sync → is_live h e ≡ false → live_osc Sync (followed_by h e) ≡ live_osc Sync h
unfolding live_osc
sync_dead h e sync dead =
    ap (λ p. cond (same_part Sync p && nat_le (live_osc Sync h) (event_osc e)) (event_osc e) (live_osc Sync h)) sync
    ∙ ap (λ f. cond (nat_le f (event_osc e)) (event_osc e) (live_osc Sync h)) (sym (sync_floor h e sync))
    ∙ ap (λ b. cond b (event_osc e) (live_osc Sync h)) dead

is_on : (node : Node) (h : History) (e : Event) → StandsFor node h → event_part e ≡ Sync → node.sync_osc ≤ event_osc e → is_live h e ≡ true
is_on node h e s sync above = elim (is_live h e) as (λ b. is_live h e ≡ b → is_live h e ≡ true) [
  | true ↦ λ live. live
  | false ↦ λ dead. absurd (omega (arith, leb-false _ _ dead, sync_floor h e sync, s.sync.last, above))
] refl

is_back : (node : Node) (h : History) (e : Event) → StandsFor node h → event_part e ≡ Sync → event_osc e < node.sync_osc → is_live h e ≡ false
is_back node h e s sync below = elim (is_live h e) as (λ b. is_live h e ≡ b → is_live h e ≡ false) [
  | true ↦ λ live. absurd (omega (arith, leb-true _ _ live, sync_floor h e sync, s.sync.last, below))
  | false ↦ λ dead. dead
] refl

-- the state that a live event of the sync part leaves: its actions publish the record, and the round is that of the rules
pub record IsLive (old new : Node) (e : Event) (actions : List Action) : Type 0 where
  pub gives : (h : History) → StandsFor old h → live_actions h e ≡ actions
  pub rates : new.rates ≡ old.rates
  pub current : (h : History) → StandsFor old h → new.current ≡ published old.current actions
  pub sync : new.sync_osc ≡ event_osc e
  pub lane : new.lane_osc ≡ old.lane_osc
  pub round : (h : History) → StandsFor old h → is_live h e ≡ true → RoundStands new.round (followed_by h e)

pub live_step : (old new : Node) (e : Event) (actions : List Action) → event_part e ≡ Sync → IsEventInRange e → old.sync_osc ≤ event_osc e → IsLive old new e actions → IsStep old new e actions
live_step old new e actions sync range above is = record {
  gives = λ h s. given_by h e true (is_on old h e s sync above) ∙ is.gives h s;
  stands = λ h s.
      let live = is_on old h e s sync above in record {
        sync = record {
          rates = is.rates ∙ s.sync.rates;
          current = is.current h s ∙ ap (λ r. published r actions) s.sync.current ∙ sym (record_after h e actions (given_by h e true live ∙ is.gives h s));
          last = is.sync ∙ sym (sync_live h e (actions_of h e) sync live);
          round = is.round h s live;
        };
        lane = is.lane ∙ s.lane ∙ sym (lane_aside h e sync);
        ruled = (refl, s.ruled);
        range = (s.range, range);
      };
}

-- a regressed event of the sync part without a peer leaves the state
pub back_step : (node : Node) (e : Event) → event_part e ≡ Sync → IsEventInRange e → event_osc e < node.sync_osc → event_peer e ≡ None → closes e ≡ []
    → IsStep node node e (noted_at (event_osc e) (note.Regressed node.sync_osc) ∷ [])
back_step node e sync range below alone none = record {
  gives = λ h s. given h s;
  stands = λ h s.
      let dead = is_back node h e s sync below in record {
        sync = record {
          rates = s.sync.rates;
          current = s.sync.current ∙ sym (record_after h e (noted_at (event_osc e) (note.Regressed node.sync_osc) ∷ []) (given h s));
          last = s.sync.last ∙ sym (sync_dead h e sync dead);
          round = dead_round node.round h e s.sync.round dead;
        };
        lane = s.lane ∙ sym (lane_aside h e sync);
        ruled = (refl, s.ruled);
        range = (s.range, range);
      };
}
  where
    given : (h : History) → StandsFor node h → actions_of h e ≡ noted_at (event_osc e) (note.Regressed node.sync_osc) ∷ []
    given h s = given_by h e false (is_back node h e s sync below)
        ∙ ap (λ p. action.Log (record { osc = event_osc e; peer = p; kind = note.Regressed (floor_of h e) }) ∷ closes e) alone
        ∙ ap (λ f. noted_at (event_osc e) (note.Regressed f) ∷ closes e) (sync_floor h e sync ∙ sym s.sync.last)
        ∙ ap (λ rest. noted_at (event_osc e) (note.Regressed node.sync_osc) ∷ rest) none

-- ---- ticks
-- the renewal of the node's clock is that of the history's
renewal_same : (node : Node) (h : History) (osc : ℕ) → StandsFor node h → renewed_record (rates_of h) (current_record h) osc ≡ renewed_record node.rates node.current osc
renewal_same node h osc s = sym (ap (λ r. renewed_record r node.current osc) s.sync.rates ∙ ap (λ c. renewed_record (rates_of h) c osc) s.sync.current)

tick_round : (node : Node) (osc word : ℕ) (h : History) → StandsFor node h → RoundStands node.round (followed_by h (event.Tick osc word))
tick_round node osc word h s = aside_round node.round h (event.Tick osc word) s.sync.round refl refl

pub tick_renews : (node : Node) (osc word : ℕ) (rec : ClockRecord) → osc ≤ GREATEST_OSC → node.sync_osc ≤ osc → renewed_record node.rates node.current osc ≡ Some rec
    → IsStep node (record node { sync_osc = osc; current = rec }) (event.Tick osc word) (action.Publish rec ∷ [])
tick_renews node osc word rec small above is =
    live_step node (record node { sync_osc = osc; current = rec }) (event.Tick osc word) (action.Publish rec ∷ []) refl small above (record {
      gives = λ h s. ap publication (renewal_same node h osc s ∙ is);
      rates = refl;
      current = λ h s. refl;
      sync = refl;
      lane = refl;
      round = λ h s _. tick_round node osc word h s;
    })

pub tick_passes : (node : Node) (osc word : ℕ) → osc ≤ GREATEST_OSC → node.sync_osc ≤ osc → renewed_record node.rates node.current osc ≡ None
    → IsStep node (record node { sync_osc = osc }) (event.Tick osc word) []
tick_passes node osc word small above is =
    live_step node (record node { sync_osc = osc }) (event.Tick osc word) [] refl small above (record {
      gives = λ h s. ap publication (renewal_same node h osc s ∙ is);
      rates = refl;
      current = λ h s. refl;
      sync = refl;
      lane = refl;
      round = λ h s _. tick_round node osc word h s;
    })

-- ---- a tag is asked or answered: nothing is published
query_publishes_none : (h : History) (rec : ClockRecord) (osc tag : ℕ) → published rec (live_actions h (event.Query osc tag)) ≡ rec
query_publishes_none h rec osc tag =
    both (is_asked (queries_of h) tag) _ _ (λ xs. published rec xs ≡ rec) (λ _. refl) (λ _. both (is_full (queries_of h)) _ _ (λ xs. published rec xs ≡ rec) (λ _. refl) (λ _. refl))

source_publishes_none : (h : History) (rec : ClockRecord) (osc tag : ℕ) (i : Interval) → published rec (live_actions h (event.Source osc tag i)) ≡ rec
source_publishes_none h rec osc tag i = both (is_some (open_query (queries_of h) (answers_of h) tag)) _ _ (λ xs. published rec xs ≡ rec) (λ _. refl) (λ _. refl)

pub query_step : (node : Node) (next : DirectRound) (osc tag : ℕ) (actions : List Action) → osc ≤ GREATEST_OSC → node.sync_osc ≤ osc
    → IsRoundStep node.round next (event.Query osc tag) actions → IsStep node (record node { sync_osc = osc; round = next }) (event.Query osc tag) actions
query_step node next osc tag actions small above is =
    live_step node (record node { sync_osc = osc; round = next }) (event.Query osc tag) actions refl small above (record {
      gives = λ h s. is.gives h s.sync.round;
      rates = refl;
      current = λ h s. sym (query_publishes_none h node.current osc tag) ∙ ap (published node.current) (is.gives h s.sync.round);
      sync = refl;
      lane = refl;
      round = λ h s live. is.stands h s.sync.round live;
    })

pub source_step : (node : Node) (next : DirectRound) (osc tag : ℕ) (i : Interval) (actions : List Action) → osc ≤ GREATEST_OSC → IsTime i.lo → IsTime i.hi → node.sync_osc ≤ osc
    → IsRoundStep node.round next (event.Source osc tag i) actions → IsStep node (record node { sync_osc = osc; round = next }) (event.Source osc tag i) actions
source_step node next osc tag i actions small low high above is =
    live_step node (record node { sync_osc = osc; round = next }) (event.Source osc tag i) actions refl (small, low, high) above (record {
      gives = λ h s. is.gives h s.sync.round;
      rates = refl;
      current = λ h s. sym (source_publishes_none h node.current osc tag i) ∙ ap (published node.current) (is.gives h s.sync.round);
      sync = refl;
      lane = refl;
      round = λ h s live. is.stands h s.sync.round live;
    })

-- what holds of a result holds of what follows from it
pub if_ok : {T E : Type 0} (r : Result T E) (P Q : T → Type 0) → IfOk r P → ((v : T) → P v → Q v) → IfOk r Q
if_ok (Ok v) P Q p f = f v p
if_ok (Err e) P Q p f = tt

-- the step of an event at which the oscillator went back
pub back_ok : {T : Type 0} (took : T → List Action → Type 0) (before after : T) (node : Node) (e : Event) (back : Action) (r : Result (Unit {0}) NoMemory)
    → event_part e ≡ Sync → IsEventInRange e → event_peer e ≡ None → closes e ≡ []
    → (event_osc e < node.sync_osc) × (back ≡ noted_at (event_osc e) (note.Regressed node.sync_osc)) → OnOk r (GoesOn took before after (back ∷ []))
    → OnOk r (HasTaken took before after (IsStep node node e))
back_ok took before after node e back r sync range alone none is found =
    one_ok took before after r back _ (IsStep node node e) found is.1 (back_step node e sync range is.0 alone none)

-- ---- reads
floor_same : (node : Node) (h : History) (osc : ℕ) → StandsFor node h → floor_at (Lane 0) node.lane_osc node.current ≡ floor_of h (event.Read osc)
floor_same node h osc s = ap (λ l. floor_at (Lane 0) l node.current) s.lane ∙ ap (λ r. floor_at (Lane 0) (live_osc (Lane 0) h) r) s.sync.current

-- the record stays the current one
current_same : (h : History) (osc : ℕ) → current_record (followed_by h (event.Read osc)) ≡ current_record h
current_same h osc = read_keeps h osc (actions_of h (event.Read osc)) refl

lane_after : (h : History) (osc : ℕ) (b : Bool) → is_live h (event.Read osc) ≡ b → live_osc (Lane 0) (followed_by h (event.Read osc)) ≡ cond b osc (live_osc (Lane 0) h)
unfolding live_osc
lane_after h osc b live = ap (λ x. cond x osc (live_osc (Lane 0) h)) live

sync_aside : (h : History) (osc : ℕ) → live_osc Sync (followed_by h (event.Read osc)) ≡ live_osc Sync h
unfolding live_osc
sync_aside h osc = refl

read_stands : (node : Node) (h : History) (osc lane : ℕ) → StandsFor node h → osc ≤ GREATEST_OSC → live_osc (Lane 0) (followed_by h (event.Read osc)) ≡ lane
    → StandsFor (record node { lane_osc = lane }) (followed_by h (event.Read osc))
read_stands node h osc lane s small is = record {
  sync = record {
    rates = s.sync.rates;
    current = s.sync.current ∙ sym (current_same h osc);
    last = s.sync.last ∙ sym (sync_aside h osc);
    round = aside_round node.round h (event.Read osc) s.sync.round refl refl;
  };
  lane = sym is;
  ruled = (refl, s.ruled);
  range = (s.range, small);
}

read_is_on : (node : Node) (h : History) (osc : ℕ) → StandsFor node h → floor_at (Lane 0) node.lane_osc node.current ≤ osc → is_live h (event.Read osc) ≡ true
read_is_on node h osc s above = elim (is_live h (event.Read osc)) as (λ b. is_live h (event.Read osc) ≡ b → is_live h (event.Read osc) ≡ true) [
  | true ↦ λ live. live
  | false ↦ λ dead. absurd (omega (arith, leb-false _ _ dead, floor_same node h osc s, above))
] refl

read_is_back : (node : Node) (h : History) (osc : ℕ) → StandsFor node h → osc < floor_at (Lane 0) node.lane_osc node.current → is_live h (event.Read osc) ≡ false
read_is_back node h osc s below = elim (is_live h (event.Read osc)) as (λ b. is_live h (event.Read osc) ≡ b → is_live h (event.Read osc) ≡ false) [
  | true ↦ λ live. absurd (omega (arith, leb-true _ _ live, floor_same node h osc s, below))
  | false ↦ λ dead. dead
] refl

pub read_reads : (node : Node) (osc : ℕ) → osc ≤ GREATEST_OSC → floor_at (Lane 0) node.lane_osc node.current ≤ osc
    → IsStep node (record node { lane_osc = osc }) (event.Read osc) (noted_at osc
    (note.Reading (line node.rates node.current osc) (inaccuracy_of node.rates node.current osc) node.current.step node.current.number) ∷ [])
read_reads node osc small above = record {
  gives = λ h s.
      given_by h (event.Read osc) true (read_is_on node h osc s above)
      ∙ ap (λ k. noted_at osc k ∷ [])
      (ap (λ r. note.Reading (line r (current_record h) osc) (inaccuracy_of r (current_record h) osc) (current_record h).step (current_record h).number) (sym s.sync.rates)
      ∙ ap (λ c. note.Reading (line node.rates c osc) (inaccuracy_of node.rates c osc) c.step c.number) (sym s.sync.current));
  stands = λ h s. read_stands node h osc osc s small (lane_after h osc true (read_is_on node h osc s above));
}

pub read_is_regressed : (node : Node) (osc : ℕ) → osc ≤ GREATEST_OSC → osc < floor_at (Lane 0) node.lane_osc node.current
    → IsStep node node (event.Read osc) (noted_at osc (note.Regressed (floor_at (Lane 0) node.lane_osc node.current)) ∷ [])
read_is_regressed node osc small below = record {
  gives = λ h s. given_by h (event.Read osc) false (read_is_back node h osc s below) ∙ ap (λ f. noted_at osc (note.Regressed f) ∷ []) (sym (floor_same node h osc s));
  stands = λ h s. read_stands node h osc node.lane_osc s small (lane_after h osc false (read_is_back node h osc s below) ∙ sym s.lane);
}

-- the note on a reading
pub reading_noted : (node : Node) (osc : ℕ) (reading : Reading) → IsReading node.rates node.current osc reading
    → note.Reading reading.value reading.inaccuracy reading.step reading.number
    ≡ note.Reading (line node.rates node.current osc) (inaccuracy_of node.rates node.current osc) node.current.step node.current.number
reading_noted node osc reading is = cc
