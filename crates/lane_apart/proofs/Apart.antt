-- A lane gives what it gives alone, behind records that are shown to it.
use Rattle.std.proofs.Common.{◌≡◌, ℕ, ◌≤◌, pos, Bool, true, false, cond, List, [], ◌∷◌, None, refl, sym, ap, ap₂, ◌∙◌, subst}
use Rattle.std.specs.Prelude.{◌&&◌, nat_le, length, if◌then◌else◌}
use Rattle.std.specs.List.{AllByRecursion}
use Rattle.slew_clock.specs.declared.record.ClockRecord.{ClockRecord}
use Rattle.roster.specs.declared.limits.TheConstants.{MAX_SERVERS}
use Rattle.roster.specs.RosterData.{RosterData}
use Rattle.dts_capture.specs.declared.event.Event.{Event}
use Rattle.dts_capture.specs.declared.event.Event.TheVariants as event
use Rattle.dts_capture.specs.declared.action.Action.{Action}
use Rattle.dts_capture.specs.declared.action.Action.TheVariants as action
use Rattle.sync_rules.specs.History.{Start, Lane, peer_part, event_part, event_osc, current_record}
use Rattle.sync_rules.specs.Live.{live_osc, floor_at}
use Rattle.node_rules.specs.History.{Finding, NodeHistory, Began, Next, roster_of, bare, findings_at, found_in}
use Rattle.node_rules.specs.Rules.{followed_by, actions_at, extended, IsRuled}
use Rattle.lane_apart.specs.Lanes.{Seen, is_of_lane, seen_by, given_by, IsOfClient, AreOfClients, CanBe}
use Rattle.lane_apart.specs.Laws.{LanesAreApart, EventsMakeHistories}
use Rattle.lane_apart.proofs.Telling.{AreOf, are_weaker, moment}
use Rattle.lane_apart.proofs.Looking.{IsElsewhere, looks_pass}
use Rattle.lane_apart.proofs.Asking.{AsksServers, asks_servers_still}
use Rattle.lane_apart.proofs.Parts.{elsewhere, part_is, IsOfEvent}
use Rattle.lane_apart.proofs.Following.{Agree, agree_after, lane_follows, follows_of}

-- ---- a lane alone: the history of its own positions, each behind one that publishes the record that it sees
abbrev nowhere : Start
nowhere = record { osc = 0; value = pos 0; first = None }

abbrev showing : NodeHistory → ClockRecord → NodeHistory
showing before rec = Next before (event.Tick 0 0) [] (action.Publish rec ∷ [])

abbrev alone : RosterData → List Seen → NodeHistory
alone roster [] = Began roster nowhere
alone roster (s ∷ older) = followed_by (showing (alone roster older) s.shown) s.seen

abbrev given_alone : RosterData → List Seen → List (List Action)
given_alone roster [] = []
given_alone roster (s ∷ older) = actions_at (alone roster (s ∷ older)) ∷ given_alone roster older

-- a history does in a lane what the lane does alone, where it sees this and gives that
record RunsAlone (k : ℕ) (history : NodeHistory) (seen : List Seen) (given : List (List Action)) : Type 0 where
  agree : Agree k history (alone (roster_of history) seen)
  same : given ≡ given_alone (roster_of history) seen
  servers : AsksServers (found_in history)

-- one more position, of another part or of the lane
module _ (k : ℕ) (before : NodeHistory) (e : Event) (findings : List Finding) (actions : List Action)
    (ruled : Next before e findings actions ≡ followed_by before e)
    (few : length (roster_of before).entries ≤ MAX_SERVERS) (client : IsOfClient e)
    (earlier : RunsAlone k before (seen_by k before) (given_by k before)) where
  other_lane : is_of_lane k e ≡ false → RunsAlone k (Next before e findings actions) (seen_by k before) (given_by k before)
  unfolding live_osc
  other_lane is =
      let position = follows_of before few earlier.servers e client in
      let found : findings ≡ position.findings = ap findings_at (ruled ∙ position.left) in
      let tell : AreOf (IsOfEvent e) findings = subst (AreOf (IsOfEvent e)) (sym found) position.tell in
      record {
        agree = record {
          roster = earlier.agree.roster;
          osc = ap (λ b. cond (b && nat_le (floor_at (Lane k) (live_osc (Lane k) (bare before)) (current_record (bare before)))
              (event_osc e)) (event_osc e) (live_osc (Lane k) (bare before))) is
              ∙ earlier.agree.osc;
          looks = λ conn of_k. looks_pass conn (moment before e) findings (found_in before)
              (are_weaker (IsOfEvent e) (IsElsewhere conn) (elsewhere k conn of_k (event_part e) is) findings tell)
              ∙ earlier.agree.looks conn of_k;
        };
        same = earlier.same;
        servers = asks_servers_still (IsOfEvent e) before e findings actions tell earlier.servers;
      }

  same_lane : is_of_lane k e ≡ true
      → RunsAlone k (Next before e findings actions)
      (record { seen = e; shown = current_record (bare before) } ∷ seen_by k before) (actions ∷ given_by k before)
  unfolding live_osc current_record
  same_lane is =
      let shown : NodeHistory = showing (alone (roster_of before) (seen_by k before)) (current_record (bare before)) in
      let agree : Agree k before shown = record { roster = earlier.agree.roster; osc = earlier.agree.osc; looks = earlier.agree.looks } in
      let position = lane_follows k before shown agree refl e (part_is k (event_part e) is) client in
      let left : Next before e findings actions ≡ Next before e position.findings position.given = ruled ∙ position.left in
      record {
        agree = subst (λ x. Agree k x (followed_by shown e)) (sym left)
            (subst (λ y. Agree k (Next before e position.findings position.given) y) (sym position.right)
            (agree_after k before shown agree refl e position.findings position.given));
        same = ap₂ (λ (a : List Action) (more : List (List Action)). a ∷ more)
            (ap actions_at left ∙ sym (ap actions_at position.right)) earlier.same;
        servers = subst (λ x. AsksServers (found_in x)) (sym left)
            (asks_servers_still (λ peer. peer_part peer ≡ Lane k) before e position.findings position.given position.tell earlier.servers);
      }

  one_more : RunsAlone k (Next before e findings actions)
      (seen_by k (Next before e findings actions)) (given_by k (Next before e findings actions))
  one_more = at (is_of_lane k e) refl
    where
      at : (b : Bool) → is_of_lane k e ≡ b → RunsAlone k (Next before e findings actions)
          (if b then record { seen = e; shown = current_record (bare before) } ∷ seen_by k before else seen_by k before)
          (if b then actions ∷ given_by k before else given_by k before)
      at true is = same_lane is
      at false is = other_lane is

runs_alone : (k : ℕ) (history : NodeHistory) → IsRuled history → length (roster_of history).entries ≤ MAX_SERVERS → AreOfClients history
    → RunsAlone k history (seen_by k history) (given_by k history)
unfolding live_osc
runs_alone k (Began roster start) ruled few clients =
    record { agree = record { roster = refl; osc = refl; looks = λ conn is. refl }; same = refl; servers = tt }
runs_alone k (Next before e findings actions) ruled few clients =
    one_more k before e findings actions ruled.0 few clients.0 (runs_alone k before ruled.1 few clients.1)

pub lanes_are_apart : LanesAreApart
lanes_are_apart k one other first second rosters seen =
    (runs_alone k one first.ruled first.servers first.asks).same
    ∙ ap₂ given_alone rosters seen
    ∙ sym (runs_alone k other second.ruled second.servers second.asks).same

-- ---- the histories that there are
can_follow : (before : NodeHistory) (e : Event) → CanBe before → IsOfClient e → CanBe (followed_by before e)
can_follow before e can client =
    let position = follows_of before can.servers (runs_alone 0 before can.ruled can.servers can.asks).servers e client in
    record {
      ruled = subst IsRuled (sym position.left) (sym position.left, can.ruled);
      servers = subst (λ history. length (roster_of history).entries ≤ MAX_SERVERS) (sym position.left) can.servers;
      asks = subst AreOfClients (sym position.left) (client, can.asks);
    }

pub can_begin : (roster : RosterData) (start : Start) → length roster.entries ≤ MAX_SERVERS → CanBe (Began roster start)
can_begin roster start few = record { ruled = tt; servers = few; asks = tt }

can_be_extended : (before : NodeHistory) (events : List Event) → CanBe before → AllByRecursion IsOfClient events
    → CanBe (extended before events)
can_be_extended before [] can clients = can
can_be_extended before (e ∷ events) can clients =
    can_be_extended (followed_by before e) events (can_follow before e can clients.0) clients.1

pub roster_stays : (before : NodeHistory) (events : List Event) → CanBe before → AllByRecursion IsOfClient events
    → roster_of (extended before events) ≡ roster_of before
roster_stays before [] can clients = refl
roster_stays before (e ∷ events) can clients =
    roster_stays (followed_by before e) events (can_follow before e can clients.0) clients.1
    ∙ ap roster_of (follows_of before can.servers (runs_alone 0 before can.ruled can.servers can.asks).servers e clients.0).left

pub events_make_histories : EventsMakeHistories
events_make_histories roster start events few clients =
    can_be_extended (Began roster start) events (can_begin roster start few) clients
