-- What the rules give and find in an event: of a lane, behind two histories; and of any part, behind one.
use Rattle.std.proofs.Common.{◌≡◌, inl, inr, ℕ, ◌≤◌, ◌%◌, cond, List, [], ◌∷◌, Some, None, refl, sym, ap, ap₂, ◌∙◌, subst, arith}
use Rattle.std.specs.Prelude.{Option, IfSome, ◌&&◌, nat_le, max, length, slice_get}
use Rattle.std.specs.List.{AllByRecursion, Contains}
use Rattle.std.proofs.lemmas.List.Elements.{recursion_from_All, All-weaker, All-contains_itself}
use Rattle.std.proofs.lemmas.Option.{slice_get_within}
use Rattle.slew_clock.specs.declared.record.ClockRecord.{ClockRecord}
use Rattle.roster.specs.declared.limits.TheConstants.{MAX_SERVERS}
use Rattle.roster.specs.declared.entry.Entry.{Entry}
use Rattle.roster.specs.RosterData.{RosterData}
use Rattle.server_roles.specs.Sources.{sources}
use Rattle.server_roles.proofs.Servers.{are_servers}
use Rattle.dts_capture.specs.declared.event.Event.{Event}
use Rattle.dts_capture.specs.declared.event.Event.TheVariants as event
use Rattle.dts_capture.specs.declared.action.Action.{Action}
use Rattle.dts_capture.specs.declared.action.NoteKind.TheVariants as note
use Rattle.sync_rules.specs.History.{Part, Sync, Lane, lanes, peer_part, event_part, event_osc, current_record}
use Rattle.sync_rules.specs.Live.{same_part, live_osc, floor_at, floor_of, is_live}
use Rattle.sync_rules.specs.Rules.{noted, closes, regressed_actions}
use Rattle.node_rules.specs.History.{Finding, NodeHistory, Next, roster_of, bare, found_in}
use Rattle.node_rules.specs.Rules.{is_client, ended_by, ends_peer, live_event, regressed_event, followed_by}
use Rattle.lane_apart.specs.Lanes.{IsOfClient}
use Rattle.lane_apart.proofs.Telling.{IsServer, AreOf, Alike, alike_first, alike_either, alike_then, alike_else}
use Rattle.lane_apart.proofs.Looking.{looks_of, looks_stay_same}
use Rattle.lane_apart.proofs.Serving.{reading, noting, asking, going, ends_same, ends_are}
use Rattle.lane_apart.proofs.Asking.{AsksServers, ticking, streaming, packet_comes, server_going}
use Rattle.lane_apart.proofs.Parts.{client_part, server_part, lane_tells, never_sync, server_tells, IsOfEvent}

-- ---- an event of a lane behind two histories
-- what the lane has in both
pub record Agree (k : ℕ) (one other : NodeHistory) : Type 0 where
  pub roster : roster_of one ≡ roster_of other
  pub osc : live_osc (Lane k) (bare one) ≡ live_osc (Lane k) (bare other)
  pub looks : (conn : ℕ) → peer_part conn ≡ Lane k → looks_of conn (found_in one) ≡ looks_of conn (found_in other)

pub agree_itself : (k : ℕ) (history : NodeHistory) → Agree k history history
agree_itself k history = record { roster = refl; osc = refl; looks = λ conn is. refl }

-- the same position behind two histories keeps what the lane has in both
pub agree_after : (k : ℕ) (one other : NodeHistory) → Agree k one other → current_record (bare one) ≡ current_record (bare other)
    → (e : Event) (findings : List Finding) (given : List Action) → Agree k (Next one e findings given) (Next other e findings given)
unfolding live_osc
agree_after k one other agree records e findings given = record {
  roster = agree.roster;
  osc = ap₂ (λ (last : ℕ) (rec : ClockRecord). cond (same_part (Lane k) (event_part e) && nat_le (max last rec.born) (event_osc e))
      (event_osc e) last) agree.osc records;
  looks = λ conn is. looks_stay_same conn one other e findings given given (agree.looks conn is);
}

module _ (k : ℕ) (one other : NodeHistory) (agree : Agree k one other)
    (records : current_record (bare one) ≡ current_record (bare other)) where
  abbrev InLane : ℕ → Type 0
  InLane peer = peer_part peer ≡ Lane k

  live_lane : (e : Event) → event_part e ≡ Lane k → IsOfClient e → Alike InLane one other e (live_event one e) (live_event other e)
  live_lane (event.Read osc) is client =
      reading InLane one other _ agree.roster records _ _ alike_first
  live_lane (event.Ask osc conn octets) is client =
      let such : InLane conn = client_part conn client ∙ is in
      asking InLane one other _ agree.roster records conn such (agree.looks conn such) octets _ _
      alike_first
  live_lane (event.Stream osc peer octets) is client =
      alike_then _ _ (is_client peer) (lane_tells k peer is).client
      (noting InLane one other _ agree.roster records _ _ note.Stray alike_first)
  live_lane (event.Gram osc peer octets) is client =
      alike_then _ _ (is_client peer) (lane_tells k peer is).client
      (noting InLane one other _ agree.roster records _ _ note.Stray alike_first)
  live_lane (event.Lost osc peer) is client =
      alike_then _ _ (is_client peer) (lane_tells k peer is).client
      (going InLane one other _ agree.roster records peer is (agree.looks peer is) _ _ note.Lost alike_first)
  live_lane (event.Unsent osc peer) is client =
      alike_then _ _ (is_client peer) (lane_tells k peer is).client
      (going InLane one other _ agree.roster records peer is (agree.looks peer is) _ _ note.Unsent alike_first)
  live_lane (event.Tick osc word) is client = absurd (never_sync k is)
  live_lane (event.Query osc tag) is client = absurd (never_sync k is)
  live_lane (event.Source osc tag i) is client = absurd (never_sync k is)
  live_lane (event.Adopt osc required) is client = absurd (never_sync k is)

  ended_of_lane : (e : Event) → event_part e ≡ Lane k → IsOfClient e → IfSome (ended_by e) InLane
  ended_of_lane (event.Ask osc conn octets) is client = client_part conn client ∙ is
  ended_of_lane (event.Stream osc peer octets) is client = is
  ended_of_lane (event.Lost osc peer) is client = is
  ended_of_lane (event.Unsent osc peer) is client = is
  ended_of_lane (event.Gram osc peer octets) is client = tt
  ended_of_lane (event.Read osc) is client = tt
  ended_of_lane (event.Tick osc word) is client = tt
  ended_of_lane (event.Query osc tag) is client = tt
  ended_of_lane (event.Source osc tag i) is client = tt
  ended_of_lane (event.Adopt osc required) is client = tt

  floor_same : (e : Event) → event_part e ≡ Lane k → floor_of (bare one) e ≡ floor_of (bare other) e
  floor_same e is =
      subst (λ part. floor_at part (live_osc part (bare one)) (current_record (bare one))
      ≡ floor_at part (live_osc part (bare other)) (current_record (bare other)))
      (sym is) (ap₂ (λ (last : ℕ) (rec : ClockRecord). max last rec.born) agree.osc records)

  regressed_lane : (e : Event) → event_part e ≡ Lane k → IsOfClient e
      → Alike InLane one other e (regressed_event one e) (regressed_event other e)
  regressed_lane e is client = at (ended_by e) (ended_of_lane e is client)
    where
      given_same : regressed_actions (bare other) e ≡ regressed_actions (bare one) e
      given_same = ap (λ floor. noted e (note.Regressed floor) ∷ closes e) (sym (floor_same e is))

      at : (ended : Option ℕ) → IfSome ended InLane
          → Alike InLane one other e (Next one e (ends_peer (found_in one) ended) (regressed_actions (bare one) e))
          (Next other e (ends_peer (found_in other) ended) (regressed_actions (bare other) e))
      at None such = record {
        findings = [];
        given = regressed_actions (bare one) e;
        left = refl;
        right = ap (Next other e []) given_same;
        tell = tt;
      }
      at (Some conn) such = record {
        findings = ends_peer (found_in one) (Some conn);
        given = regressed_actions (bare one) e;
        left = refl;
        right = ap₂ (Next other e) (sym (ends_same InLane one other e agree.roster records conn such (agree.looks conn such))) given_same;
        tell = ends_are InLane one other e agree.roster records conn such (agree.looks conn such);
      }

  pub lane_follows : (e : Event) → event_part e ≡ Lane k → IsOfClient e → Alike InLane one other e (followed_by one e) (followed_by other e)
  unfolding followed_by
  lane_follows e is client =
      alike_either (is_live (bare one) e) (is_live (bare other) e) (ap (λ floor. nat_le floor (event_osc e)) (floor_same e is))
      (live_lane e is client) (regressed_lane e is client)

-- ---- an event of the sync part behind a history
-- the sources of a roster are servers
source_is_server : (roster : RosterData) → length roster.entries ≤ MAX_SERVERS → (round last peer : ℕ)
    → Contains (sources roster round last) peer → IsServer peer
source_is_server roster few round last peer among =
    elim (are_servers roster round last peer among) [
      | inl ntp ↦ below ntp.entry ntp.at
      | inr other ↦ below other.1.entry other.1.at
    ]
  where
    below : (entry : Entry) → slice_get roster.entries peer ≡ Some entry → IsServer peer
    below entry at = server_part peer (omega (arith, slice_get_within roster.entries peer entry at))

sources_are_servers : (roster : RosterData) → length roster.entries ≤ MAX_SERVERS → (round last : ℕ)
    → AllByRecursion IsServer (sources roster round last)
sources_are_servers roster few round last =
    recursion_from_All IsServer (sources roster round last)
    (All-weaker (Contains (sources roster round last)) IsServer (source_is_server roster few round last) (sources roster round last)
    (All-contains_itself (sources roster round last)))

module _ (before : NodeHistory) (few : length (roster_of before).entries ≤ MAX_SERVERS) (last : AsksServers (found_in before)) where
  asked : (round used : ℕ) → AllByRecursion IsServer (sources (roster_of before) round used)
  asked = sources_are_servers (roster_of before) few

  live_sync : (e : Event) → event_part e ≡ Sync → Alike IsServer before before e (live_event before e) (live_event before e)
  live_sync (event.Tick osc word) is =
      ticking before _ last asked word _ alike_first
  live_sync (event.Stream osc peer octets) is =
      alike_else _ _ (is_client peer) (server_tells peer is)
      (streaming before _ last asked peer is octets _ alike_first)
  live_sync (event.Gram osc peer octets) is =
      alike_else _ _ (is_client peer) (server_tells peer is)
      (packet_comes before _ last asked peer is octets _ alike_first)
  live_sync (event.Lost osc peer) is =
      alike_else _ _ (is_client peer) (server_tells peer is)
      (server_going before _ last asked peer is _ note.Lost alike_first)
  live_sync (event.Unsent osc peer) is =
      alike_else _ _ (is_client peer) (server_tells peer is)
      (server_going before _ last asked peer is _ note.Unsent alike_first)
  live_sync (event.Read osc) is = absurd (never_sync 0 (sym is))
  live_sync (event.Ask osc conn octets) is = absurd (never_sync (conn % lanes) (sym is))
  live_sync (event.Query osc tag) is = record { findings = []; given = _; left = refl; right = refl; tell = tt }
  live_sync (event.Source osc tag i) is = record { findings = []; given = _; left = refl; right = refl; tell = tt }
  live_sync (event.Adopt osc required) is = record { findings = []; given = _; left = refl; right = refl; tell = tt }

  ended_server : (e : Event) → event_part e ≡ Sync → IfSome (ended_by e) IsServer
  ended_server (event.Stream osc peer octets) is = is
  ended_server (event.Lost osc peer) is = is
  ended_server (event.Unsent osc peer) is = is
  ended_server (event.Ask osc conn octets) is = absurd (never_sync (conn % lanes) (sym is))
  ended_server (event.Gram osc peer octets) is = tt
  ended_server (event.Read osc) is = tt
  ended_server (event.Tick osc word) is = tt
  ended_server (event.Query osc tag) is = tt
  ended_server (event.Source osc tag i) is = tt
  ended_server (event.Adopt osc required) is = tt

  regressed_sync : (e : Event) → event_part e ≡ Sync → Alike IsServer before before e (regressed_event before e) (regressed_event before e)
  regressed_sync e is = record {
    findings = ends_peer (found_in before) (ended_by e);
    given = regressed_actions (bare before) e;
    left = refl;
    right = refl;
    tell = at (ended_by e) (ended_server e is);
  }
    where
      at : (ended : Option ℕ) → IfSome ended IsServer → AreOf IsServer (ends_peer (found_in before) ended)
      at None such = tt
      at (Some peer) such = ends_are IsServer before before e refl refl peer such refl

  sync_follows : (e : Event) → event_part e ≡ Sync → Alike IsServer before before e (followed_by before e) (followed_by before e)
  unfolding followed_by
  sync_follows e is = alike_either (is_live (bare before) e) _ refl (live_sync e is) (regressed_sync e is)

  -- of whichever part: what the rules find tells of its peers
  pub follows_of : (e : Event) → IsOfClient e
      → Alike (IsOfEvent e) before before e (followed_by before e) (followed_by before e)
  follows_of e client = at (event_part e) refl
    where
      at : (part : Part) → event_part e ≡ part
          → Alike (λ peer. peer_part peer ≡ part) before before e (followed_by before e) (followed_by before e)
      at Sync is = sync_follows e is
      at (Lane j) is = lane_follows j before before (agree_itself j before) refl e is client
