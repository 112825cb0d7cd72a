-- The part that a peer is of, and what that tells.
use Rattle.std.proofs.Common.{◌≡◌, inl, inr, ℕ, ◌<◌, ◌≤◌, ◌%◌, Bool, true, false, not, refl, sym, ap, ◌∙◌, arith}
use Rattle.std.specs.Prelude.{◌==◌, ◌&&◌, nat_lt, nat_le, if◌then◌else◌}
use Rattle.std.proofs.lemmas.Bool.Decides.{nat_tests, eqb_tells}
use Rattle.dts_capture.specs.declared.event.Event.{Event}
use Rattle.dts_capture.specs.Grammar.{first_connection}
use Rattle.sync_rules.specs.History.{Part, Sync, Lane, lanes, peer_part, event_part}
use Rattle.sync_rules.specs.Live.{same_part}
use Rattle.node_rules.specs.Connections.{of_lane}
use Rattle.node_rules.specs.Rules.{is_client}
use Rattle.lane_apart.proofs.Telling.{IsServer}
use Rattle.lane_apart.proofs.Looking.{IsElsewhere}

pub server_part : (peer : ℕ) → peer < first_connection → IsServer peer
server_part peer below = ap (λ b. if b then Sync else Lane (peer % lanes)) (test (nat_lt peer first_connection) refl)
  where
    test : (b : Bool) → nat_lt peer first_connection ≡ b → b ≡ true
    test b is = grind (arith, nat_tests)

pub client_part : (conn : ℕ) → first_connection ≤ conn → peer_part conn ≡ Lane (conn % lanes)
client_part conn above = ap (λ b. if b then Sync else Lane (conn % lanes)) (test (nat_lt conn first_connection) refl)
  where
    test : (b : Bool) → nat_lt conn first_connection ≡ b → b ≡ false
    test b is = grind (arith, nat_tests)

-- what the lane of a peer tells
pub record IsOfLane (k peer : ℕ) : Type 0 where
  pub client : is_client peer ≡ true
  pub lane : peer % lanes ≡ k

pub lane_tells : (k peer : ℕ) → peer_part peer ≡ Lane k → IsOfLane k peer
lane_tells k peer is = at (nat_lt peer first_connection) refl is
  where
    at : (b : Bool) → nat_lt peer first_connection ≡ b → (if b then Sync else Lane (peer % lanes)) ≡ Lane k → IsOfLane k peer
    at true below sync = cc
    at false above same = record { client = ap not above; lane = cc }

of_lane_tells : (lane peer : ℕ) → of_lane lane peer ≡ true → peer_part peer ≡ Lane lane
of_lane_tells lane peer is =
    at (nat_le first_connection peer) refl is
  where
    at : (b : Bool) → nat_le first_connection peer ≡ b → (b && (peer % lanes == lane)) ≡ true → peer_part peer ≡ Lane lane
    at true above same = client_part peer (grind (arith, nat_tests)) ∙ ap Lane (grind (arith, nat_tests))
    at false below same = cc

itself : (k : ℕ) → (k == k) ≡ true
itself k = grind (arith, nat_tests)

pub never_sync : (k : ℕ) → Sync ≡ Lane k → ⊥
never_sync k is = cc

-- a server is no client
pub server_tells : (peer : ℕ) → IsServer peer → is_client peer ≡ false
server_tells peer is = at (nat_lt peer first_connection) is
  where
    at : (b : Bool) → (if b then Sync else Lane (peer % lanes)) ≡ Sync → not b ≡ false
    at true sync = refl
    at false lane = cc

-- which part is that of a lane
pub part_is : (k : ℕ) (part : Part) → same_part (Lane k) part ≡ true → part ≡ Lane k
part_is k Sync is = cc
part_is k (Lane j) is = ap Lane (grind (arith, nat_tests))

-- a peer is of the part of an event
abbrev pub IsOfEvent : Event → ℕ → Type 0
IsOfEvent e peer = peer_part peer ≡ event_part e

-- a peer of another part is elsewhere
pub elsewhere : (k conn : ℕ) → peer_part conn ≡ Lane k → (part : Part) → same_part (Lane k) part ≡ false
    → (peer : ℕ) → peer_part peer ≡ part → IsElsewhere conn peer
elsewhere k conn is part apart peer of_part = record {
  other = elim (eqb_tells peer conn) [ inl same ↦ absurd (never (ap peer_part same.1 ∙ is)) | inr other ↦ other.0 ];
  lane = other_lane (of_lane (conn % lanes) peer) refl;
}
  where
    never : peer_part peer ≡ Lane k → ⊥
    never same =
        let both : same_part (Lane k) part ≡ true = ap (same_part (Lane k)) (sym of_part ∙ same) ∙ itself k in cc

    other_lane : (b : Bool) → of_lane (conn % lanes) peer ≡ b → b ≡ false
    other_lane true same = absurd (never (of_lane_tells (conn % lanes) peer same ∙ ap Lane (lane_tells k conn is).lane))
    other_lane false same = refl
