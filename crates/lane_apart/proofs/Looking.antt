-- What the rules of a lane look up of a connection, by looking back.
use Rattle.std.proofs.Common.{◌≡◌, inl, inr, ℕ, ◌+◌, ◌%◌, true, false, cond, List, [], ◌∷◌, ◌++◌, refl, sym, ap, ap₂, ◌∙◌, subst, arith}
use Rattle.std.specs.Prelude.{Option, not, filter, fold, drop, map, reverse, length, count_by, ◌==◌}
use Rattle.std.specs.List.{AllByRecursion}
use Rattle.std.proofs.lemmas.Bool.Decides.{eqb_tells}
use Rattle.std.proofs.lemmas.List.Sums.{sum_by-cons}
use Rattle.rpc_feed.specs.Pieces.{Pieces, pieces}
use Rattle.rpc_session.specs.Client.{ClientHistory}
use Rattle.rpc_session.specs.Server.{ServerHistory}
use Rattle.server_roles.specs.declared.counts.Counts.{Counts}
use Rattle.dts_capture.specs.declared.event.Event.{Event}
use Rattle.dts_capture.specs.declared.action.Action.{Action}
use Rattle.sync_rules.specs.History.{lanes}
use Rattle.sync_rules.specs.Rounds.{Moment}
use Rattle.sync_rules.proofs.Choices.{both}
use Rattle.node_rules.specs.History.{Finding, RoundOpened, RoundEnded, SessionBegan, RequestSent, PduTaken, PacketTaken, QueryAsked, QueryAnswered, QueryGone, OctetsCame, PeerRefused, PeerEnded, AskCame, ConnectionOpened, PduServed, NodeHistory, Next, Found, found_at, found_in}
use Rattle.node_rules.specs.Sessions.{session_with, session_of, octets_with, octets_from, taken_with, taken_from}
use Rattle.node_rules.specs.Connections.{connection_with, connection_of, of_lane, open_with, open_in, is_ask, is_refusal, held_count}
use Rattle.lane_apart.proofs.Telling.{IsOf, each_filter, in_front, kept, moment}

pub record Looks : Type 0 where
  pub connection : Option ServerHistory
  pub session : Option ClientHistory
  pub octets : List ℕ
  pub taken : ℕ
  pub opened : List ℕ
  pub asks : ℕ
  pub refused : ℕ

-- of a connection, and of its lane
abbrev pub looks_of : ℕ → List Found → Looks
looks_of conn found = record {
  connection = connection_of conn found;
  session = session_of conn found;
  octets = octets_from conn found;
  taken = taken_from conn found;
  opened = open_in (conn % lanes) found;
  asks = count_by (λ f. is_ask (conn % lanes) f.finding) found;
  refused = count_by (λ f. is_refusal (conn % lanes) f.finding) found;
}

-- behind a finding
abbrev pub looks_with : ℕ → Looks → Finding → Looks
looks_with conn s f = record {
  connection = connection_with conn f s.connection;
  session = session_with conn f s.session;
  octets = octets_with conn f s.octets;
  taken = taken_with conn f s.taken;
  opened = open_with (conn % lanes) f s.opened;
  asks = cond (is_ask (conn % lanes) f) 1 0 + s.asks;
  refused = cond (is_refusal (conn % lanes) f) 1 0 + s.refused;
}

-- with other counts
abbrev counted : Looks → ℕ → ℕ → Looks
counted s asks refused = record s { asks = asks; refused = refused }

one_back : (conn : ℕ) (f : Found) (found : List Found) → looks_of conn (f ∷ found) ≡ looks_with conn (looks_of conn found) f.finding
unfolding connection_of session_of octets_from taken_from open_in
one_back conn f found =
    ap₂ (counted (looks_with conn (looks_of conn found) f.finding))
    (sum_by-cons (λ (g : Found). cond (is_ask (conn % lanes) g.finding) 1 0) f found)
    (sum_by-cons (λ (g : Found). cond (is_refusal (conn % lanes) g.finding) 1 0) f found)

-- behind the findings of a position
pub looking_back : (conn : ℕ) (at : Moment) (fs : List Finding) (found : List Found)
    → looks_of conn (reverse (map (found_at at) fs) ++ found) ≡ fold (looks_with conn) (looks_of conn found) fs
looking_back conn at [] found = refl
looking_back conn at (f ∷ fs) found =
    ap (looks_of conn) (in_front at f fs found)
    ∙ looking_back conn at fs (found_at at f ∷ found)
    ∙ ap (λ s. fold (looks_with conn) s fs) (one_back conn (found_at at f) found)

-- two positions that found the same leave the same to be looked up where there was the same before
pub looks_stay_same : (conn : ℕ) (one other : NodeHistory) (e : Event) (fs : List Finding) (given more : List Action)
    → looks_of conn (found_in one) ≡ looks_of conn (found_in other)
    → looks_of conn (found_in (Next one e fs given)) ≡ looks_of conn (found_in (Next other e fs more))
looks_stay_same conn one other e fs given more same =
    looking_back conn (moment one e) fs (found_in one)
    ∙ ap (λ s. fold (looks_with conn) s fs) same
    ∙ sym (looking_back conn (moment other e) fs (found_in other))

-- ---- what is found elsewhere
-- another peer, and of no connection of this lane
pub record IsElsewhere (conn peer : ℕ) : Type 0 where
  pub other : (peer == conn) ≡ false
  pub lane : of_lane (conn % lanes) peer ≡ false

-- the open connections of a lane are of it
abbrev pub AreOfLane : ℕ → List ℕ → Type 0
AreOfLane lane conns = AllByRecursion (λ conn. of_lane lane conn ≡ true) conns

open_with_are : (lane : ℕ) (f : Finding) (conns : List ℕ) → AreOfLane lane conns → AreOfLane lane (open_with lane f conns)
open_with_are lane (ConnectionOpened conn) conns are =
    both (of_lane lane conn) (conn ∷ conns) conns (AreOfLane lane) (λ is. (is, are)) (λ _. are)
open_with_are lane (PeerEnded conn) conns are = each_filter (λ other. of_lane lane other ≡ true) (λ other. not (other == conn)) conns are
open_with_are lane _ conns are = are

open_are : (lane : ℕ) (found : List Found) → AreOfLane lane (open_in lane found)
unfolding open_in
open_are lane [] = tt
open_are lane (f ∷ found) = open_with_are lane f.finding (open_in lane found) (open_are lane found)

-- so the end of a peer elsewhere leaves them
differ : (lane conn peer : ℕ) → of_lane lane conn ≡ true → of_lane lane peer ≡ false → (conn == peer) ≡ false
differ lane conn peer is not_it =
    elim (eqb_tells conn peer) [
      | inl same ↦ let at : of_lane lane peer ≡ true = subst (λ other. of_lane lane other ≡ true) same.1 is in cc
      | inr apart ↦ apart.0
    ]

all_stay : (lane peer : ℕ) (conns : List ℕ) → of_lane lane peer ≡ false → AreOfLane lane conns
    → filter (λ other. not (other == peer)) conns ≡ conns
all_stay lane peer [] not_it are = refl
all_stay lane peer (conn ∷ conns) not_it are =
    ap (λ b. cond (not b) (conn ∷ filter (λ other. not (other == peer)) conns) (filter (λ other. not (other == peer)) conns))
    (differ lane conn peer are.0 not_it)
    ∙ ap (λ more. conn ∷ more) (all_stay lane peer conns not_it are.1)

no_more : (s : Looks) → counted s (0 + s.asks) (0 + s.refused) ≡ s
no_more s =
    let asks : 0 + s.asks ≡ s.asks = omega arith in let refused : 0 + s.refused ≡ s.refused = omega arith in
    ap₂ (counted s) asks refused

passed : (conn : ℕ) (f : Finding) (s : Looks) → IsOf (IsElsewhere conn) f → AreOfLane (conn % lanes) s.opened → looks_with conn s f ≡ s
passed conn (RoundOpened number deadline sources word) s is are = no_more s
passed conn (RoundEnded outcome answers own) s is are = no_more s
passed conn (SessionBegan peer first) s is are = rw is.other (no_more s)
passed conn (RequestSent peer operation stub) s is are = rw is.other (no_more s)
passed conn (PduTaken peer p answer) s is are = rw is.other (no_more s)
passed conn (PacketTaken peer answer) s is are = no_more s
passed conn (QueryAsked peer) s is are = no_more s
passed conn (QueryAnswered peer lo hi) s is are = no_more s
passed conn (QueryGone peer) s is are = no_more s
passed conn (OctetsCame peer octets) s is are = rw is.other (no_more s)
passed conn (PeerRefused peer) s is are = rw is.lane (no_more s)
passed conn (PeerEnded peer) s is are = rw (is.other, all_stay (conn % lanes) peer s.opened is.lane are) (no_more s)
passed conn (AskCame peer) s is are = rw is.lane (no_more s)
passed conn (ConnectionOpened peer) s is are = rw (is.other, is.lane) (no_more s)
passed conn (PduServed peer p answer) s is are = rw is.other (no_more s)

pub looks_pass : (conn : ℕ) (at : Moment) (fs : List Finding) (found : List Found) → AllByRecursion (IsOf (IsElsewhere conn)) fs
    → looks_of conn (reverse (map (found_at at) fs) ++ found) ≡ looks_of conn found
looks_pass conn at fs found are =
    kept (λ more. looks_of conn more ≡ looks_of conn found) (IsOf (IsElsewhere conn))
    (λ f more is same. one_back conn f more ∙ passed conn f.finding (looks_of conn more) is (open_are (conn % lanes) more) ∙ same)
    at fs found are refl

-- ---- what the rules make of it
abbrev pub arrived_by : Looks → Pieces
arrived_by s = let all = pieces s.octets in record { pdus = drop s.taken all.pdus; left = all.left }

abbrev pub counts_from : ℕ → Looks → Counts
counts_from lane s = record { lane = lane; asks = held_count s.asks; refused = held_count s.refused; connections = length s.opened }
