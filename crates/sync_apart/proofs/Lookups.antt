-- What the rules of the sync part look up among findings, they look up among the plain ones as well.
use Rattle.std.proofs.Common.{◌≡◌, ℕ, ◌+◌, Bool, true, false, not, List, [], ◌∷◌, Option, Some, None, refl, sym, ap, ap₂, ◌∙◌, subst, cond, add-zero}
use Rattle.std.specs.Prelude.{suc, ◌++◌, ◌&&◌, ◌||◌, ◌==◌, if◌then◌else◌, drop, map, fold, find, filter_map, option_map, option_and_then, unwrap_or, position}
use Rattle.std.specs.List.{list_any, cons_option}
use Rattle.std.proofs.lemmas.Bool.Decides.{Decides-eqb}
use Rattle.rpc_session.specs.Client.{ClientHistory}
use Rattle.rpc_session.specs.Server.{ServerHistory, Opened, Received}
use Rattle.rpc_feed.specs.Pieces.{pieces}
use Rattle.time_provider.specs.Past.{Deed, Poll, Waiting, closes, query_of, query_at}
use Rattle.roster.specs.RosterData.{RosterData}
use Rattle.server_roles.specs.Sources.{ntp_servers}
use Rattle.sync_rules.specs.Rounds.{Moment, Answer}
use Rattle.node_rules.specs.History.{Finding, RoundOpened, RoundEnded, SessionBegan, RequestSent, PacketTaken, QueryAsked, QueryAnswered, QueryGone, OctetsCame, PeerEnded, ConnectionOpened, PduServed, Found}
use Rattle.node_rules.specs.Rules.{is_client}
use Rattle.node_rules.specs.Sessions.{is_call, calls_to, session_with, session_of, octets_with, octets_from, taken_with, taken_from, arrived_from}
use Rattle.node_rules.specs.Connections.{connection_with, connection_of}
use Rattle.node_rules.specs.Rounds.{Round, opens, ends, round_at, last_round, since_opening, open_round, settles, is_source, is_unanswered, asks, asked_at, answer_with, first_of, answer_from, all_servers, answers_in, next_number}
use Rattle.node_rules.specs.Providers.{deed_of, provider_of}
use Rattle.sync_apart.proofs.Plain.{is_of_connection, unplaced, moment_at, plain_one, plain, by_plain}

-- ---- the number of a server
abbrev pub IsOfServer : ℕ → Type 0
IsOfServer peer = is_client peer ≡ false

-- a connection has another number
pub other_than : (other peer : ℕ) → is_client other ≡ true → IsOfServer peer → (other == peer) ≡ false
other_than other peer client server = apart (other == peer) refl
  where
    apart : (b : Bool) → (other == peer) ≡ b → b ≡ false
    apart false is = refl
    apart true is =
        let same : other ≡ peer = (Decides-eqb other peer).0 is in
        let never : is_client peer ≡ true = subst (λ n. is_client n ≡ true) same client in
        sym never ∙ server

-- ---- the session of a server, what came over it, and a connection of its number
session_passed : (peer : ℕ) → IsOfServer peer → (f : Finding) → is_of_connection f ≡ true → (before : Option ClientHistory)
    → session_with peer f before ≡ before
session_passed peer server (PeerEnded other) is before = ap (λ (b : Bool). if b then None else before) (other_than other peer is server)
session_passed peer server _ is before = cc

session_kept : (peer : ℕ) (f : Finding) (before : Option ClientHistory)
    → session_with peer (unplaced f) before ≡ session_with peer f before
session_kept peer (RoundEnded outcome answers own) before = refl
session_kept peer _ before = refl

pub session_plain : (peer : ℕ) → IsOfServer peer → (found : List Found) → session_of peer found ≡ session_of peer (plain found)
unfolding session_of
session_plain peer server =
    by_plain (λ xs ys. session_of peer xs ≡ session_of peer ys) refl
    (λ f xs ys is same. session_passed peer server f.finding is (session_of peer xs) ∙ same)
    (λ f xs ys is same. ap (session_with peer f.finding) same ∙ sym (session_kept peer f.finding (session_of peer ys)))

octets_passed : (peer : ℕ) → IsOfServer peer → (f : Finding) → is_of_connection f ≡ true → (before : List ℕ)
    → octets_with peer f before ≡ before
octets_passed peer server (ConnectionOpened other) is before =
    ap (λ (b : Bool). if b then [] else before) (other_than other peer is server)
octets_passed peer server (OctetsCame other octets) is before =
    ap (λ (b : Bool). if b then before ++ octets else before) (other_than other peer is server)
octets_passed peer server _ is before = cc

octets_kept : (peer : ℕ) (f : Finding) (before : List ℕ) → octets_with peer (unplaced f) before ≡ octets_with peer f before
octets_kept peer (RoundEnded outcome answers own) before = refl
octets_kept peer _ before = refl

octets_plain : (peer : ℕ) → IsOfServer peer → (found : List Found) → octets_from peer found ≡ octets_from peer (plain found)
unfolding octets_from
octets_plain peer server =
    by_plain (λ xs ys. octets_from peer xs ≡ octets_from peer ys) refl
    (λ f xs ys is same. octets_passed peer server f.finding is (octets_from peer xs) ∙ same)
    (λ f xs ys is same. ap (octets_with peer f.finding) same ∙ sym (octets_kept peer f.finding (octets_from peer ys)))

taken_passed : (peer : ℕ) → IsOfServer peer → (f : Finding) → is_of_connection f ≡ true → (before : ℕ)
    → taken_with peer f before ≡ before
taken_passed peer server (ConnectionOpened other) is before = ap (λ (b : Bool). if b then 0 else before) (other_than other peer is server)
taken_passed peer server (PduServed other p answer) is before =
    ap (λ (b : Bool). if b then suc before else before) (other_than other peer is server)
taken_passed peer server _ is before = cc

taken_kept : (peer : ℕ) (f : Finding) (before : ℕ) → taken_with peer (unplaced f) before ≡ taken_with peer f before
taken_kept peer (RoundEnded outcome answers own) before = refl
taken_kept peer _ before = refl

taken_plain : (peer : ℕ) → IsOfServer peer → (found : List Found) → taken_from peer found ≡ taken_from peer (plain found)
unfolding taken_from
taken_plain peer server =
    by_plain (λ xs ys. taken_from peer xs ≡ taken_from peer ys) refl
    (λ f xs ys is same. taken_passed peer server f.finding is (taken_from peer xs) ∙ same)
    (λ f xs ys is same. ap (taken_with peer f.finding) same ∙ sym (taken_kept peer f.finding (taken_from peer ys)))

pub arrived_plain : (peer : ℕ) → IsOfServer peer → (found : List Found) → arrived_from peer found ≡ arrived_from peer (plain found)
arrived_plain peer server found =
    let octets = octets_plain peer server found in
    let taken = taken_plain peer server found in
    λ i. record { pdus = drop (taken i) (pieces (octets i)).pdus; left = (pieces (octets i)).left }

connection_passed : (peer : ℕ) → IsOfServer peer → (f : Finding) → is_of_connection f ≡ true → (before : Option ServerHistory)
    → connection_with peer f before ≡ before
connection_passed peer server (ConnectionOpened other) is before =
    ap (λ (b : Bool). if b then Some (Opened peer) else before) (other_than other peer is server)
connection_passed peer server (PduServed other p answer) is before =
    ap (λ (b : Bool). if b then option_map (λ session. Received session p answer) before else before) (other_than other peer is server)
connection_passed peer server (PeerEnded other) is before = ap (λ (b : Bool). if b then None else before) (other_than other peer is server)
connection_passed peer server _ is before = cc

connection_kept : (peer : ℕ) (f : Finding) (before : Option ServerHistory)
    → connection_with peer (unplaced f) before ≡ connection_with peer f before
connection_kept peer (RoundEnded outcome answers own) before = refl
connection_kept peer _ before = refl

pub connection_plain : (peer : ℕ) → IsOfServer peer → (found : List Found) → connection_of peer found ≡ connection_of peer (plain found)
unfolding connection_of
connection_plain peer server =
    by_plain (λ xs ys. connection_of peer xs ≡ connection_of peer ys) refl
    (λ f xs ys is same. connection_passed peer server f.finding is (connection_of peer xs) ∙ same)
    (λ f xs ys is same. ap (connection_with peer f.finding) same ∙ sym (connection_kept peer f.finding (connection_of peer ys)))

-- ---- tests of findings
-- a test passes over findings of connections, and reads no position
record IsOfSync (test : Finding → Bool) : Type 0 where
  passed : (f : Finding) → is_of_connection f ≡ true → test f ≡ false
  kept : (f : Finding) → test (unplaced f) ≡ test f

any_plain : (test : Finding → Bool) → IsOfSync test → (found : List Found)
    → list_any (λ f. test f.finding) found ≡ list_any (λ f. test f.finding) (plain found)
any_plain test of =
    by_plain (λ xs ys. list_any (λ (f : Found). test f.finding) xs ≡ list_any (λ (f : Found). test f.finding) ys) refl
    (λ f xs ys is same. ap (λ (b : Bool). b || list_any (λ (g : Found). test g.finding) xs) (of.passed f.finding is) ∙ same)
    (λ f xs ys is same. ap₂ ◌||◌ (sym (of.kept f.finding)) same)

picks : (b : Bool) (f : Found) (x y : Option Found) → option_map plain_one x ≡ y
    → option_map plain_one (if b then Some f else x) ≡ (if b then Some (plain_one f) else y)
picks true f x y same = refl
picks false f x y same = same

find_plain : (test : Finding → Bool) → IsOfSync test → (found : List Found)
    → option_map plain_one (find (λ f. test f.finding) found) ≡ find (λ f. test f.finding) (plain found)
find_plain test of =
    by_plain (λ xs ys. option_map plain_one (find (λ (f : Found). test f.finding) xs) ≡ find (λ (f : Found). test f.finding) ys) refl
    (λ f xs ys is same. ap (λ (b : Bool). option_map plain_one (if b then Some f else find (λ (g : Found). test g.finding) xs))
    (of.passed f.finding is)
    ∙ same)
    (λ f xs ys is same. picks (test f.finding) f _ _ same
    ∙ ap (λ (b : Bool). if b then Some (plain_one f) else find (λ (g : Found). test g.finding) ys) (sym (of.kept f.finding)))

-- a count, from any number on
abbrev counts : (Finding → Bool) → ℕ → Found → ℕ
counts test n f = n + cond (test f.finding) 1 0

count_plain : (test : Finding → Bool) → IsOfSync test → (found : List Found) (n : ℕ)
    → fold (counts test) n found ≡ fold (counts test) n (plain found)
count_plain test of =
    by_plain (λ xs ys. (n : ℕ) → fold (counts test) n xs ≡ fold (counts test) n ys) (λ n. refl)
    (λ f xs ys is same n. ap (λ (b : Bool). fold (counts test) (n + cond b 1 0) xs) (of.passed f.finding is)
    ∙ ap (λ m. fold (counts test) m xs) (add-zero n) ∙ same n)
    (λ f xs ys is same n. same (counts test n f) ∙ ap (λ (b : Bool). fold (counts test) (n + cond b 1 0) ys) (sym (of.kept f.finding)))

call_of : (peer : ℕ) → IsOfSync (is_call peer)
call_of peer = record { passed = over; kept = as_is }
  where
    over : (f : Finding) → is_of_connection f ≡ true → is_call peer f ≡ false
    over (RoundOpened number deadline sources word) is = cc
    over (SessionBegan other first) is = cc
    over (RequestSent other operation stub) is = cc
    over _ is = refl

    as_is : (f : Finding) → is_call peer (unplaced f) ≡ is_call peer f
    as_is (RoundEnded outcome answers own) = refl
    as_is _ = refl

pub calls_plain : (peer : ℕ) (found : List Found) → calls_to peer found ≡ calls_to peer (plain found)
calls_plain peer found = count_plain (is_call peer) (call_of peer) found 0

-- ---- the last round
opens_of : IsOfSync opens
opens_of = record { passed = over; kept = as_is }
  where
    over : (f : Finding) → is_of_connection f ≡ true → opens f ≡ false
    over (RoundOpened number deadline sources word) is = sym is
    over _ is = refl

    as_is : (f : Finding) → opens (unplaced f) ≡ opens f
    as_is (RoundEnded outcome answers own) = refl
    as_is _ = refl

ends_of : IsOfSync ends
ends_of = record { passed = over; kept = as_is }
  where
    over : (f : Finding) → is_of_connection f ≡ true → ends f ≡ false
    over (RoundEnded outcome answers own) is = sym is
    over _ is = refl

    as_is : (f : Finding) → ends (unplaced f) ≡ ends f
    as_is (RoundEnded outcome answers own) = refl
    as_is _ = refl

round_kept : (f : Found) (g : Finding) → round_at (plain_one f) (unplaced g) ≡ round_at f g
round_kept f (RoundEnded outcome answers own) = refl
round_kept f _ = refl

rounds : (o : Option Found)
    → option_and_then (λ f. round_at f f.finding) (option_map plain_one o) ≡ option_and_then (λ f. round_at f f.finding) o
rounds None = refl
rounds (Some f) = round_kept f f.finding

pub last_plain : (found : List Found) → last_round found ≡ last_round (plain found)
last_plain found =
    sym (rounds (find (λ f. opens f.finding) found))
    ∙ ap (option_and_then (λ (f : Found). round_at f f.finding)) (find_plain opens opens_of found)

begins : (b : Bool) (f : Found) (xs ys : List Found) → is_of_connection f.finding ≡ false → plain xs ≡ ys
    → plain (if b then [] else f ∷ xs) ≡ (if b then [] else plain_one f ∷ ys)
begins true f xs ys is same = refl
begins false f xs ys is same =
    ap (λ (c : Bool). if c then plain xs else plain_one f ∷ plain xs) is ∙ ap (λ zs. plain_one f ∷ zs) same

since_plain : (found : List Found) → plain (since_opening found) ≡ since_opening (plain found)
since_plain =
    by_plain (λ xs ys. plain (since_opening xs) ≡ since_opening ys) refl
    (λ f xs ys is same. ap (λ (b : Bool). plain (if b then [] else f ∷ since_opening xs)) (opens_of.passed f.finding is)
    ∙ ap (λ (b : Bool). if b then plain (since_opening xs) else plain_one f ∷ plain (since_opening xs)) is ∙ same)
    (λ f xs ys is same. begins (opens f.finding) f (since_opening xs) (since_opening ys) is same
    ∙ ap (λ (b : Bool). if b then [] else plain_one f ∷ since_opening ys) (sym (opens_of.kept f.finding)))

-- a test of what was found since it opened
any_since : (test : Finding → Bool) → IsOfSync test → (found : List Found)
    → list_any (λ f. test f.finding) (since_opening found) ≡ list_any (λ f. test f.finding) (since_opening (plain found))
any_since test of found =
    any_plain test of (since_opening found) ∙ ap (list_any (λ (f : Found). test f.finding)) (since_plain found)

pub open_plain : (found : List Found) → open_round found ≡ open_round (plain found)
open_plain found = ap₂ (λ (b : Bool) (r : Option Round). if b then None else r) (any_since ends ends_of found) (last_plain found)

pub next_plain : (found : List Found) → next_number found ≡ next_number (plain found)
next_plain found = ap (λ r. unwrap_or (option_map (λ (round : Round). round.number) r) 0 + 1) (last_plain found)

-- ---- its queries
settles_of : (peer : ℕ) → IsOfSync (settles peer)
settles_of peer = record { passed = over; kept = as_is }
  where
    over : (f : Finding) → is_of_connection f ≡ true → settles peer f ≡ false
    over (QueryAnswered other lo hi) is = cc
    over (QueryGone other) is = cc
    over _ is = refl

    as_is : (f : Finding) → settles peer (unplaced f) ≡ settles peer f
    as_is (RoundEnded outcome answers own) = refl
    as_is _ = refl

pub unanswered_plain : (found : List Found) (peer : ℕ) → is_unanswered found peer ≡ is_unanswered (plain found) peer
unanswered_plain found peer =
    ap₂ (λ (r : Option Round) (b : Bool). is_source r peer && not b) (open_plain found) (any_since (settles peer) (settles_of peer) found)

asks_of : (peer : ℕ) → IsOfSync (asks peer)
asks_of peer = record { passed = over; kept = as_is }
  where
    over : (f : Finding) → is_of_connection f ≡ true → asks peer f ≡ false
    over (QueryAsked other) is = cc
    over _ is = refl

    as_is : (f : Finding) → asks peer (unplaced f) ≡ asks peer f
    as_is (RoundEnded outcome answers own) = refl
    as_is _ = refl

-- ---- answers, without positions
abbrev pub plain_moment : Moment → Moment
plain_moment m = moment_at m.osc

abbrev pub plain_answer : Answer → Answer
plain_answer a = record { tag = a.tag; asked = plain_moment a.asked; got = plain_moment a.got; lo = a.lo; hi = a.hi }

moments : (o : Option Found) → option_map plain_moment (option_map (λ f. f.at) o) ≡ option_map (λ f. f.at) (option_map plain_one o)
moments None = refl
moments (Some f) = refl

asked_plain : (found : List Found) (peer : ℕ) → option_map plain_moment (asked_at found peer) ≡ asked_at (plain found) peer
asked_plain found peer =
    moments (find (λ f. asks peer f.finding) (since_opening found))
    ∙ ap (option_map (λ (f : Found). f.at)) (find_plain (asks peer) (asks_of peer) (since_opening found)
    ∙ ap (find (λ (f : Found). asks peer f.finding)) (since_plain found))

answer_passed : (peer : ℕ) (asked : Moment) (f : Found) (g : Finding) → is_of_connection g ≡ true → answer_with peer asked f g ≡ None
answer_passed peer asked f (QueryAnswered other lo hi) is = cc
answer_passed peer asked f _ is = refl

answer_kept : (peer : ℕ) (asked : Moment) (f : Found) (g : Finding)
    → option_map plain_answer (answer_with peer asked f g) ≡ answer_with peer (plain_moment asked) (plain_one f) (unplaced g)
answer_kept peer asked f (QueryAnswered other lo hi) = either (other == peer)
  where
    either : (b : Bool)
        → option_map plain_answer (if b then Some (record { tag = peer; asked = asked; got = f.at; lo = lo; hi = hi }) else None)
        ≡ (if b then Some (record { tag = peer; asked = plain_moment asked; got = plain_moment f.at; lo = lo; hi = hi }) else None)
    either true = refl
    either false = refl
answer_kept peer asked f (RoundEnded outcome answers own) = refl
answer_kept peer asked f _ = refl

-- the answers to the query of a source that was asked at a moment
abbrev answers_with : ℕ → Moment → List Found → List Answer
answers_with peer asked found = filter_map (λ f. answer_with peer asked f f.finding) found

consed : (o : Option Answer) (xs : List Answer)
    → map plain_answer (cons_option o xs) ≡ cons_option (option_map plain_answer o) (map plain_answer xs)
consed None xs = refl
consed (Some a) xs = refl

with_plain : (peer : ℕ) (asked : Moment) (found : List Found)
    → map plain_answer (answers_with peer asked found) ≡ answers_with peer (plain_moment asked) (plain found)
with_plain peer asked =
    by_plain (λ xs ys. map plain_answer (answers_with peer asked xs) ≡ answers_with peer (plain_moment asked) ys) refl
    (λ f xs ys is same. ap (λ o. map plain_answer (cons_option o (answers_with peer asked xs))) (answer_passed peer asked f f.finding is)
    ∙ same)
    (λ f xs ys is same. consed (answer_with peer asked f f.finding) (answers_with peer asked xs)
    ∙ ap₂ cons_option (answer_kept peer asked f f.finding) same)

firsts : (xs : List Answer) → option_map plain_answer (first_of xs) ≡ first_of (map plain_answer xs)
firsts [] = refl
firsts (a ∷ xs) = refl

answer_plain : (found : List Found) (peer : ℕ) → option_map plain_answer (answer_from found peer) ≡ answer_from (plain found) peer
answer_plain found peer =
    when_asked (asked_at found peer)
    ∙ ap (option_and_then (λ (asked : Moment). first_of (answers_with peer asked (since_opening (plain found))))) (asked_plain found peer)
  where
    when_asked : (o : Option Moment)
        → option_map plain_answer (option_and_then (λ asked. first_of (answers_with peer asked (since_opening found))) o)
        ≡ option_and_then (λ asked. first_of (answers_with peer asked (since_opening (plain found)))) (option_map plain_moment o)
    when_asked None = refl
    when_asked (Some m) =
        firsts (answers_with peer m (since_opening found))
        ∙ ap first_of (with_plain peer m (since_opening found) ∙ ap (answers_with peer (plain_moment m)) (since_plain found))

gathered : (p q : ℕ → Option Answer) → ((peer : ℕ) → option_map plain_answer (p peer) ≡ q peer) → (peers : List ℕ)
    → map plain_answer (filter_map p peers) ≡ filter_map q peers
gathered p q same [] = refl
gathered p q same (peer ∷ peers) = consed (p peer) (filter_map p peers) ∙ ap₂ cons_option (same peer) (gathered p q same peers)

pub answers_plain : (roster : RosterData) (found : List Found)
    → map plain_answer (answers_in roster found) ≡ answers_in roster (plain found)
answers_plain roster found = gathered (answer_from found) (answer_from (plain found)) (answer_plain found) (all_servers roster)

-- ---- the queries of a provider
abbrev deeds_in : List Found → List Deed
deeds_in found = filter_map (λ f. deed_of f.finding) found

-- a deed in front closes the query of a peer, or one behind it
abbrev closes_or : ℕ → Option Deed → Bool → Bool
closes_or peer None later = later
closes_or peer (Some deed) later = closes peer deed || later

closing : (peer : ℕ) (o : Option Deed) (deeds : List Deed)
    → list_any (closes peer) (cons_option o deeds) ≡ closes_or peer o (list_any (closes peer) deeds)
closing peer None deeds = refl
closing peer (Some deed) deeds = refl

deed_passed : (peer : ℕ) → IsOfServer peer → (f : Finding) → is_of_connection f ≡ true → (later : Bool)
    → closes_or peer (deed_of f) later ≡ later
deed_passed peer server (PeerEnded other) is later = ap (λ (b : Bool). b || later) (other_than other peer is server)
deed_passed peer server (PacketTaken other answer) is later = cc
deed_passed peer server (RoundEnded outcome answers own) is later = cc
deed_passed peer server _ is later = refl

deed_kept : (f : Finding) → deed_of (unplaced f) ≡ deed_of f
deed_kept (RoundEnded outcome answers own) = refl
deed_kept _ = refl

deeds_plain : (peer : ℕ) → IsOfServer peer → (found : List Found)
    → list_any (closes peer) (deeds_in found) ≡ list_any (closes peer) (deeds_in (plain found))
deeds_plain peer server =
    by_plain (λ xs ys. list_any (closes peer) (deeds_in xs) ≡ list_any (closes peer) (deeds_in ys)) refl
    (λ f xs ys is same. closing peer (deed_of f.finding) (deeds_in xs) ∙ deed_passed peer server f.finding is _ ∙ same)
    (λ f xs ys is same. closing peer (deed_of f.finding) (deeds_in xs)
    ∙ ap₂ (closes_or peer) (sym (deed_kept f.finding)) same
    ∙ sym (closing peer (deed_of (unplaced f.finding)) (deeds_in ys)))

-- the query of the last round, where there was one and nothing closed it
abbrev query_unless : RosterData → ℕ → Bool → Option Round → Option Waiting
query_unless roster peer closed round =
    let polled : Option Poll = option_map (λ (r : Round). record { osc = r.opened; word = r.word }) round in
    if closed then None
    else option_and_then (λ poll. option_map (query_at poll peer) (position (λ p. p == peer) (ntp_servers roster))) polled

pub query_plain : (roster : RosterData) (peer : ℕ) → IsOfServer peer → (found : List Found)
    → query_of (provider_of roster found) peer ≡ query_of (provider_of roster (plain found)) peer
query_plain roster peer server found =
    ap₂ (query_unless roster peer)
    (deeds_plain peer server (since_opening found) ∙ ap (λ (xs : List Found). list_any (closes peer) (deeds_in xs)) (since_plain found))
    (last_plain found)
