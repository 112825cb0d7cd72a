-- What the rules find in an event of the sync part tells of servers alone: of the event's peer, and of the sources of the roster.
use Rattle.std.proofs.Common.{ℕ, ◌+◌, Bool, true, false, not, List, [], ◌∷◌, ◌++◌, Some, None, Ok, Err, refl, sym, ap, subst}
use Rattle.std.specs.Prelude.{ℤ, Option, Result, IfSome, is_some, nat_lt, map, fold, if◌then◌else◌}
use Rattle.std.specs.List.{AllByRecursion, list_any}
use Rattle.dts_base.specs.declared.wire.Refused.{Refused}
use Rattle.ndr.specs.Stubs.{Value, read_stub}
use Rattle.pdu_fields.specs.declared.pdu.Pdu.{Pdu}
use Rattle.rpc_feed.specs.Pieces.{Pieces}
use Rattle.rpc_session.specs.declared.fault.RequestFault.{RequestFault}
use Rattle.rpc_session.specs.declared.fault.SessionFault.{SessionFault}
use Rattle.rpc_session.specs.declared.fault.SessionFault.TheVariants as fault
use Rattle.rpc_session.specs.declared.client.ClientOut.{ClientOut}
use Rattle.rpc_session.specs.declared.client.ClientOut.TheVariants as out
use Rattle.rpc_session.specs.Client.{ClientHistory, Took, taken, client_state, request_refused}
use Rattle.time_wire.specs.Layouts.{time_reply}
use Rattle.time_provider.specs.declared.fault.ProviderFault.TheVariants as failure
use Rattle.time_provider.specs.Past.{Answer, Waiting, answer_of, query_of}
use Rattle.server_roles.specs.Sources.{sources}
use Rattle.clerk.specs.Outcome.{Outcome, Waiting as RoundWaiting, Short, Split, Adopted}
use Rattle.slew_clock.specs.Change.{renewed_record}
use Rattle.dts_capture.specs.declared.event.Event.{Event}
use Rattle.dts_capture.specs.declared.action.Action.{Action}
use Rattle.dts_capture.specs.declared.action.NoteKind.{NoteKind}
use Rattle.dts_capture.specs.declared.action.NoteKind.TheVariants as note
use Rattle.sync_rules.specs.History.{event_osc, current_record}
use Rattle.sync_rules.specs.Rounds.{Answer as RoundAnswer}
use Rattle.sync_rules.specs.Rules.{rates_of, noted}
use Rattle.node_rules.specs.History.{Finding, RoundOpened, RoundEnded, SessionBegan, PduTaken, PacketTaken, QueryAsked, QueryAnswered, QueryGone, OctetsCame, PeerRefused, PeerEnded, NodeHistory, Next, Found, roster_of, bare, gives, findings_at, found_at, found_in}
use Rattle.node_rules.specs.Sessions.{calls_to, session_of, arrived_from}
use Rattle.node_rules.specs.Rounds.{Round, ends, since_opening, last_round, open_round, is_unanswered, unanswered_in, outcome_of, next_sources}
use Rattle.node_rules.specs.Providers.{provider_of, near_at}
use Rattle.node_rules.specs.Using.{Use, Unused, Used, use_of_fields}
use Rattle.node_rules.specs.Asking.{greatest_call, time_request, spent, asked_unless, asks_over, begins_session, is_bound, asks_server, asks_ntp, kind_of, is_ntp, asks_source, opens_round}
use Rattle.node_rules.specs.Ending.{closed_in, concludes, evaluates_open, evaluates}
use Rattle.node_rules.specs.Taking.{notes, gone, leaves, refuses, uses, reads_reply, follows, takes_over, takes, refuses_rest, takes_arrived, is_refusal, evaluates_unless_refused, hears, stream_comes, judged_note, weighs, gram_comes, server_goes}
use Rattle.node_rules.specs.Rules.{may_open, opens_if_due, tick_comes}
use Rattle.lane_apart.proofs.Telling.{IsServer, IsOf, AreOf, each_append, each_filter, ends_are_of, kept, Alike, alike_more, alike_either, moment}

-- the sources of the last round are servers
abbrev pub AsksServers : List Found → Type 0
AsksServers found = IfSome (last_round found) (λ round. AllByRecursion IsServer round.sources)

still_asks : (P : ℕ → Type 0) (f : Found) (found : List Found) → IsOf P f.finding → AsksServers found → AsksServers (f ∷ found)
still_asks P f found is are = behind f.finding is
  where
    behind : (g : Finding) → IsOf P g → AsksServers (found_at f.at g ∷ found)
    behind (RoundOpened number deadline sources word) each = each
    behind _ each = are

pub asks_servers_still : (P : ℕ → Type 0) (before : NodeHistory) (e : Event) (findings : List Finding) (given : List Action)
    → AreOf P findings → AsksServers (found_in before) → AsksServers (found_in (Next before e findings given))
asks_servers_still P before e findings given are last =
    kept AsksServers (IsOf P) (still_asks P) (moment before e)
    findings (found_in before) are last

-- ---- one event behind a history
module _ (before : NodeHistory) (e : Event) (last : AsksServers (found_in before))
    (asked : (round last : ℕ) → AllByRecursion IsServer (sources (roster_of before) round last)) where
  abbrev Tells : NodeHistory → Type 0
  Tells x = Alike IsServer before before e x x

  -- ---- the end of a round
  open_sources : (x : NodeHistory) → Tells x → IfSome (open_round (found_in x)) (λ round. AllByRecursion IsServer round.sources)
  open_sources x tells = either (list_any (λ f. ends f.finding) (since_opening (found_in x)))
    where
      all : AsksServers (found_in x)
      all = subst (λ h. AsksServers (found_in h)) (sym tells.left)
          (asks_servers_still IsServer before e tells.findings tells.given tells.tell last)

      either : (ended : Bool) → IfSome (if ended then None else last_round (found_in x)) (λ round. AllByRecursion IsServer round.sources)
      either true = tt
      either false = all

  ending : (x : NodeHistory) (round : Round) (outcome : Outcome) (given : List Action) → AllByRecursion IsServer round.sources → Tells x
      → (answers : List RoundAnswer) (own : Option (ℤ × ℤ))
      → Tells (gives x (RoundEnded outcome answers own ∷ map PeerEnded (closed_in (roster_of x) (found_in x) round)) given)
  ending x round outcome given each tells answers own =
      alike_more tells _ given (
        tt,
        ends_are_of IsServer (closed_in (roster_of x) (found_in x) round)
            (each_filter IsServer (λ peer. not (is_ntp (kind_of (roster_of x) peer))) (unanswered_in (found_in x) round)
            (each_filter IsServer (is_unanswered (found_in x)) round.sources each)),
      )

  concluding : (x : NodeHistory) (round : Round) (outcome : Outcome) → AllByRecursion IsServer round.sources → Tells x
      → Tells (concludes e round x outcome)
  concluding x round (RoundWaiting unanswered deadline) each tells = tells
  concluding x round (Short answered required) each tells = ending x round (Short answered required) _ each tells _ _
  concluding x round (Split n) each tells = ending x round (Split n) _ each tells _ _
  concluding x round (Adopted n i) each tells = ending x round (Adopted n i) _ each tells _ _

  evaluating_open : (x : NodeHistory) (round : Option Round) → IfSome round (λ r. AllByRecursion IsServer r.sources) → Tells x
      → Tells (evaluates_open e x round)
  evaluating_open x None each tells = tells
  evaluating_open x (Some round) each tells = concluding x round (outcome_of x round (event_osc e)) each tells

  evaluating : (x : NodeHistory) → Tells x → Tells (evaluates e x)
  evaluating x tells = evaluating_open x (open_round (found_in x)) (open_sources x tells) tells

  -- ---- a server is asked
  spending : (peer : ℕ) (x : NodeHistory) → IsServer peer → Tells x → Tells (spent e peer x)
  spending peer x such tells = alike_more tells (QueryGone peer ∷ []) (noted e note.CallsSpent ∷ []) (such, tt)

  asking_unless : (refused : Option RequestFault) (peer : ℕ) (session : ClientHistory) (x : NodeHistory) → IsServer peer → Tells x
      → Tells (asked_unless refused e peer session x)
  asking_unless (Some refused) peer session x such tells = spending peer x such tells
  asking_unless None peer session x such tells = alike_more tells _ _ (such, (such, tt))

  asking_over : (session : ClientHistory) (peer : ℕ) (x : NodeHistory) → IsServer peer → Tells x → Tells (asks_over session e peer x)
  asking_over session peer x such tells = asking_unless (request_refused session (time_request (roster_of x))) peer session x such tells

  beginning : (peer : ℕ) (x : NodeHistory) → IsServer peer → Tells x → Tells (begins_session e peer x)
  beginning peer x such tells =
      alike_either (nat_lt greatest_call (calls_to peer (found_in x) + 1)) _ refl (spending peer x such tells)
      (alike_more tells (SessionBegan peer (calls_to peer (found_in x) + 1) ∷ []) _ (such, tt))

  asking_server : (peer : ℕ) (x : NodeHistory) (session : Option ClientHistory) → IsServer peer → Tells x
      → Tells (asks_server e peer x session)
  asking_server peer x None such tells = beginning peer x such tells
  asking_server peer x (Some session) such tells =
      alike_either (is_bound (client_state session)) _ refl (asking_over session peer x such tells) (beginning peer x such tells)

  asking_ntp : (peer : ℕ) (x : NodeHistory) (query : Option Waiting) → IsServer peer → Tells x → Tells (asks_ntp e peer x query)
  asking_ntp peer x None such tells = tells
  asking_ntp peer x (Some query) such tells = alike_more tells (QueryAsked peer ∷ []) _ (such, tt)

  asking_source : (x : NodeHistory) (peer : ℕ) → IsServer peer → Tells x → Tells (asks_source e x peer)
  asking_source x peer such tells =
      alike_either (is_ntp (kind_of (roster_of x) peer)) _ refl
      (asking_ntp peer x (query_of (provider_of (roster_of x) (found_in x)) peer) such tells)
      (asking_server peer x (session_of peer (found_in x)) such tells)

  asking_each : (peers : List ℕ) → AllByRecursion IsServer peers → (x : NodeHistory) → Tells x → Tells (fold (asks_source e) x peers)
  asking_each [] each x tells = tells
  asking_each (peer ∷ peers) each x tells = asking_each peers each.1 (asks_source e x peer) (asking_source x peer each.0 tells)

  -- ---- a tick
  opening : (word : ℕ) (peers : List ℕ) → AllByRecursion IsServer peers → (x : NodeHistory) → Tells x → Tells (opens_round e word peers x)
  opening word peers each x tells = asking_each peers each _ (alike_more tells _ _ (each, tt))

  next_are : (x : NodeHistory) → Tells x → AllByRecursion IsServer (next_sources (roster_of x) (found_in x))
  next_are x tells =
      subst (λ r. AllByRecursion IsServer (next_sources r (found_in x))) (sym (ap roster_of tells.left)) (asked _ _)

  opening_if_due : (word : ℕ) (x : NodeHistory) → Tells x → Tells (opens_if_due e word x)
  opening_if_due word x tells =
      alike_either (may_open e x) _ refl
      (evaluating _ (opening word (next_sources (roster_of x) (found_in x)) (next_are x tells) x tells)) tells

  pub ticking : (word : ℕ) (x : NodeHistory) → Tells x → Tells (tick_comes e word x)
  ticking word x tells =
      alike_either (is_some (renewed_record (rates_of (bare x)) (current_record (bare x)) (event_osc e))) _ refl
      (alike_more tells [] _ tt) (opening_if_due word (evaluates e x) (evaluating x tells))

  -- ---- what a server sends
  noting : (x : NodeHistory) (kind : NoteKind) → Tells x → Tells (notes e x kind)
  noting x kind tells = alike_more tells [] (noted e kind ∷ []) tt

  module _ (peer : ℕ) (such : IsServer peer) where
    gone_are : (x : NodeHistory) → AreOf IsServer (gone x peer)
    gone_are x = either (is_unanswered (found_in x) peer)
      where
        either : (b : Bool) → AreOf IsServer (if b then QueryGone peer ∷ [] else [])
        either true = (such, tt)
        either false = tt

    gone_and_ended : (x : NodeHistory) → AreOf IsServer (gone x peer ++ PeerEnded peer ∷ [])
    gone_and_ended x = each_append (IsOf IsServer) (gone x peer) (PeerEnded peer ∷ []) (gone_are x) (such, tt)

    leaving : (x : NodeHistory) (kind : NoteKind) → Tells x → Tells (leaves e peer x kind)
    leaving x kind tells = alike_more tells (gone x peer ++ PeerEnded peer ∷ []) _ (gone_and_ended x)

    refusing : (x : NodeHistory) (kind : NoteKind) → Tells x → Tells (refuses e peer x kind)
    refusing x kind tells = alike_more tells (PeerRefused peer ∷ PeerEnded peer ∷ []) _ (such, (such, tt))

    using_reply : (x : NodeHistory) (of : Use) → Tells x → Tells (uses e peer x of)
    using_reply x (Unused why) tells = alike_more tells (QueryGone peer ∷ []) _ (such, tt)
    using_reply x (Used lo hi) tells = alike_more tells (QueryAnswered peer lo hi ∷ []) [] (such, tt)

    reading_reply : (x : NodeHistory) (fields : Result (List Value) Refused) → Tells x → Tells (reads_reply e peer x fields)
    reading_reply x (Err refused) tells = refusing x (note.Refused refused) tells
    reading_reply x (Ok fields) tells = using_reply x (use_of_fields (roster_of x).settings.epoch fields) tells

    following : (session : ClientHistory) (x : NodeHistory) (answer : Result ClientOut SessionFault) → Tells x
        → Tells (follows e peer session x answer)
    following session x (Ok out.Bound) tells = asking_over session peer x such tells
    following session x (Ok out.Partial) tells = tells
    following session x (Ok (out.Reply call_id stub endian)) tells = reading_reply x (read_stub time_reply.fields endian stub) tells
    following session x (Ok out.Shutdown) tells = leaving x note.Shutdown tells
    following session x (Err (fault.Rejected outcome reason)) tells = leaving x (note.Rejected outcome reason) tells
    following session x (Err (fault.Nak reason)) tells = leaving x (note.Nak reason) tells
    following session x (Err (fault.Fault status)) tells = alike_more tells (gone x peer) _ (gone_are x)
    following session x (Err (fault.UnknownCall call_id)) tells = noting x (note.UnknownCall call_id) tells
    following session x (Err (fault.Unexpected ptype state)) tells = refusing x (note.Unexpected ptype state) tells
    following session x (Err (fault.Fragments have limit)) tells = refusing x (note.Fragments have limit) tells
    following session x (Err fault.NoMemory) tells = tells

    taking_over : (p : Pdu) (x : NodeHistory) (session : Option ClientHistory) → Tells x → Tells (takes_over e peer p x session)
    taking_over p x None tells = tells
    taking_over p x (Some session) tells =
        following (Took session p (taken session p)) (gives x (PduTaken peer p (taken session p) ∷ []) []) (taken session p)
        (alike_more tells (PduTaken peer p (taken session p) ∷ []) [] (such, tt))

    taking : (pdus : List Pdu) (x : NodeHistory) → Tells x → Tells (fold (takes e peer) x pdus)
    taking [] x tells = tells
    taking (p ∷ pdus) x tells = taking pdus (takes e peer x p) (taking_over p x (session_of peer (found_in x)) tells)

    refusing_rest : (x : NodeHistory) (left : Result (List ℕ) Refused) → Tells x → Tells (refuses_rest e peer x left)
    refusing_rest x (Ok rest) tells = tells
    refusing_rest x (Err refused) tells =
        alike_either (is_some (session_of peer (found_in x))) _ refl (refusing x (note.Refused refused) tells) tells

    taking_arrived : (x : NodeHistory) (arrived : Pieces) → Tells x → Tells (takes_arrived e peer x arrived)
    taking_arrived x arrived tells = refusing_rest (fold (takes e peer) x arrived.pdus) arrived.left (taking arrived.pdus x tells)

    evaluating_unless_refused : (x : NodeHistory) → Tells x → Tells (evaluates_unless_refused e x)
    evaluating_unless_refused x tells = alike_either (list_any is_refusal (findings_at x)) _ refl tells (evaluating x tells)

    hearing : (octets : List ℕ) (x : NodeHistory) → Tells x → Tells (hears e peer octets x)
    hearing octets x tells = let heard : NodeHistory = gives x (OctetsCame peer octets ∷ []) [] in
        evaluating_unless_refused _ (taking_arrived heard (arrived_from peer (found_in heard))
        (alike_more tells (OctetsCame peer octets ∷ []) [] (such, tt)))

    pub streaming : (octets : List ℕ) (x : NodeHistory) → Tells x → Tells (stream_comes e peer octets x)
    streaming octets x tells =
        alike_either (is_some (session_of peer (found_in x))) _ refl (hearing octets x tells) (noting x note.Stray tells)

    -- ---- a packet of NTP
    weighing : (x : NodeHistory) (answer : Answer) → Tells x → Tells (weighs e peer x answer)
    weighing x (Ok told) tells = evaluating _ (alike_more tells (QueryAnswered peer told.lo told.hi ∷ []) [] (such, tt))
    weighing x (Err (failure.Range lo hi)) tells =
        evaluating _ (alike_more tells (QueryGone peer ∷ []) (noted e note.UnusedRange ∷ []) (such, tt))
    weighing x (Err failure.NoQuery) tells = noting x note.NoQuery tells
    weighing x (Err (failure.Wrong refused)) tells = noting x (note.Refused refused) tells
    weighing x (Err (failure.Judged failed)) tells = noting x (judged_note failed) tells

    pub packet_comes : (octets : List ℕ) (x : NodeHistory) → Tells x → Tells (gram_comes e peer octets x)
    packet_comes octets x tells =
        let answer : Answer = answer_of (provider_of (roster_of x) (found_in x)) peer (event_osc e) octets (near_at x (event_osc e)) in
        alike_either (is_ntp (kind_of (roster_of x) peer)) _ refl
        (weighing (gives x (PacketTaken peer answer ∷ []) []) answer (alike_more tells (PacketTaken peer answer ∷ []) [] (such, tt)))
        (noting x note.Stray tells)

    -- ---- a server goes
    pub server_going : (x : NodeHistory) (kind : NoteKind) → Tells x → Tells (server_goes e peer x kind)
    server_going x kind tells =
        alike_either (is_some (kind_of (roster_of x) peer)) _ refl
        (evaluating _ (alike_more tells (gone x peer ++ PeerEnded peer ∷ []) (noted e kind ∷ []) (gone_and_ended x)))
        (noting x note.Stray tells)
