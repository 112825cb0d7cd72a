-- What is refused, regressed or noted leaves the clock and the queries as they were.
use Rattle.std.proofs.Common.{◌≡◌, ℕ, ◌+◌, Bool, List, [], ◌∷◌, ◌++◌, Some, None, Ok, Err, true, false, refl, sym, ap, ◌∙◌, subst}
use Rattle.std.specs.Prelude.{Option, is_some, ◌||◌, map, reverse, if◌then◌else◌}
use Rattle.std.proofs.lemmas.List.{reverse-append, map-append, append_assoc}
use Rattle.time_provider.specs.declared.fault.ProviderFault.TheVariants as failure
use Rattle.time_provider.specs.Past.{Answer, answer_of}
use Rattle.dts_capture.specs.declared.event.Event.{Event}
use Rattle.dts_capture.specs.declared.event.Event.TheVariants as event
use Rattle.dts_capture.specs.declared.action.NoteKind.{NoteKind}
use Rattle.dts_capture.specs.declared.action.NoteKind.TheVariants as note
use Rattle.sync_rules.specs.History.{number_of, event_osc, current_record}
use Rattle.sync_rules.specs.Live.{is_live}
use Rattle.sync_rules.specs.Rounds.{Moment}
use Rattle.sync_rules.proofs.Choices.{both}
use Rattle.node_rules.specs.History.{Finding, PacketTaken, PeerRefused, PeerEnded, NodeHistory, Began, Next, roster_of, Found, found_at, bare, gives, found_in}
use Rattle.node_rules.specs.Sessions.{session_of}
use Rattle.node_rules.specs.Rounds.{is_unanswered, answer_from}
use Rattle.node_rules.specs.Providers.{provider_of, near_at}
use Rattle.node_rules.specs.Connections.{connection_of}
use Rattle.node_rules.specs.Asking.{kind_of, is_ntp}
use Rattle.node_rules.specs.Taking.{notes, refuses, hears, judged_note, weighs}
use Rattle.node_rules.specs.Rules.{followed_by, ended_by, ends_peer, regressed_event, live_event, is_client}
use Rattle.node_rules.specs.Laws.{LeavesClockAndQueries, answer_of_datagram, IsNoAnswer, WhatIsWrongChangesNothing}
use Rattle.node_rules.proofs.Serving.{leaves, noting, regressing}

-- what a position finds more is in front of all else
more_in_front : (at : Moment) (findings more : List Finding) (found : List Found)
    → reverse (map (found_at at) (findings ++ more)) ++ found ≡ reverse (map (found_at at) more) ++ (reverse (map (found_at at) findings) ++ found)
more_in_front at findings more found =
    rw (map-append (found_at at) findings more, reverse-append (map (found_at at) findings) (map (found_at at) more))
    (append_assoc (reverse (map (found_at at) more)) (reverse (map (found_at at) findings)) found)

-- the moment of a position
abbrev moment : NodeHistory → Event → Moment
moment before e = record { position = number_of (bare before) + 1; osc = event_osc e }

-- the queries that a list of findings tells of are those that another one does
record TellsTheSame (found other : List Found) : Type 0 where
  unanswered : (peer : ℕ) → is_unanswered found peer ≡ is_unanswered other peer
  answered : (peer : ℕ) → answer_from found peer ≡ answer_from other peer

-- an end and a refusal of a peer tell nothing of queries
refusals_tell_nothing : (at : Moment) (peer : ℕ) (found : List Found)
    → TellsTheSame (found_at at (PeerEnded peer) ∷ found_at at (PeerRefused peer) ∷ found) found
refusals_tell_nothing at peer found = record { unanswered = λ other. refl; answered = λ other. refl }

ends_tell_nothing : (at : Moment) (peer : ℕ) (found : List Found) → TellsTheSame (found_at at (PeerEnded peer) ∷ found) found
ends_tell_nothing at peer found = record { unanswered = λ other. refl; answered = λ other. refl }

same_again : (found other : List Found) → found ≡ other → TellsTheSame found other
same_again found other e = record {
  unanswered = λ peer. ap (λ fs. is_unanswered fs peer) e;
  answered = λ peer. ap (λ fs. answer_from fs peer) e;
}

refusing : (e : Event) (peer : ℕ) (history : NodeHistory) (why : NoteKind) → LeavesClockAndQueries history (refuses e peer history why)
refusing e peer (Began roster start) why = record { clock = refl; unanswered = λ other. refl; answered = λ other. refl }
refusing e peer (Next before event findings actions) why =
    let history = Next before event findings actions in
    let tells = subst (λ found. TellsTheSame found (found_in history))
    (sym (more_in_front (moment before event) findings (PeerRefused peer ∷ PeerEnded peer ∷ []) (found_in before)))
    (refusals_tell_nothing (moment before event) peer (found_in history)) in
    record {
      clock = leaves history (PeerRefused peer ∷ PeerEnded peer ∷ []) _ (λ rec. refl);
      unanswered = tells.unanswered;
      answered = tells.answered;
    }

only_noting : (e : Event) (history : NodeHistory) (kind : NoteKind) → LeavesClockAndQueries history (notes e history kind)
only_noting e (Began roster start) kind = record { clock = refl; unanswered = λ other. refl; answered = λ other. refl }
only_noting e (Next before event findings actions) kind =
    let history = Next before event findings actions in
    let tells = same_again (found_in (notes e history kind)) (found_in history) (more_in_front (moment before event) findings [] (found_in before)) in
    record { clock = noting e history kind; unanswered = tells.unanswered; answered = tells.answered }

ending : (at : Moment) (found : List Found) (ended : Option ℕ)
    → TellsTheSame (reverse (map (found_at at) (ends_peer found ended)) ++ found) found
ending at found None = same_again found found refl
ending at found (Some peer) = ending_if (is_some (session_of peer found) || is_some (connection_of peer found))
  where
    ending_if : (there : Bool) → TellsTheSame (reverse (map (found_at at) (if there then PeerEnded peer ∷ [] else [])) ++ found) found
    ending_if true = ends_tell_nothing at peer found
    ending_if false = same_again found found refl

regressed : (before : NodeHistory) (e : Event) → LeavesClockAndQueries before (regressed_event before e)
regressed before e = let tells = ending (moment before e) (found_in before) (ended_by e) in
    record { clock = regressing before e; unanswered = tells.unanswered; answered = tells.answered }

-- what changes nothing, behind what changes nothing
both_leave : (first second third : NodeHistory) → LeavesClockAndQueries first second → LeavesClockAndQueries second third → LeavesClockAndQueries first third
both_leave first second third one two = record {
  clock = two.clock ∙ one.clock;
  unanswered = λ peer. two.unanswered peer ∙ one.unanswered peer;
  answered = λ peer. two.answered peer ∙ one.answered peer;
}

-- an event that nothing was found in yet
beginning : (before : NodeHistory) (e : Event) → LeavesClockAndQueries before (Next before e [] [])
unfolding current_record
beginning before e = record { clock = refl; unanswered = λ peer. refl; answered = λ peer. refl }

-- a packet that is taken tells nothing of queries by itself
packets_tell_nothing : (at : Moment) (peer : ℕ) (answer : Answer) (found : List Found) → TellsTheSame (found_at at (PacketTaken peer answer) ∷ found) found
packets_tell_nothing at peer answer found = record { unanswered = λ other. refl; answered = λ other. refl }

packet_taken : (peer : ℕ) (history : NodeHistory) (answer : Answer) → LeavesClockAndQueries history (gives history (PacketTaken peer answer ∷ []) [])
packet_taken peer (Began roster start) answer = record { clock = refl; unanswered = λ other. refl; answered = λ other. refl }
packet_taken peer (Next before event findings actions) answer =
    let history = Next before event findings actions in
    let tells = subst (λ found. TellsTheSame found (found_in history))
    (sym (more_in_front (moment before event) findings (PacketTaken peer answer ∷ []) (found_in before)))
    (packets_tell_nothing (moment before event) peer answer (found_in history)) in
    record { clock = leaves history (PacketTaken peer answer ∷ []) [] (λ rec. refl); unanswered = tells.unanswered; answered = tells.answered }

weighing_none : (e : Event) (peer : ℕ) (history : NodeHistory) (answer : Answer) → IsNoAnswer answer → LeavesClockAndQueries history (weighs e peer history answer)
weighing_none e peer history (Ok told) none = elim none [ ]
weighing_none e peer history (Err (failure.Range lo hi)) none = elim none [ ]
weighing_none e peer history (Err failure.NoQuery) none = only_noting e history note.NoQuery
weighing_none e peer history (Err (failure.Wrong refused)) none = only_noting e history (note.Refused refused)
weighing_none e peer history (Err (failure.Judged failed)) none = only_noting e history (judged_note failed)

taken_for_none : (e : Event) (peer : ℕ) (history : NodeHistory) (answer : Answer) → IsNoAnswer answer
    → LeavesClockAndQueries history (weighs e peer (gives history (PacketTaken peer answer ∷ []) []) answer)
taken_for_none e peer history answer none =
    let taken = gives history (PacketTaken peer answer ∷ []) [] in
    both_leave history taken (weighs e peer taken answer) (packet_taken peer history answer) (weighing_none e peer taken answer none)

-- a live event that is a note alone, or else a regressed one
stray_event : (before : NodeHistory) (e : Event) → ((is_live (bare before) e ≡ true) → LeavesClockAndQueries before (live_event before e))
    → LeavesClockAndQueries before (followed_by before e)
unfolding followed_by
stray_event before e live = both (is_live (bare before) e) _ _ (LeavesClockAndQueries before) live (λ _. regressed before e)

stray_note : (before : NodeHistory) (e : Event) → LeavesClockAndQueries before (notes e (Next before e [] []) note.Stray)
stray_note before e = let now = Next before e [] [] in
    both_leave before now (notes e now note.Stray) (beginning before e) (only_noting e now note.Stray)

stray_octets : (before : NodeHistory) (osc peer : ℕ) (octets : List ℕ) → is_some (session_of peer (found_in before)) ≡ false
    → LeavesClockAndQueries before (followed_by before (event.Stream osc peer octets))
stray_octets before osc peer octets none = let e = event.Stream osc peer octets in let now = Next before e [] [] in
    stray_event before e (λ _. both (is_client peer) _ _ (LeavesClockAndQueries before) (λ _. stray_note before e)
    (λ _. subst (λ b. LeavesClockAndQueries before (if b then hears e peer octets now else notes e now note.Stray)) (sym none) (stray_note before e)))

stray_datagram : (before : NodeHistory) (osc peer : ℕ) (octets : List ℕ) → is_ntp (kind_of (roster_of before) peer) ≡ false
    → LeavesClockAndQueries before (followed_by before (event.Gram osc peer octets))
stray_datagram before osc peer octets none = let e = event.Gram osc peer octets in let now = Next before e [] [] in
    let answer = answer_of (provider_of (roster_of before) (found_in now)) peer osc octets (near_at now osc) in
    stray_event before e (λ _. both (is_client peer) _ _ (LeavesClockAndQueries before) (λ _. stray_note before e)
    (λ _. subst (λ b. LeavesClockAndQueries before (if b then weighs e peer (gives now (PacketTaken peer answer ∷ []) []) answer else notes e now note.Stray)) (sym none) (stray_note before e)))

packet : (before : NodeHistory) (osc peer : ℕ) (octets : List ℕ) → IsNoAnswer (answer_of_datagram before osc peer octets)
    → LeavesClockAndQueries before (followed_by before (event.Gram osc peer octets))
unfolding current_record
packet before osc peer octets none = let e = event.Gram osc peer octets in let now = Next before e [] [] in
    let answer = answer_of_datagram before osc peer octets in
    stray_event before e (λ _. both (is_client peer) _ _ (LeavesClockAndQueries before) (λ _. stray_note before e)
    (λ _. both (is_ntp (kind_of (roster_of before) peer)) _ _ (LeavesClockAndQueries before)
    (λ _. both_leave before now _ (beginning before e) (taken_for_none e peer now answer none)) (λ _. stray_note before e)))

pub what_is_wrong_changes_nothing : WhatIsWrongChangesNothing
unfolding followed_by
what_is_wrong_changes_nothing = record {
  regressed = λ before e is. subst (λ live. LeavesClockAndQueries before (if live then live_event before e else regressed_event before e))
      (sym is) (regressed before e);
  refused = refusing;
  noted = only_noting;
  packet = packet;
  stray_octets = stray_octets;
  stray_datagram = stray_datagram;
}
