-- A lane's event gives the same behind two histories where the same is looked up of its connection.
use Rattle.std.proofs.Common.{◌≡◌, ℕ, ◌%◌, Bool, true, false, List, [], ◌∷◌, Some, None, Ok, Err, refl, sym, ap, ap₂, ◌∙◌, subst}
use Rattle.std.specs.Prelude.{Option, Result, is_some, ◌||◌, nat_le, length, fold, if◌then◌else◌}
use Rattle.std.specs.List.{AllByRecursion}
use Rattle.dts_base.specs.declared.wire.Refused.{Refused}
use Rattle.slew_clock.specs.declared.rates.Rates.{Rates}
use Rattle.slew_clock.specs.declared.record.ClockRecord.{ClockRecord}
use Rattle.slew_clock.specs.Line.{line}
use Rattle.slew_clock.specs.Reading.{inaccuracy_of}
use Rattle.ndr.specs.declared.endian.Endian.{Endian}
use Rattle.pdu_fields.specs.declared.pdu.Pdu.{Pdu}
use Rattle.rpc_feed.specs.Pieces.{Pieces}
use Rattle.rpc_session.specs.declared.fault.SessionFault.{SessionFault}
use Rattle.rpc_session.specs.declared.server.Out.{Out}
use Rattle.rpc_session.specs.declared.server.Out.TheVariants as out
use Rattle.rpc_session.specs.declared.server.CallHead.{CallHead}
use Rattle.rpc_session.specs.Server.{ServerHistory, Received, answered as session_answer, fault_pdu, response_sent}
use Rattle.roster.specs.RosterData.{RosterData}
use Rattle.roster.specs.Rates.{rates_of as roster_rates}
use Rattle.server_roles.specs.declared.counts.Counts.{Counts}
use Rattle.server_roles.specs.declared.answers.Answer.{Answer}
use Rattle.server_roles.specs.declared.answers.Answer.TheVariants as answer
use Rattle.server_roles.specs.Answering.{Shown, answered}
use Rattle.dts_capture.specs.declared.event.Event.{Event}
use Rattle.dts_capture.specs.declared.action.Action.TheVariants as action
use Rattle.dts_capture.specs.declared.action.NoteKind.{NoteKind}
use Rattle.dts_capture.specs.declared.action.NoteKind.TheVariants as note
use Rattle.sync_rules.specs.History.{lanes, event_osc, published, current_record}
use Rattle.sync_rules.specs.Rules.{rates_of, noted, reading_of}
use Rattle.node_rules.specs.History.{OctetsCame, PeerRefused, PeerEnded, AskCame, ConnectionOpened, PduServed, NodeHistory, Began, Next, roster_of, bare, gives, found_in}
use Rattle.node_rules.specs.Sessions.{session_of, arrived_from}
use Rattle.node_rules.specs.Connections.{connection_of, counts_in}
use Rattle.node_rules.specs.Asking.{sends}
use Rattle.node_rules.specs.Taking.{notes}
use Rattle.node_rules.specs.Serving.{most_connections, wrong_stub, shown_at, unless_maybe, responds, gives_out, drops, fault_note, serves_answer, serves_over, serves, drops_rest, serves_arrived, serves_octets, is_busy, serves_ask, reads, ask_comes, client_goes}
use Rattle.node_rules.specs.Rules.{ends_peer}
use Rattle.lane_apart.proofs.Telling.{AreOf, Alike, alike_more, alike_either, alike_each}
use Rattle.lane_apart.proofs.Looking.{Looks, looks_of, looks_stay_same, arrived_by, counts_from}

-- the rates of a history are those of its roster
rates_are : (history : NodeHistory) → rates_of (bare history) ≡ roster_rates (roster_of history).settings
rates_are (Began roster start) = refl
rates_are (Next before e findings actions) = rates_are before

pub rates_agree : (x y : NodeHistory) → roster_of x ≡ roster_of y → rates_of (bare x) ≡ rates_of (bare y)
rates_agree x y same = rates_are x ∙ ap (λ roster. roster_rates roster.settings) same ∙ sym (rates_are y)

-- what a record reads at an oscillator reading, as it is noted and as it is shown
abbrev reading_by : ℕ → Rates → ClockRecord → NoteKind
reading_by osc rates rec = note.Reading (line rates rec osc) (inaccuracy_of rates rec osc) rec.step rec.number

abbrev shown_by : ℕ → Rates → ClockRecord → Shown
shown_by osc rates rec =
    record { value = line rates rec osc; inaccuracy = inaccuracy_of rates rec osc; step = rec.step; number = rec.number }

-- ---- an event over a connection, where of the two histories the rosters, the records and what is looked up of the connection are the same
module _ (P : ℕ → Type 0) (one other : NodeHistory) (e : Event)
    (rosters : roster_of one ≡ roster_of other) (records : current_record (bare one) ≡ current_record (bare other)) where
  abbrev Same : NodeHistory → NodeHistory → Type 0
  Same x y = Alike P one other e x y

  roster_same : (x y : NodeHistory) → Same x y → roster_of x ≡ roster_of y
  roster_same x y same = ap roster_of same.left ∙ rosters ∙ sym (ap roster_of same.right)

  record_same : (x y : NodeHistory) → Same x y → current_record (bare x) ≡ current_record (bare y)
  unfolding current_record
  record_same x y same =
      ap (λ h. current_record (bare h)) same.left
      ∙ ap (λ rec. published rec same.given) records
      ∙ sym (ap (λ h. current_record (bare h)) same.right)

  -- the reading is noted first
  pub reading : (x y : NodeHistory) → Same x y → Same (reads e x) (reads e y)
  reading x y same =
      let kinds : reading_of (bare x) (event_osc e) ≡ reading_of (bare y) (event_osc e) =
      ap₂ (reading_by (event_osc e)) (rates_agree x y (roster_same x y same)) (record_same x y same) in
      subst (λ kind. Same (reads e x) (notes e y kind)) kinds
      (alike_more same [] (noted e (reading_of (bare x) (event_osc e)) ∷ []) tt)

  pub noting : (x y : NodeHistory) (kind : NoteKind) → Same x y → Same (notes e x kind) (notes e y kind)
  noting x y kind same = alike_more same [] (noted e kind ∷ []) tt

  module _ (conn : ℕ) (such : P conn) (looks : looks_of conn (found_in one) ≡ looks_of conn (found_in other)) where
    looks_same : (x y : NodeHistory) → Same x y → looks_of conn (found_in x) ≡ looks_of conn (found_in y)
    looks_same x y same =
        ap (λ h. looks_of conn (found_in h)) same.left
        ∙ looks_stay_same conn one other e same.findings same.given same.given looks
        ∙ sym (ap (λ h. looks_of conn (found_in h)) same.right)

    -- a call
    responding : (session : ServerHistory) (call : CallHead) (x y : NodeHistory) (a : Answer) → Same x y
        → Same (responds e conn session call x a) (responds e conn session call y a)
    responding session call x y (answer.Stub stub) same =
        alike_more same [] (unless_maybe call.maybe (sends e conn (response_sent session call.call_id call.context call.endian stub))) tt
    responding session call x y (answer.Wrong refused) same =
        alike_more same (PeerRefused conn ∷ [])
        (noted e (note.Refused refused) ∷ unless_maybe call.maybe (sends e conn (fault_pdu call wrong_stub ∷ []))) (such, tt)

    answers_same : (x y : NodeHistory) (opnum : ℕ) (stub : List ℕ) (endian : Endian) → Same x y
        → answered (roster_of x) (counts_in (conn % lanes) (found_in x)) (shown_at e x) opnum stub endian
        ≡ answered (roster_of y) (counts_in (conn % lanes) (found_in y)) (shown_at e y) opnum stub endian
    answers_same x y opnum stub endian same =
        ap (λ (r : RosterData). answered r (counts_in (conn % lanes) (found_in x)) (shown_at e x) opnum stub endian) (roster_same x y same)
        ∙ ap₂ (λ (c : Counts) (s : Shown). answered (roster_of y) c s opnum stub endian)
        (ap (counts_from (conn % lanes)) (looks_same x y same))
        (ap₂ (shown_by (event_osc e)) (rates_agree x y (roster_same x y same)) (record_same x y same))

    giving_out : (session : ServerHistory) (x y : NodeHistory) (o : Out) → Same x y
        → Same (gives_out e conn session x o) (gives_out e conn session y o)
    giving_out session x y (out.Send p) same = alike_more same [] (sends e conn (p ∷ [])) tt
    giving_out session x y (out.Call call_id context opnum stub endian maybe) same =
        let call : CallHead = record { call_id = call_id; context = context; opnum = opnum; maybe = maybe; endian = endian } in
        subst (λ a. Same (gives_out e conn session x (out.Call call_id context opnum stub endian maybe)) (responds e conn session call y a))
        (answers_same x y opnum stub endian same) (responding session call x y _ same)

    -- a PDU
    dropping : (x y : NodeHistory) (kind : NoteKind) → Same x y → Same (drops e conn x kind) (drops e conn y kind)
    dropping x y kind same =
        alike_more same (PeerRefused conn ∷ PeerEnded conn ∷ []) (noted e kind ∷ action.Close (event_osc e) conn ∷ []) (such, (such, tt))

    no_matter : {X : Type 0} (xs : List X) → AllByRecursion (λ _. Unit {0}) xs
    no_matter [] = tt
    no_matter (x ∷ xs) = (tt, no_matter xs)

    answering : (session : ServerHistory) (x y : NodeHistory) (given : Result (List Out) SessionFault) → Same x y
        → Same (serves_answer e conn session x given) (serves_answer e conn session y given)
    answering session x y (Ok outs) same =
        alike_each (gives_out e conn session) (λ _. Unit {0}) (λ v w o _ alike. giving_out session v w o alike) outs (no_matter outs) same
    answering session x y (Err fault) same = dropping x y (fault_note fault) same

    serving_over : (p : Pdu) (x y : NodeHistory) (session : Option ServerHistory) → Same x y
        → Same (serves_over e conn p x session) (serves_over e conn p y session)
    serving_over p x y None same = same
    serving_over p x y (Some session) same = let given = session_answer session p in
        answering (Received session p given) (gives x (PduServed conn p given ∷ []) []) (gives y (PduServed conn p given ∷ []) []) given
        (alike_more same (PduServed conn p given ∷ []) [] (such, tt))

    connection_same : (x y : NodeHistory) → Same x y → connection_of conn (found_in x) ≡ connection_of conn (found_in y)
    connection_same x y same = ap (λ s. s.connection) (looks_same x y same)

    serving : (x y : NodeHistory) (p : Pdu) → Same x y → Same (serves e conn x p) (serves e conn y p)
    serving x y p same =
        subst (λ session. Same (serves e conn x p) (serves_over e conn p y session)) (connection_same x y same)
        (serving_over p x y (connection_of conn (found_in x)) same)

    -- octets
    dropping_rest : (x y : NodeHistory) (left : Result (List ℕ) Refused) → Same x y
        → Same (drops_rest e conn x left) (drops_rest e conn y left)
    dropping_rest x y (Ok rest) same = same
    dropping_rest x y (Err refused) same =
        alike_either _ _ (ap is_some (connection_same x y same)) (dropping x y (note.Refused refused) same) same

    serving_arrived : (x y : NodeHistory) (arrived : Pieces) → Same x y
        → Same (serves_arrived e conn x arrived) (serves_arrived e conn y arrived)
    serving_arrived x y arrived same =
        dropping_rest (fold (serves e conn) x arrived.pdus) (fold (serves e conn) y arrived.pdus) arrived.left
        (alike_each (serves e conn) (λ _. Unit {0}) (λ v w p _ alike. serving v w p alike) arrived.pdus (no_matter arrived.pdus) same)

    arrived_same : (x y : NodeHistory) → Same x y → arrived_from conn (found_in x) ≡ arrived_from conn (found_in y)
    arrived_same x y same =
        ap arrived_by (looks_same x y same)

    serving_octets : (octets : List ℕ) (x y : NodeHistory) → Same x y → Same (serves_octets e conn octets x) (serves_octets e conn octets y)
    serving_octets octets x y same =
        let v : NodeHistory = gives x (OctetsCame conn octets ∷ []) [] in let w : NodeHistory = gives y (OctetsCame conn octets ∷ []) [] in
        let heard : Same v w = alike_more same (OctetsCame conn octets ∷ []) [] (such, tt) in
        subst (λ arrived. Same (serves_octets e conn octets x) (serves_arrived e conn w arrived)) (arrived_same v w heard)
        (serving_arrived v w (arrived_from conn (found_in v)) heard)

    -- an ask
    busy : (x y : NodeHistory) → Same x y → Same (is_busy e conn x) (is_busy e conn y)
    busy x y same = alike_more same [] _ tt

    serving_ask : (octets : List ℕ) (x y : NodeHistory) → Same x y → Same (serves_ask e conn octets x) (serves_ask e conn octets y)
    serving_ask octets x y same =
        alike_either _ _ (ap is_some (connection_same x y same)) (serving_octets octets x y same)
        (alike_either _ _ (ap (λ s. nat_le most_connections (length s.opened)) (looks_same x y same)) (busy x y same)
        (serving_octets octets _ _ (alike_more same (ConnectionOpened conn ∷ []) [] (such, tt))))

    pub asking : (octets : List ℕ) (x y : NodeHistory) → Same x y → Same (ask_comes e conn octets x) (ask_comes e conn octets y)
    asking octets x y same = serving_ask octets _ _ (alike_more (reading x y same) (AskCame conn ∷ []) [] (such, tt))

    pub going : (x y : NodeHistory) (kind : NoteKind) → Same x y → Same (client_goes e conn x kind) (client_goes e conn y kind)
    going x y kind same = alike_more (reading x y same) (PeerEnded conn ∷ []) (noted e kind ∷ []) (such, tt)

    -- what a regressed event ends
    pub ends_same : ends_peer (found_in one) (Some conn) ≡ ends_peer (found_in other) (Some conn)
    ends_same = ap (λ (s : Looks). if is_some s.session || is_some s.connection then PeerEnded conn ∷ [] else []) looks

    pub ends_are : AreOf P (ends_peer (found_in one) (Some conn))
    ends_are = either (is_some (session_of conn (found_in one)) || is_some (connection_of conn (found_in one)))
      where
        either : (b : Bool) → AreOf P (if b then PeerEnded conn ∷ [] else [])
        either true = (such, tt)
        either false = tt
