-- A clerk of one local server, from its first tick on, by computation over the rules.
use Rattle.std.proofs.Common.{◌≡◌, ℕ, pos, List, [], ◌∷◌, Some, None, Ok, Err, refl}
use Rattle.slew_clock.specs.Line.{line}
use Rattle.slew_clock.specs.Reading.{interval_of, inaccuracy_of}
use Rattle.clerk.specs.Outcome.{Adopted, concluded}
use Rattle.ndr.specs.declared.endian.Endian.TheVariants.{Little}
use Rattle.pdu_fields.specs.declared.pdu.Pdu.{Pdu}
use Rattle.pdu_fields.specs.declared.pdu.Body.TheVariants as body
use Rattle.pdu_fields.specs.Tables.{reading}
use Rattle.pdu_fields.proofs.Rows.{response_octets}
use Rattle.rpc_session.specs.declared.client.ClientOut.TheVariants as out
use Rattle.rpc_session.specs.declared.fault.SessionFault.TheVariants as fault
use Rattle.dts_capture.specs.declared.event.Event.{Event}
use Rattle.dts_capture.specs.declared.event.Event.TheVariants as event
use Rattle.dts_capture.specs.declared.action.Action.TheVariants as action
use Rattle.dts_capture.specs.declared.action.NoteKind.TheVariants as note
use Rattle.sync_rules.specs.History.{Start, current_record}
use Rattle.sync_rules.specs.Live.{live_osc}
use Rattle.sync_rules.specs.Rounds.{Answer}
use Rattle.sync_rules.specs.Rules.{noted}
use Rattle.node_rules.specs.History.{NodeHistory, Began, Next, RoundEnded, PduTaken, QueryAnswered, OctetsCame}
use Rattle.node_rules.specs.Sessions.{session_of, octets_from, taken_from}
use Rattle.node_rules.specs.Rules.{followed_by}
use Rattle.node_rules.proofs.Nodes.{clerk, tick, ack, renewed_of, opened_of, asked_of}

abbrev unknown : Start
unknown = record { osc = 0; value = pos 1000000; first = None }

first_tick_renews : followed_by (Began clerk unknown) (tick 0) ≡ renewed_of clerk unknown
unfolding followed_by current_record live_osc line interval_of inaccuracy_of
first_tick_renews = refl

-- the first round opens with a bind
second_tick_opens_a_round : followed_by (renewed_of clerk unknown) (tick 0) ≡ opened_of clerk unknown
unfolding followed_by current_record live_osc line interval_of inaccuracy_of session_of octets_from taken_from concluded
second_tick_opens_a_round = refl

-- its acknowledgement is answered by the request for the time
acknowledgement_is_followed_by_a_request : followed_by (opened_of clerk unknown) (event.Stream 1000 0 ack)
    ≡ asked_of clerk unknown
unfolding followed_by current_record live_osc line interval_of inaccuracy_of session_of octets_from taken_from
    concluded reading
acknowledgement_is_followed_by_a_request = refl

abbrev asked : NodeHistory
asked = asked_of clerk unknown

-- ---- the answer
abbrev time_stub : List ℕ
time_stub = 1 ∷ 0 ∷ 0 ∷ 242 ∷ 5 ∷ 42 ∷ 1 ∷ 0 ∷ 0 ∷ 0 ∷ 232 ∷ 3 ∷ 0 ∷ 0 ∷ 0 ∷ 0 ∷ 0 ∷ 16 ∷ 0 ∷ 0 ∷ 0 ∷ 0 ∷ 0 ∷ 0 ∷ []

abbrev response_pdu : Pdu
response_pdu = record { call_id = 2; flags = 3; minor = 0; endian = Little; body = body.Response 24 0 0 time_stub }

abbrev answer : Event
answer = event.Stream 3000 0 response_octets

abbrev answered : Answer
answered = record {
  tag = 0;
  asked = record { position = 3; osc = 1000 };
  got = record { position = 4; osc = 3000 };
  lo = pos 4999999000;
  hi = pos 5000001000;
}

abbrev adopted : NodeHistory
adopted = Next asked answer
    (OctetsCame 0 response_octets ∷ PduTaken 0 response_pdu (Ok (out.Reply 2 time_stub Little)) ∷ QueryAnswered 0 (pos 4999999000) (pos 5000001000)
    ∷ RoundEnded (Adopted 1 (pos 4999999000, pos 5000003002)) (answered ∷ []) None ∷ [])
    (noted answer (note.Adopted 1 (pos 4999999000) (pos 5000003002))
    ∷ noted answer (note.Step 1 (pos 1003000) (pos 5000001001))
    ∷ action.Publish (record {
      number = 2;
      step = 1;
      born = 3000;
      anchor = Some (record { osc = 3000; lo = pos 4999999000; hi = pos 5000003002 });
      a = record { from = 3000; value = pos 5000001001; x = pos 0 };
      b = record { from = 3000; x = pos 0 };
    })
    ∷ [])

answer_is_adopted : followed_by asked answer ≡ adopted
unfolding followed_by current_record live_osc line interval_of inaccuracy_of session_of octets_from taken_from
    concluded reading
answer_is_adopted = refl

-- the same octets once more answer no call
abbrev again : Event
again = event.Stream 3500 0 response_octets

repeated_answer_is_of_no_call : followed_by adopted again
    ≡ Next adopted again
    (OctetsCame 0 response_octets ∷ PduTaken 0 response_pdu (Err (fault.UnknownCall 2)) ∷ [])
    (noted again (note.UnknownCall 2) ∷ [])
unfolding followed_by current_record live_osc line interval_of inaccuracy_of session_of octets_from taken_from
    concluded reading
repeated_answer_is_of_no_call = refl
