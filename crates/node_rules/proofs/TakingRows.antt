-- What comes from servers, by computation over the rules: whole PDUs and parts of them, replies that are not used, and sessions that end.
use Rattle.std.proofs.Common.{◌≡◌, ℕ, pos, List, [], ◌∷◌, ◌++◌, Some, None, refl}
use Rattle.std.specs.Prelude.{take, drop, Ok, Err}
use Rattle.dts_base.specs.declared.wire.Field.TheVariants as field
use Rattle.dts_base.specs.declared.wire.State.TheVariants as state
use Rattle.dts_base.specs.declared.wire.WireCause.TheVariants as cause
use Rattle.slew_clock.specs.Line.{line}
use Rattle.slew_clock.specs.Reading.{interval_of, inaccuracy_of}
use Rattle.clerk.specs.Outcome.{concluded}
use Rattle.pdu_fields.specs.declared.pdu.Body.TheVariants as body
use Rattle.pdu_fields.specs.Tables.{reading}
use Rattle.rpc_pdu.specs.Spelling.{spelling}
use Rattle.rpc_session.specs.declared.fault.SessionFault.TheVariants as fault
use Rattle.rpc_session.specs.Contexts.{no_syntax}
use Rattle.rpc_session.specs.declared.client.ClientOut.TheVariants as out
use Rattle.rpc_session.specs.Client.{ClientHistory, Started, Took, bind_of}
use Rattle.utc_value.specs.Stamp.{absolute_stamp, relative_stamp}
use Rattle.utc_value.specs.Octets.{octets_of}
use Rattle.dts_capture.specs.declared.event.Event.{Event}
use Rattle.dts_capture.specs.declared.event.Event.TheVariants as event
use Rattle.dts_capture.specs.declared.action.Action.{Action}
use Rattle.dts_capture.specs.declared.action.Action.TheVariants as action
use Rattle.dts_capture.specs.declared.action.NoteKind.{NoteKind}
use Rattle.dts_capture.specs.declared.action.NoteKind.TheVariants as note
use Rattle.sync_rules.specs.History.{current_record}
use Rattle.sync_rules.specs.Live.{live_osc}
use Rattle.sync_rules.specs.Rules.{noted}
use Rattle.node_rules.specs.History.{NodeHistory, Began, RequestSent, QueryAsked, QueryGone, gives, findings_at}
use Rattle.node_rules.specs.Asking.{asks_over}
use Rattle.node_rules.specs.Sessions.{session_of, octets_from, taken_from}
use Rattle.node_rules.specs.Taking.{follows, refuses}
use Rattle.node_rules.specs.Rules.{followed_by, node_actions, extended}
use Rattle.node_rules.proofs.Nodes.{clerk, two_servers, tick, unknown, ack, ack_pdu, request, acknowledges, sent, acknowledging, responding, replying, telling, tells}

-- ---- a clerk of one server that sent its bind, and one that has asked for the time
abbrev opened : NodeHistory
opened = extended (Began clerk unknown) (tick 0 ∷ tick 0 ∷ [])

abbrev asked : NodeHistory
asked = extended opened (acknowledges 0 ∷ [])

abbrev comes : List ℕ → Event
comes octets = event.Stream 2000 0 octets

-- what ends the session and the only query: the note, the end of the connection, and a round without answers
abbrev leaving : List ℕ → NoteKind → List Action
leaving octets kind = noted (comes octets) kind ∷ action.Close 2000 0 ∷ noted (comes octets) (note.Short 0 1) ∷ []

-- what is refused: the note and the end of the connection; the round waits on
abbrev refusing : List ℕ → NoteKind → List Action
refusing octets kind = noted (comes octets) kind ∷ action.Close 2000 0 ∷ []

-- ---- a part of a PDU, its rest, and two PDUs in one piece
a_part_gives_nothing : node_actions opened (comes (take 20 ack)) ≡ []
unfolding node_actions followed_by current_record live_osc line interval_of inaccuracy_of session_of octets_from
    taken_from concluded reading octets_of
a_part_gives_nothing = refl

the_rest_completes_it : node_actions (extended opened (event.Stream 1000 0 (take 20 ack) ∷ [])) (comes (drop 20 ack))
    ≡ action.Send 2000 0 request ∷ []
unfolding node_actions followed_by current_record live_osc line interval_of inaccuracy_of session_of octets_from
    taken_from concluded reading octets_of
the_rest_completes_it = refl

abbrev both : Event
both = event.Stream 1000 0 (ack ++ telling 2 5000000000 1000)

two_PDUs_in_one_piece : node_actions opened both
    ≡ action.Send 1000 0 request
    ∷ noted both (note.Adopted 1 (pos 4999999000) (pos 5000001001))
    ∷ noted both (note.Step 1 (pos 1001000) (pos 5000000000))
    ∷ action.Publish (record {
      number = 2;
      step = 1;
      born = 1000;
      anchor = Some (record { osc = 1000; lo = pos 4999999000; hi = pos 5000001001 });
      a = record { from = 1000; value = pos 5000000000; x = pos 0 };
      b = record { from = 1000; x = pos 0 };
    })
    ∷ []
unfolding node_actions followed_by current_record live_osc line interval_of inaccuracy_of session_of octets_from
    taken_from concluded reading octets_of
two_PDUs_in_one_piece = refl

-- ---- answers to other calls than the open one
-- before the acknowledgement a response to the bind is unexpected, and one to another call is of no call
response_to_a_bind_is_unexpected : node_actions opened (comes (telling 1 5000000000 1000))
    ≡ refusing (telling 1 5000000000 1000) (note.Unexpected 2 state.Binding)
unfolding node_actions followed_by current_record live_osc line interval_of inaccuracy_of session_of octets_from
    taken_from concluded reading octets_of
response_to_a_bind_is_unexpected = refl

response_before_the_acknowledgement : node_actions opened (comes (telling 2 5000000000 1000))
    ≡ noted (comes (telling 2 5000000000 1000)) (note.UnknownCall 2) ∷ []
unfolding node_actions followed_by current_record live_osc line interval_of inaccuracy_of session_of octets_from
    taken_from concluded reading octets_of
response_before_the_acknowledgement = refl

-- ---- what a server answers but a reply
rejected_context : node_actions opened (comes (acknowledging 1 (record { «result» = 2; reason = 1; transfer = no_syntax })))
    ≡ leaving (acknowledging 1 (record { «result» = 2; reason = 1; transfer = no_syntax })) (note.Rejected 2 1)
unfolding node_actions followed_by current_record live_osc line interval_of inaccuracy_of session_of octets_from
    taken_from concluded reading octets_of
rejected_context = refl

refused_bind : node_actions opened (comes (sent 1 3 (body.BindNak 4 []))) ≡ leaving (sent 1 3 (body.BindNak 4 [])) (note.Nak 4)
unfolding node_actions followed_by current_record live_osc line interval_of inaccuracy_of session_of octets_from
    taken_from concluded reading octets_of
refused_bind = refl

shut_down : node_actions asked (comes (sent 0 3 body.Shutdown)) ≡ leaving (sent 0 3 body.Shutdown) note.Shutdown
unfolding node_actions followed_by current_record live_osc line interval_of inaccuracy_of session_of octets_from
    taken_from concluded reading octets_of
shut_down = refl

-- a fault leaves the session as it is
abbrev failing : Event
failing = comes (sent 2 35 (body.Fault 0 0 0 469827586))

failed_call : node_actions asked failing ≡ noted failing (note.Fault 469827586) ∷ noted failing (note.Short 0 1) ∷ []
unfolding node_actions followed_by current_record live_osc line interval_of inaccuracy_of session_of octets_from
    taken_from concluded reading octets_of
failed_call = refl

-- ---- what is refused evaluates nothing, and the query stays as it was
abbrev nonsense : List ℕ
nonsense = 4 ∷ 0 ∷ 12 ∷ 3 ∷ 16 ∷ 0 ∷ 0 ∷ 0 ∷ 56 ∷ 0 ∷ 0 ∷ 0 ∷ 1 ∷ 0 ∷ 0 ∷ 0 ∷ []

refused_PDU : node_actions asked (comes nonsense)
    ≡ refusing nonsense (note.Refused (record { field = field.RpcVers; offset = 0; cause = cause.Value }))
unfolding node_actions followed_by current_record live_osc line interval_of inaccuracy_of session_of octets_from
    taken_from concluded reading octets_of
refused_PDU = refl

refused_stub : node_actions asked (comes (responding 2 (1 ∷ [])))
    ≡ refusing (responding 2 (1 ∷ [])) (note.Refused (record { field = field.Epoch; offset = 1; cause = cause.Short }))
unfolding node_actions followed_by current_record live_osc line interval_of inaccuracy_of session_of octets_from
    taken_from concluded reading octets_of
refused_stub = refl

-- also at the deadline, where a piece in which nothing is refused ends the round
abbrev at_the_deadline : List ℕ → Event
at_the_deadline octets = event.Stream 50000000 0 octets

refused_PDU_at_the_deadline : node_actions asked (at_the_deadline nonsense)
    ≡ noted (at_the_deadline nonsense) (note.Refused (record { field = field.RpcVers; offset = 0; cause = cause.Value }))
    ∷ action.Close 50000000 0
    ∷ []
unfolding node_actions followed_by current_record live_osc line interval_of inaccuracy_of session_of octets_from
    taken_from concluded reading octets_of
refused_PDU_at_the_deadline = refl

octets_at_the_deadline : node_actions asked (at_the_deadline (5 ∷ []))
    ≡ noted (at_the_deadline (5 ∷ [])) (note.Short 0 1) ∷ action.Close 50000000 0 ∷ []
unfolding node_actions followed_by current_record live_osc line interval_of inaccuracy_of session_of octets_from
    taken_from concluded reading octets_of
octets_at_the_deadline = refl

unexpected_PDU : node_actions asked (comes (spelling (bind_of 9)))
    ≡ refusing (spelling (bind_of 9)) (note.Unexpected 11 state.Waiting)
unfolding node_actions followed_by current_record live_osc line interval_of inaccuracy_of session_of octets_from
    taken_from concluded reading octets_of
unexpected_PDU = refl

-- fragments that are too long in all are refused in the same way
too_many_fragments : follows (tick 0) 0 (Started 1) asked (Err (fault.Fragments 65537 65536))
    ≡ refuses (tick 0) 0 asked (note.Fragments 65537 65536)
unfolding node_actions followed_by current_record live_osc line interval_of inaccuracy_of session_of octets_from
    taken_from concluded reading octets_of
too_many_fragments = refl

-- where the call identifiers of a server are spent, none is asked: its query is gone
abbrev bound_by : ℕ → ClientHistory
bound_by call_id = Took (Started call_id) (record ack_pdu { call_id = call_id }) (Ok out.Bound)

no_call_is_left : asks_over (bound_by 4294967295) (tick 0) 0 opened ≡ gives opened (QueryGone 0 ∷ []) (noted (tick 0) note.CallsSpent ∷ [])
unfolding node_actions followed_by current_record live_osc line interval_of inaccuracy_of session_of octets_from
    taken_from concluded reading octets_of
no_call_is_left = refl

a_call_is_left : findings_at (asks_over (bound_by 4294967294) (tick 0) 0 opened)
    ≡ findings_at opened ++ RequestSent 0 0 (0 ∷ []) ∷ QueryAsked 0 ∷ []
unfolding node_actions followed_by current_record live_osc line interval_of inaccuracy_of session_of octets_from
    taken_from concluded reading octets_of
a_call_is_left = refl

-- at the deadline the round ends without the answer, and its source is closed, also where its session has ended
query_stays_unanswered : node_actions (extended asked (comes (responding 2 (1 ∷ [])) ∷ tick 50000000 ∷ [])) (tick 50000000)
    ≡ noted (tick 50000000) (note.Short 0 1) ∷ action.Close 50000000 0 ∷ []
unfolding node_actions followed_by current_record live_osc line interval_of inaccuracy_of session_of octets_from
    taken_from concluded reading octets_of
query_stays_unanswered = refl

-- ---- replies that are not used
abbrev other_epoch : Event
other_epoch = comes (replying 2 (record { version = 1; epoch = 7; utc = absolute_stamp (pos 5000000000) (Some 1000) (pos 0); status = 1 }))

reply_of_another_epoch : node_actions asked other_epoch
    ≡ noted other_epoch (note.Epoch 0 7) ∷ noted other_epoch (note.Short 0 1) ∷ []
unfolding node_actions followed_by current_record live_osc line interval_of inaccuracy_of session_of octets_from
    taken_from concluded reading octets_of
reply_of_another_epoch = refl

abbrev other_status : Event
other_status = comes (replying 2 (record { version = 1; epoch = 0; utc = relative_stamp (pos 5) None; status = 3 }))

reply_with_a_status : node_actions asked other_status
    ≡ noted other_status (note.UnusedStatus 3) ∷ noted other_status (note.Short 0 1) ∷ []
unfolding node_actions followed_by current_record live_osc line interval_of inaccuracy_of session_of octets_from
    taken_from concluded reading octets_of
reply_with_a_status = refl

abbrev a_length : Event
a_length = comes (replying 2 (record { version = 1; epoch = 0; utc = relative_stamp (pos 5) None; status = 0 }))

reply_with_a_length_of_time : node_actions asked a_length ≡ noted a_length note.UnusedKind ∷ noted a_length (note.Short 0 1) ∷ []
unfolding node_actions followed_by current_record live_osc line interval_of inaccuracy_of session_of octets_from
    taken_from concluded reading octets_of
reply_with_a_length_of_time = refl

abbrev unspecified : Event
unspecified = comes (replying 2 (record { version = 1; epoch = 0; utc = absolute_stamp (pos 5) None (pos 0); status = 0 }))

reply_without_an_inaccuracy : node_actions asked unspecified
    ≡ noted unspecified note.UnusedUnspecified ∷ noted unspecified (note.Short 0 1) ∷ []
unfolding node_actions followed_by current_record live_osc line interval_of inaccuracy_of session_of octets_from
    taken_from concluded reading octets_of
reply_without_an_inaccuracy = refl

-- an earliest time below 0 by one is not used, and one at 0 is
reply_out_of_range : node_actions asked (comes (telling 2 999 1000))
    ≡ noted (comes (telling 2 999 1000)) note.UnusedRange ∷ noted (comes (telling 2 999 1000)) (note.Short 0 1) ∷ []
unfolding node_actions followed_by current_record live_osc line interval_of inaccuracy_of session_of octets_from
    taken_from concluded reading octets_of
reply_out_of_range = refl

reply_in_range : node_actions asked (comes (telling 2 1000 1000))
    ≡ noted (comes (telling 2 1000 1000)) (note.Adopted 1 (pos 0) (pos 3002))
    ∷ noted (comes (telling 2 1000 1000)) (note.Step 1 (pos 1002000) (pos 1501))
    ∷ action.Publish (record {
      number = 2;
      step = 1;
      born = 2000;
      anchor = Some (record { osc = 2000; lo = pos 0; hi = pos 3002 });
      a = record { from = 2000; value = pos 1501; x = pos 0 };
      b = record { from = 2000; x = pos 0 };
    })
    ∷ []
unfolding node_actions followed_by current_record live_osc line interval_of inaccuracy_of session_of octets_from
    taken_from concluded reading octets_of
reply_in_range = refl

-- ---- an answer that was used stays used
abbrev two_asked : NodeHistory
two_asked = extended (Began two_servers unknown) (tick 0 ∷ tick 0 ∷ acknowledges 0 ∷ acknowledges 1 ∷ [])

-- where its server shuts down behind it, the round still waits for the other one
abbrev tells_and_shuts_down : List ℕ
tells_and_shuts_down = telling 2 5000000000 1000 ++ sent 0 3 body.Shutdown

shutdown_behind_an_answer : node_actions two_asked (comes tells_and_shuts_down)
    ≡ noted (comes tells_and_shuts_down) note.Shutdown ∷ action.Close 2000 0 ∷ []
unfolding node_actions followed_by current_record live_osc line interval_of inaccuracy_of session_of octets_from
    taken_from concluded reading octets_of
shutdown_behind_an_answer = refl

abbrev other_tells : Event
other_tells = tells 3000 1 2 5000000000

both_answers_are_used : node_actions (extended two_asked (comes tells_and_shuts_down ∷ [])) other_tells
    ≡ noted other_tells (note.Adopted 2 (pos 4999999998) (pos 5000003002))
    ∷ noted other_tells (note.Step 1 (pos 1003000) (pos 5000001500))
    ∷ action.Publish (record {
      number = 2;
      step = 1;
      born = 3000;
      anchor = Some (record { osc = 3000; lo = pos 4999999998; hi = pos 5000003002 });
      a = record { from = 3000; value = pos 5000001500; x = pos 0 };
      b = record { from = 3000; x = pos 0 };
    })
    ∷ []
unfolding node_actions followed_by current_record live_osc line interval_of inaccuracy_of session_of octets_from
    taken_from concluded reading octets_of
both_answers_are_used = refl

-- ---- one peer sends nonsense: its query stays, and the other one is answered as before
nonsense_is_refused : node_actions two_asked (comes nonsense)
    ≡ refusing nonsense (note.Refused (record { field = field.RpcVers; offset = 0; cause = cause.Value }))
unfolding node_actions followed_by current_record live_osc line interval_of inaccuracy_of session_of octets_from
    taken_from concluded reading octets_of
nonsense_is_refused = refl

the_other_server_is_heard : node_actions (extended two_asked (comes nonsense ∷ [])) other_tells ≡ []
unfolding node_actions followed_by current_record live_osc line interval_of inaccuracy_of session_of octets_from
    taken_from concluded reading octets_of
the_other_server_is_heard = refl

nonsense_stays_unanswered : node_actions (extended two_asked (comes nonsense ∷ other_tells ∷ tick 50000000 ∷ [])) (tick 50000000)
    ≡ noted (tick 50000000) (note.Adopted 1 (pos 5049990999) (pos 5050005001))
    ∷ noted (tick 50000000) (note.Step 1 (pos 51000000) (pos 5049998000))
    ∷ action.Publish (record {
      number = 3;
      step = 1;
      born = 50000000;
      anchor = Some (record { osc = 50000000; lo = pos 5049990999; hi = pos 5050005001 });
      a = record { from = 50000000; value = pos 5049998000; x = pos 0 };
      b = record { from = 50000000; x = pos 0 };
    })
    ∷ action.Close 50000000 0
    ∷ []
unfolding node_actions followed_by current_record live_osc line interval_of inaccuracy_of session_of octets_from
    taken_from concluded reading octets_of
nonsense_stays_unanswered = refl

-- ---- losses, strays and a regressed stream
abbrev lost : Event
lost = event.Lost 2000 0

lost_server : node_actions asked lost ≡ noted lost note.Lost ∷ noted lost (note.Short 0 1) ∷ []
unfolding node_actions followed_by current_record live_osc line interval_of inaccuracy_of session_of octets_from
    taken_from concluded reading octets_of
lost_server = refl

abbrev unsent : Event
unsent = event.Unsent 2000 0

unsent_piece : node_actions asked unsent ≡ noted unsent note.Unsent ∷ noted unsent (note.Short 0 1) ∷ []
unfolding node_actions followed_by current_record live_osc line interval_of inaccuracy_of session_of octets_from
    taken_from concluded reading octets_of
unsent_piece = refl

loss_of_no_server : node_actions asked (event.Lost 2000 1) ≡ noted (event.Lost 2000 1) note.Stray ∷ []
unfolding node_actions followed_by current_record live_osc line interval_of inaccuracy_of session_of octets_from
    taken_from concluded reading octets_of
loss_of_no_server = refl

octets_without_a_session : node_actions (Began clerk unknown) (comes ack) ≡ noted (comes ack) note.Stray ∷ []
unfolding node_actions followed_by current_record live_osc line interval_of inaccuracy_of session_of octets_from
    taken_from concluded reading octets_of
octets_without_a_session = refl

datagram_of_no_server_of_NTP : node_actions asked (event.Gram 2000 0 []) ≡ noted (event.Gram 2000 0 []) note.Stray ∷ []
unfolding node_actions followed_by current_record live_osc line interval_of inaccuracy_of session_of octets_from
    taken_from concluded reading octets_of
datagram_of_no_server_of_NTP = refl

octets_of_a_client : node_actions asked (event.Stream 2000 1000 []) ≡ noted (event.Stream 2000 1000 []) note.Stray ∷ []
unfolding node_actions followed_by current_record live_osc line interval_of inaccuracy_of session_of octets_from
    taken_from concluded reading octets_of
octets_of_a_client = refl

abbrev regressed : Event
regressed = event.Stream 999 0 ack

regressed_stream : node_actions asked regressed ≡ noted regressed (note.Regressed 1000) ∷ action.Close 999 0 ∷ []
unfolding node_actions followed_by current_record live_osc line interval_of inaccuracy_of session_of octets_from
    taken_from concluded reading octets_of
regressed_stream = refl

-- its session has ended, and its query stays unanswered
stream_behind_a_regressed_one : node_actions (extended asked (regressed ∷ [])) (comes (telling 2 5000000000 1000))
    ≡ noted (comes (telling 2 5000000000 1000)) note.Stray ∷ []
unfolding node_actions followed_by current_record live_osc line interval_of inaccuracy_of session_of octets_from
    taken_from concluded reading octets_of
stream_behind_a_regressed_one = refl
