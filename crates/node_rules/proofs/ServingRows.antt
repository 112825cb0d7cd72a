-- A node that serves, by computation over the rules.
use Rattle.std.proofs.Common.{◌≡◌, ℕ, ◌+◌, pos, List, [], ◌∷◌, ◌++◌, Some, None, refl}
use Rattle.std.specs.Prelude.{take, drop, length, slice_set, codes, zero, suc}
use Rattle.dts_base.specs.declared.wire.Field.TheVariants as field
use Rattle.dts_base.specs.declared.wire.WireCause.TheVariants as cause
use Rattle.dts_base.specs.declared.wire.State.TheVariants as state
use Rattle.slew_clock.specs.Line.{line}
use Rattle.slew_clock.specs.Reading.{interval_of, inaccuracy_of}
use Rattle.ndr.specs.declared.endian.Endian.TheVariants.{Little}
use Rattle.pdu_fields.specs.declared.pdu.Body.TheVariants as body
use Rattle.pdu_fields.specs.Tables.{reading}
use Rattle.pdu_fields.proofs.Rows.{bind_octets, response_octets}
use Rattle.utc_value.specs.Octets.{octets_of}
use Rattle.time_wire.specs.declared.message.CommandReply.{CommandReply}
use Rattle.time_wire.specs.Layouts.{command, command_reply}
use Rattle.time_wire.specs.Spelling.{spelling as stub_of}
use Rattle.dts_capture.specs.declared.event.Event.{Event}
use Rattle.dts_capture.specs.declared.event.Event.TheVariants as event
use Rattle.dts_capture.specs.declared.action.Action.{Action}
use Rattle.dts_capture.specs.declared.action.Action.TheVariants as action
use Rattle.dts_capture.specs.declared.action.NoteKind.TheVariants as note
use Rattle.sync_rules.specs.History.{current_record}
use Rattle.sync_rules.specs.Live.{live_osc}
use Rattle.sync_rules.specs.Rules.{noted}
use Rattle.node_rules.specs.History.{NodeHistory, Began, found_in}
use Rattle.node_rules.specs.Sessions.{session_of, octets_from, taken_from}
use Rattle.node_rules.specs.Connections.{connection_of, open_in, counts_in}
use Rattle.node_rules.specs.Serving.{shown_at}
use Rattle.node_rules.specs.Rules.{followed_by, node_actions, extended}
use Rattle.node_rules.proofs.Nodes.{a_server, ack, request, sent, responding}
use Rattle.node_rules.proofs.ServerRows.{knowing}

abbrev begun : NodeHistory
begun = Began a_server knowing

abbrev ask : ℕ → List ℕ → Event
ask conn octets = event.Ask 0 conn octets

abbrev reading_at : Event → Action
reading_at e = noted e (note.Reading (pos 5000000000) (Some 1001) 0 0)

-- a part of a PDU gives the reading alone
half_a_bind : node_actions begun (ask 1000 (take 20 bind_octets)) ≡ reading_at (ask 1000 (take 20 bind_octets)) ∷ []
unfolding followed_by node_actions current_record live_osc line interval_of inaccuracy_of session_of octets_from
    taken_from connection_of open_in reading octets_of
half_a_bind = refl

-- its rest completes the bind, which is acknowledged with the number of the connection as its group
abbrev rest_of_bind : Event
rest_of_bind = ask 1000 (drop 20 bind_octets)

rest_of_a_bind : node_actions (followed_by begun (ask 1000 (take 20 bind_octets))) rest_of_bind
    ≡ reading_at rest_of_bind ∷ action.Send 0 1000 (slice_set (slice_set ack 20 232) 21 3) ∷ []
unfolding followed_by node_actions current_record live_osc line interval_of inaccuracy_of session_of octets_from
    taken_from connection_of open_in reading octets_of
rest_of_a_bind = refl

abbrev bound : NodeHistory
bound = followed_by begun (ask 1000 bind_octets)

-- a request is answered by the reading
a_request_is_answered : node_actions bound (ask 1000 request)
    ≡ reading_at (ask 1000 request) ∷ action.Send 0 1000 (slice_set response_octets 34 233) ∷ []
unfolding followed_by node_actions current_record live_osc line interval_of inaccuracy_of session_of octets_from
    taken_from connection_of open_in reading octets_of
a_request_is_answered = refl

-- what is no PDU is refused, and the connection closed
abbrev nonsense : Event
nonsense = ask 1000 (4 ∷ 0 ∷ 11 ∷ 3 ∷ 16 ∷ 0 ∷ 0 ∷ 0 ∷ 72 ∷ 0 ∷ 0 ∷ 0 ∷ 1 ∷ 0 ∷ 0 ∷ 0 ∷ [])

nonsense_is_refused : node_actions begun nonsense
    ≡ reading_at nonsense
    ∷ noted nonsense (note.Refused (record { field = field.RpcVers; offset = 0; cause = cause.Value }))
    ∷ action.Close 0 1000
    ∷ []
unfolding followed_by node_actions current_record live_osc line interval_of inaccuracy_of session_of octets_from
    taken_from connection_of open_in reading octets_of
nonsense_is_refused = refl

-- and the next reading is as before
abbrev read : Event
read = event.Read 0

reading_behind_nonsense : node_actions (followed_by begun nonsense) read
    ≡ noted read (note.Reading (pos 5000000000) (Some 1001) 0 0) ∷ []
unfolding followed_by node_actions current_record live_osc line interval_of inaccuracy_of session_of octets_from
    taken_from connection_of open_in reading octets_of
reading_behind_nonsense = refl

-- ---- commands and calls over a bound connection
abbrev calling : ℕ → ℕ → List ℕ → List ℕ
calling call_id operation stub = sent call_id 3 (body.Request (length stub) 0 operation None stub)

abbrev commanding : ℕ → List ℕ → Event
commanding call_id text = ask 1000 (calling call_id 2 (stub_of command Little text))

-- the text and the status of the answer to a command
abbrev answers_command : ℕ → CommandReply → Action
answers_command call_id reply = action.Send 0 1000 (responding call_id (stub_of command_reply Little reply))

abbrev served : NodeHistory
served = extended begun (ask 1000 (take 20 bind_octets) ∷ rest_of_bind ∷ ask 1000 request ∷ [])

-- the fourth ask is counted before it is answered
abbrev show_counts : Event
show_counts = commanding 3 (codes "show counts")

asks_are_counted : counts_in 0 (found_in (followed_by served show_counts))
    ≡ record { lane = 0; asks = 4; refused = 0; connections = 1 }
unfolding followed_by node_actions current_record live_osc line interval_of inaccuracy_of session_of octets_from
    taken_from connection_of open_in reading octets_of
asks_are_counted = refl

-- what is shown is what the reading says
time_is_shown : shown_at show_counts served ≡ record { value = pos 5000000000; inaccuracy = Some 1001; step = 0; number = 0 }
unfolding followed_by node_actions current_record live_osc line interval_of inaccuracy_of session_of octets_from
    taken_from connection_of open_in reading octets_of
time_is_shown = refl

abbrev set_time : Event
set_time = commanding 5 (codes "set time")

no_other_command_is_known : node_actions served set_time
    ≡ reading_at set_time ∷ answers_command 5 (record { text = codes "unknown command"; status = 1 }) ∷ []
unfolding followed_by node_actions current_record live_osc line interval_of inaccuracy_of session_of octets_from
    taken_from connection_of open_in reading octets_of
no_other_command_is_known = refl

-- two calls in one piece are answered one behind the other
abbrev two_calls : Event
two_calls = ask 1000 (request ++ request)

two_calls_are_answered : node_actions bound two_calls
    ≡ reading_at two_calls
    ∷ action.Send 0 1000 (slice_set response_octets 34 233) ∷ action.Send 0 1000 (slice_set response_octets 34 233) ∷ []
unfolding followed_by node_actions current_record live_osc line interval_of inaccuracy_of session_of octets_from
    taken_from connection_of open_in reading octets_of
two_calls_are_answered = refl

-- a call that wants no answer gets none
abbrev maybe_call : Event
maybe_call = ask 1000 (slice_set request 3 67)

maybe_calls_get_no_response : node_actions bound maybe_call ≡ reading_at maybe_call ∷ []
unfolding followed_by node_actions current_record live_osc line interval_of inaccuracy_of session_of octets_from
    taken_from connection_of open_in reading octets_of
maybe_calls_get_no_response = refl

-- ---- what is refused
-- the stub of a call: the connection stays, and it is counted
abbrev no_stub : Event
no_stub = ask 1000 (calling 2 0 [])

abbrev fault_to : ℕ → List ℕ
fault_to status = sent 2 35 (body.Fault 0 0 0 status)

wrong_stubs_are_refused : node_actions bound no_stub
    ≡ reading_at no_stub
    ∷ noted no_stub (note.Refused (record { field = field.Epoch; offset = 0; cause = cause.Short }))
    ∷ action.Send 0 1000 (fault_to 0x1c01000b)
    ∷ []
unfolding followed_by node_actions current_record live_osc line interval_of inaccuracy_of session_of octets_from
    taken_from connection_of open_in reading octets_of
wrong_stubs_are_refused = refl

refused_stubs_are_counted : counts_in 0 (found_in (extended bound (no_stub ∷ [])))
    ≡ record { lane = 0; asks = 2; refused = 1; connections = 1 }
unfolding followed_by node_actions current_record live_osc line interval_of inaccuracy_of session_of octets_from
    taken_from connection_of open_in reading octets_of
refused_stubs_are_counted = refl

-- an operation that is none of the three, which is no refusal
abbrev other_operation : Event
other_operation = ask 1000 (calling 2 3 (0 ∷ []))

other_operations_fail : node_actions bound other_operation
    ≡ reading_at other_operation ∷ action.Send 0 1000 (fault_to 0x1c010002) ∷ []
unfolding followed_by node_actions current_record live_osc line interval_of inaccuracy_of session_of octets_from
    taken_from connection_of open_in reading octets_of
other_operations_fail = refl

-- a context that was not accepted
abbrev other_context : Event
other_context = ask 1000 (slice_set (calling 2 0 (0 ∷ [])) 20 9)

other_contexts_fail : node_actions bound other_context
    ≡ reading_at other_context ∷ action.Send 0 1000 (slice_set (fault_to 0x1c010003) 20 9) ∷ []
unfolding followed_by node_actions current_record live_osc line interval_of inaccuracy_of session_of octets_from
    taken_from connection_of open_in reading octets_of
other_contexts_fail = refl

-- of a call that wants no answer the stub is refused without a fault; a fault of the session is sent for it too
abbrev maybe_no_stub : Event
maybe_no_stub = ask 1000 (slice_set (calling 2 0 []) 3 67)

maybe_calls_get_no_fault : node_actions bound maybe_no_stub
    ≡ reading_at maybe_no_stub
    ∷ noted maybe_no_stub (note.Refused (record { field = field.Epoch; offset = 0; cause = cause.Short }))
    ∷ []
unfolding followed_by node_actions current_record live_osc line interval_of inaccuracy_of session_of octets_from
    taken_from connection_of open_in reading octets_of
maybe_calls_get_no_fault = refl

abbrev maybe_other_operation : Event
maybe_other_operation = ask 1000 (slice_set (calling 2 3 (0 ∷ [])) 3 67)

maybe_calls_get_the_fault_of_the_session : node_actions bound maybe_other_operation
    ≡ reading_at maybe_other_operation ∷ action.Send 0 1000 (fault_to 0x1c010002) ∷ []
unfolding followed_by node_actions current_record live_osc line interval_of inaccuracy_of session_of octets_from
    taken_from connection_of open_in reading octets_of
maybe_calls_get_the_fault_of_the_session = refl

-- a PDU that fits no session: the connection is dropped, and what stands behind it is passed over
abbrev unexpected : Event
unexpected = ask 1000 (ack ++ request)

unexpected_PDUs_are_refused : node_actions bound unexpected
    ≡ reading_at unexpected ∷ noted unexpected (note.Unexpected 12 state.Bound) ∷ action.Close 0 1000 ∷ []
unfolding followed_by node_actions current_record live_osc line interval_of inaccuracy_of session_of octets_from
    taken_from connection_of open_in reading octets_of
unexpected_PDUs_are_refused = refl

-- ---- the connections of a lane
-- so many asks of one octet, each of a connection of its own in lane 0
abbrev asks_of : ℕ → ℕ → List Event
asks_of zero conn = []
asks_of (suc more) conn = ask conn (5 ∷ []) ∷ asks_of more (conn + 4)

abbrev full : NodeHistory
full = extended begun (asks_of 16 1000)

-- the sixteenth is taken
sixteen_connections_are_open : node_actions (extended begun (asks_of 15 1000)) (ask 1060 (5 ∷ []))
    ≡ reading_at (ask 1060 (5 ∷ [])) ∷ []
unfolding followed_by node_actions current_record live_osc line interval_of inaccuracy_of session_of octets_from
    taken_from connection_of open_in reading octets_of
sixteen_connections_are_open = refl

-- the next one is turned away, with a fault that answers no call
abbrev seventeenth : Event
seventeenth = ask 1064 (5 ∷ [])

abbrev busy_octets : List ℕ
busy_octets =
    5 ∷ 0 ∷ 3 ∷ 35 ∷ 16 ∷ 0 ∷ 0 ∷ 0 ∷ 32 ∷ 0 ∷ 0 ∷ 0 ∷ 0 ∷ 0 ∷ 0 ∷ 0 ∷
    0 ∷ 0 ∷ 0 ∷ 0 ∷ 0 ∷ 0 ∷ 0 ∷ 0 ∷ 0x14 ∷ 0 ∷ 1 ∷ 0x1c ∷ 0 ∷ 0 ∷ 0 ∷ 0 ∷
    []

a_full_lane_is_busy : node_actions full seventeenth
    ≡ reading_at seventeenth ∷ noted seventeenth note.Busy ∷ action.Send 0 1064 busy_octets ∷ action.Close 0 1064 ∷ []
unfolding followed_by node_actions current_record live_osc line interval_of inaccuracy_of session_of octets_from
    taken_from connection_of open_in reading octets_of
a_full_lane_is_busy = refl

-- it is counted among the asks, and is no refusal
busy_asks_are_counted : counts_in 0 (found_in (extended full (seventeenth ∷ [])))
    ≡ record { lane = 0; asks = 17; refused = 0; connections = 16 }
unfolding followed_by node_actions current_record live_osc line interval_of inaccuracy_of session_of octets_from
    taken_from connection_of open_in reading octets_of
busy_asks_are_counted = refl

-- an open connection goes on, another lane is free, and a lost connection makes room
an_open_connection_goes_on : node_actions full (ask 1000 (0 ∷ [])) ≡ reading_at (ask 1000 (0 ∷ [])) ∷ []
unfolding followed_by node_actions current_record live_osc line interval_of inaccuracy_of session_of octets_from
    taken_from connection_of open_in reading octets_of
an_open_connection_goes_on = refl

lanes_are_by_the_remainder : node_actions full (ask 1001 (5 ∷ [])) ≡ reading_at (ask 1001 (5 ∷ [])) ∷ []
unfolding followed_by node_actions current_record live_osc line interval_of inaccuracy_of session_of octets_from
    taken_from connection_of open_in reading octets_of
lanes_are_by_the_remainder = refl

lane_2_is_free : node_actions full (ask 1002 (5 ∷ [])) ≡ reading_at (ask 1002 (5 ∷ [])) ∷ []
unfolding followed_by node_actions current_record live_osc line interval_of inaccuracy_of session_of octets_from
    taken_from connection_of open_in reading octets_of
lane_2_is_free = refl

lane_3_is_free : node_actions full (ask 1003 (5 ∷ [])) ≡ reading_at (ask 1003 (5 ∷ [])) ∷ []
unfolding followed_by node_actions current_record live_osc line interval_of inaccuracy_of session_of octets_from
    taken_from connection_of open_in reading octets_of
lane_3_is_free = refl

a_lost_connection_makes_room : node_actions (extended full (event.Lost 0 1000 ∷ [])) seventeenth ≡ reading_at seventeenth ∷ []
unfolding followed_by node_actions current_record live_osc line interval_of inaccuracy_of session_of octets_from
    taken_from connection_of open_in reading octets_of
a_lost_connection_makes_room = refl

abbrev lost : Event
lost = event.Lost 0 1000

a_lost_connection_is_noted : node_actions full lost ≡ reading_at lost ∷ noted lost note.Lost ∷ []
unfolding followed_by node_actions current_record live_osc line interval_of inaccuracy_of session_of octets_from
    taken_from connection_of open_in reading octets_of
a_lost_connection_is_noted = refl

abbrev unsent : Event
unsent = event.Unsent 0 1000

an_unsent_piece_is_noted : node_actions begun unsent ≡ reading_at unsent ∷ noted unsent note.Unsent ∷ []
unfolding followed_by node_actions current_record live_osc line interval_of inaccuracy_of session_of octets_from
    taken_from connection_of open_in reading octets_of
an_unsent_piece_is_noted = refl

-- ---- a regressed ask gives no reading, and its connection ends
abbrev later : NodeHistory
later = extended begun (event.Ask 500 1000 bind_octets ∷ [])

abbrev regressed : Event
regressed = event.Ask 499 1000 request

regressed_ask : node_actions later regressed ≡ noted regressed (note.Regressed 500) ∷ action.Close 499 1000 ∷ []
unfolding followed_by node_actions current_record live_osc line interval_of inaccuracy_of session_of octets_from
    taken_from connection_of open_in reading octets_of
regressed_ask = refl

-- another lane has an order of its own
other_lanes_have_their_own_order : node_actions later (event.Ask 499 1001 (5 ∷ []))
    ≡ noted (event.Ask 499 1001 (5 ∷ [])) (note.Reading (pos 5000000499) (Some 1002) 0 0) ∷ []
unfolding followed_by node_actions current_record live_osc line interval_of inaccuracy_of session_of octets_from
    taken_from connection_of open_in reading octets_of
other_lanes_have_their_own_order = refl

-- the connection begins anew: a request without a bind is unexpected
abbrev next : Event
next = event.Ask 500 1000 request

connection_behind_a_regressed_ask : node_actions (extended later (regressed ∷ [])) next
    ≡ noted next (note.Reading (pos 5000000500) (Some 1002) 0 0)
    ∷ noted next (note.Unexpected 0 state.New) ∷ action.Close 500 1000 ∷ []
unfolding followed_by node_actions current_record live_osc line interval_of inaccuracy_of session_of octets_from
    taken_from connection_of open_in reading octets_of
connection_behind_a_regressed_ask = refl

-- no reading is from before the current record
abbrev renewed : NodeHistory
renewed = extended begun (event.Tick 40000000 1 ∷ [])

reading_below_the_record : node_actions renewed (event.Read 39999999)
    ≡ noted (event.Read 39999999) (note.Regressed 40000000) ∷ []
unfolding followed_by node_actions current_record live_osc line interval_of inaccuracy_of session_of octets_from
    taken_from connection_of open_in reading octets_of
reading_below_the_record = refl

reading_at_the_record : node_actions renewed (event.Read 40000000)
    ≡ noted (event.Read 40000000) (note.Reading (pos 5040000000) (Some 5001) 0 1) ∷ []
unfolding followed_by node_actions current_record live_osc line interval_of inaccuracy_of session_of octets_from
    taken_from connection_of open_in reading octets_of
reading_at_the_record = refl

-- octets of a client as a stream or a datagram are stray, and give no reading
stream_of_a_client : node_actions begun (event.Stream 0 1000 bind_octets)
    ≡ noted (event.Stream 0 1000 bind_octets) note.Stray ∷ []
unfolding followed_by node_actions current_record live_osc line interval_of inaccuracy_of session_of octets_from
    taken_from connection_of open_in reading octets_of
stream_of_a_client = refl

datagram_of_a_client : node_actions begun (event.Gram 0 1000 []) ≡ noted (event.Gram 0 1000 []) note.Stray ∷ []
unfolding followed_by node_actions current_record live_osc line interval_of inaccuracy_of session_of octets_from
    taken_from connection_of open_in reading octets_of
datagram_of_a_client = refl
