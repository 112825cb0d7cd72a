-- Queries to servers of NTP, by computation over the rules.
use Rattle.std.proofs.Common.{◌≡◌, ℕ, pos, replicate, List, [], ◌∷◌, ◌++◌, Some, None, refl}
use Rattle.dts_base.specs.declared.wire.Field.TheVariants as field
use Rattle.dts_base.specs.declared.wire.WireCause.TheVariants as cause
use Rattle.slew_clock.specs.Line.{line}
use Rattle.slew_clock.specs.Reading.{interval_of, inaccuracy_of}
use Rattle.clerk.specs.Outcome.{concluded}
use Rattle.pdu_fields.specs.Tables.{reading}
use Rattle.ntp_packet.specs.declared.codec.Packet.{Packet}
use Rattle.ntp_packet.specs.Packets.{octets_of, reading as packet_reading}
use Rattle.ntp_packet.specs.Judging.{first_failed}
use Rattle.time_provider.specs.Past.{query_packet}
use Rattle.dts_capture.specs.declared.event.Event.{Event}
use Rattle.dts_capture.specs.declared.event.Event.TheVariants as event
use Rattle.dts_capture.specs.declared.action.Action.{Action}
use Rattle.dts_capture.specs.declared.action.Action.TheVariants as action
use Rattle.dts_capture.specs.declared.action.NoteKind.{NoteKind}
use Rattle.dts_capture.specs.declared.action.NoteKind.TheVariants as note
use Rattle.sync_rules.specs.History.{Start, current_record}
use Rattle.sync_rules.specs.Live.{live_osc}
use Rattle.sync_rules.specs.Rules.{noted}
use Rattle.node_rules.specs.History.{NodeHistory, Began}
use Rattle.node_rules.specs.Connections.{connection_of}
use Rattle.node_rules.specs.Sessions.{session_of, octets_from, taken_from}
use Rattle.node_rules.specs.Rules.{followed_by, node_actions, extended}
use Rattle.node_rules.proofs.Nodes.{ntp_clerk, ntp_clerk_of_two, tick, unknown}

-- ---- a clerk of one server of NTP, and the packet of its first round
abbrev start : Start
start = record { osc = 0; value = pos 137972160000000000; first = None }

abbrev renewed : NodeHistory
renewed = extended (Began ntp_clerk start) (tick 0 ∷ [])

abbrev packet : List ℕ
packet = octets_of (query_packet 1)

a_query_is_sent : node_actions renewed (tick 0) ≡ noted (tick 0) (note.Round 1 1) ∷ action.Send 0 0 packet ∷ []
unfolding node_actions followed_by current_record live_osc line interval_of inaccuracy_of session_of octets_from
    taken_from concluded reading octets_of packet_reading first_failed
a_query_is_sent = refl

-- the packet's octets: the version and the mode, and the word of the tick at its end
octets_of_a_query : packet ≡ 0x23 ∷ replicate 46 0 ++ 1 ∷ []
unfolding octets_of
octets_of_a_query = refl

abbrev asked : NodeHistory
asked = extended renewed (tick 0 ∷ [])

-- ---- its reply, of stratum 1
abbrev reply : Packet
reply = record {
  li = 0;
  version = 4;
  mode = 4;
  stratum = 1;
  poll = 0;
  precision = 0;
  delay = 1;
  dispersion = 0;
  refid = 0;
  reference = 0;
  origin = 1;
  receive = 0xe1b7b10000000001;
  transmit = 0xe1b7b10000000001;
}

abbrev comes : ℕ → Packet → Event
comes osc p = event.Gram osc 0 (octets_of p)

a_reply_is_adopted : node_actions asked (comes 2000 reply)
    ≡ noted (comes 2000 reply) (note.Adopted 1 (pos 137972159999999923) (pos 137972160000002080))
    ∷ noted (comes 2000 reply) (note.Step 1 (pos 137972160000002000) (pos 137972160000001001))
    ∷ action.Publish (record {
      number = 2;
      step = 1;
      born = 2000;
      anchor = Some (record { osc = 2000; lo = pos 137972159999999923; hi = pos 137972160000002080 });
      a = record { from = 2000; value = pos 137972160000001001; x = pos 0 };
      b = record { from = 2000; x = pos 0 };
    })
    ∷ []
unfolding node_actions followed_by current_record live_osc line interval_of inaccuracy_of session_of octets_from
    taken_from concluded reading octets_of packet_reading first_failed
a_reply_is_adopted = refl

-- the same octets once more have no query
a_reply_has_one_query : node_actions (extended asked (comes 2000 reply ∷ [])) (comes 2500 reply)
    ≡ noted (comes 2500 reply) note.NoQuery ∷ []
unfolding node_actions followed_by current_record live_osc line interval_of inaccuracy_of session_of octets_from
    taken_from concluded reading octets_of packet_reading first_failed
a_reply_has_one_query = refl

-- also where the round goes on, since another server has not answered
abbrev asked_both : NodeHistory
asked_both = extended (Began ntp_clerk_of_two start) (tick 0 ∷ tick 0 ∷ [])

a_first_reply_waits : node_actions asked_both (comes 2000 reply) ≡ []
unfolding node_actions followed_by current_record live_osc line interval_of inaccuracy_of session_of octets_from
    taken_from concluded reading octets_of packet_reading first_failed
a_first_reply_waits = refl

a_reply_counts_once : node_actions (extended asked_both (comes 2000 reply ∷ [])) (comes 2500 reply)
    ≡ noted (comes 2500 reply) note.NoQuery ∷ []
unfolding node_actions followed_by current_record live_osc line interval_of inaccuracy_of session_of octets_from
    taken_from concluded reading octets_of packet_reading first_failed
a_reply_counts_once = refl

-- ---- what a reply is refused for; its query stays open
abbrev refusing : Packet → NoteKind → List Action
refusing p kind = noted (comes 2000 p) kind ∷ []

a_short_packet : node_actions asked (event.Gram 2000 0 [])
    ≡ noted (event.Gram 2000 0 []) (note.Refused (record { field = field.NtpLength; offset = 0; cause = cause.Short })) ∷ []
unfolding node_actions followed_by current_record live_osc line interval_of inaccuracy_of session_of octets_from
    taken_from concluded reading octets_of packet_reading first_failed
a_short_packet = refl

a_reply_of_another_mode : node_actions asked (comes 2000 (record reply { mode = 5 }))
    ≡ refusing (record reply { mode = 5 }) (note.Mode 5)
unfolding node_actions followed_by current_record live_osc line interval_of inaccuracy_of session_of octets_from
    taken_from concluded reading octets_of packet_reading first_failed
a_reply_of_another_mode = refl

a_kiss : node_actions asked (comes 2000 (record reply { stratum = 0; refid = 0x52415445 }))
    ≡ refusing (record reply { stratum = 0; refid = 0x52415445 }) (note.Kiss 0x52415445)
unfolding node_actions followed_by current_record live_osc line interval_of inaccuracy_of session_of octets_from
    taken_from concluded reading octets_of packet_reading first_failed
a_kiss = refl

a_reply_of_stratum_16 : node_actions asked (comes 2000 (record reply { stratum = 16 }))
    ≡ refusing (record reply { stratum = 16 }) (note.Stratum 16)
unfolding node_actions followed_by current_record live_osc line interval_of inaccuracy_of session_of octets_from
    taken_from concluded reading octets_of packet_reading first_failed
a_reply_of_stratum_16 = refl

a_reply_out_of_synchrony : node_actions asked (comes 2000 (record reply { li = 3 }))
    ≡ refusing (record reply { li = 3 }) note.Unsynchronised
unfolding node_actions followed_by current_record live_osc line interval_of inaccuracy_of session_of octets_from
    taken_from concluded reading octets_of packet_reading first_failed
a_reply_out_of_synchrony = refl

a_reply_to_another_query : node_actions asked (comes 2000 (record reply { origin = 2 }))
    ≡ refusing (record reply { origin = 2 }) note.Origin
unfolding node_actions followed_by current_record live_osc line interval_of inaccuracy_of session_of octets_from
    taken_from concluded reading octets_of packet_reading first_failed
a_reply_to_another_query = refl

a_reply_without_a_time : node_actions asked (comes 2000 (record reply { receive = 0 }))
    ≡ refusing (record reply { receive = 0 }) note.ZeroStamp
unfolding node_actions followed_by current_record live_osc line interval_of inaccuracy_of session_of octets_from
    taken_from concluded reading octets_of packet_reading first_failed
a_reply_without_a_time = refl

a_reply_sent_before_it_came : node_actions asked (comes 2000 (record reply { receive = 0xe1b7b10000000002 }))
    ≡ refusing (record reply { receive = 0xe1b7b10000000002 }) note.Order
unfolding node_actions followed_by current_record live_osc line interval_of inaccuracy_of session_of octets_from
    taken_from concluded reading octets_of packet_reading first_failed
a_reply_sent_before_it_came = refl

a_reply_too_far_away : node_actions asked (comes 2000 (record reply { delay = 131073 }))
    ≡ refusing (record reply { delay = 131073 }) note.Distance
unfolding node_actions followed_by current_record live_osc line interval_of inaccuracy_of session_of octets_from
    taken_from concluded reading octets_of packet_reading first_failed
a_reply_too_far_away = refl

-- after one the right reply still counts
a_reply_behind_a_kiss : node_actions (extended asked (comes 1000 (record reply { stratum = 0 }) ∷ [])) (comes 2000 reply)
    ≡ node_actions asked (comes 2000 reply)
unfolding node_actions followed_by current_record live_osc line interval_of inaccuracy_of session_of octets_from
    taken_from concluded reading octets_of packet_reading first_failed
a_reply_behind_a_kiss = refl

-- ---- an interval out of range ends the query, as the loss of its server does
abbrev early : NodeHistory
early = extended (Began ntp_clerk unknown) (tick 0 ∷ tick 0 ∷ [])

abbrev far : Packet
far = record reply { receive = 0x8000000000000000; transmit = 0x8000000000000000 }

a_reply_out_of_range : node_actions early (comes 2000 far)
    ≡ noted (comes 2000 far) note.UnusedRange ∷ noted (comes 2000 far) (note.Short 0 1) ∷ []
unfolding node_actions followed_by current_record live_osc line interval_of inaccuracy_of session_of octets_from
    taken_from concluded reading octets_of packet_reading first_failed
a_reply_out_of_range = refl

abbrev lost : Event
lost = event.Lost 1000 0

a_lost_server : node_actions asked lost ≡ noted lost note.Lost ∷ noted lost (note.Short 0 1) ∷ []
unfolding node_actions followed_by current_record live_osc line interval_of inaccuracy_of session_of octets_from
    taken_from concluded reading octets_of packet_reading first_failed
a_lost_server = refl

a_reply_of_a_lost_server : node_actions (extended asked (lost ∷ [])) (comes 2000 reply)
    ≡ noted (comes 2000 reply) note.NoQuery ∷ []
unfolding node_actions followed_by current_record live_osc line interval_of inaccuracy_of session_of octets_from
    taken_from concluded reading octets_of packet_reading first_failed
a_reply_of_a_lost_server = refl

-- a regressed loss leaves the query open
a_reply_behind_a_regressed_loss : node_actions (extended asked (comes 1000 (record reply { stratum = 0 }) ∷ event.Lost 999 0 ∷ [])) (comes 2000 reply)
    ≡ node_actions asked (comes 2000 reply)
unfolding node_actions followed_by current_record live_osc line interval_of inaccuracy_of session_of octets_from
    taken_from concluded reading octets_of packet_reading first_failed connection_of
a_reply_behind_a_regressed_loss = refl

-- at the deadline the round ends, and its query with it; nothing is closed
a_round_without_a_reply : node_actions (extended asked (tick 50000000 ∷ [])) (tick 50000000)
    ≡ noted (tick 50000000) (note.Short 0 1) ∷ []
unfolding node_actions followed_by current_record live_osc line interval_of inaccuracy_of session_of octets_from
    taken_from concluded reading octets_of packet_reading first_failed
a_round_without_a_reply = refl

a_reply_behind_the_round : node_actions (extended asked (tick 50000000 ∷ tick 50000000 ∷ [])) (comes 50000000 reply)
    ≡ noted (comes 50000000 reply) note.NoQuery ∷ []
unfolding node_actions followed_by current_record live_osc line interval_of inaccuracy_of session_of octets_from
    taken_from concluded reading octets_of packet_reading first_failed
a_reply_behind_the_round = refl
