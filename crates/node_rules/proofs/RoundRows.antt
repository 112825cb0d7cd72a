-- Rounds of queries, by computation over the rules: what comes of them, and when another one is due.
use Rattle.std.proofs.Common.{◌≡◌, ℕ, ℤ, pos, lit≤, List, [], ◌∷◌, Some, None, refl}
use Rattle.std.specs.Prelude.{codes}
use Rattle.slew_clock.specs.declared.record.ClockRecord.{ClockRecord}
use Rattle.slew_clock.specs.Line.{line}
use Rattle.slew_clock.specs.Reading.{interval_of, inaccuracy_of}
use Rattle.clerk.specs.Outcome.{concluded}
use Rattle.pdu_fields.specs.declared.pdu.Body.TheVariants as body
use Rattle.pdu_fields.specs.Tables.{reading}
use Rattle.rpc_pdu.specs.Spelling.{spelling}
use Rattle.rpc_session.specs.Client.{bind_of}
use Rattle.utc_value.specs.Octets.{octets_of}
use Rattle.roster.specs.declared.settings.Role.TheVariants as role
use Rattle.roster.specs.declared.entry.ServerKind.TheVariants as kind
use Rattle.roster.specs.RosterData.{RosterData}
use Rattle.dts_capture.specs.declared.event.Event.{Event}
use Rattle.dts_capture.specs.declared.event.Event.TheVariants as event
use Rattle.dts_capture.specs.declared.action.Action.TheVariants as action
use Rattle.dts_capture.specs.declared.action.NoteKind.TheVariants as note
use Rattle.dts_capture.specs.declared.action.FalseSource.TheVariants as source
use Rattle.sync_rules.specs.History.{current_record}
use Rattle.sync_rules.specs.Live.{live_osc}
use Rattle.sync_rules.specs.Rules.{noted}
use Rattle.node_rules.specs.History.{NodeHistory, Began}
use Rattle.node_rules.specs.Sessions.{session_of, octets_from, taken_from}
use Rattle.node_rules.specs.Rules.{followed_by, node_actions, extended}
use Rattle.node_rules.proofs.Nodes.{settings, server, clerk, two_servers, tick, unknown, acknowledges, sent, telling, tells}

-- ---- two servers that were asked
abbrev asked_two : NodeHistory
asked_two = extended (Began two_servers unknown) (tick 0 ∷ tick 0 ∷ acknowledges 0 ∷ acknowledges 1 ∷ [])

-- with the answer of one a round waits for the other
one_answer_waits : node_actions asked_two (tells 3000 0 2 5000000000) ≡ []
unfolding node_actions followed_by current_record live_osc line interval_of inaccuracy_of session_of octets_from
    taken_from concluded reading octets_of
one_answer_waits = refl

abbrev one_answered : NodeHistory
one_answered = extended asked_two (tells 3000 0 2 5000000000 ∷ [])

-- two that have no common point split
two_answers_apart_split : node_actions one_answered (tells 3000 1 2 6000000000)
    ≡ noted (tells 3000 1 2 6000000000) (note.Split 2) ∷ []
unfolding node_actions followed_by current_record live_osc line interval_of inaccuracy_of session_of octets_from
    taken_from concluded reading octets_of
two_answers_apart_split = refl

-- the clock steps to an interval at 3000
abbrev stepped : ℤ → ℤ → ℤ → ClockRecord
stepped lo hi middle = record {
  number = 2;
  step = 1;
  born = 3000;
  anchor = Some (record { osc = 3000; lo = lo; hi = hi });
  a = record { from = 3000; value = middle; x = pos 0 };
  b = record { from = 3000; x = pos 0 };
}

-- two that agree are adopted
abbrev second : Event
second = tells 3000 1 2 5000000000

two_answers_that_agree_are_adopted : node_actions one_answered second
    ≡ noted second (note.Adopted 2 (pos 4999999000) (pos 5000003002))
    ∷ noted second (note.Step 1 (pos 1003000) (pos 5000001001))
    ∷ action.Publish (stepped (pos 4999999000) (pos 5000003002) (pos 5000001001))
    ∷ []
unfolding node_actions followed_by current_record live_osc line interval_of inaccuracy_of session_of octets_from
    taken_from concluded reading octets_of
two_answers_that_agree_are_adopted = refl

-- where the other one is lost, the answer is adopted alone
abbrev lost : Event
lost = event.Lost 3000 1

answer_is_adopted_alone : node_actions one_answered lost
    ≡ noted lost note.Lost
    ∷ noted lost (note.Adopted 1 (pos 4999999000) (pos 5000003002))
    ∷ noted lost (note.Step 1 (pos 1003000) (pos 5000001001))
    ∷ action.Publish (stepped (pos 4999999000) (pos 5000003002) (pos 5000001001))
    ∷ []
unfolding node_actions followed_by current_record live_osc line interval_of inaccuracy_of session_of octets_from
    taken_from concluded reading octets_of
answer_is_adopted_alone = refl

-- ---- of three servers the second one is false
abbrev three_servers : RosterData
three_servers = record {
  settings = settings role.Clerk;
  entries = server (codes "s") kind.Local ∷ server (codes "t") kind.Local ∷ server (codes "u") kind.Local ∷ [];
}

abbrev two_of_three_answered : NodeHistory
two_of_three_answered = extended (Began three_servers unknown)
    (tick 0 ∷ tick 0 ∷ acknowledges 0 ∷ acknowledges 1 ∷ acknowledges 2 ∷ tells 3000 0 2 5000000000 ∷ tells 3000 1 2 6000000000 ∷ [])

abbrev third : Event
third = tells 3000 2 2 5000000000

false_server_is_named : node_actions two_of_three_answered third
    ≡ noted third (note.Adopted 3 (pos 4999999000) (pos 5000003002))
    ∷ noted third (note.False (source.Peer 1))
    ∷ noted third (note.Step 1 (pos 1003000) (pos 5000001001))
    ∷ action.Publish (stepped (pos 4999999000) (pos 5000003002) (pos 5000001001))
    ∷ []
unfolding node_actions followed_by current_record live_osc line interval_of inaccuracy_of session_of octets_from
    taken_from concluded reading octets_of
false_server_is_named = refl

-- ---- too few answers
abbrev required_two : RosterData
required_two = record {
  settings = record (settings role.Clerk) { required = 2; required_from = lit≤ tt; required_to = lit≤ tt };
  entries = server (codes "s") kind.Local ∷ server (codes "t") kind.Local ∷ [];
}

abbrev one_of_two_answered : NodeHistory
one_of_two_answered = extended (Began required_two unknown)
    (tick 0 ∷ tick 0 ∷ acknowledges 0 ∷ acknowledges 1 ∷ tells 3000 0 2 5000000000 ∷ [])

one_answer_of_two_is_short : node_actions one_of_two_answered lost ≡ noted lost note.Lost ∷ noted lost (note.Short 1 2) ∷ []
unfolding node_actions followed_by current_record live_osc line interval_of inaccuracy_of session_of octets_from
    taken_from concluded reading octets_of
one_answer_of_two_is_short = refl

-- ---- the deadline of a round, 50,000,000 after it opened; a tick that renews does nothing else
abbrev asked : NodeHistory
asked = extended (Began clerk unknown) (tick 0 ∷ tick 0 ∷ acknowledges 0 ∷ [])

below_the_deadline_a_round_waits : node_actions (extended asked (tick 49999999 ∷ [])) (tick 49999999) ≡ []
unfolding node_actions followed_by current_record live_osc line interval_of inaccuracy_of session_of octets_from
    taken_from concluded reading octets_of
below_the_deadline_a_round_waits = refl

-- at the deadline it ends, and the server that owes an answer is closed
at_the_deadline_a_round_ends : node_actions (extended asked (tick 50000000 ∷ [])) (tick 50000000)
    ≡ noted (tick 50000000) (note.Short 0 1) ∷ action.Close 50000000 0 ∷ []
unfolding node_actions followed_by current_record live_osc line interval_of inaccuracy_of session_of octets_from
    taken_from concluded reading octets_of
at_the_deadline_a_round_ends = refl

abbrev ended : NodeHistory
ended = extended asked (tick 50000000 ∷ tick 50000000 ∷ [])

-- an answer that comes then has no session
abbrev late : Event
late = tells 50000001 0 2 5000000000

late_answer_is_stray : node_actions ended late ≡ noted late note.Stray ∷ []
unfolding node_actions followed_by current_record live_osc line interval_of inaccuracy_of session_of octets_from
    taken_from concluded reading octets_of
late_answer_is_stray = refl

-- ---- when another round is due
-- behind the end of its record a clock is renewed by two ticks: the first one begins its line anew
abbrev renewing : ℕ → List Event
renewing osc = tick osc ∷ tick osc ∷ []

-- below the hold none is, however inaccurate the clock
below_the_hold_no_round_is_due : node_actions (extended ended (renewing 599999999)) (tick 599999999) ≡ []
unfolding node_actions followed_by current_record live_osc line interval_of inaccuracy_of session_of octets_from
    taken_from concluded reading octets_of
below_the_hold_no_round_is_due = refl

-- at the hold one is, since the reading is unspecified: a session begins with the next call identifiers
at_the_hold_a_round_is_due : node_actions (extended ended (renewing 600000000)) (tick 600000000)
    ≡ noted (tick 600000000) (note.Round 2 1) ∷ action.Send 600000000 0 (spelling (bind_of 3)) ∷ []
unfolding node_actions followed_by current_record live_osc line interval_of inaccuracy_of session_of octets_from
    taken_from concluded reading octets_of
at_the_hold_a_round_is_due = refl

-- a clock that is renewed often, with a hold of a second and a period of two
abbrev brisk : RosterData
brisk = record {
  settings = record (settings role.Clerk) {
    hold = 10000000;
    hold_from = lit≤ tt;
    hold_to = lit≤ tt;
    period = 20000000;
    period_from = lit≤ tt;
    period_to = lit≤ tt;
  };
  entries = server (codes "s") kind.Local ∷ [];
}

abbrev adopted : NodeHistory
adopted = extended (Began brisk unknown) (tick 0 ∷ tick 0 ∷ acknowledges 0 ∷ tells 3000 0 2 5000000000 ∷ [])

-- an accurate clock waits for the period, from the opening of the last round on
accurate_clock_is_not_due_at_the_hold : node_actions (extended adopted (tick 10000000 ∷ [])) (tick 10000000) ≡ []
unfolding node_actions followed_by current_record live_osc line interval_of inaccuracy_of session_of octets_from
    taken_from concluded reading octets_of
accurate_clock_is_not_due_at_the_hold = refl

below_the_period_no_round_is_due : node_actions (extended adopted (tick 19999999 ∷ [])) (tick 19999999) ≡ []
unfolding node_actions followed_by current_record live_osc line interval_of inaccuracy_of session_of octets_from
    taken_from concluded reading octets_of
below_the_period_no_round_is_due = refl

-- the session is kept: the time is asked over it
abbrev request_of : ℕ → List ℕ
request_of call_id = sent call_id 3 (body.Request 1 0 0 None (0 ∷ []))

at_the_period_a_round_is_due : node_actions (extended adopted (tick 20000000 ∷ [])) (tick 20000000)
    ≡ noted (tick 20000000) (note.Round 2 1) ∷ action.Send 20000000 0 (request_of 3) ∷ []
unfolding node_actions followed_by current_record live_osc line interval_of inaccuracy_of session_of octets_from
    taken_from concluded reading octets_of
at_the_period_a_round_is_due = refl

-- a clock that is more inaccurate than it is to be is due at the hold
abbrev inaccurate : NodeHistory
inaccurate = extended (Began brisk unknown) (tick 0 ∷ tick 0 ∷ acknowledges 0 ∷ event.Stream 3000 0 (telling 2 5000000000 20000000) ∷ [])

inaccurate_clock_is_due_at_the_hold : node_actions (extended inaccurate (tick 10000000 ∷ [])) (tick 10000000)
    ≡ noted (tick 10000000) (note.Round 2 1) ∷ action.Send 10000000 0 (request_of 3) ∷ []
unfolding node_actions followed_by current_record live_osc line interval_of inaccuracy_of session_of octets_from
    taken_from concluded reading octets_of
inaccurate_clock_is_due_at_the_hold = refl

-- where a round ends and another one is due, it opens at the same tick
abbrev asked_briskly : NodeHistory
asked_briskly = extended (Began brisk unknown) (tick 0 ∷ tick 0 ∷ acknowledges 0 ∷ tick 50000000 ∷ [])

a_round_opens_where_one_ends : node_actions asked_briskly (tick 50000000)
    ≡ noted (tick 50000000) (note.Short 0 1)
    ∷ action.Close 50000000 0
    ∷ noted (tick 50000000) (note.Round 2 1)
    ∷ action.Send 50000000 0 (spelling (bind_of 3))
    ∷ []
unfolding node_actions followed_by current_record live_osc line interval_of inaccuracy_of session_of octets_from
    taken_from concluded reading octets_of
a_round_opens_where_one_ends = refl

-- a node without servers has no round
abbrev alone : RosterData
alone = record { settings = settings role.Clerk; entries = [] }

without_servers_no_round_is_due : node_actions (extended (Began alone unknown) (tick 0 ∷ [])) (tick 0) ≡ []
unfolding node_actions followed_by current_record live_osc line interval_of inaccuracy_of session_of octets_from
    taken_from concluded reading octets_of
without_servers_no_round_is_due = refl

-- ---- where the last round used too few answers, the next one asks the global server too
abbrev local_and_global : RosterData
local_and_global = record { settings = settings role.Clerk; entries = server (codes "s") kind.Local ∷ server (codes "g") kind.Global ∷ [] }

abbrev unanswered : NodeHistory
unanswered = extended (Began local_and_global unknown) (tick 0 ∷ tick 0 ∷ event.Lost 1000 0 ∷ [])

first_round_asks_the_local_server : node_actions (extended (Began local_and_global unknown) (tick 0 ∷ [])) (tick 0)
    ≡ noted (tick 0) (note.Round 1 1) ∷ action.Send 0 0 (spelling (bind_of 1)) ∷ []
unfolding node_actions followed_by current_record live_osc line interval_of inaccuracy_of session_of octets_from
    taken_from concluded reading octets_of
first_round_asks_the_local_server = refl

second_round_asks_the_global_one : node_actions (extended unanswered (renewing 600000000)) (tick 600000000)
    ≡ noted (tick 600000000) (note.Round 2 2)
    ∷ action.Send 600000000 0 (spelling (bind_of 2))
    ∷ action.Send 600000000 1 (spelling (bind_of 1))
    ∷ []
unfolding node_actions followed_by current_record live_osc line interval_of inaccuracy_of session_of octets_from
    taken_from concluded reading octets_of
second_round_asks_the_global_one = refl
