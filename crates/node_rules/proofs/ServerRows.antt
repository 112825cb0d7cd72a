-- A server whose own interval counts in its round, by computation over the rules.
use Rattle.std.proofs.Common.{◌≡◌, pos, [], ◌∷◌, Some, refl, arith}
use Rattle.std.proofs.lemmas.Int.{ints}
use Rattle.std.specs.Prelude.{codes}
use Rattle.slew_clock.specs.Line.{line}
use Rattle.slew_clock.specs.Reading.{interval_of, inaccuracy_of}
use Rattle.clerk.specs.Outcome.{concluded}
use Rattle.pdu_fields.specs.Tables.{reading}
use Rattle.pdu_fields.proofs.Rows.{response_octets}
use Rattle.utc_value.specs.Octets.{octets_of}
use Rattle.roster.specs.declared.settings.Role.TheVariants as role
use Rattle.roster.specs.declared.entry.ServerKind.TheVariants as kind
use Rattle.roster.specs.RosterData.{RosterData}
use Rattle.dts_capture.specs.declared.event.Event.{Event}
use Rattle.dts_capture.specs.declared.event.Event.TheVariants as event
use Rattle.dts_capture.specs.declared.action.Action.TheVariants as action
use Rattle.dts_capture.specs.declared.action.NoteKind.TheVariants as note
use Rattle.dts_capture.specs.declared.action.FalseSource.TheVariants as source
use Rattle.sync_rules.specs.History.{current_record, Start}
use Rattle.sync_rules.specs.Live.{live_osc}
use Rattle.sync_rules.specs.Rules.{noted}
use Rattle.node_rules.specs.History.{NodeHistory, Began}
use Rattle.node_rules.specs.Sessions.{session_of, octets_from, taken_from}
use Rattle.node_rules.specs.Rules.{followed_by, node_actions, extended}
use Rattle.node_rules.proofs.Nodes.{settings, server, a_server, tick, asked_of, acknowledges, tells}

-- a clock that knows its time at the start
abbrev pub knowing : Start
knowing = record {
  osc = 0;
  value = pos 5000000000;
  first = Some (record { lo = pos 4999999000; hi = pos 5000001000; ordered = omega (arith, ints) });
}

abbrev answer : Event
answer = event.Stream 3000 0 response_octets

-- it adopts from the answer and its own interval, and does not step
own_interval_counts : node_actions (asked_of a_server knowing) answer
    ≡ noted answer (note.Adopted 2 (pos 5000001998) (pos 5000003002))
    ∷ action.Publish (record {
      number = 2;
      step = 0;
      born = 3000;
      anchor = Some (record { osc = 3000; lo = pos 5000001998; hi = pos 5000003002 });
      a = record { from = 0; value = pos 5000000000; x = pos 0 };
      b = record { from = 40000000; x = pos 0 };
    })
    ∷ []
unfolding followed_by node_actions current_record live_osc line interval_of inaccuracy_of session_of octets_from
    taken_from concluded reading
own_interval_counts = refl

-- ---- two servers agree, and its own interval is apart from theirs
abbrev server_of_two : RosterData
server_of_two = record { settings = settings role.Server; entries = server (codes "s") kind.Local ∷ server (codes "t") kind.Local ∷ [] }

abbrev one_answered : NodeHistory
one_answered = extended (Began server_of_two knowing)
    (tick 0 ∷ tick 0 ∷ acknowledges 0 ∷ acknowledges 1 ∷ tells 3000 0 2 6000000000 ∷ [])

abbrev second : Event
second = tells 3000 1 2 6000000000

-- it is named as false; the middle is within the tolerance, so that the clock does not step
own_interval_is_false : node_actions one_answered second
    ≡ noted second (note.Adopted 3 (pos 5999999000) (pos 6000003002))
    ∷ noted second (note.False source.Own)
    ∷ action.Publish (record {
      number = 2;
      step = 0;
      born = 3000;
      anchor = Some (record { osc = 3000; lo = pos 5999999000; hi = pos 6000003002 });
      a = record { from = 0; value = pos 5000000000; x = pos 0 };
      b = record { from = 40000000; x = pos 0 };
    })
    ∷ []
unfolding followed_by node_actions current_record live_osc line interval_of inaccuracy_of session_of octets_from
    taken_from concluded reading octets_of
own_interval_is_false = refl

-- the own interval is no answer: without one the round is short
abbrev lost : Event
lost = event.Lost 3000 0

own_interval_is_no_answer : node_actions (asked_of a_server knowing) lost
    ≡ noted lost note.Lost ∷ noted lost (note.Short 0 1) ∷ []
unfolding followed_by node_actions current_record live_osc line interval_of inaccuracy_of session_of octets_from
    taken_from concluded reading octets_of
own_interval_is_no_answer = refl
