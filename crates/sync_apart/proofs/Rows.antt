-- A node that serves between two ticks, by computation over the rules.
use Rattle.std.proofs.Common.{◌≡◌, [], ◌∷◌, refl}
use Rattle.slew_clock.specs.Line.{line}
use Rattle.slew_clock.specs.Reading.{interval_of, inaccuracy_of}
use Rattle.clerk.specs.Outcome.{concluded}
use Rattle.pdu_fields.specs.Tables.{reading}
use Rattle.pdu_fields.proofs.Rows.{bind_octets}
use Rattle.utc_value.specs.Octets.{octets_of}
use Rattle.dts_capture.specs.declared.event.Event.TheVariants as event
use Rattle.dts_capture.specs.declared.action.Action.TheVariants as action
use Rattle.dts_capture.specs.declared.action.NoteKind.TheVariants as note
use Rattle.sync_rules.specs.History.{current_record}
use Rattle.sync_rules.specs.Live.{live_osc}
use Rattle.sync_rules.specs.Rules.{noted}
use Rattle.node_rules.specs.History.{Began}
use Rattle.node_rules.specs.Sessions.{session_of, octets_from, taken_from}
use Rattle.node_rules.specs.Connections.{connection_of, open_in}
use Rattle.node_rules.specs.Rules.{followed_by, extended}
use Rattle.node_rules.proofs.Nodes.{a_server, tick, renewed_from}
use Rattle.node_rules.proofs.ServerRows.{knowing}
use Rattle.sync_apart.specs.Apart.{sync_given}

-- the clock is renewed at the first tick, a client binds and is answered, and a round opens at the second
ticks_around_an_ask : sync_given (extended (Began a_server knowing) (tick 0 ∷ event.Ask 0 1000 bind_octets ∷ tick 0 ∷ []))
    ≡ (tick 0, action.Publish (renewed_from knowing) ∷ [])
    ∷ (tick 0, noted (tick 0) (note.Round 1 1) ∷ action.Send 0 0 bind_octets ∷ [])
    ∷ []
unfolding followed_by current_record live_osc line interval_of inaccuracy_of session_of octets_from taken_from connection_of
    open_in concluded reading octets_of
ticks_around_an_ask = refl
