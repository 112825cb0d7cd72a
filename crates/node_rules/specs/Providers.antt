-- The queries to servers of NTP, by looking back: those of the last round, as long as it is open.
use Rattle.std.specs.Prelude.{ℕ, ℤ, List, filter_map, Option, Some, None, option_map, unwrap_or}
use Rattle.slew_clock.specs.Line.{line}
use Rattle.slew_clock.specs.Reading.{interval_of}
use Rattle.slew_clock.specs.Change.{middle_of}
use Rattle.time_provider.specs.Past.{Past, Deed, Took, Went, Stopped}
use Rattle.roster.specs.RosterData.{RosterData}
use Rattle.server_roles.specs.Sources.{ntp_servers}
use Rattle.sync_rules.specs.History.{current_record}
use Rattle.sync_rules.specs.Rules.{rates_of}
use Rattle.node_rules.specs.History.{Finding, RoundEnded, PacketTaken, PeerEnded, NodeHistory, bare, Found}
use Rattle.node_rules.specs.Rounds.{last_round, since_opening}

-- what a finding is to the provider: a packet was taken, a peer went, or all stopped with the round
abbrev pub deed_of : Finding → Option Deed
deed_of (PacketTaken peer answer) = Some (Took peer answer)
deed_of (PeerEnded peer) = Some (Went peer)
deed_of (RoundEnded outcome answers own) = Some Stopped
deed_of _ = None

-- the provider's past: it polled the roster's servers of NTP when the last round opened
abbrev pub provider_of : RosterData → List Found → Past
provider_of roster found = record {
  peers = ntp_servers roster;
  polled = option_map (λ round. record { osc = round.opened; word = round.word }) (last_round found);
  deeds = filter_map (λ f. deed_of f.finding) (since_opening found);
}

-- the count that the era of a reply is chosen by: the middle of the node's interval, or its line where it has none
abbrev pub near_at : NodeHistory → ℕ → ℤ
near_at history osc =
    let rates = rates_of (bare history) in let rec = current_record (bare history) in
    unwrap_or (option_map middle_of (interval_of rates rec osc)) (line rates rec osc)
