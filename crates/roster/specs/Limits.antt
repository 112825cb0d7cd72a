-- The limits that each roster keeps beside the ranges of its settings.
use Rattle.std.specs.Prelude.{◌≤◌, ℕ, List, map, length, bytes_eq, count_by, IsTrue}
use Rattle.std.specs.List.{AllPass, IsDistinct}
use Rattle.roster.specs.declared.limits.TheConstants.{MAX_OCTETS, MAX_SERVERS, MAX_NTP}
use Rattle.roster.specs.declared.entry.ServerKind.TheVariants as kind
use Rattle.roster.specs.Values.{is_name}
use Rattle.roster.specs.RosterData.{RosterData}
use Rattle.roster.specs.Rosters.{is_kind}

pub record KeepsLimits (file : List ℕ) (r : RosterData) : Type 0 where
  pub octets : length file ≤ MAX_OCTETS
  pub own_name : IsTrue (is_name r.settings.name)
  pub servers : length r.entries ≤ MAX_SERVERS
  pub ntp_servers : count_by (λ e. is_kind kind.Ntp e.kind) r.entries ≤ MAX_NTP
  pub names : AllPass (λ e. is_name e.name) r.entries
  pub distinct : IsDistinct bytes_eq (map (λ e. e.name) r.entries)
