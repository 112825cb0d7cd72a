-- How counts grow.
use Rattle.std.specs.Prelude.{◌≡◌, ◌+◌, ◌-◌, ◌^◌, ◌<◌, List, length}
use Rattle.dts_capture.specs.declared.action.Action.{Action}
use Rattle.event_drill.specs.declared.counts.Counts.{Counts}
use Rattle.event_drill.specs.Summary.{counts_of}

abbrev pub plus : Counts → Counts → Counts
plus a b = record {
  records = a.records + b.records;
  steps = a.steps + b.steps;
  readings = a.readings + b.readings;
  unspecified = a.unspecified + b.unspecified;
  adopted = a.adopted + b.adopted;
  split = a.split + b.split;
  short = a.short + b.short;
  false_sources = a.false_sources + b.false_sources;
}

-- one line more can be counted, of whatever kind
pub record HasRoom (c : Counts) : Type 0 where
  pub records : c.records < 2 ^ 64 - 1
  pub steps : c.steps < 2 ^ 64 - 1
  pub readings : c.readings < 2 ^ 64 - 1
  pub unspecified : c.unspecified < 2 ^ 64 - 1
  pub adopted : c.adopted < 2 ^ 64 - 1
  pub split : c.split < 2 ^ 64 - 1
  pub short : c.short < 2 ^ 64 - 1
  pub false_sources : c.false_sources < 2 ^ 64 - 1

-- these are the counts of the actions, where these are not more than can be counted
abbrev pub HasCounted : Counts → List Action → Type 0
HasCounted counts actions = length actions < 2 ^ 64 → counts ≡ counts_of actions
