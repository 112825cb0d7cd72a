-- The rates of a node's clock.
use Rattle.slew_clock.specs.declared.rates.Rates.{Rates}
use Rattle.roster.specs.declared.settings.Settings.{Settings}

-- those of its settings
abbrev pub rates_of : Settings → Rates
rates_of s = record {
  drift_ppm = s.drift_ppm;
  resolution = s.resolution;
  lease = s.lease;
  slew_ppm = s.slew_ppm;
  tolerance = s.tolerance;
  drift_in_range = s.drift_in_range;
  resolution_in_range = s.resolution_in_range;
  lease_from = s.lease_from;
  lease_to = s.lease_to;
  slew_from = s.slew_from;
  slew_to = s.slew_to;
  tolerance_from = s.tolerance_from;
  tolerance_to = s.tolerance_to;
}
