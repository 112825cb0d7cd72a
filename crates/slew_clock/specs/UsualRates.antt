-- The rates that a clock has by default.
use Rattle.std.proofs.Common.{lit≤}
use Rattle.slew_clock.specs.declared.rates.Rates.{Rates}

-- a drift of 100 parts per million, a resolution of one unit, a lease of 4 s, a slew of 10,000 parts per million, a tolerance of 10 minutes
abbrev pub usual_rates : Rates
usual_rates = record {
  drift_ppm = 100;
  resolution = 1;
  lease = 40000000;
  slew_ppm = 10000;
  tolerance = 6000000000;
  drift_in_range = lit≤ tt;
  resolution_in_range = lit≤ tt;
  lease_from = lit≤ tt;
  lease_to = lit≤ tt;
  slew_from = lit≤ tt;
  slew_to = lit≤ tt;
  tolerance_from = lit≤ tt;
  tolerance_to = lit≤ tt;
}
