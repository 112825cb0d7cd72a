-- Logs of safe histories.
use Rattle.std.specs.Prelude.{◌≡◌, ℕ, List, Option, Result, Err, IfSome}
use Rattle.dts_base.specs.Streams.{BeginsWith, Wrote}
use Rattle.slew_clock.specs.declared.rates.Rates.{Rates}
use Rattle.line_filter.specs.declared.stop.Stop.{Stop}
use Rattle.line_filter.specs.declared.stop.Stop.TheVariants as stop
use Rattle.sync_rules.specs.History.{History}
use Rattle.sync_rules.specs.Rules.{IsRuled, rates_of}
use Rattle.sync_rules.specs.Ranges.{IsInRange}
use Rattle.sync_rules.specs.Safety.{IsSafe, NamesOnlyFalse}
use Rattle.capture_replay.specs.declared.fault.CaptureFault.{CaptureFault}
use Rattle.capture_replay.specs.Capture.{log_so_far}

-- a history that the rules give at these rates, which is safe and names only false sources
pub record IsSafeHistory (rates : Rates) (history : History) : Type 0 where
  pub rates_are : rates_of history ≡ rates
  pub ruled : IsRuled history
  pub range : IsInRange history
  pub safe : IsSafe history
  pub names : NamesOnlyFalse history

-- the text is the log of such a history, or nothing before the start
pub record IsSafeLog (rates : Rates) (text : List ℕ) : Type 0 where
  pub history : Option History
  pub safe : IfSome history (IsSafeHistory rates)
  pub log : text ≡ log_so_far history

-- the text is such a log, or where the output failed the beginning of one
abbrev pub WritesSafely : Rates → Result (Unit {0}) (Stop CaptureFault) → List ℕ → Type 0
WritesSafely rates (Err stop.Write) text = (whole : List ℕ) × IsSafeLog rates whole × BeginsWith text whole
WritesSafely rates _ text = IsSafeLog rates text

-- what was written where a replay ended or stopped so
pub record WroteSafely (rates : Rates) (result : Result (Unit {0}) (Stop CaptureFault)) (before now : Option (List ℕ)) : Type 0 where
  pub text : List ℕ
  pub wrote : Wrote before now text
  pub safe : WritesSafely rates result text
