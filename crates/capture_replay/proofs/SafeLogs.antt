-- The logs of replays are those of safe histories.
use Rattle.std.proofs.Common.{◌≡◌, inl, inr, ℕ, List, [], ◌∷◌, ◌++◌, Option, Some, None, Result, Ok, Err, refl, sym, ap, ◌∙◌, subst}
use Rattle.std.specs.Prelude.{IfSome}
use Rattle.std.proofs.lemmas.List.{append-nil, append_assoc}
use Rattle.slew_clock.specs.declared.rates.Rates.{Rates}
use Rattle.line_reader.specs.Lines.{lines_of}
use Rattle.line_filter.specs.declared.stop.Stop.{Stop}
use Rattle.line_filter.specs.declared.stop.Stop.TheVariants as stop
use Rattle.line_filter.specs.Filters.{TakesEach, Filters}
use Rattle.dts_capture.specs.declared.line.Line.{Line}
use Rattle.dts_capture.specs.declared.line.Line.TheVariants as line
use Rattle.dts_capture.specs.Spelling.{Spells}
use Rattle.sync_rules.specs.History.{History, Settings, settings_of}
use Rattle.sync_rules.specs.Rules.{IsRuled}
use Rattle.sync_rules.specs.Ranges.{IsInRange}
use Rattle.sync_rules.proofs.Safe.{safe}
use Rattle.sync_rules.proofs.Naming.{names_only_false}
use Rattle.capture_replay.specs.declared.fault.CaptureFault.{CaptureFault}
use Rattle.capture_replay.specs.Capture.{Replayed, unstarted, capture, Takes, IsMisplaced, Continues, current_number, log_so_far}
use Rattle.capture_replay.specs.SafeLogs.{IsSafeHistory, IsSafeLog, WritesSafely}
use Rattle.capture_replay.proofs.Taking.{start_fits, event_fits}

-- the history of a state is one that the rules give with these settings
abbrev Ruled : Settings → History → Type 0
Ruled settings history = (settings_of history ≡ settings) × IsRuled history × IsInRange history

record IsRuledState (settings : Settings) (state : Replayed) : Type 0 where
  pub settings_are : state.settings ≡ settings
  pub history : IfSome state.history (Ruled settings)

continues_ruled : (settings : Settings) (text : List ℕ) (history next : Option History) (l : Line) → (IsMisplaced history text → ⊥) → Spells (current_number history) text l
    → Continues settings history l next → IfSome history (Ruled settings) → IfSome next (Ruled settings)
continues_ruled settings text history next line.Blank placed spells is ruled = subst (λ h. IfSome h (Ruled settings)) (sym is) ruled
continues_ruled settings text history next (line.Start osc value first) placed spells is ruled =
    subst (λ h. IfSome h (Ruled settings)) (sym is.1) (refl, tt, (start_fits history text osc value first placed spells).0)
continues_ruled settings text history next (line.Event at e) placed spells (before, is, built, gives) ruled =
    let there : Ruled settings before = subst (λ h. IfSome h (Ruled settings)) is ruled in
    subst (λ h. IfSome h (Ruled settings)) (sym gives) (there.0, (refl, there.1), (there.2, (event_fits history text at e placed spells).0))

step_ruled : (settings : Settings) (state next : Replayed) (text out : List ℕ) → IsRuledState settings state → Takes state text next out → IsRuledState settings next
step_ruled settings state next text out ruled takes = record {
  settings_are = takes.settings ∙ ruled.settings_are;
  history = continues_ruled settings text state.history next.history takes.says takes.placed takes.spells
      (subst (λ s. Continues s state.history takes.says next.history) ruled.settings_are takes.continues) ruled.history;
}

each_ruled : (settings : Settings) (lines : List (List ℕ)) (from to : Replayed) (text : List ℕ) → IsRuledState settings from → TakesEach capture from lines to text
    → IsRuledState settings to × (log_so_far to.history ≡ log_so_far from.history ++ text)
each_ruled settings [] from to text ruled (is, none) =
    (subst (IsRuledState settings) (sym is) ruled, ap (λ (s : Replayed). log_so_far s.history) is ∙ sym (append-nil (log_so_far from.history)) ∙ ap (λ xs. log_so_far from.history ++ xs) (sym none))
each_ruled settings (line ∷ lines) from to text ruled (next, first, rest, short, takes, each, is) =
    let more = each_ruled settings lines next to rest (step_ruled settings from next line first ruled takes) each in
    (more.0, more.1 ∙ ap (λ xs. xs ++ rest) takes.log ∙ append_assoc (log_so_far from.history) first rest ∙ ap (λ xs. log_so_far from.history ++ xs) (sym is))

safe_history : (rates : Rates) (history : Option History) → IfSome history (Ruled (record { rates = rates })) → IfSome history (IsSafeHistory rates)
safe_history rates None ruled = tt
safe_history rates (Some history) (settings, ruled, range) = record {
  rates_are = ap (λ (s : Settings). s.rates) settings;
  ruled = ruled;
  range = range;
  safe = safe history ruled range;
  names = names_only_false history ruled range;
}

taken_safely : (rates : Rates) (lines : List (List ℕ)) (to : Replayed) (text : List ℕ) → TakesEach capture (unstarted rates) lines to text → IsSafeLog rates text
taken_safely rates lines to text each =
    let all = each_ruled (record { rates = rates }) lines (unstarted rates) to text (record { settings_are = refl; history = tt }) each in
    record { history = to.history; safe = safe_history rates to.history all.0.history; log = sym all.1 }

-- what a replay wrote is of a safe history
pub filters_safely : (rates : Rates) (octets left : List ℕ) (result : Result (Unit {0}) (Stop CaptureFault)) (text : List ℕ)
    → Filters capture (unstarted rates) octets left result text → WritesSafely rates result text
filters_safely rates octets left (Ok done) text f = taken_safely rates (lines_of octets) f.0.state text f.0.taken.each
filters_safely rates octets left (Err (stop.Refused n why)) text (inl f) = taken_safely rates f.front f.state text f.taken.each
filters_safely rates octets left (Err (stop.Refused n why)) text (inr f) = taken_safely rates (lines_of octets) f.0.state text f.0.taken.each
filters_safely rates octets left (Err stop.Read) text f = taken_safely rates _ f.state text f.taken.each
filters_safely rates octets left (Err stop.Write) text (whole, f, begins) = (whole, taken_safely rates f.front f.state whole f.taken.each, begins)
filters_safely rates octets left (Err stop.NoMemory) text f = taken_safely rates f.front f.state text f.taken.each
