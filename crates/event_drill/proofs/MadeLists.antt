-- The events of a seed as a list.
use Rattle.std.proofs.Common.{◌≡◌, ℕ, suc, zero, ◌+◌, ◌≤◌, true, ◌∷◌, ◌++◌, length, take, All, None, inl, inr, pos, refl, rules, sym, ap, ◌∙◌, arith}
use Rattle.std.specs.Prelude.{flat_map, nat_lt, nat_le}
use Rattle.std.proofs.lemmas.List.Elements.{All-cons}
use Rattle.std.proofs.lemmas.Grind.{flat_map-append}
use Rattle.std.proofs.lemmas.Int.{ints}
use Rattle.slew_clock.specs.UsualRates.{usual_rates}
use Rattle.dts_capture.specs.Log.{log_text}
use Rattle.dts_capture.specs.declared.event.Event.{Event}
use Rattle.dts_capture.specs.Ranges.{IsLineInRange}
use Rattle.sync_rules.specs.History.{Begun, Then, event_osc, log_of}
use Rattle.sync_rules.proofs.Choices.{both}
use Rattle.capture_replay.specs.Capture.{is_built}
use Rattle.capture_replay.specs.Written.{IsWritable, event_line}
use Rattle.capture_replay.proofs.Writing.{written_is_valid}
use Rattle.event_drill.specs.declared.kind.Kind.{Kind}
use Rattle.event_drill.specs.declared.kind.Kind.TheVariants as kind
use Rattle.event_drill.specs.declared.limits.TheConstants.{MAX_EVENTS, MOST_ASKED, LEAST_ANSWERED, START_VALUE, START_ERROR}
use Rattle.event_drill.specs.declared.maker.Maker.{Maker}
use Rattle.event_drill.specs.Around.{interval_around}
use Rattle.event_drill.specs.Draws.{drawn}
use Rattle.event_drill.specs.Made.{Made, seeded, first, sources, made_as, advanced, kind_taken, made, made_events}
use Rattle.event_drill.specs.Progress.{HasMade}
use Rattle.event_drill.specs.Summary.{actions_in}
use Rattle.event_drill.specs.Laws.{AreOneList, NeverFalls, OscillatorGoesOn, AreValidCaptures, IsCountedByLines}
use Rattle.event_drill.proofs.Making.{fit_made, seeded_made}

-- ---- one list
as_many : (n : ℕ) (m : Maker) → length (made_events n m) ≡ n
as_many zero m = refl
as_many (suc n) m = ap suc (as_many n (made m).next)

beginning : (n more : ℕ) (m : Maker) → take n (made_events (n + more) m) ≡ made_events n m
beginning zero more m = refl
beginning (suc n) more m =
    let longer : suc n + more ≡ suc (n + more) = omega arith in
    ap (λ k. take (suc n) (made_events k m)) longer ∙ ap (λ xs. (made m).event ∷ xs) (beginning n more (made m).next)

pub one_list : AreOneList
one_list = record { many = λ seed n. as_many n (seeded seed); same = λ seed n more. beginning n more (seeded seed) }

-- ---- the oscillator goes on
pub record IsAt (osc : ℕ) (d : Made) : Type 0 where
  pub event : event_osc d.event ≡ osc
  pub next : d.next.osc ≡ osc

at_sources : (m : Maker) → IsAt m.osc (sources m)
at_sources m =
    both (nat_lt m.answered m.asked) _ _ (IsAt m.osc)
    (λ _. record { event = refl; next = refl }) (λ _. record { event = refl; next = refl })

at_as : (k : Kind) (m : Maker) → IsAt m.osc (made_as k m)
at_as kind.Tick m = record { event = refl; next = refl }
at_as kind.Read m = record { event = refl; next = refl }
at_as kind.Query m =
    both (nat_lt m.asked MOST_ASKED) _ _ (IsAt m.osc)
    (λ _. record { event = refl; next = refl }) (λ _. record { event = refl; next = refl })
at_as kind.Source m = at_sources m
at_as kind.Adopt m =
    both (nat_le LEAST_ANSWERED m.answered) _ _ (IsAt m.osc) (λ _. record { event = refl; next = refl }) (λ _. at_sources m)

pub at_made : (m : Maker) → IsAt (advanced m).osc (made m)
unfolding made
at_made m = at_as (kind_taken (drawn (advanced m))) (drawn (advanced m))

goes_on : (n osc : ℕ) (m : Maker) → osc ≡ m.osc → NeverFalls osc (made_events n m)
goes_on zero osc m is = tt
goes_on (suc n) osc m is =
    let now = at_made m in
    (omega (arith, is, now.event), goes_on n (event_osc (made m).event) (made m).next (now.event ∙ sym now.next))

pub oscillator_goes_on : OscillatorGoesOn
oscillator_goes_on seed n = goes_on n 0 (seeded seed) refl

-- ---- a valid capture
abbrev Writes : Event → Type 0
Writes e = (is_built e ≡ true) × IsLineInRange None (event_line e)

all_written : (n before : ℕ) (m : Maker) → before + n ≤ MAX_EVENTS → HasMade before m → All Writes (made_events n m)
all_written zero before m few h = search rules
all_written (suc n) before m few h =
    let fit = fit_made before m (omega (arith, few)) h in
    All-cons Writes (made m).event (made_events n (made m).next) (fit.built, fit.line)
    (all_written n (before + 1) (made m).next (omega (arith, few)) fit.next)

writable : (seed n : ℕ) → n ≤ MAX_EVENTS → IsWritable first (made_events n (seeded seed))
writable seed n few = let i = interval_around START_VALUE START_ERROR in record {
  start = inr (inl (
    0,
    (omega arith, omega arith),
    (
      pos START_VALUE,
      (omega (arith, ints), omega (arith, ints)),
      inr (i.lo, (omega (arith, ints), omega (arith, ints)), (i, (refl, omega (arith, ints), omega (arith, ints)), refl)),
    ),
  ));
  events = all_written n 0 (seeded seed) (omega (arith, few)) (seeded_made seed);
  few = omega (arith, few, as_many n (seeded seed));
}

pub valid_captures : AreValidCaptures
valid_captures seed n few = record {
  writable = writable seed n few;
  valid = written_is_valid usual_rates first (made_events n (seeded seed)) (writable seed n few);
}

-- ---- the lines of the log
pub counted_by_lines : IsCountedByLines
unfolding log_of
counted_by_lines (Begun settings start) = refl
counted_by_lines (Then before event actions) =
    ap (λ xs. xs ++ flat_map log_text actions) (counted_by_lines before) ∙ sym (flat_map-append log_text (actions_in before) actions)
