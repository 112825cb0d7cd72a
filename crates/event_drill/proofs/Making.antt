-- What a drill makes is in the ranges of a capture, of kinds that are replayed, and keeps its maker within bounds.
use Rattle.std.proofs.Common.{◌≡◌, inl, inr, ℕ, ℤ, pos, None, ◌-◌, ◌^◌, ◌+◌, ◌*◌, ◌<◌, ◌≤◌, Bool, true, false, refl, sym, subst, arith}
use Rattle.std.specs.Prelude.{nat_lt, nat_le, ◌==◌, ◌/◌, ◌≤ℤ◌}
use Rattle.std.proofs.lemmas.Bool.{ltb-true}
use Rattle.std.proofs.lemmas.Int.{ints}
use Rattle.std.proofs.lemmas.Nat.{mod_below}
use Rattle.dts_base.specs.declared.interval.Interval.{Interval}
use Rattle.slew_clock.specs.declared.limits.TheConstants.{GREATEST_OSC, GREATEST_TIME}
use Rattle.dts_capture.specs.declared.event.Event.TheVariants as event
use Rattle.dts_capture.specs.Kinds.{greatest_count}
use Rattle.dts_capture.specs.Ranges.{IsLineInRange}
use Rattle.sync_rules.specs.Ranges.{IsTime, IsEventInRange, StartsInRange}
use Rattle.sync_rules.proofs.Choices.{both}
use Rattle.capture_replay.specs.Capture.{is_built}
use Rattle.capture_replay.specs.Written.{event_line}
use Rattle.event_drill.specs.declared.limits.TheConstants.{MAX_EVENTS, OSC_STEPS, MOST_ASKED, LEAST_ANSWERED, START_VALUE, START_ERROR, LEAST_ERROR, ERRORS, FALSE_ONE_OF, DIVISOR, MULTIPLIER, INCREMENT}
use Rattle.event_drill.specs.declared.kind.Kind.{Kind}
use Rattle.event_drill.specs.declared.kind.Kind.TheVariants as kind
use Rattle.event_drill.specs.declared.maker.Maker.{Maker}
use Rattle.event_drill.specs.Around.{interval_around}
use Rattle.event_drill.specs.Draws.{drawn, last_below, drawn_below, next_word}
use Rattle.event_drill.specs.Made.{Made, first, time_told, reads, queries, oldest_open, sources, adopts, made_as, advanced, kind_taken, made}
use Rattle.event_drill.specs.Progress.{HasMade}

pub drawn_is_below : (below word : ℕ) → 0 < below → drawn_below below word < below
unfolding drawn_below
drawn_is_below below word some = mod_below (word / DIVISOR) below some

-- ---- the lines of events
tick_line : (osc word : ℕ) → osc ≤ GREATEST_OSC → word < 2 ^ 64 → IsLineInRange None (event_line (event.Tick osc word))
tick_line osc word h k = inr (inr (inl (osc, (omega arith, h), (word, k, refl))))

read_line : (osc : ℕ) → osc ≤ GREATEST_OSC → IsLineInRange None (event_line (event.Read osc))
read_line osc h = inr (inr (inr (inl (osc, (omega arith, h), refl))))

query_line : (osc tag : ℕ) → osc ≤ GREATEST_OSC → tag ≤ 2 ^ 32 - 1 → IsLineInRange None (event_line (event.Query osc tag))
query_line osc tag h k = inr (inr (inr (inr (inr (inr (inr (inr (inr (inl (osc, (omega arith, h), (tag, (omega arith, k), refl)))))))))))

source_line : (osc tag : ℕ) (i : Interval) → osc ≤ GREATEST_OSC → tag ≤ 2 ^ 32 - 1 → IsTime i.lo × IsTime i.hi
    → IsLineInRange None (event_line (event.Source osc tag i))
source_line osc tag i h k ends =
    inr (inr (inr (inr (inr (inr (inr (inr (inr (inr (inl (
      osc,
      (omega arith, h),
      (
        tag,
        (omega arith, k),
        (i.lo, (ends.0.0, greatest i.lo ends.0.1), (i, (refl, ends.1.0, greatest i.hi ends.1.1), refl)),
      ),
    )))))))))))
  where
    greatest : (t : ℤ) → t ≤ℤ GREATEST_TIME → t ≤ℤ pos greatest_count
    greatest t h = h

adopt_line : (osc : ℕ) → osc ≤ GREATEST_OSC → IsLineInRange None (event_line (event.Adopt osc LEAST_ANSWERED))
adopt_line osc h =
    inr (inr (inr (inr (inr (inr (inr (inr (inr (inr (inr (inl (
      osc,
      (omega arith, h),
      (LEAST_ANSWERED, (omega arith, omega arith), refl),
    ))))))))))))

-- ---- bounds
next_word_fits : (now word : ℕ) → now ≡ next_word word → now < 2 ^ 64
unfolding next_word
next_word_fits now word is = omega (arith, is, mod_below (word * MULTIPLIER + INCREMENT) (2 ^ 64) (omega arith))

-- an event and the maker behind it, where so many events are made with it
pub record IsFit (events : ℕ) (d : Made) : Type 0 where
  pub range : IsEventInRange d.event
  pub line : IsLineInRange None (event_line d.event)
  pub built : is_built d.event ≡ true
  pub next : HasMade events d.next

-- a maker that is about to make an event of a kind: the oscillator has gone on
record IsAbout (events : ℕ) (m : Maker) : Type 0 where
  pub few : events < MAX_EVENTS
  pub word : m.word < 2 ^ 64
  pub osc : m.osc ≤ (events + 1) * OSC_STEPS
  pub tags : m.next_tag ≤ events
  pub asked : m.asked ≤ m.next_tag
  pub some : m.asked ≤ MOST_ASKED
  pub answered : m.answered ≤ m.asked

stays : (n : ℕ) (m : Maker) → IsAbout n m → HasMade (n + 1) m
stays n m h = record { osc = h.osc; tags = omega (arith, h.tags); asked = h.asked; few = h.some; answered = h.answered }

small : (n : ℕ) (m : Maker) → IsAbout n m → m.osc ≤ 2000000000000
small n m h = omega (arith, h.osc, h.few)

fit_reads : (n : ℕ) (m : Maker) → IsAbout n m → IsFit (n + 1) (reads m)
fit_reads n m h =
    record { range = omega (arith, small n m h); line = read_line m.osc (omega (arith, small n m h)); built = refl; next = stays n m h }

fit_queries : (n : ℕ) (m : Maker) → IsAbout n m → IsFit (n + 1) (queries m)
fit_queries n m h = both (nat_lt m.asked MOST_ASKED) _ _ (IsFit (n + 1))
    (λ room. record {
      range = omega (arith, small n m h);
      line = query_line m.osc m.next_tag (omega (arith, small n m h)) (omega (arith, h.tags, h.few));
      built = refl;
      next = record {
        osc = h.osc;
        tags = omega (arith, h.tags);
        asked = omega (arith, h.asked);
        few = omega (arith, ltb-true _ _ room);
        answered = omega (arith, h.answered);
      };
    })
    (λ _. fit_reads n m h)

told_small : (osc : ℕ) (b : Bool) → osc ≤ 2000000000000 → time_told osc b ≤ 3000000000000
told_small osc true h = omega arith
told_small osc false h = omega arith

told_large : (osc : ℕ) (b : Bool) → START_VALUE ≤ time_told osc b
told_large osc true = omega arith
told_large osc false = omega arith

around_in_range : (time error : ℕ) → time ≤ 3000000000000 → error ≤ 1000000 → START_VALUE ≤ time
    → IsTime (interval_around time error).lo × IsTime (interval_around time error).hi
around_in_range time error a b c = ((omega (arith, ints), omega (arith, ints)), (omega (arith, ints), omega (arith, ints)))

fit_sources : (n : ℕ) (m : Maker) → IsAbout n m → IsFit (n + 1) (sources m)
fit_sources n m h =
    let reaching = drawn m in
    let is_false = last_below (drawn reaching) FALSE_ONE_OF == 0 in
    let ends = around_in_range (time_told m.osc is_false) (LEAST_ERROR + last_below reaching ERRORS)
    (told_small m.osc is_false (small n m h)) (omega (arith, drawn_is_below ERRORS reaching.word (omega arith)))
    (told_large m.osc is_false) in
    both (nat_lt m.answered m.asked) _ _ (IsFit (n + 1))
    (λ left. record {
      range = (omega (arith, small n m h), ends.0, ends.1);
      line = source_line m.osc (oldest_open m) (interval_around (time_told m.osc is_false) (LEAST_ERROR + last_below reaching ERRORS))
          (omega (arith, small n m h)) (omega (arith, h.tags, h.few)) ends;
      built = refl;
      next = record {
        osc = h.osc;
        tags = omega (arith, h.tags);
        asked = h.asked;
        few = h.some;
        answered = omega (arith, ltb-true _ _ left);
      };
    })
    (λ _. fit_reads n m h)

fit_adopts : (n : ℕ) (m : Maker) → IsAbout n m → IsFit (n + 1) (adopts m)
fit_adopts n m h = both (nat_le LEAST_ANSWERED m.answered) _ _ (IsFit (n + 1))
    (λ _. record {
      range = omega (arith, small n m h);
      line = adopt_line m.osc (omega (arith, small n m h));
      built = refl;
      next = record { osc = h.osc; tags = omega (arith, h.tags); asked = omega arith; few = omega arith; answered = omega arith };
    })
    (λ _. fit_sources n m h)

fit_as : (k : Kind) (n : ℕ) (m : Maker) → IsAbout n m → IsFit (n + 1) (made_as k m)
fit_as kind.Tick n m h =
    record {
      range = omega (arith, small n m h);
      built = refl;
      next = stays n m h;
      line = tick_line m.osc m.word (omega (arith, small n m h)) h.word;
    }
fit_as kind.Read n m h = fit_reads n m h
fit_as kind.Query n m h = fit_queries n m h
fit_as kind.Source n m h = fit_sources n m h
fit_as kind.Adopt n m h = fit_adopts n m h

about : (n : ℕ) (m : Maker) → n < MAX_EVENTS → HasMade n m → IsAbout n (drawn (advanced m))
about n m few h = record {
  few = few;
  word = next_word_fits (drawn (advanced m)).word (advanced m).word refl;
  osc = omega (arith, h.osc, drawn_is_below OSC_STEPS (drawn m).word (omega arith));
  tags = h.tags;
  asked = h.asked;
  some = h.few;
  answered = h.answered;
}

-- an event more is made
pub fit_made : (n : ℕ) (m : Maker) → n < MAX_EVENTS → HasMade n m → IsFit (n + 1) (made m)
unfolding made
fit_made n m few h = fit_as (kind_taken (drawn (advanced m))) n (drawn (advanced m)) (about n m few h)

-- the oscillator reading of an event is small
pub osc_small : (n : ℕ) (m now : Maker) → n < MAX_EVENTS → HasMade n m → now ≡ drawn (advanced m) → now.osc ≤ 2000000000000
osc_small n m now few h is = subst (λ (x : Maker). x.osc ≤ 2000000000000) (sym is) (small n (drawn (advanced m)) (about n m few h))

-- the maker of a seed has made nothing
pub seeded_made : (seed : ℕ) → HasMade 0 (record { word = seed; osc = 0; next_tag = 0; asked = 0; answered = 0 })
seeded_made seed = record { osc = omega arith; tags = omega arith; asked = omega arith; few = omega arith; answered = omega arith }

-- the start of a drill is in range
pub start_in_range : StartsInRange first
start_in_range = record {
  osc = omega arith;
  value = (omega (arith, ints), omega (arith, ints));
  first = around_in_range START_VALUE START_ERROR (omega arith) (omega arith) (omega arith);
}
