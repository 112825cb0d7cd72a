-- A printed capture is a valid one, and its log is that of the history.
use Rattle.std.proofs.Common.{◌≡◌, inl, inr, ℕ, ◌≤◌, true, List, [], ◌∷◌, ◌++◌, length, map, Option, Some, None, refl, sym, ap, ◌∙◌, subst, arith}
use Rattle.std.specs.Prelude.{All, flat_map}
use Rattle.std.proofs.lemmas.List.{append-nil, append_assoc, length-map}
use Rattle.std.proofs.lemmas.List.Elements.{All-head, All-tail}
use Rattle.slew_clock.specs.declared.rates.Rates.{Rates}
use Rattle.line_reader.specs.Lines.{lines_of, AreLines, joined}
use Rattle.line_reader.proofs.LineFacts.{lines_of-nothing, lines_of-joined}
use Rattle.line_filter.specs.Filters.{TakesEach, IsValid}
use Rattle.dts_capture.specs.declared.event.Event.{Event}
use Rattle.dts_capture.specs.declared.event.Event.TheVariants as event
use Rattle.dts_capture.specs.Log.{log_text}
use Rattle.dts_capture.specs.Printing.{line_text}
use Rattle.dts_capture.specs.Ranges.{IsLineInRange, IsSpellable, octets_of, most_octets}
use Rattle.dts_capture.specs.Spelling.{Spells}
use Rattle.dts_capture.proofs.AnyRecord.{any_record}
use Rattle.dts_capture.proofs.Lengths.{fits}
use Rattle.dts_capture.proofs.LineTexts.{spelled, printed_is_line}
use Rattle.sync_rules.specs.History.{History, Begun, Start, Settings, given_at, log_of}
use Rattle.sync_rules.specs.Rules.{actions_of, followed_by, extended}
use Rattle.capture_replay.specs.Capture.{Replayed, capture, unstarted, Takes, IsMisplaced, current_number, is_built}
use Rattle.capture_replay.specs.Written.{IsWritable, start_line, event_line, written, history_of}
use Rattle.capture_replay.proofs.Taking.{begun_log, followed_log, says_kind}

-- ---- lines without octets are short
no_octets : (e : Event) → is_built e ≡ true → length (octets_of (event_line e)) ≤ most_octets
no_octets (event.Tick osc word) built = omega arith
no_octets (event.Read osc) built = omega arith
no_octets (event.Query osc tag) built = omega arith
no_octets (event.Source osc tag interval) built = omega arith
no_octets (event.Adopt osc required) built = omega arith
no_octets (event.Stream osc peer bytes) built = cc
no_octets (event.Gram osc peer bytes) built = cc
no_octets (event.Lost osc peer) built = cc
no_octets (event.Unsent osc peer) built = cc
no_octets (event.Ask osc conn bytes) built = cc

start_spelled : (start : Start) → IsLineInRange None (start_line start) → IsSpellable None (start_line start)
start_spelled start range = record { range = range; short = fits None (start_line start) range (omega arith) }

event_spelled : (current : Option ℕ) (e : Event) → is_built e ≡ true → IsLineInRange None (event_line e) → IsSpellable current (event_line e)
event_spelled current e built range =
    let now = any_record None current e range in
    record { range = now; short = fits current (event_line e) now (no_octets e built) }

-- ---- a start line says the start, and an event line doesn't
start_placed : (start : Start) → Spells None (line_text (start_line start)) (start_line start) → IsMisplaced None (line_text (start_line start)) → ⊥
start_placed start spells misplaced = elim spells.says [
  | inl blank ↦ let no_start = blank.1 in cc
  | inr says ↦ elim (says_kind None _ (start_line start) says.1) [ inl s ↦ misplaced.1 s.1 | inr e ↦ absurd e.0 ]
]

event_placed : (history : History) (current : Option ℕ) (e : Event) → Spells current (line_text (event_line e)) (event_line e) → IsMisplaced (Some history) (line_text (event_line e)) → ⊥
event_placed history current e spells misplaced = elim spells.says [
  | inl blank ↦ let no_event = blank.1 in cc
  | inr says ↦ elim (says_kind current _ (event_line e) says.1) [ inl s ↦ absurd s.0 | inr other ↦ other.1 misplaced.0 misplaced.1 ]
]

-- ---- the lines are taken one after the other
abbrev at : Settings → History → Replayed
at settings history = record { settings = settings; history = Some history }

abbrev AreWritable : List Event → Type 0
AreWritable events = All (λ e. (is_built e ≡ true) × IsLineInRange None (event_line e)) events

event_taken : (settings : Settings) (history : History) (e : Event) → is_built e ≡ true → IsLineInRange None (event_line e)
    → Takes (at settings history) (line_text (event_line e)) (at settings (followed_by history e)) (flat_map log_text (actions_of history e))
event_taken settings history e built range =
    let spells = spelled (current_number (Some history)) (event_line e) (event_spelled (current_number (Some history)) e built range) in record {
      placed = event_placed history (current_number (Some history)) e spells;
      says = event_line e;
      spells = spells;
      settings = refl;
      continues = (history, refl, built, refl);
      log = followed_log history e;
    }

events_taken : (settings : Settings) (history : History) (events : List Event) → AreWritable events
    → (text : List ℕ) × TakesEach capture (at settings history) (map (λ e. line_text (event_line e)) events) (at settings (extended history events)) text
    × (log_of (extended history events) ≡ log_of history ++ text)
events_taken settings history [] are = ([], (refl, refl), sym (append-nil (log_of history)))
events_taken settings history (e ∷ events) are =
    let one = All-head (λ x. (is_built x ≡ true) × IsLineInRange None (event_line x)) e events are in
    let rest = events_taken settings (followed_by history e) events (All-tail (λ x. (is_built x ≡ true) × IsLineInRange None (event_line x)) e events are) in
    let first = flat_map log_text (actions_of history e) in (
      first ++ rest.0,
      (at settings (followed_by history e), first, rest.0, (event_spelled (current_number (Some history)) e one.0 one.1).short, event_taken settings history e one.0 one.1, rest.1, refl),
      rest.2 ∙ ap (λ xs. xs ++ rest.0) (followed_log history e) ∙ append_assoc (log_of history) first rest.0,
    )

are_lines : (events : List Event) → AreWritable events → AreLines (map (λ e. line_text (event_line e)) events)
are_lines [] are = tt
are_lines (e ∷ events) are =
    let one = All-head (λ x. (is_built x ≡ true) × IsLineInRange None (event_line x)) e events are in
    (printed_is_line None (event_line e) (event_spelled None e one.0 one.1), are_lines events (All-tail (λ x. (is_built x ≡ true) × IsLineInRange None (event_line x)) e events are))

no_rest : (xs : List ℕ) → xs ≡ xs ++ []
no_rest xs = sym (append-nil xs)

pub written_is_valid : (rates : Rates) (start : Start) (events : List Event) → IsWritable start events
    → IsValid capture (unstarted rates) (written start events) (log_of (history_of rates start events))
written_is_valid rates start events is =
    let settings : Settings = record { rates = rates } in
    let begun = Begun settings start in
    let spellable = start_spelled start is.start in
    let spells = spelled None (start_line start) spellable in
    let after = events_taken settings begun events is.events in
    let first = flat_map log_text (given_at begun) in
    let lines = line_text (start_line start) ∷ map (λ e. line_text (event_line e)) events in
    let same : lines_of (written start events) ≡ lines =
    ap lines_of (no_rest (joined lines)) ∙ lines_of-joined lines [] (printed_is_line None (start_line start) spellable, are_lines events is.events) ∙ ap (λ xs. lines ++ xs) lines_of-nothing ∙ all_of lines in
    let taken : Takes (unstarted rates) (line_text (start_line start)) (at settings begun) first = record {
      placed = start_placed start spells;
      says = start_line start;
      spells = spells;
      settings = refl;
      continues = (refl, refl);
      log = begun_log settings start;
    } in record {
      state = at settings (history_of rates start events);
      taken = record {
        few = omega (arith, ap (λ (xs : List (List ℕ)). length xs) same, length-map events (λ e. line_text (event_line e)), is.few);
        each = subst (λ xs. TakesEach capture (unstarted rates) xs (at settings (history_of rates start events)) (log_of (history_of rates start events))) (sym same)
            (at settings begun, first, after.0, spellable.short, taken, after.1, after.2 ∙ ap (λ xs. xs ++ after.0) (begun_log settings start));
      };
      accepted = λ fault refused. some_is_not_none refused.0;
    }
  where
    all_of : (xs : List (List ℕ)) → xs ++ [] ≡ xs
    all_of [] = refl
    all_of (x ∷ xs) = ap (λ ys. x ∷ ys) (all_of xs)

    some_is_not_none : {h : History} → Some h ≡ None → ⊥
    some_is_not_none is = cc
