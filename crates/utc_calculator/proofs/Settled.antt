-- Every line is answered or refused, and a calculation that nothing stops comes to its end.
use Rattle.std.proofs.Common.{◌≡◌, ◌↔◌, ◌⊎◌, inl, inr, ℕ, Bool, true, false, List, [], ◌∷◌, ◌++◌, Option, Result, Ok, Err, refl, sym, subst}
use Rattle.std.specs.Prelude.{IsOk, IfOk}
use Rattle.std.specs.Result.{is_ok}
use Rattle.std.specs.Bool.{MatchBool}
use Rattle.dts_base.specs.Causes.{Rose}
use Rattle.line_reader.specs.Lines.{lines_of}
use Rattle.line_reader.specs.Fields.{text_of}
use Rattle.line_filter.specs.declared.stop.Stop.{Stop}
use Rattle.line_filter.specs.declared.stop.Stop.TheVariants as stop
use Rattle.line_filter.specs.Filters.{HasFiltered, Filters, RefusesAt}
use Rattle.line_filter.specs.Progress.{StopCause}
use Rattle.line_filter.specs.Laws.{IsExclusive}
use Rattle.utc_value.specs.declared.Kind.{Kind}
use Rattle.utc_value.specs.declared.Kind.TheVariants as kind
use Rattle.utc_value.specs.Stamp.{Stamp, IsInRange, IsTdf, IsTdfOf}
use Rattle.utc_text.specs.declared.fault.TextFault.{TextFault}
use Rattle.utc_text.specs.declared.fault.PrintFault.{PrintFault}
use Rattle.utc_text.specs.declared.fault.PrintFault.TheVariants as print
use Rattle.utc_text.specs.declared.calendar.Civil.{Civil}
use Rattle.utc_text.specs.Civil.{IsCivil, civil_count, local_count}
use Rattle.utc_text.specs.Texts.{IsPrintable}
use Rattle.utc_text.specs.FirstWrong.{IsAbsoluteFault, IsRelativeFault}
use Rattle.utc_text.proofs.TextLaws.{moment_text, length_has_text}
use Rattle.utc_calculator.specs.declared.cause.UtcRefusal.{UtcRefusal}
use Rattle.utc_calculator.specs.declared.cause.UtcCause.TheVariants as cause
use Rattle.utc_calculator.specs.Places.{refused_whole}
use Rattle.utc_calculator.specs.declared.operation.Outcome.{Outcome}
use Rattle.utc_calculator.specs.declared.operation.Outcome.TheVariants as out
use Rattle.utc_calculator.specs.Operations.{IsNoTime, is_relative_form, RefusesReading}
use Rattle.utc_calculator.specs.Results.{IsTextOfKind, IsTextOf, AreTextsOf, Shows, HasNoText, RefusesShowing}
use Rattle.utc_calculator.specs.Answers.{HasOutcome, Answers, RefusesComputing, Refuses, calculator}
use Rattle.utc_calculator.proofs.Exclusive.{not_both, one_answer}
use Rattle.utc_calculator.proofs.OneCause.{one_cause}

-- a text that is neither a moment nor a length is told of as one of them
pub told_relative : (text : List ℕ) (a r : TextFault) → is_relative_form text ≡ true → IsAbsoluteFault text a → IsRelativeFault text r → IsNoTime text r
told_relative text a r form h k = record { absolute = a; relative = r; as_absolute = h; as_relative = k; told = rw form refl }

pub told_absolute : (text : List ℕ) (a r : TextFault) → is_relative_form text ≡ false → IsAbsoluteFault text a → IsRelativeFault text r → IsNoTime text a
told_absolute text a r form h k = record { absolute = a; relative = r; as_absolute = h; as_relative = k; told = rw form refl }

-- a moment has a text, or its year has none
own_factor : (u : Stamp) → IsInRange u → u.kind ≡ kind.Absolute → IsTdf u.tdf
own_factor u h e = subst (λ (k : Kind). IsTdfOf k u.tdf) e h.tdf_fits

pub moment_written : (r : Result Civil PrintFault) (u : Stamp) (b : Bool) → b ≡ is_ok r → IsInRange u → u.kind ≡ kind.Absolute → IsOk r ↔ IsPrintable u u.tdf
    → IfOk r (λ c. IsCivil c × (civil_count c ≡ local_count u.time u.tdf)) → MatchBool b ((text : List ℕ) × IsTextOf u text) (HasNoText u)
moment_written (Ok c) u true e h k succeeds value =
    let r : Result Civil PrintFault = Ok c in
    let t = moment_text r u u.tdf h succeeds value (succeeds.0 refl) in
    (t.0, subst (λ (x : Kind). IsTextOfKind x u t.0) (sym k) t.1)
moment_written (Ok c) u false e h k succeeds value = absurd cc
moment_written (Err fault) u true e h k succeeds value = absurd cc
moment_written (Err fault) u false e h k succeeds value =
    record { moment = k; year = λ y. let ok = succeeds.1 (record { kind = k; tdf_in = own_factor u h k; year = y }) in absurd cc }

-- a length has one
pub length_written : (u : Stamp) → IsInRange u → u.kind ≡ kind.Relative → (text : List ℕ) × IsTextOf u text
length_written u h k = let t = length_has_text u h in (t.0, subst (λ (x : Kind). IsTextOfKind x u t.0) (sym k) t.1)

-- so have three timestamps, where each has
abbrev Written : Stamp → Bool → Type 0
Written u b = MatchBool b ((text : List ℕ) × IsTextOf u text) (HasNoText u)

is_there : (u : Stamp) (b : Bool) → b ≡ true → Written u b → (text : List ℕ) × IsTextOf u text
is_there u true e h = h
is_there u false e h = absurd cc

is_not : (u : Stamp) (b : Bool) → b ≡ false → Written u b → HasNoText u
is_not u true e h = absurd cc
is_not u false e h = h

pub first_missing : (x y z : Stamp) (a : Bool) → a ≡ false → Written x a → RefusesShowing (out.Points x y z)
first_missing x y z a e h = inl (is_not x a e h)

pub middle_missing : (x y z : Stamp) (b : Bool) → b ≡ false → Written y b → RefusesShowing (out.Points x y z)
middle_missing x y z b e h = inr (inl (is_not y b e h))

pub last_written : (x y z : Stamp) (a b c : Bool) → a ≡ true → b ≡ true → Written x a → Written y b → Written z c
    → MatchBool c ((text : List ℕ) × AreTextsOf x y z text) (RefusesShowing (out.Points x y z))
last_written x y z a b true e f h k l =
    let p = is_there x a e h in
    let q = is_there y b f k in
    (text_of (p.0 ∷ q.0 ∷ l.0 ∷ []), record { x = p.0; y = q.0; z = l.0; of_first = p.1; of_middle = q.1; of_last = l.1; joined = refl })
last_written x y z a b false e f h k l = inr (inr l)

-- a line whose operation results in something is answered, or refused in printing
pub printed_or_not : (line : List ℕ) (outcome : Outcome) (b : Bool) → HasOutcome line outcome
    → MatchBool b ((text : List ℕ) × Shows outcome text) (RefusesShowing outcome)
    → ((text : List ℕ) × Answers line text) ⊎ ((c : UtcRefusal) × Refuses line c)
printed_or_not line outcome true has shown = inl (shown.0, record { outcome = outcome; has = has; shown = shown.1 })
printed_or_not line outcome false has refused =
    inr (refused_whole (cause.Print print.YearRange), inr (inr (record { outcome = outcome; has = has; refused = refused; is = refl })))

pub refused_before : (line : List ℕ) (c : UtcRefusal) → RefusesReading line c ⊎ RefusesComputing line c
    → ((text : List ℕ) × Answers line text) ⊎ ((d : UtcRefusal) × Refuses line d)
refused_before line c (inl refused) = inr (c, inl refused)
refused_before line c (inr refused) = inr (c, inr (inl refused))

-- the rules leave one way
with_feed : (text other x y : List ℕ) → x ≡ y → text ≡ x ++ 10 ∷ [] → other ≡ y ++ 10 ∷ [] → text ≡ other
with_feed text other x y same e f = rw (e, f, same) refl

pub exclusive : IsExclusive calculator
exclusive = record {
  one_next = λ state next other line text more h k. (refl, with_feed text more h.0 k.0 (one_answer line h.0 k.0 h.1 k.1) h.2 k.2);
  not_both = λ state next line text c h refused. not_both line h.0 c h.1 refused;
  one_cause = λ state line c d h k. one_cause line c d h k;
  one_end = λ state c d h k. absurd h;
}

refused_nowhere : (octets more : List ℕ) (n : ℕ) (c : UtcRefusal) (text : List ℕ)
    → ((m : ℕ) (d : UtcRefusal) (other : List ℕ) → RefusesAt calculator tt (lines_of octets) m d other → ⊥)
    → Filters calculator tt octets more (Err (stop.Refused n c)) text → ⊥
refused_nowhere octets more n c text none (inl at) = none n c text at
refused_nowhere octets more n c text none (inr behind) = behind.0.refused

-- a calculation that nothing refuses and nothing fails comes to its end, or misses memory
pub comes_to_end : (octets : List ℕ) (left before now : Option (List ℕ)) (result : Result (Unit {0}) (Stop UtcRefusal)) (i i' o o' : ℕ)
    → HasFiltered calculator tt octets left result before now
    → ((n : ℕ) (c : UtcRefusal) (text : List ℕ) → RefusesAt calculator tt (lines_of octets) n c text → ⊥)
    → StopCause stop.Read i i' result → StopCause stop.Write o o' result → (Rose i i' → ⊥) → (Rose o o' → ⊥)
    → (result ≡ Ok tt) ⊎ (result ≡ Err stop.NoMemory)
comes_to_end octets left before now (Ok done) i i' o o' h none read write calm_in calm_out = inl refl
comes_to_end octets left before now (Err (stop.Refused n c)) i i' o o' h none read write calm_in calm_out = absurd (refused_nowhere octets h.more n c h.text none h.filters)
comes_to_end octets left before now (Err stop.Read) i i' o o' h none read write calm_in calm_out = absurd (calm_in (read.failed refl))
comes_to_end octets left before now (Err stop.Write) i i' o o' h none read write calm_in calm_out = absurd (calm_out (write.failed refl))
comes_to_end octets left before now (Err stop.NoMemory) i i' o o' h none read write calm_in calm_out = inr refl
