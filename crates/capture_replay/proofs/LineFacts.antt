-- What lines say: a start by their first word, and numbers in their ranges.
use Rattle.std.proofs.Common.{◌≡◌, inl, inr, ℕ, ◌≤◌, ℤ, pos, List, [], ◌∷◌, Option, Some, None, refl, sym, ap, subst, arith}
use Rattle.std.specs.Prelude.{◌≤ℤ◌, codes}
use Rattle.std.proofs.lemmas.Int.{ints}
use Rattle.dts_base.specs.declared.interval.Interval.{Interval}
use Rattle.dts_capture.specs.declared.line.Line.{Line}
use Rattle.dts_capture.specs.declared.line.Line.TheVariants as line
use Rattle.dts_capture.specs.Kinds.{Kind, Natural, RecordNumber, Count, NotBelow, Word, Octets, value_of, Reads, greatest_count}
use Rattle.dts_capture.specs.Grammar.{Form, Ends, Field, Choice, NoWord, FromHere, Served, Makes, line_forms, start_form, tick_form, read_form, ask_form, peer_forms, serve_forms}
use Rattle.sync_rules.specs.Ranges.{IsTime, StartsInRange, IsEventInRange}

-- the value is in the range of its kind
abbrev Within : (kind : Kind) → value_of kind → Type 0
Within (Natural from to) n = n ≤ to
Within (RecordNumber expected) n = Unit {0}
Within Count t = (pos 0 ≤ℤ t) × (t ≤ℤ pos greatest_count)
Within (NotBelow lo) i = (i.lo ≡ lo) × (i.hi ≤ℤ pos greatest_count)
Within Word w = Unit {0}
Within (Octets may_be_empty) b = Unit {0}

reads_within : (kind : Kind) (field : List ℕ) (v : value_of kind) → Reads kind field v → Within kind v
reads_within (Natural from to) field n r = omega (arith, ints, r.1)
reads_within (RecordNumber expected) field n r = tt
reads_within Count field t (n, r, is) = (omega (arith, ints, is), omega (arith, ints, is, r.1))
reads_within (NotBelow lo) field i (n, r, low, is) = (low, omega (arith, ints, is, r.1))
reads_within Word field w r = tt
reads_within (Octets may_be_empty) field b r = tt

-- each line that the form gives has a property
abbrev Gives : (Line → Type 0) → Form → Type 0
Gives P (Ends said) = P said
Gives P (Field kind more) = (v : value_of kind) → Within kind v → Gives P (more v)
Gives P (Choice word chosen other) = Gives P chosen × Gives P other
Gives P (NoWord empty unknown) = Unit {0}
Gives P (FromHere form) = Gives P form
Gives P (Served peer form) = Gives P form

makes_given : (P : Line → Type 0) (form : Form) (fields : List (List ℕ)) (l : Line) → Gives P form → Makes form fields l → P l
makes_given P (Ends said) [] l g m = subst P (sym m) g
makes_given P (Ends said) (field ∷ fields) l g m = absurd m
makes_given P (Field kind more) [] l g m = absurd m
makes_given P (Field kind more) (field ∷ fields) l g (v, r, m) = makes_given P (more v) fields l (g v (reads_within kind field v r)) m
makes_given P (Choice word chosen other) [] l g m = absurd m
makes_given P (Choice word chosen other) (field ∷ fields) l g (inl m) = makes_given P chosen fields l g.0 m.1
makes_given P (Choice word chosen other) (field ∷ fields) l g (inr m) = makes_given P other (field ∷ fields) l g.1 m.1
makes_given P (NoWord empty unknown) fields l g m = absurd m
makes_given P (FromHere form) fields l g m = makes_given P form fields l g m
makes_given P (Served peer form) fields l g m = makes_given P form fields l g m.1

-- a start with its numbers in their ranges, and an event with its own
abbrev pub IsStart : Line → Type 0
IsStart (line.Start osc value first) = StartsInRange (record { osc = osc; value = value; first = first })
IsStart _ = ⊥

abbrev pub IsEvent : Line → Type 0
IsEvent (line.Event at event) = IsEventInRange event
IsEvent _ = ⊥

interval_times : (lo : ℤ) (i : Interval) → (pos 0 ≤ℤ lo) → (i.lo ≡ lo) → (i.hi ≤ℤ pos greatest_count) → IsTime i.lo × IsTime i.hi
interval_times lo i low is high =
    let ordered = i.ordered in
    ((omega (arith, ints, is, low), omega (arith, ints, ordered, high)), (omega (arith, ints, is, low, ordered), omega (arith, ints, high)))

start_given : Gives IsStart start_form
start_given = λ osc low. λ value time. (
  record { osc = low; value = time; first = tt },
  λ lo begins. λ i ends. record { osc = low; value = time; first = interval_times lo i begins.0 ends.0 ends.1 },
)

serve_given : (k : Option ℕ) → Gives IsEvent (serve_forms k)
serve_given k = (λ osc low. low, (λ osc low. λ conn c. λ bytes b. low, (λ osc low. λ peer p. low, (λ osc low. λ peer p. low, tt))))

event_given : (current : Option ℕ) → Gives IsEvent (peer_forms current)
event_given current = (
  λ osc low. λ peer p. λ bytes b. low,
  (
    λ osc low. λ peer p. λ bytes b. low,
    (
      λ osc low. λ peer p. low,
      (
        λ osc low. λ peer p. low,
        (
          λ osc low. λ tag t. low,
          (
            λ osc low. λ tag t. λ lo begins. λ i ends. (low, (interval_times lo i begins.0 ends.0 ends.1).0, (interval_times lo i begins.0 ends.0 ends.1).1),
            (
              λ osc low. λ required r. low,
              (λ k any. serve_given (Some k), tt),
            ),
          ),
        ),
      ),
    ),
  ),
)

-- a line whose first word is `start` says one
pub start_says : (current : Option ℕ) (rest : List (List ℕ)) (l : Line) → Makes (line_forms current) (codes "start" ∷ rest) l → IsStart l
start_says current rest l (inl m) = makes_given IsStart start_form rest l start_given m.1
start_says current rest l (inr m) = absurd (m.0 refl)

-- and any other says an event
pub event_says : (current : Option ℕ) (fields : List (List ℕ)) (l : Line) → ((rest : List (List ℕ)) → fields ≡ codes "start" ∷ rest → ⊥)
    → Makes (line_forms current) fields l → IsEvent l
event_says current [] l other m = absurd m
event_says current (field ∷ fields) l other (inl m) = absurd (other fields (ap (λ f. f ∷ fields) m.0))
event_says current (field ∷ fields) l other (inr (not_start, inl m)) = makes_given IsEvent tick_form fields l (λ osc low. λ word w. low) m.1
event_says current (field ∷ fields) l other (inr (not_start, inr (not_tick, inl m))) = makes_given IsEvent (read_form None) fields l (λ osc low. low) m.1
event_says current (field ∷ fields) l other (inr (not_start, inr (not_tick, inr (not_read, inl m)))) = makes_given IsEvent (ask_form None) fields l (λ osc low. λ conn c. λ bytes b. low) m.1
event_says current (field ∷ fields) l other (inr (not_start, inr (not_tick, inr (not_read, inr m)))) = makes_given IsEvent (peer_forms current) (field ∷ fields) l (event_given current) m.1
