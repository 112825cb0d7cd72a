-- A line has one answer at most, and a line with an answer is not refused.
use Rattle.std.proofs.Common.{◌≡◌, inl, inr, ℕ, List, [], ◌∷◌, refl, sym, ap, subst, ◌∙◌}
use Rattle.line_reader.specs.Fields.{text_of}
use Rattle.utc_value.specs.declared.Kind.{Kind}
use Rattle.utc_value.specs.declared.Kind.TheVariants as kind
use Rattle.utc_value.specs.Stamp.{Stamp}
use Rattle.utc_routines.specs.declared.Order4.{Order4}
use Rattle.utc_routines.proofs.OneResult.{one_sum, one_difference, one_absolute, one_multiple, one_moment, one_span, one_bound, one_first, one_interval_order, one_time_order}
use Rattle.utc_text.specs.Civil.{IsInYears}
use Rattle.utc_text.specs.Printing.{IsShown}
use Rattle.utc_text.proofs.CivilLemmas.{in_years}
use Rattle.utc_text.proofs.TextLaws.{absolute_one_text, length_one_text}
use Rattle.utc_calculator.specs.declared.cause.UtcRefusal.{UtcRefusal}
use Rattle.utc_calculator.specs.declared.operation.Operation.{Operation}
use Rattle.utc_calculator.specs.declared.operation.Operation.TheVariants as op
use Rattle.utc_calculator.specs.declared.operation.Outcome.{Outcome}
use Rattle.utc_calculator.specs.declared.operation.Outcome.TheVariants as out
use Rattle.utc_calculator.specs.Results.{YieldsTime, YieldsPoints, YieldsOrder, YieldsOctets, Yields, IsTextOfKind, IsTextOf, Shows, HasNoText, RefusesShowing}
use Rattle.utc_calculator.specs.Answers.{HasOutcome, Answers, Refuses}
use Rattle.utc_calculator.proofs.Unique.{Spells-unique}
use Rattle.utc_calculator.proofs.ReadRight.{reading_right}
use Rattle.utc_calculator.proofs.Computed.{computed}

-- an operation has one timestamp, three, one order or one list of octets as its result
one_time : (o : Operation) (r q : Stamp) → YieldsTime o r → YieldsTime o q → r ≡ q
one_time (op.Add a b) r q h k = one_sum a b r q h.0 k.0
one_time (op.Sub a b) r q h k = one_difference a b r q h.0 k.0
one_time (op.Abs a) r q h k = one_absolute a r q h.0 k.0
one_time (op.Mul a n) r q h k = one_multiple a n r q h.0 k.0
one_time (op.Span a b) r q h k = one_span a b r q h.0 k.0
one_time (op.Bound a b) r q h k = one_bound a b r q h.0 k.0
one_time (op.Tdf a t) r q h k = one_moment a t r q h.0 k.0
one_time (op.Text a) r q h k = h ∙ sym k
one_time o r q h k = absurd h

one_three : (o : Operation) (r s t x y z : Stamp) → YieldsPoints o r s t → YieldsPoints o x y z → (r ≡ x) × (s ≡ y) × (t ≡ z)
one_three (op.Point a) r s t x y z h k = one_first a r s t x y z h.0 k.0
one_three o r s t x y z h k = absurd h

one_order : (o : Operation) (x y : Order4) → YieldsOrder o x → YieldsOrder o y → x ≡ y
one_order (op.Interval a b) x y h k = one_interval_order a b x y h.1 k.1
one_order (op.Mid a b) x y h k = one_time_order a b x y h.1 k.1
one_order o x y h k = absurd h

one_octets : (o : Operation) (xs ys : List ℕ) → YieldsOctets o xs → YieldsOctets o ys → xs ≡ ys
one_octets (op.Bytes a) xs ys h k = h ∙ sym k
one_octets o xs ys h k = absurd h

abbrev outcome_of : Stamp → Stamp → Stamp → Outcome
outcome_of x y z = out.Points x y z

-- one operation has results of one form
order_or_octets : (o : Operation) (order : Order4) (octets : List ℕ) → YieldsOrder o order → YieldsOctets o octets → ⊥
order_or_octets (op.Bytes a) order octets h k = h
order_or_octets o order octets h k = k

time_or_points : (o : Operation) (r x y z : Stamp) → YieldsTime o r → YieldsPoints o x y z → ⊥
time_or_points (op.Point a) r x y z h k = h
time_or_points o r x y z h k = k

time_or_order : (o : Operation) (r : Stamp) (order : Order4) → YieldsTime o r → YieldsOrder o order → ⊥
time_or_order (op.Interval a b) r order h k = h
time_or_order (op.Mid a b) r order h k = h
time_or_order o r order h k = k

time_or_octets : (o : Operation) (r : Stamp) (octets : List ℕ) → YieldsTime o r → YieldsOctets o octets → ⊥
time_or_octets (op.Bytes a) r octets h k = h
time_or_octets o r octets h k = k

points_or_order : (o : Operation) (x y z : Stamp) (order : Order4) → YieldsPoints o x y z → YieldsOrder o order → ⊥
points_or_order (op.Point a) x y z order h k = k
points_or_order o x y z order h k = h

points_or_octets : (o : Operation) (x y z : Stamp) (octets : List ℕ) → YieldsPoints o x y z → YieldsOctets o octets → ⊥
points_or_octets (op.Point a) x y z octets h k = k
points_or_octets o x y z octets h k = h

three_outcomes : (r s t x y z : Stamp) → r ≡ x → s ≡ y → t ≡ z → outcome_of r s t ≡ outcome_of x y z
three_outcomes r s t x y z e f g = rw (e, f, g) refl

-- an operation has one outcome
pub one_outcome : (o : Operation) (p q : Outcome) → Yields o p → Yields o q → p ≡ q
one_outcome o (out.Time r) (out.Time q) h k = ap (λ (x : Stamp). out.Time x) (one_time o r q h k)
one_outcome o (out.Points r s t) (out.Time q) h k = absurd (time_or_points o q r s t k h)
one_outcome o (out.Order order) (out.Time q) h k = absurd (time_or_order o q order k h)
one_outcome o (out.Octets octets) (out.Time q) h k = absurd (time_or_octets o q octets k h)
one_outcome o (out.Points r s t) (out.Points x y z) h k = let same = one_three o r s t x y z h k in three_outcomes r s t x y z same.0 same.1 same.2
one_outcome o (out.Time r) (out.Points x y z) h k = absurd (time_or_points o r x y z h k)
one_outcome o (out.Order order) (out.Points x y z) h k = absurd (points_or_order o x y z order k h)
one_outcome o (out.Octets octets) (out.Points x y z) h k = absurd (points_or_octets o x y z octets k h)
one_outcome o (out.Order x) (out.Order y) h k = ap (λ (z : Order4). out.Order z) (one_order o x y h k)
one_outcome o (out.Time r) (out.Order y) h k = absurd (time_or_order o r y h k)
one_outcome o (out.Points x y z) (out.Order order) h k = absurd (points_or_order o x y z order h k)
one_outcome o (out.Octets octets) (out.Order order) h k = absurd (order_or_octets o order octets k h)
one_outcome o (out.Octets xs) (out.Octets ys) h k = ap (λ (zs : List ℕ). out.Octets zs) (one_octets o xs ys h k)
one_outcome o (out.Time r) (out.Octets octets) h k = absurd (time_or_octets o r octets h k)
one_outcome o (out.Points x y z) (out.Octets octets) h k = absurd (points_or_octets o x y z octets h k)
one_outcome o (out.Order order) (out.Octets octets) h k = absurd (order_or_octets o order octets h k)

-- what has a text is written
time_written : (s : Stamp) (text : List ℕ) → IsTextOf s text → HasNoText s → ⊥
time_written s text h none =
    let shown : IsShown s.time s.tdf s.inaccuracy text = subst (λ (k : Kind). IsTextOfKind k s text) none.moment h in
    none.year (subst IsInYears shown.count (in_years shown.civil shown.is_civil))

written : (p : Outcome) (text : List ℕ) → Shows p text → RefusesShowing p → ⊥
written (out.Time r) text h none = time_written r text h none
written (out.Points x y z) text h (inl none) = time_written x h.x h.of_first none
written (out.Points x y z) text h (inr (inl none)) = time_written y h.y h.of_middle none
written (out.Points x y z) text h (inr (inr none)) = time_written z h.z h.of_last none
written (out.Order order) text h none = none
written (out.Octets octets) text h none = none

-- a line has one outcome
line_outcome : (line : List ℕ) (p q : Outcome) → HasOutcome line p → HasOutcome line q → p ≡ q
line_outcome line p q h k =
    let same = Spells-unique line k.operation h.operation k.spelled h.spelled in
    one_outcome h.operation p q h.yields (rw same at k.yields)

-- no line that has an answer is refused
pub not_both : (line text : List ℕ) (c : UtcRefusal) → Answers line text → Refuses line c → ⊥
not_both line text c answer (inl refused) = reading_right line answer.has.operation c answer.has.spelled refused
not_both line text c answer (inr (inl refused)) =
    let same = Spells-unique line refused.operation answer.has.operation refused.spelled answer.has.spelled in
    computed answer.has.operation answer.outcome refused.fault answer.has.yields (rw same at refused.refused)
not_both line text c answer (inr (inr refused)) =
    written answer.outcome text answer.shown (subst RefusesShowing (line_outcome line refused.outcome answer.outcome refused.has answer.has) refused.refused)

-- ---- one text of an outcome

text_of_kind : (k : Kind) (s : Stamp) (text other : List ℕ) → IsTextOfKind k s text → IsTextOfKind k s other → text ≡ other
text_of_kind kind.Absolute s text other h k = absolute_one_text s.time s.tdf s.inaccuracy text other h k
text_of_kind kind.Relative s text other h k = length_one_text s.time s.inaccuracy text other h k

one_text_of : (s : Stamp) (text other : List ℕ) → IsTextOf s text → IsTextOf s other → text ≡ other
one_text_of s text other h k = text_of_kind s.kind s text other h k

three_joined : (a b c x y z : List ℕ) → a ≡ x → b ≡ y → c ≡ z → text_of (a ∷ b ∷ c ∷ []) ≡ text_of (x ∷ y ∷ z ∷ [])
three_joined a b c x y z e f g = rw (e, f, g) refl

one_shown : (p : Outcome) (text other : List ℕ) → Shows p text → Shows p other → text ≡ other
one_shown (out.Time r) text other h k = one_text_of r text other h k
one_shown (out.Points x y z) text other h k =
    h.joined
    ∙ three_joined h.x h.y h.z k.x k.y k.z (one_text_of x h.x k.x h.of_first k.of_first) (one_text_of y h.y k.y h.of_middle k.of_middle)
    (one_text_of z h.z k.z h.of_last k.of_last)
    ∙ sym k.joined
one_shown (out.Order order) text other h k = h ∙ sym k
one_shown (out.Octets octets) text other h k = h ∙ sym k

-- a line has one answer
pub one_answer : (line text other : List ℕ) → Answers line text → Answers line other → text ≡ other
one_answer line text other h k =
    one_shown h.outcome text other h.shown (subst (λ (p : Outcome). Shows p other) (line_outcome line k.outcome h.outcome k.has h.has) k.shown)
