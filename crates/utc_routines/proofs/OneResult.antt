-- What a routine results in is one value.
use Rattle.std.proofs.Common.{◌≡◌, ℕ, Bool, true, false, Option, Some, refl, sym, ap, subst, ◌∙◌, arith, ℤ, pos, ◌+ℤ◌, ◌-ℤ◌, ◌≤ℤ◌}
use Rattle.std.proofs.lemmas.Int.{ints}
use Rattle.utc_value.specs.declared.Kind.{Kind}
use Rattle.utc_value.specs.Stamp.{Stamp}
use Rattle.utc_value.specs.Members.{IsMember}
use Rattle.utc_routines.specs.declared.Order4.{Order4}
use Rattle.utc_routines.specs.declared.Order4.TheVariants.{EqualTo, LessThan, GreaterThan, Indeterminate}
use Rattle.utc_routines.specs.Interval.{IsHalf, IsLeastInterval, StatesLeast, IsEarliest, IsLatest, is_either_unspecified, stated}
use Rattle.utc_routines.specs.Arithmetic.{kept_tdf, Adds, Subtracts, TakesAbsolute, Multiplies, ChangesTdf}
use Rattle.utc_routines.specs.Comparison.{IsBelow, AreOnePoint, IsIntervalOrder, IsTimeOrder}
use Rattle.utc_routines.specs.Tightest.{IsTightest, StatesTightest, Spans, Bounds, ArePoints, exact_at}
use Rattle.utc_routines.proofs.EndsLemmas.{near_itself}

abbrev made : ℤ → Option ℕ → ℤ → Kind → Stamp
made time inaccuracy tdf kind = record { time = time; inaccuracy = inaccuracy; tdf = tdf; kind = kind }

same_stamp : (r q : Stamp) → r.time ≡ q.time → r.inaccuracy ≡ q.inaccuracy → r.tdf ≡ q.tdf → r.kind ≡ q.kind → r ≡ q
same_stamp r q t i z k =
    let whole : made r.time r.inaccuracy r.tdf r.kind ≡ made q.time q.inaccuracy q.tdf q.kind = rw (t, i, z, k) refl in
    whole

-- a least interval round one time is one
least_width : (P : ℤ → Type 0) (t : ℤ) (i j : ℕ) → IsLeastInterval P (t -ℤ pos i) (t +ℤ pos i)
    → IsLeastInterval P (t -ℤ pos j) (t +ℤ pos j) → i ≡ j
least_width P t i j h k =
    let low = h.least (t -ℤ pos j) (t +ℤ pos j) k.holds in
    let high = k.least (t -ℤ pos i) (t +ℤ pos i) h.holds in
    omega (arith, ints, low.1, high.1)

least_unique : (unspecified : Bool) (P : ℤ → Type 0) (t u : ℤ) (i j : Option ℕ) → t ≡ u → StatesLeast unspecified P t i
    → StatesLeast unspecified P u j → i ≡ j
least_unique true P t u i j e h k = h ∙ sym k
least_unique false P t u i j e (m, h, is) (n, k, at) =
    let same : m ≡ n = least_width P t m n h (subst (λ (x : ℤ). IsLeastInterval P (x -ℤ pos n) (x +ℤ pos n)) (sym e) k) in
    is ∙ ap stated same ∙ sym at

-- the tightest interval of a set is one
half_unique : (n t u : ℤ) → IsHalf n t → IsHalf n u → t ≡ u
half_unique n t u h k = omega (arith, ints, h.low, h.high, k.low, k.high)

tightest_width : (P : ℤ → Type 0) (t u : ℤ) (i j : ℕ) → IsTightest P t i → IsTightest P u j → i ≡ j
tightest_width P t u i j h k =
    let less = h.least u j k.holds in
    let more = k.least t i h.holds in
    omega (arith, less, more)

tightest_unique : (P : ℤ → Type 0) (t u : ℤ) (i j : ℕ) → IsTightest P t i → IsTightest P u j → t ≡ u
tightest_unique P t u i j h k =
    let same : i ≡ j = tightest_width P t u i j h k in
    let to : t ≤ℤ u = h.first u (rw same k.holds) in
    let from : u ≤ℤ t = k.first t (rw (← same) h.holds) in
    omega (arith, ints, to, from)

pub stated_unique : (unspecified : Bool) (P : ℤ → Type 0) (sum t u : ℤ) (i j : Option ℕ) → StatesTightest unspecified P sum t i
    → StatesTightest unspecified P sum u j → t ≡ u
stated_unique true P sum t u i j h k = half_unique sum t u h.0 k.0
stated_unique false P sum t u i j (m, h, _) (n, k, _) = tightest_unique P t u m n h k

width_unique : (unspecified : Bool) (P : ℤ → Type 0) (sum t u : ℤ) (i j : Option ℕ) → StatesTightest unspecified P sum t i
    → StatesTightest unspecified P sum u j → i ≡ j
width_unique true P sum t u i j h k = h.1 ∙ sym k.1
width_unique false P sum t u i j (m, h, is) (n, k, at) = is ∙ ap stated (tightest_width P t u m n h k) ∙ sym at

some_kind : (k l : Kind) (o : Option Kind) → o ≡ Some k → o ≡ Some l → k ≡ l
some_kind k l o h i = let both = sym h ∙ i in cc

pub one_sum : (a b r q : Stamp) → Adds a b r → Adds a b q → r ≡ q
one_sum a b r q h k =
    let time = h.time ∙ sym k.time in
    same_stamp r q time (least_unique _ _ r.time q.time r.inaccuracy q.inaccuracy time h.interval k.interval) (h.tdf ∙ sym k.tdf) (some_kind r.kind q.kind _ h.kind k.kind)

pub one_difference : (a b r q : Stamp) → Subtracts a b r → Subtracts a b q → r ≡ q
one_difference a b r q h k =
    let kind = some_kind r.kind q.kind _ h.kind k.kind in
    let time = h.time ∙ sym k.time in
    same_stamp r q time (least_unique _ _ r.time q.time r.inaccuracy q.inaccuracy time h.interval k.interval) (h.tdf ∙ ap (λ (l : Kind). kept_tdf l a.tdf) kind ∙ sym k.tdf) kind

pub one_absolute : (a r q : Stamp) → TakesAbsolute a r → TakesAbsolute a q → r ≡ q
one_absolute a r q h k = h.value ∙ sym k.value

pub one_multiple : (a : Stamp) (n : ℤ) (r q : Stamp) → Multiplies a n r → Multiplies a n q → r ≡ q
one_multiple a n r q h k =
    let time = h.time ∙ sym k.time in
    same_stamp r q time (least_unique _ _ r.time q.time r.inaccuracy q.inaccuracy time h.interval k.interval) (h.tdf ∙ sym k.tdf) (h.kind ∙ sym k.kind)

pub one_moment : (a : Stamp) (t : ℤ) (r q : Stamp) → ChangesTdf a t r → ChangesTdf a t q → r ≡ q
one_moment a t r q h k = h.value ∙ sym k.value

pub one_span : (a b r q : Stamp) → Spans a b r → Spans a b q → r ≡ q
one_span a b r q h k =
    same_stamp r q (stated_unique (is_either_unspecified a b) _ (a.time +ℤ b.time) r.time q.time r.inaccuracy q.inaccuracy h.interval k.interval)
    (width_unique (is_either_unspecified a b) _ (a.time +ℤ b.time) r.time q.time r.inaccuracy q.inaccuracy h.interval k.interval) (h.tdf ∙ sym k.tdf) (h.kind ∙ sym k.kind)

pub one_bound : (a b r q : Stamp) → Bounds a b r → Bounds a b q → r ≡ q
one_bound a b r q h k =
    same_stamp r q (stated_unique (is_either_unspecified a b) _ (a.time +ℤ b.time) r.time q.time r.inaccuracy q.inaccuracy h.interval k.interval)
    (width_unique (is_either_unspecified a b) _ (a.time +ℤ b.time) r.time q.time r.inaccuracy q.inaccuracy h.interval k.interval) (h.tdf ∙ sym k.tdf) (h.kind ∙ sym k.kind)

earliest_unique : (a : Stamp) (x y : ℤ) → IsEarliest a x → IsEarliest a y → x ≡ y
earliest_unique a x y h k =
    let to : x ≤ℤ y = h.first y k.member in
    let from : y ≤ℤ x = k.first x h.member in
    omega (arith, ints, to, from)

latest_unique : (a : Stamp) (x y : ℤ) → IsLatest a x → IsLatest a y → x ≡ y
latest_unique a x y h k =
    let to : y ≤ℤ x = h.last y k.member in
    let from : x ≤ℤ y = k.last x h.member in
    omega (arith, ints, to, from)

pub one_first : (a r s t x y z : Stamp) → ArePoints a r s t → ArePoints a x y z → (r ≡ x) × (s ≡ y) × (t ≡ z)
one_first a r s t x y z h k = (
  h.first_only ∙ ap (exact_at a) (earliest_unique a r.time x.time h.earliest k.earliest) ∙ sym k.first_only,
  h.middle_only ∙ sym k.middle_only,
  h.last_only ∙ ap (exact_at a) (latest_unique a t.time z.time h.latest k.latest) ∙ sym k.last_only,
)

-- intervals lie to each other in one way
itself : (a : Stamp) → IsMember a a.time
itself a = near_itself a.time a.inaccuracy

not_less : (a b : Stamp) → AreOnePoint a b → IsBelow a b → ⊥
not_less a b (x, f, g) h = let less = h x x ((f x).1 refl) ((g x).1 refl) in omega (arith, ints, less)

not_greater : (a b : Stamp) → AreOnePoint a b → IsBelow b a → ⊥
not_greater a b (x, f, g) h = let less = h x x ((g x).1 refl) ((f x).1 refl) in omega (arith, ints, less)

not_crossed : (a b : Stamp) → IsBelow a b → IsBelow b a → ⊥
not_crossed a b h k =
    let less = h a.time b.time (itself a) (itself b) in
    let more = k b.time a.time (itself b) (itself a) in
    omega (arith, ints, less, more)

pub one_interval_order : (a b : Stamp) (o p : Order4) → IsIntervalOrder a b o → IsIntervalOrder a b p → o ≡ p
one_interval_order a b EqualTo EqualTo h k = refl
one_interval_order a b EqualTo LessThan h k = absurd (not_less a b h k)
one_interval_order a b EqualTo GreaterThan h k = absurd (not_greater a b h k)
one_interval_order a b EqualTo Indeterminate h k = absurd (k.0 h)
one_interval_order a b LessThan EqualTo h k = absurd (not_less a b k h)
one_interval_order a b LessThan LessThan h k = refl
one_interval_order a b LessThan GreaterThan h k = absurd (not_crossed a b h k)
one_interval_order a b LessThan Indeterminate h k = absurd (k.1 h)
one_interval_order a b GreaterThan EqualTo h k = absurd (not_greater a b k h)
one_interval_order a b GreaterThan LessThan h k = absurd (not_crossed a b k h)
one_interval_order a b GreaterThan GreaterThan h k = refl
one_interval_order a b GreaterThan Indeterminate h k = absurd (k.2 h)
one_interval_order a b Indeterminate EqualTo h k = absurd (h.0 k)
one_interval_order a b Indeterminate LessThan h k = absurd (h.1 k)
one_interval_order a b Indeterminate GreaterThan h k = absurd (h.2 k)
one_interval_order a b Indeterminate Indeterminate h k = refl

pub one_time_order : (a b : Stamp) (o p : Order4) → IsTimeOrder a b o → IsTimeOrder a b p → o ≡ p
one_time_order a b EqualTo EqualTo h k = refl
one_time_order a b EqualTo LessThan h k = absurd (omega (arith, ints, h, k))
one_time_order a b EqualTo GreaterThan h k = absurd (omega (arith, ints, h, k))
one_time_order a b LessThan EqualTo h k = absurd (omega (arith, ints, h, k))
one_time_order a b LessThan LessThan h k = refl
one_time_order a b LessThan GreaterThan h k = absurd (omega (arith, ints, h, k))
one_time_order a b GreaterThan EqualTo h k = absurd (omega (arith, ints, h, k))
one_time_order a b GreaterThan LessThan h k = absurd (omega (arith, ints, h, k))
one_time_order a b GreaterThan GreaterThan h k = refl
one_time_order a b Indeterminate p h k = absurd h
one_time_order a b o Indeterminate h k = absurd k
