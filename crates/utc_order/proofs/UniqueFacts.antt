-- An input has one text.
use Rattle.std.proofs.Common.{◌≡◌, ℕ, ◌+◌, ◌≤◌, ◌<◌, false, cond, List, [], ◌∷◌, ◌++◌, length, get_or, Option, Some, None, refl, sym, ap, ◌∙◌, subst, suc, arith, ℤ, pos, true≢false, append_assoc, zero-add}
use Rattle.std.specs.List.{AllByRecursion, sum_by}
use Rattle.std.specs.Ordering.{nat_cmp, int_cmp, is_lt, is_eq, ordering_reverse, ordering_then}
use Rattle.std.specs.declared.cmp.Ordering.{Ordering}
use Rattle.std.specs.declared.cmp.Ordering.TheVariants.{Less, Equal, Greater}
use Rattle.std.specs.Option.{option_cmp}
use Rattle.std.proofs.lemmas.List.{append-nil}
use Rattle.std.proofs.lemmas.List.Elements.{recursion_from_All}
use Rattle.std.proofs.lemmas.List.Sorted.{sum_by-IsPermutation}
use Rattle.std.proofs.lemmas.List.Sums.{sum_by-cons}
use Rattle.std.proofs.lemmas.Map.Lookups.{CmpEqualImpliesEq, exact_pairs, exact_unsigned, exact_signed}
use Rattle.line_reader.proofs.Decimals.{one_number}
use Rattle.line_reader.specs.Lines.{lines_of}
use Rattle.utc_text.proofs.TextLaws.{absolute_one_value, absolute_not_both}
use Rattle.utc_order.specs.declared.place.Place.{Place}
use Rattle.utc_order.specs.declared.cause.OrderCause.{OrderCause}
use Rattle.utc_order.specs.declared.cause.OrderCause.TheVariants as cause
use Rattle.utc_order.specs.Lines.{LogLine, field, Spells}
use Rattle.utc_order.specs.Places.{places_of, place_cmp, IsOrder, lines_at}
use Rattle.utc_order.specs.Marks.{text_of}
use Rattle.utc_order.specs.Taking.{first_contrary, Takes, Refuses, TakesEach, RefusesAt}
use Rattle.utc_order.specs.Orders.{IsOrdered}
use Rattle.utc_order.proofs.OrderFacts.{place_total, not_after}

-- no place is less than one that stands before it
abbrev Ascends : List Place → Type 0
Ascends [] = Unit {0}
Ascends (p ∷ ps) = AllByRecursion (λ q. is_lt (place_cmp q p) ≡ false) ps × Ascends ps

abbrev NotAfter : List Place → Type 0
NotAfter ps = (i j : ℕ) (d : Place) → i ≤ j → j < length ps → is_lt (place_cmp (get_or ps j d) (get_or ps i d)) ≡ false

ascends : (ps : List Place) → NotAfter ps → Ascends ps
ascends [] pairs = tt
ascends (p ∷ ps) pairs = (
  recursion_from_All (λ q. is_lt (place_cmp q p) ≡ false) ps (λ k d lt. pairs 0 (suc k) d (omega arith) (omega arith)),
  ascends ps (λ i j d le lt. pairs (suc i) (suc j) d (omega arith) (omega arith)),
)

exact_options : CmpEqualImpliesEq (option_cmp int_cmp)
exact_options None None e = refl
exact_options None (Some y) e = absurd (cc)
exact_options (Some x) None e = absurd (cc)
exact_options (Some x) (Some y) e = ap Some (exact_signed x y e)

exact_places : CmpEqualImpliesEq place_cmp
exact_places p q e =
    ap (λ (t : Option ℤ × (ℕ × ℕ)). let r : Place = record { key = t.0; host = t.1.0; index = t.1.1 } in r)
    (exact_pairs (option_cmp int_cmp) (λ (x y : ℕ × ℕ). ordering_then (nat_cmp x.0 y.0) (nat_cmp x.1 y.1)) exact_options (exact_pairs nat_cmp nat_cmp exact_unsigned exact_unsigned)
    (p.key, (p.host, p.index)) (q.key, (q.host, q.index)) e)

reversed_equal : (o : Ordering) → o ≡ ordering_reverse o → o ≡ Equal
reversed_equal Less e = absurd (cc)
reversed_equal Equal e = refl
reversed_equal Greater e = absurd (cc)

same_place : (p : Place) → place_cmp p p ≡ Equal
same_place p = reversed_equal (place_cmp p p) (place_total.antisymm p p)

abbrev one_if : Place → Place → ℕ
one_if p q = cond (is_eq (place_cmp p q)) 1 0

-- how often a place stands there
abbrev count : Place → List Place → ℕ
count p ps = sum_by (one_if p) ps

count_cons : (r p : Place) (ps : List Place) → count r (p ∷ ps) ≡ one_if r p + count r ps
count_cons r p ps = sum_by-cons (one_if r) p ps

apart : (p q r : Place) → place_cmp p q ≡ Less → is_lt (place_cmp r q) ≡ false → is_eq (place_cmp p r) ≡ false
apart p q r less not_less = by_order (place_cmp p r) refl
  where
    by_order : (o : Ordering) → place_cmp p r ≡ o → is_eq o ≡ false
    by_order Less e = refl
    by_order Greater e = refl
    by_order Equal e = absurd (true≢false (sym (ap is_lt (sym (place_total.congr p r q e) ∙ less)) ∙ not_less))

count_none : (p q : Place) (ps : List Place) → place_cmp p q ≡ Less → AllByRecursion (λ r. is_lt (place_cmp r q) ≡ false) ps → count p ps ≡ 0
count_none p q [] less all = refl
count_none p q (r ∷ ps) less all = count_cons p r ps ∙ ap (λ b. cond b 1 0 + count p ps) (apart p q r less all.0) ∙ zero-add (count p ps) ∙ count_none p q ps less all.1

count_self : (p : Place) (ps : List Place) → count p (p ∷ ps) ≡ 1 + count p ps
count_self p ps = count_cons p p ps ∙ ap (λ o. cond (is_eq o) 1 0 + count p ps) (same_place p)

not_first : (p q : Place) (ps qs : List Place) → place_cmp p q ≡ Less → AllByRecursion (λ r. is_lt (place_cmp r q) ≡ false) qs → count p (p ∷ ps) ≡ count p (q ∷ qs) → ⊥
not_first p q ps qs less all e =
    let none : count p (q ∷ qs) ≡ 0 = count_cons p q qs ∙ ap (λ o. cond (is_eq o) 1 0 + count p qs) less ∙ zero-add (count p qs) ∙ count_none p q qs less all in
    omega (arith, count_self p ps)

same_first : (p q : Place) (ps qs : List Place) → Ascends (p ∷ ps) → Ascends (q ∷ qs) → ((r : Place) → count r (p ∷ ps) ≡ count r (q ∷ qs)) → p ≡ q
same_first p q ps qs up up' counts = by_order (place_cmp p q) refl
  where
    by_order : (o : Ordering) → place_cmp p q ≡ o → p ≡ q
    by_order Equal e = exact_places p q e
    by_order Less e = absurd (not_first p q ps qs e up'.0 (counts p))
    by_order Greater e = absurd (not_first q p qs ps (place_total.antisymm q p ∙ ap ordering_reverse e) up.0 (sym (counts q)))

same_places : (ps qs : List Place) → Ascends ps → Ascends qs → ((r : Place) → count r ps ≡ count r qs) → ps ≡ qs
same_places [] [] up up' counts = refl
same_places [] (q ∷ qs) up up' counts = absurd (let e = counts q in omega (arith, count_self q qs))
same_places (p ∷ ps) [] up up' counts = absurd (let e = counts p in omega (arith, count_self p ps))
same_places (p ∷ ps) (q ∷ qs) up up' counts =
    let first = same_first p q ps qs up up' counts in
    ap (λ r. r ∷ ps) first ∙ ap (λ rs. q ∷ rs) (same_places ps qs up.1 up'.1 (λ r. rest r (one_if r p) (one_if r q) (ap (one_if r) first) (sym (count_cons r p ps) ∙ counts r ∙ count_cons r q qs)))
  where
    rest : (r : Place) (m n : ℕ) → m ≡ n → m + count r ps ≡ n + count r qs → count r ps ≡ count r qs
    rest r m n e f = omega arith

pub one_order : (lines : List LogLine) (a b : List Place) → IsOrder lines a → IsOrder lines b → a ≡ b
one_order lines a b is is' =
    same_places a b (ascends a (λ i j d le lt. not_after lines a is i j d le lt)) (ascends b (λ i j d le lt. not_after lines b is' i j d le lt))
    (λ r. sum_by-IsPermutation (one_if r) (places_of lines) a is.each_once ∙ sym (sum_by-IsPermutation (one_if r) (places_of lines) b is'.each_once))

same_line : (l m : LogLine) → l.host ≡ m.host → l.time ≡ m.time → l.octets ≡ m.octets → l ≡ m
same_line l m e f g =
    ap (λ h. let r : LogLine = record { host = h; time = l.time; octets = l.octets } in r) e ∙ ap (λ t. let r : LogLine = record { host = m.host; time = t; octets = l.octets } in r) f
    ∙ ap (λ o. let r : LogLine = record { host = m.host; time = m.time; octets = o } in r) g

-- octets are one line at most
pub one_line : (octets : List ℕ) (l m : LogLine) → Spells octets l → Spells octets m → l ≡ m
one_line octets l m is is' =
    let hosts = one_number (field octets 0) (pos l.host) (pos m.host) is.host.0 is'.host.0 in
    same_line l m (cc) (absolute_one_value (field octets 1) l.time m.time is.time is'.time) (is.all ∙ sym is'.all)

pub one_lines : (before : List LogLine) (octets : List (List ℕ)) (a b : List LogLine) → TakesEach before octets a → TakesEach before octets b → a ≡ b
one_lines before [] a b each each' = each ∙ sym each'
one_lines before (first ∷ octets) [] b each each' = absurd each
one_lines before (first ∷ octets) (l ∷ a) [] each each' = absurd each'
one_lines before (first ∷ octets) (l ∷ a) (m ∷ b) each each' =
    let e = one_line first l m each.0.spells each'.0.spells in
    ap (λ x. x ∷ a) e ∙ ap (λ ls. m ∷ ls) (one_lines (before ++ m ∷ []) octets a b (subst (λ x. TakesEach (before ++ x ∷ []) octets a) e each.1) each'.1)

pub one_text : (octets : List ℕ) (t s : List ℕ) → IsOrdered octets t → IsOrdered octets s → t ≡ s
one_text octets t s is is' =
    let lines = one_lines [] (lines_of octets) is.lines is'.lines is.taken is'.taken in
    let order = one_order is'.lines is.is.order is'.is.order (subst (λ ls. IsOrder ls is.is.order) lines is.is.is) is'.is.is in
    is.is.text_is ∙ ap (λ ls. text_of (lines_at ls is.is.order)) lines ∙ ap (λ ps. text_of (lines_at is'.lines ps)) order ∙ sym is'.is.text_is

-- octets that are taken are not refused
pub not_refused : (before : List LogLine) (octets : List ℕ) (line : LogLine) (c : OrderCause) → Takes before octets line → Refuses before octets c → ⊥
not_refused before octets line cause.Lines takes refused = omega (arith, takes.fits.0)
not_refused before octets line cause.Long takes refused = omega (arith, takes.fits.1)
not_refused before octets line cause.Host takes refused = refused.1 (line.host, takes.spells.host)
not_refused before octets line (cause.Time fault) takes refused = absolute_not_both (field octets 1) line.time fault takes.spells.time refused.1.1
not_refused before octets line cause.Text takes refused = omega (arith, takes.spells.text, refused.1.1)
not_refused before octets line (cause.Backward earlier) takes refused =
    let e = one_line octets line refused.1.line takes.spells refused.1.spells in
    let none = sym takes.forward ∙ ap (first_contrary before) e ∙ refused.1.first in
    cc

-- what stands behind lines that are taken is taken too, where all are
pub taken_behind : (before : List LogLine) (front : List (List ℕ)) (octets : List ℕ) (rest : List (List ℕ)) (lines all : List LogLine) → TakesEach before front lines → TakesEach before (front ++ octets ∷ rest) all
    → (line : LogLine) × Takes (before ++ lines) octets line
taken_behind before [] octets rest lines [] each each' = absurd each'
taken_behind before [] octets rest lines (l ∷ all) each each' = (l, subst (λ b. Takes b octets l) (sym (ap (λ ls. before ++ ls) each ∙ append-nil before)) each'.0)
taken_behind before (first ∷ front) octets rest [] all each each' = absurd each
taken_behind before (first ∷ front) octets rest (l ∷ lines) [] each each' = absurd each'
taken_behind before (first ∷ front) octets rest (l ∷ lines) (m ∷ all) each each' =
    let e = one_line first m l each'.0.spells each.0.spells in
    let next = taken_behind (before ++ l ∷ []) front octets rest lines all each.1 (subst (λ x. TakesEach (before ++ x ∷ []) (front ++ octets ∷ rest) all) e each'.1) in
    (next.0, subst (λ b. Takes b octets next.0) (append_assoc before (l ∷ []) lines) next.1)

pub not_both : (octets text : List ℕ) (n : ℕ) (c : OrderCause) → IsOrdered octets text → RefusesAt (lines_of octets) n c → ⊥
not_both octets text n c is refuses =
    let takes = taken_behind [] refuses.front refuses.octets refuses.rest refuses.lines is.lines refuses.taken (subst (λ ls. TakesEach [] ls is.lines) refuses.all_is is.taken) in
    not_refused refuses.lines refuses.octets takes.0 c takes.1 refuses.refused
