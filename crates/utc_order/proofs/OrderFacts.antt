-- What an order of lines keeps.
use Rattle.std.proofs.Common.{◌≡◌, inl, inr, ℕ, suc, zero, ◌+◌, ◌<◌, ◌≤◌, Bool, true, false, true≢false, cond, List, [], ◌∷◌, ◌++◌, map, length, take, drop, get_or, Option, Some, None, refl, sym, ap, ◌∙◌, subst, append_assoc, length-append, add-one, arith, ℤ, pos, ◌+ℤ◌, ◌-ℤ◌, ◌≤ℤ◌, int_lt, ◌==◌, not}
use Rattle.std.specs.Prelude.{IsPermutation, nat_lt}
use Rattle.std.specs.List.{AllByRecursion, All, cons_option, position_or_len}
use Rattle.std.specs.Ordering.{nat_cmp, int_cmp, ordering_then, is_lt}
use Rattle.std.specs.declared.cmp.Ordering.{Ordering}
use Rattle.std.specs.declared.cmp.Ordering.TheVariants.{Less, Equal, Greater}
use Rattle.std.specs.Option.{option_cmp, option_map}
use Rattle.std.specs.Cmp.{IsTotalOrder}
use Rattle.std.specs.Cmp.Lexicographic.{options_total}
use Rattle.std.proofs.lemmas.Cmp.{then_total, on_total, int_cmp_total, nat_cmp_total}
use Rattle.std.proofs.lemmas.Int.{ints}
use Rattle.std.proofs.lemmas.Bool.{ltb-false, false≢true, cases_lt}
use Rattle.std.proofs.lemmas.Option.{slice_get-get_or}
use Rattle.std.proofs.lemmas.List.{get_or-map, append-nil, length-map, take-append-drop, take-take}
use Rattle.std.proofs.lemmas.List.Elements.{All-from_recursion, recursion_from_All}
use Rattle.std.proofs.lemmas.List.Sorted.{All-permutation, IsPermutation-map, sorted_far, ranks_by}
use Rattle.std.proofs.lemmas.List.Sums.{prefix_len-le-length}
use Rattle.std.proofs.Math.Seq.{get_or-append_seam, take-append_seam, take-suc}
use Rattle.utc_value.specs.Stamp.{Stamp, absolute_stamp}
use Rattle.utc_value.specs.Members.{earliest_of, latest_of}
use Rattle.utc_order.specs.declared.place.Place.{Place}
use Rattle.utc_order.specs.Lines.{LogLine}
use Rattle.utc_order.specs.Places.{greater, key_of, place_of, places_behind, places_of, place_cmp, IsOrder, lines_at}
use Rattle.utc_order.specs.Marks.{is_below, is_certainly_earlier}
use Rattle.utc_order.specs.Taking.{goes_back, first_contrary, TakesEach}
use Rattle.utc_order.specs.Laws.{KeepHosts, KeepTimes}
use Rattle.utc_order.proofs.PointFacts.{below_greater}
use Rattle.utc_order.proofs.PlaceFacts.{key_more}

abbrev no_line : LogLine
no_line = record { host = 0; time = absolute_stamp (pos 0) None (pos 0); octets = [] }

abbrev line_of : List LogLine → Place → LogLine
line_of lines p = get_or lines p.index no_line

-- a place is that of a line
record IsPlaceOf (lines : List LogLine) (p : Place) : Type 0 where
  inside : p.index < length lines
  host : p.host ≡ (line_of lines p).host
  key : p.key ≡ greater (key_of p.host (take p.index lines)) (earliest_of (line_of lines p).time)

place_is : (before lines : List LogLine) (line : LogLine) → IsPlaceOf (before ++ line ∷ lines) (place_of before line)
place_is before lines line =
    let here : get_or (before ++ line ∷ lines) (length before) no_line ≡ line = get_or-append_seam before line lines no_line in
    record {
      inside = omega (arith, length-append before (line ∷ lines));
      host = sym (ap (λ (l : LogLine). l.host) here);
      key = key_more line.host before line refl ∙ ap (λ b. greater (key_of line.host b) (earliest_of line.time)) (sym (take-append_seam before (line ∷ lines)))
          ∙ ap (λ (l : LogLine). greater (key_of line.host (take (length before) (before ++ line ∷ lines))) (earliest_of l.time)) (sym here);
    }

places_are : (before lines : List LogLine) → AllByRecursion (IsPlaceOf (before ++ lines)) (places_behind before lines)
places_are before [] = tt
places_are before (line ∷ lines) =
    (place_is before lines line, subst (λ ls. AllByRecursion (IsPlaceOf ls) (places_behind (before ++ line ∷ []) lines)) (append_assoc before (line ∷ []) lines) (places_are (before ++ line ∷ []) lines))

all_placed : (lines : List LogLine) (order : List Place) → IsOrder lines order → All (IsPlaceOf lines) order
all_placed lines order is = All-permutation (IsPlaceOf lines) (places_of lines) order is.each_once (All-from_recursion (IsPlaceOf lines) (places_of lines) (places_are [] lines))

-- the lines at places, one each
lines_are : (lines : List LogLine) (order : List Place) → AllByRecursion (IsPlaceOf lines) order → lines_at lines order ≡ map (line_of lines) order
lines_are lines [] all = refl
lines_are lines (p ∷ order) all = ap (λ o. cons_option o (lines_at lines order)) (slice_get-get_or lines p.index no_line all.0.inside) ∙ ap (λ ls. line_of lines p ∷ ls) (lines_are lines order all.1)

each_line : (before lines : List LogLine) → map (line_of (before ++ lines)) (places_behind before lines) ≡ lines
each_line before [] = refl
each_line before (line ∷ lines) =
    ap (λ l. l ∷ map (line_of (before ++ line ∷ lines)) (places_behind (before ++ line ∷ []) lines)) (get_or-append_seam before line lines no_line)
    ∙ ap (λ ls. line ∷ map (line_of ls) (places_behind (before ++ line ∷ []) lines)) (sym (append_assoc before (line ∷ []) lines))
    ∙ ap (λ ls. line ∷ ls) (each_line (before ++ line ∷ []) lines)

pub stands_once : (lines : List LogLine) (order : List Place) → IsOrder lines order → IsPermutation lines (lines_at lines order)
stands_once lines order is =
    subst (λ ls. IsPermutation ls (lines_at lines order)) (each_line [] lines)
    (subst (λ ls. IsPermutation (map (line_of lines) (places_of lines)) ls) (sym (lines_are lines order (recursion_from_All (IsPlaceOf lines) order (all_placed lines order is))))
    (IsPermutation-map (line_of lines) (places_of lines) order is.each_once))

-- b is not less than a
abbrev AtLeast : Option ℤ → Option ℤ → Type 0
AtLeast None b = Unit {0}
AtLeast (Some x) None = ⊥
AtLeast (Some x) (Some y) = x ≤ℤ y

-- what lies below a point lies below one that is not less
below_more : (x a b : Option ℤ) → AtLeast a b → is_below x b ≡ false → is_below x a ≡ false
below_more None a b at h = refl
below_more (Some x) None b at h = refl
below_more (Some x) (Some a) None at h = absurd at
below_more (Some x) (Some a) (Some b) at h = grind (arith, ints)

greater_some : (x y : ℤ) (b : Bool) → int_lt x y ≡ b → AtLeast (Some y) (cond b (Some y) (Some x))
greater_some x y true e = omega (arith, ints)
greater_some x y false e = grind (arith, ints)

greater_right : (a b : Option ℤ) → AtLeast b (greater a b)
greater_right None None = tt
greater_right None (Some y) = omega (arith, ints)
greater_right (Some x) None = tt
greater_right (Some x) (Some y) = greater_some x y (int_lt x y) refl

own_not_below : (s : Stamp) → is_below (latest_of s) (earliest_of s) ≡ false
own_not_below s = by_inaccuracy s.time s.inaccuracy
  where
    by_inaccuracy : (t : ℤ) (i : Option ℕ) → is_below (option_map (λ k. t +ℤ pos k) i) (option_map (λ k. t -ℤ pos k) i) ≡ false
    by_inaccuracy t None = refl
    by_inaccuracy t (Some i) = grind (arith, ints)

chosen_least : (x y : ℤ) (b : Bool) (r o : Ordering) → int_lt y x ≡ b → is_lt (ordering_then (cond b Less r) o) ≡ false → x ≤ℤ y
chosen_least x y true r o e h = absurd (true≢false h)
chosen_least x y false r o e h = grind (arith, ints)

key_least : (p q : Option ℤ) (o : Ordering) → is_lt (ordering_then (option_cmp int_cmp q p) o) ≡ false → AtLeast p q
key_least None q o h = tt
key_least (Some x) None o h = absurd (true≢false h)
key_least (Some x) (Some y) o h = chosen_least x y (int_lt y x) (cond (int_lt x y) Greater Equal) o refl h

pub place_total : IsTotalOrder place_cmp
place_total = then_total (on_total (λ (p : Place). p.key) (options_total int_cmp_total)) (then_total (on_total (λ (p : Place). p.host) nat_cmp_total) (on_total (λ (p : Place). p.index) nat_cmp_total))

pub not_after : (lines : List LogLine) (order : List Place) → IsOrder lines order → (i j : ℕ) (d : Place) → i ≤ j → j < length order → is_lt (place_cmp (get_or order j d) (get_or order i d)) ≡ false
not_after lines order is i j d le lt = sorted_far (λ p q. is_lt (place_cmp p q)) (ranks_by place_total (λ p. p)) order is.sorted i j d le lt

-- behind lines of which a line is contrary to none, its latest point is not below the greatest earliest point of its host
no_front : (first line : LogLine) (lines : List LogLine) (b : Bool) → (first.host == line.host) ≡ b → goes_back line first ≡ false → is_below (latest_of line.time) (key_of line.host lines) ≡ false
    → is_below (latest_of line.time) (key_of line.host (first ∷ lines)) ≡ false
no_front first line lines false e none rest = rw e rest
no_front first line lines true e none rest =
    let first_not : is_below (latest_of line.time) (earliest_of first.time) ≡ false = rw e at none in
    rw e (below_greater (latest_of line.time) (earliest_of first.time) (key_of line.host lines) ∙ rw (first_not, rest) refl)

forward_all : (lines : List LogLine) (line : LogLine) → position_or_len (goes_back line) lines ≡ length lines → is_below (latest_of line.time) (key_of line.host lines) ≡ false
forward_all [] line e = below_none (latest_of line.time)
  where
    below_none : (x : Option ℤ) → is_below x None ≡ false
    below_none None = refl
    below_none (Some x) = refl
forward_all (first ∷ lines) line e = by_test (goes_back line first) refl (λ h. forward_all lines line h)
  where
    by_test : (b : Bool) → goes_back line first ≡ b → (position_or_len (goes_back line) lines ≡ length lines → is_below (latest_of line.time) (key_of line.host lines) ≡ false) → is_below (latest_of line.time) (key_of line.host (first ∷ lines)) ≡ false
    by_test true b rest = absurd (omega (arith, (rw b at e)))
    by_test false b rest = no_front first line lines (first.host == line.host) refl b (rest (omega (arith, (rw b at e))))

forward_below : (lines : List LogLine) (line : LogLine) → first_contrary lines line ≡ None → is_below (latest_of line.time) (key_of line.host lines) ≡ false
forward_below lines line none = forward_all lines line (by_test (nat_lt (position_or_len (goes_back line) lines) (length lines)) refl none)
  where
    by_test : (b : Bool) → nat_lt (position_or_len (goes_back line) lines) (length lines) ≡ b → cond b (Some (position_or_len (goes_back line) lines)) None ≡ None → position_or_len (goes_back line) lines ≡ length lines
    by_test true e h = absurd (cc)
    by_test false e h = omega (arith, ltb-false (position_or_len (goes_back line) lines) (length lines) e, prefix_len-le-length (λ l. not (goes_back line l)) lines)

-- each line that is taken is contrary to none before it
each_forward : (before : List LogLine) (octets : List (List ℕ)) (lines : List LogLine) → TakesEach before octets lines → (n : ℕ) → n < length lines → first_contrary (before ++ take n lines) (get_or lines n no_line) ≡ None
each_forward before octets [] each n lt = absurd (omega arith)
each_forward before [] (line ∷ lines) each n lt = absurd (cc)
each_forward before (first ∷ octets) (line ∷ lines) each zero lt = ap (λ b. first_contrary b line) (append-nil before) ∙ each.0.forward
each_forward before (first ∷ octets) (line ∷ lines) each (suc n) lt =
    ap (λ b. first_contrary b (get_or lines n no_line)) (sym (append_assoc before (line ∷ []) (take n lines))) ∙ each_forward (before ++ line ∷ []) octets lines each.1 n (omega arith)

not_earlier : (lines : List LogLine) (p q : Place) → IsPlaceOf lines p → IsPlaceOf lines q → is_lt (place_cmp q p) ≡ false → first_contrary (take q.index lines) (line_of lines q) ≡ None
    → is_certainly_earlier (line_of lines q).time (line_of lines p).time ≡ false
not_earlier lines p q is_p is_q not_less forward =
    let late = latest_of (line_of lines q).time in
    let ahead : is_below late (key_of q.host (take q.index lines)) ≡ false = rw is_q.host (forward_below (take q.index lines) (line_of lines q) forward) in
    let own : is_below late (earliest_of (line_of lines q).time) ≡ false = own_not_below (line_of lines q).time in
    let key_q : is_below late q.key ≡ false = rw is_q.key (below_greater late (key_of q.host (take q.index lines)) (earliest_of (line_of lines q).time) ∙ rw (ahead, own) refl) in
    let key_p : is_below late p.key ≡ false = below_more late p.key q.key (key_least p.key q.key (ordering_then (nat_cmp q.host p.host) (nat_cmp q.index p.index)) not_less) key_q in
    below_more late (earliest_of (line_of lines p).time) p.key (subst (AtLeast (earliest_of (line_of lines p).time)) (sym is_p.key) (greater_right (key_of p.host (take p.index lines)) (earliest_of (line_of lines p).time))) key_p

pub keeps_times : (octets : List (List ℕ)) (lines : List LogLine) (order : List Place) → TakesEach [] octets lines → IsOrder lines order → KeepTimes (lines_at lines order)
keeps_times octets lines order each is =
    let placed = all_placed lines order is in
    let are = lines_are lines order (recursion_from_All (IsPlaceOf lines) order placed) in
    subst KeepTimes (sym are) (λ i j d before inside. pair i j d before (simp length-map at inside) placed)
  where
    no_place : Place
    no_place = record { key = None; host = 0; index = 0 }

    pair : (i j : ℕ) (d : LogLine) → i < j → j < length order → All (IsPlaceOf lines) order → is_certainly_earlier (get_or (map (line_of lines) order) j d).time (get_or (map (line_of lines) order) i d).time ≡ false
    pair i j d before inside placed =
        let within : i < length order = omega arith in
        let p = get_or order i no_place in
        let q = get_or order j no_place in
        rw (get_or-map (line_of lines) order i no_place d within, get_or-map (line_of lines) order j no_place d inside)
        (not_earlier lines p q (placed i no_place within) (placed j no_place inside) (not_after lines order is i j no_place (omega arith) inside)
        (each_forward [] octets lines each q.index (placed j no_place inside).inside))

greater_left : (a b : Option ℤ) → AtLeast a (greater a b)
greater_left None b = tt
greater_left (Some x) None = omega (arith, ints)
greater_left (Some x) (Some y) = by_test (int_lt x y) refl
  where
    by_test : (b : Bool) → int_lt x y ≡ b → AtLeast (Some x) (cond b (Some y) (Some x))
    by_test true e = grind (arith, ints)
    by_test false e = omega (arith, ints)

least_then : (a b c : Option ℤ) → AtLeast a b → AtLeast b c → AtLeast a c
least_then None b c h k = tt
least_then (Some x) None c h k = absurd h
least_then (Some x) (Some y) None h k = absurd k
least_then (Some x) (Some y) (Some z) h k = omega (arith, ints)

least_both : (a b : Option ℤ) → AtLeast a b → AtLeast b a → a ≡ b
least_both None None h k = refl
least_both None (Some y) h k = absurd k
least_both (Some x) None h k = absurd h
least_both (Some x) (Some y) h k = let e : x ≡ y = omega (arith, ints) in ap Some e

greater_grows : (e a b : Option ℤ) → AtLeast a b → AtLeast (greater e a) (greater e b)
greater_grows None a b h = h
greater_grows (Some x) None b h = greater_left (Some x) b
greater_grows (Some x) (Some y) None h = absurd h
greater_grows (Some x) (Some y) (Some z) h = by_test (int_lt x y) refl
  where
    by_test : (b : Bool) → int_lt x y ≡ b → AtLeast (cond b (Some y) (Some x)) (greater (Some x) (Some z))
    by_test true e = least_then (Some y) (Some z) (greater (Some x) (Some z)) h (greater_right (Some x) (Some z))
    by_test false e = greater_left (Some x) (Some z)

-- a key doesn't fall as lines are read
key_grows : (host : ℕ) (lines more : List LogLine) → AtLeast (key_of host lines) (key_of host (lines ++ more))
key_grows host [] more = tt
key_grows host (first ∷ lines) more = chosen_grows (first.host == host) (earliest_of first.time) _ _ (key_grows host lines more)
  where
    chosen_grows : (b : Bool) (e k l : Option ℤ) → AtLeast k l → AtLeast (cond b (greater e k) k) (cond b (greater e l) l)
    chosen_grows true e k l h = greater_grows e k l h
    chosen_grows false e k l h = h

key_through : (lines : List LogLine) (q : Place) → IsPlaceOf lines q → q.key ≡ key_of q.host (take (q.index + 1) lines)
key_through lines q is =
    is.key ∙ sym (rw (add-one, take-suc lines q.index no_line is.inside) (key_more q.host (take q.index lines) (line_of lines q) (sym is.host)))

front_of : (lines : List LogLine) (m n : ℕ) → m ≤ n → take n lines ≡ take m lines ++ drop m (take n lines)
front_of lines m n le = sym (take-append-drop m (take n lines)) ∙ ap (λ ls. ls ++ drop m (take n lines)) (take-take m n lines le)

place_less : (k : Option ℤ) (h m n : ℕ) → m < n → is_lt (ordering_then (option_cmp int_cmp k k) (ordering_then (nat_cmp h h) (nat_cmp m n))) ≡ true
place_less k h m n lt = rw (same_key k, same_host h, less) refl
  where
    same_key : (k : Option ℤ) → option_cmp int_cmp k k ≡ Equal
    same_key None = refl
    same_key (Some x) = grind (arith, ints)

    same_host : (h : ℕ) → nat_cmp h h ≡ Equal
    same_host h = grind arith

    less : nat_cmp m n ≡ Less
    less = grind arith

in_order : (lines : List LogLine) (p q : Place) → IsPlaceOf lines p → IsPlaceOf lines q → is_lt (place_cmp q p) ≡ false → p.host ≡ q.host → q.index < p.index → ⊥
in_order lines p q is_p is_q not_less same before =
    let below = key_least p.key q.key (ordering_then (nat_cmp q.host p.host) (nat_cmp q.index p.index)) not_less in
    let through : AtLeast q.key (key_of q.host (take p.index lines)) =
    rw (key_through lines q is_q, front_of lines (q.index + 1) p.index (omega arith)) (key_grows q.host (take (q.index + 1) lines) (drop (q.index + 1) (take p.index lines))) in
    let on : AtLeast (key_of q.host (take p.index lines)) p.key =
    subst (AtLeast (key_of q.host (take p.index lines))) (sym is_p.key) (rw same (greater_left (key_of q.host (take p.index lines)) (earliest_of (line_of lines p).time))) in
    let keys = least_both p.key q.key below (least_then q.key (key_of q.host (take p.index lines)) p.key through on) in
    false≢true (sym not_less ∙ (rw (keys, same) (place_less q.key q.host q.index p.index before)))

pub keeps_hosts : (lines : List LogLine) (order : List Place) → IsOrder lines order → KeepHosts order
keeps_hosts lines order is = λ i j d before inside same.
    let placed = all_placed lines order is in
    let p = get_or order i d in
    let q = get_or order j d in
    elim (cases_lt q.index p.index) [
      | inl back ↦ absurd (in_order lines p q (placed i d (omega arith)) (placed j d inside) (not_after lines order is i j d (omega arith) inside) same back)
      | inr on ↦ on
    ]
