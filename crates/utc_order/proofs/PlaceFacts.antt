-- One more line behind others, and its place.
use Rattle.std.proofs.Common.{◌≡◌, inl, inr, ℕ, zero, suc, ◌≢◌, ◌==◌, ◌+◌, ◌≤◌, ◌<◌, Bool, true, false, cond, List, [], ◌∷◌, ◌++◌, length, Option, Some, None, refl, sym, ap, ◌∙◌, append_assoc, length-append, arith, ℤ, get_or-set_same, get_or-set_other}
use Rattle.std.proofs.Math.ListN.{length-set}
use Rattle.std.specs.Prelude.{slice_index_or, slice_set, nat_lt}
use Rattle.std.specs.List.{position_or_len}
use Rattle.std.specs.Option.{option_map}
use Rattle.std.proofs.lemmas.Bool.Decides.{eqb_tells}
use Rattle.std.proofs.lemmas.List.{append-nil}
use Rattle.utc_order.specs.declared.limits.TheConstants.{MAX_HOST, MAX_LINES}
use Rattle.utc_order.specs.declared.log.Log.TheInside.{Inside}
use Rattle.utc_order.specs.Marks.{is_below}
use Rattle.utc_order.specs.Taking.{goes_back, first_contrary}
use Rattle.utc_order.specs.Placed.{IsPlaced}
use Rattle.utc_value.specs.Members.{earliest_of, latest_of}
use Rattle.utc_order.specs.Lines.{LogLine}
use Rattle.utc_order.specs.Places.{greater, key_of, place_of, places_behind, places_of}
use Rattle.utc_order.proofs.PointFacts.{greater_none, greater_assoc, below_greater, or_is_false}

same_host : (a b : ℕ) → a ≡ b → (a == b) ≡ true
same_host a b e = grind arith

other_host : (a b : ℕ) → a ≢ b → (a == b) ≡ false
other_host a b e = grind arith

chosen_greater : (b : Bool) (e k n : Option _) → cond b (greater e (greater k n)) (greater k n) ≡ greater (cond b (greater e k) k) n
chosen_greater true e k n = greater_assoc e k n
chosen_greater false e k n = refl

-- a further line of the host
pub key_more : (host : ℕ) (lines : List LogLine) (line : LogLine) → line.host ≡ host → key_of host (lines ++ line ∷ []) ≡ greater (key_of host lines) (earliest_of line.time)
key_more host [] line is = rw (same_host line.host host is) (greater_none (earliest_of line.time))
key_more host (first ∷ lines) line is =
    rw (key_more host lines line is) (chosen_greater (first.host == host) (earliest_of first.time) (key_of host lines) (earliest_of line.time))

-- a further line of another host
pub key_other : (host : ℕ) (lines : List LogLine) (line : LogLine) → line.host ≢ host → key_of host (lines ++ line ∷ []) ≡ key_of host lines
key_other host [] line is = rw (other_host line.host host is) refl
key_other host (first ∷ lines) line is = rw (key_other host lines line is) refl

-- the place of a further line
pub places_more : (before lines : List LogLine) (line : LogLine) → places_behind before (lines ++ line ∷ []) ≡ places_behind before lines ++ place_of (before ++ lines) line ∷ []
places_more before [] line = ap (λ b. place_of b line ∷ []) (sym (append-nil before))
places_more before (first ∷ lines) line =
    ap (λ ps. place_of before first ∷ ps) (places_more (before ++ first ∷ []) lines line ∙ ap (λ b. places_behind (before ++ first ∷ []) lines ++ place_of b line ∷ []) (append_assoc before (first ∷ []) lines))

-- what the private parts keep beside the lines stays right with a further line
pub placed_more : (l new : Inside) (line : LogLine) (key : Option ℤ) → IsPlaced l → line.host ≤ MAX_HOST → length l.lines < MAX_LINES
    → key ≡ greater (slice_index_or l.highest.items line.host None) (earliest_of line.time) → new.lines ≡ l.lines ++ line ∷ []
    → new.places.items ≡ l.places.items ++ record { key = key; host = line.host; index = length l.lines } ∷ [] → new.highest.items ≡ slice_set l.highest.items line.host key → IsPlaced new
placed_more l new line key placed host few is lines places highest = record {
  places = rw (places, lines, placed.places) (sym (places_more [] l.lines line ∙ ap (λ k. places_of l.lines ++ record { key = k; host = line.host; index = length l.lines } ∷ []) (key_more line.host l.lines line refl ∙ sym key_is)));
  highest = λ h at. rw (highest, lines) (elim (eqb_tells h line.host) [
    | inl same ↦
        let lt : line.host < length l.highest.items = omega (arith, placed.hosts) in
        ap (λ n. slice_index_or (slice_set l.highest.items line.host key) n None) same.1 ∙ get_or-set_same l.highest.items line.host key None lt ∙ key_is ∙ sym (key_more line.host l.lines line refl) ∙ ap (λ n. key_of n (l.lines ++ line ∷ [])) (sym same.1)
    | inr other ↦ get_or-set_other l.highest.items line.host h key None other.1 ∙ placed.highest h at ∙ sym (key_other h l.lines line (λ e. other.1 (sym e)))
  ]);
  hosts = ap length highest ∙ length-set l.highest.items line.host key ∙ placed.hosts;
  few = rw lines (omega (arith, length-append l.lines (line ∷ [])));
}
  where
    key_is : key ≡ greater (key_of line.host l.lines) (earliest_of line.time)
    key_is = is ∙ ap (λ k. greater k (earliest_of line.time)) (placed.highest line.host host)

none_in_front : (first : LogLine) (lines : List LogLine) (line : LogLine) (b : Bool) → (first.host == line.host) ≡ b → is_below (latest_of line.time) (key_of line.host (first ∷ lines)) ≡ false
    → (is_below (latest_of line.time) (key_of line.host lines) ≡ false) × (goes_back line first ≡ false)
none_in_front first lines line false e h = (rw e at h, rw e refl)
none_in_front first lines line true e h =
    let both = or_is_false _ _ (sym (below_greater (latest_of line.time) (earliest_of first.time) (key_of line.host lines)) ∙ (rw e at h)) in
    (both.1, rw e both.0)

none_before : (lines : List LogLine) (line : LogLine) → is_below (latest_of line.time) (key_of line.host lines) ≡ false → position_or_len (goes_back line) lines ≡ length lines
none_before [] line h = refl
none_before (first ∷ lines) line h =
    let front = none_in_front first lines line (first.host == line.host) refl h in
    rw (front.1, none_before lines line front.0) (omega arith)

-- no line goes back behind lines whose greatest earliest point is not above its latest
pub none_contrary : (lines : List LogLine) (line : LogLine) → is_below (latest_of line.time) (key_of line.host lines) ≡ false → first_contrary lines line ≡ None
none_contrary lines line h = rw (none_before lines line h, not_less (length lines)) refl
  where
    not_less : (n : ℕ) → nat_lt n n ≡ false
    not_less n = grind arith

-- a number that comes of an index is one more
pub some_mapped : (o : Option ℕ) (n : ℕ) → option_map (λ index. index + 1) o ≡ Some n → (index : ℕ) × (o ≡ Some index) × (n ≡ index + 1)
some_mapped None n e = absurd (cc)
some_mapped (Some index) n e = (index, refl, cc)

-- an item that is there, whatever stands for one that is not
pub item_there : (xs : List (Option ℤ)) (i : ℕ) (x : Option ℤ) → i < length xs → x ≡ slice_index_or xs i x → slice_index_or xs i None ≡ x
item_there [] i x lt e = absurd (omega arith)
item_there (y ∷ xs) zero x lt e = sym e
item_there (y ∷ xs) (suc i) x lt e = item_there xs i x (omega arith) e
