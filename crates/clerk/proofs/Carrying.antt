-- Answers are put at the front of a list, one after the other.
use Rattle.std.proofs.Common.{◌≡◌, ◌∙◌, ap, sym, ℕ, ℤ, ◌+◌, ◌<◌, ◌≤◌, List, [], ◌∷◌, ◌++◌, Option, map, take, length}
use Rattle.std.specs.List.{filter_map, cons_option}
use Rattle.std.proofs.lemmas.List.{take_more, take_more_set, map-append, length-map, length-take-le}
use Rattle.std.proofs.lemmas.List.Elements.{filter_map-append}
use Rattle.dts_base.specs.declared.interval.Interval.{Interval}
use Rattle.intersection.specs.Adoption.{ends_of}
use lib.ListN.{get_or, set}

-- the list of what h gives goes on with what it gives of the next item
pub given_more : {Q Y : Type 0} (h : Q → Option Y) (qs : List Q) (k : ℕ) (d : Q) (o : Option Y) → k < length qs → h (get_or qs k d) ≡ o
    → filter_map h (take (k + 1) qs) ≡ filter_map h (take k qs) ++ cons_option o []
given_more h qs k d o in' is =
    ap (filter_map h) (take_more qs k d in')
    ∙ filter_map-append h (take k qs) (get_or qs k d ∷ [])
    ∙ ap (λ x. filter_map h (take k qs) ++ cons_option x []) is

-- an answer that is put behind those that are there
pub put_more : (to : List Interval) (n : ℕ) (i : Interval) (answers : List (ℤ × ℤ)) → n < length to → map ends_of (take n to) ≡ answers
    → map ends_of (take (n + 1) (set to n i)) ≡ answers ++ ends_of i ∷ []
put_more to n i answers room so =
    ap (map ends_of) (take_more_set to n i room)
    ∙ map-append ends_of (take n to) (i ∷ [])
    ∙ ap (λ s. s ++ ends_of i ∷ []) so

-- how many they are
pub taken_length : (to : List Interval) (n : ℕ) (answers : List (ℤ × ℤ)) → n ≤ length to → map ends_of (take n to) ≡ answers → length answers ≡ n
taken_length to n answers room so = ap length (sym so) ∙ length-map (take n to) ends_of ∙ length-take-le n to room
