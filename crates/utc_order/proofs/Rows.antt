-- What the definitions give at some lines. Times are in seconds from 1970-01-01 in the lines' texts.
use Rattle.std.proofs.Common.{◌≡◌, ℕ, ◌+◌, ◌*◌, zero, suc, List, [], ◌∷◌, ◌++◌, Some, None, refl, pos, arith}
use Rattle.std.specs.Prelude.{◌<◌, false, codes, slice_index_or}
use Rattle.std.specs.Ordering.{is_lt}
use Rattle.line_reader.specs.Fields.{fields_of}
use Rattle.utc_value.specs.Stamp.{absolute_stamp}
use Rattle.utc_order.specs.declared.place.Place.{Place}
use Rattle.utc_order.specs.Lines.{LogLine, field}
use Rattle.utc_order.specs.Places.{places_of, place_cmp, IsOrder, lines_at}
use Rattle.utc_order.specs.Marks.{text_of}
use Rattle.utc_order.specs.Taking.{first_contrary}

-- the count of 1970-01-01
abbrev epoch : ℕ
epoch = 122_192_928_000_000_000

-- a line with a time of so many seconds, and an inaccuracy of so many
abbrev line_at : ℕ → ℕ → ℕ → List ℕ → LogLine
line_at host time inaccuracy octets = record { host = host; time = absolute_stamp (pos (epoch + time * 10_000_000)) (Some (inaccuracy * 10_000_000)) (pos 0); octets = octets }

abbrev a_text : List ℕ
a_text = codes "0 1970-01-01-00:00:10I1 a"

abbrev b_text : List ℕ
b_text = codes "1 1970-01-01-00:00:05I0 b"

abbrev c_text : List ℕ
c_text = codes "0 1970-01-01-00:00:12I4 c"

abbrev three : List LogLine
three = line_at 0 10 1 a_text ∷ line_at 1 5 0 b_text ∷ line_at 0 12 4 c_text ∷ []

abbrev place : ℕ → ℕ → ℕ → Place
place key host index = record { key = Some (pos (epoch + key * 10_000_000)); host = host; index = index }

abbrev three_ordered : List Place
three_ordered = place 5 1 1 ∷ place 9 0 0 ∷ place 9 0 2 ∷ []

a_key_does_not_fall : places_of three ≡ place 9 0 0 ∷ place 5 1 1 ∷ place 9 0 2 ∷ []
a_key_does_not_fall = refl

three_lines_have_an_order : IsOrder three three_ordered
three_lines_have_an_order = record {
  each_once = record { moves = (0, 1) ∷ []; below = (omega arith, omega arith, tt); is = refl };
  sorted = λ k d low high. by_index k d high;
}
  where
    by_index : (k : ℕ) (d : Place) → k + 1 < 3 → is_lt (place_cmp (slice_index_or three_ordered (k + 1) d) (slice_index_or three_ordered k d)) ≡ false
    by_index zero d high = refl
    by_index (suc zero) d high = refl
    by_index (suc (suc k)) d high = absurd (omega arith)

three_lines_are_marked : text_of (lines_at three three_ordered) ≡ (codes "< " ++ b_text ++ 10 ∷ []) ++ (codes "< " ++ a_text ++ 10 ∷ []) ++ (codes "~ " ++ c_text ++ 10 ∷ [])
three_lines_are_marked = refl

no_lines_have_no_text : text_of (lines_at [] []) ≡ []
no_lines_have_no_text = refl

a_line_goes_back_behind_the_first : first_contrary (line_at 0 10 1 a_text ∷ []) (line_at 0 5 1 (codes "0 1970-01-01-00:00:05I1 d")) ≡ Some 0
a_line_goes_back_behind_the_first = refl

a_line_that_touches_does_not_go_back : first_contrary (line_at 0 10 1 a_text ∷ []) (line_at 0 8 1 []) ≡ None
a_line_that_touches_does_not_go_back = refl

another_host_may_be_earlier : first_contrary (line_at 0 10 1 a_text ∷ []) (line_at 1 5 1 []) ≡ None
another_host_may_be_earlier = refl

-- a line with an unspecified inaccuracy
abbrev unspecified : LogLine
unspecified = record { host = 2; time = absolute_stamp (pos epoch) None (pos 0); octets = codes "u" }

nothing_is_certainly_later_than_an_unspecified_line : text_of (unspecified ∷ line_at 1 5 0 (codes "b") ∷ []) ≡ codes "< u" ++ 10 ∷ codes "~ b" ++ 10 ∷ []
nothing_is_certainly_later_than_an_unspecified_line = refl

a_host_without_a_point_has_no_key : places_of (unspecified ∷ []) ≡ record { key = None; host = 2; index = 0 } ∷ []
a_host_without_a_point_has_no_key = refl

the_time_stands_in_the_second_field : field (codes "0 1970-01-01-00:00:10I1 a b") 1 ≡ codes "1970-01-01-00:00:10I1"
unfolding fields_of
the_time_stands_in_the_second_field = refl

a_line_of_a_host_alone_has_no_time : field (codes "5") 1 ≡ []
unfolding fields_of
a_line_of_a_host_alone_has_no_time = refl
