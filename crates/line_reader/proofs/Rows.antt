-- What the definitions give at some octets: a line feed is 10, a space is 32.
use Rattle.std.proofs.Common.{◌≡◌, [], ◌∷◌, refl}
use Rattle.std.specs.Prelude.{codes}
use Rattle.line_reader.specs.Lines.{lines_of, whole_lines}
use Rattle.line_reader.specs.Fields.{fields_of, column_of}

no_octet_has_no_line : lines_of [] ≡ []
unfolding lines_of
no_octet_has_no_line = refl

a_feed_at_the_end_begins_no_line : lines_of (97 ∷ 10 ∷ 10 ∷ 98 ∷ 10 ∷ []) ≡ codes "a" ∷ [] ∷ codes "b" ∷ []
unfolding lines_of
a_feed_at_the_end_begins_no_line = refl

the_last_line_may_lack_its_feed : lines_of (97 ∷ 13 ∷ 10 ∷ 98 ∷ 99 ∷ []) ≡ (97 ∷ 13 ∷ []) ∷ codes "bc" ∷ []
unfolding lines_of
the_last_line_may_lack_its_feed = refl

a_line_without_its_feed_is_not_whole : whole_lines (97 ∷ 13 ∷ 10 ∷ 98 ∷ 99 ∷ []) ≡ (97 ∷ 13 ∷ []) ∷ []
unfolding whole_lines
a_line_without_its_feed_is_not_whole = refl

each_line_with_its_feed_is_whole : whole_lines (97 ∷ 10 ∷ 10 ∷ 98 ∷ 10 ∷ []) ≡ codes "a" ∷ [] ∷ codes "b" ∷ []
unfolding whole_lines
each_line_with_its_feed_is_whole = refl

fields_are_cut_at_each_space : fields_of (codes " ab  c") ≡ [] ∷ codes "ab" ∷ [] ∷ codes "c" ∷ []
unfolding fields_of
fields_are_cut_at_each_space = refl

an_empty_line_has_one_field : fields_of [] ≡ [] ∷ []
unfolding fields_of
an_empty_line_has_one_field = refl

columns_count_from_one : column_of (codes "ab  c") (codes "ab" ∷ [] ∷ codes "c" ∷ []) ≡ 1
columns_count_from_one = refl

an_empty_field_has_a_column : column_of (codes "ab  c") ([] ∷ codes "c" ∷ []) ≡ 4
an_empty_field_has_a_column = refl

the_end_has_the_next_column : column_of (codes "ab  c") [] ≡ 6
the_end_has_the_next_column = refl
