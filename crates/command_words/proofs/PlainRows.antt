-- What stands in the rows of options in plain form, with the defaults of those that are not given.
use Rattle.std.proofs.Common.{◌≡◌, ◌∙◌, ◌≤◌, ◌||◌, ◌&&◌, ℕ, Bool, true, false, not, cond, fold, List, [], ◌∷◌, ◌++◌, map, Option, Some, None, refl, sym, ap, ap₂, subst, find, if◌then◌else◌, true≢false, option_and_then, option_map, unwrap_or, length, arith, eqb-true}
use Rattle.std.specs.Prelude.{bytes_eq, slice_get}
use Rattle.std.specs.List.{list_all}
use Rattle.std.proofs.lemmas.Bool.{not-true}
use Rattle.std.proofs.lemmas.Slice.Eq.{bytes_eq-Decides}
use Rattle.std.specs.Option.{option_map_or, option_or}
use Rattle.std.specs.Str.Parse.{digits_value}
use Rattle.std.proofs.lemmas.List.Folds.{find-append, list_any-append}
use Rattle.clap.specs.Words.{Row, Rule, Text, first_of}
use Rattle.clap.specs.Walk.{default_rows, has_row, is_empty, more_values, reading_by, with_default}
use Rattle.clap.specs.declared.builder.value_parser.Reading.{Reading}
use Rattle.clap.specs.declared.parser.matches.ValueSource.TheVariants as source
use Rattle.command_words.specs.Words.{number_in}
use Rattle.command_words.specs.Plain.{Given, HalfOption, IsInItsRange, is_of, most_of, name_of, value_of, turns, start, inaccuracy, workers}
use Rattle.command_words.proofs.PlainValues.{both, number_in_range}
use Rattle.command_words.proofs.PlainOptions.{at_no_row, row_for}

-- whether there is a row of the id, and the first value in it
abbrev pub look : Text → List Row → Bool × Option Text
look id rows = (has_row id rows, first_of id rows)

-- the row of a default
abbrev default_row : Text → Reading → List Text → Row
default_row id how values = record { id = id; values = values; count = None; source = Some source.DefaultValue; reading = how }

or_none : {A : Type 0} (x : Option A) → option_or x None ≡ x
or_none None = refl
or_none (Some a) = refl

or_false : (b : Bool) → (b || false) ≡ b
or_false true = refl
or_false false = refl

-- one more row, of another id
other_row : (id : Text) (rows : List Row) (r : Row) → bytes_eq r.id id ≡ false → look id (rows ++ r ∷ []) ≡ look id rows
other_row id rows r e =
    ap₂ (λ (b : Bool) (f : Option Row). (b, option_and_then (λ r. slice_get r.values 0) f))
    (list_any-append (λ (r : Row). bytes_eq r.id id) rows (r ∷ []) ∙ ap (λ b. has_row id rows || (b || false)) e ∙ or_false (has_row id rows))
    (find-append (λ (r : Row). bytes_eq r.id id) rows (r ∷ []) ∙ ap (λ b. option_or (find (λ (r : Row). bytes_eq r.id id) rows) (cond b (Some r) None)) e ∙ or_none (find (λ (r : Row). bytes_eq r.id id) rows))

-- the default of another argument
other_default : (id : Text) (rows : List Row) (a : Rule) → bytes_eq a.id id ≡ false → look id (with_default rows a) ≡ look id rows
other_default id rows a e = go (has_row a.id rows) refl
  where
    by_values : (values : List Text) → has_row a.id rows ≡ false → look id (default_rows a.id (reading_by a) values rows) ≡ look id rows
    by_values [] none = refl
    by_values (v ∷ vs) none =
        ap (look id) (at_no_row a.id (more_values source.DefaultValue (v ∷ vs)) (default_row a.id (reading_by a) (v ∷ vs) ∷ []) rows none)
        ∙ other_row id rows (default_row a.id (reading_by a) (v ∷ vs)) e

    go : (b : Bool) → has_row a.id rows ≡ b → look id (if b then rows else default_rows a.id (reading_by a) a.defaults rows) ≡ look id rows
    go true there = refl
    go false none = by_values a.defaults none

-- an argument without a default
no_default : (id : Text) (rows : List Row) (a : Rule) → a.defaults ≡ [] → look id (with_default rows a) ≡ look id rows
no_default id rows a e = go (has_row a.id rows) ∙ refl
  where
    go : (b : Bool) → look id (if b then rows else default_rows a.id (reading_by a) a.defaults rows) ≡ look id rows
    go true = refl
    go false = ap (λ values. look id (default_rows a.id (reading_by a) values rows)) e

nothing_found : (id : Text) (rows : List Row) → has_row id rows ≡ false → find (λ (r : Row). bytes_eq r.id id) rows ≡ None
nothing_found id [] e = refl
nothing_found id (r ∷ rows) e = go (bytes_eq r.id id) e (nothing_found id rows)
  where
    go : (b : Bool) → (b || has_row id rows) ≡ false → (has_row id rows ≡ false → find (λ (r : Row). bytes_eq r.id id) rows ≡ None) → cond b (Some r) (find (λ (r : Row). bytes_eq r.id id) rows) ≡ None
    go true e rest = absurd (true≢false e)
    go false e rest = rest e

-- what stands for an argument, given or not
abbrev pub given_or : Text → Bool × Option Text → Option Text
given_or v found = if found.0 then found.1 else Some v

-- an argument with a default
own_default : (rows : List Row) (a : Rule) (v : Text) → a.defaults ≡ v ∷ [] → bytes_eq a.id a.id ≡ true → first_of a.id (with_default rows a) ≡ given_or v (look a.id rows)
own_default rows a v e same = go (has_row a.id rows) refl
  where
    go : (b : Bool) → has_row a.id rows ≡ b → first_of a.id (if b then rows else default_rows a.id (reading_by a) a.defaults rows) ≡ (if b then first_of a.id rows else Some v)
    go true there = refl
    go false none =
        ap (λ values. first_of a.id (default_rows a.id (reading_by a) values rows)) e
        ∙ ap (first_of a.id) (at_no_row a.id (more_values source.DefaultValue (v ∷ [])) (default_row a.id (reading_by a) (v ∷ []) ∷ []) rows none)
        ∙ ap (λ f. option_and_then (λ (r : Row). slice_get r.values 0) f)
        (find-append (λ (r : Row). bytes_eq r.id a.id) rows (default_row a.id (reading_by a) (v ∷ []) ∷ [])
        ∙ ap₂ (λ f b. option_or f (cond b (Some (default_row a.id (reading_by a) (v ∷ []))) None)) (nothing_found a.id rows none) same)

-- ---- the defaults of a list of arguments

-- none of the id has a default
abbrev pub has_none : Text → List Rule → Bool
has_none id = list_all (λ a. not (bytes_eq a.id id) || is_empty a.defaults)

abbrev pub is_default : Text → List Text → Bool
is_default v (x ∷ []) = bytes_eq x v
is_default v _ = false

-- the first of the id has this default, and no other is of the id
abbrev pub has_default : Text → Text → List Rule → Bool
has_default id v [] = false
has_default id v (a ∷ rest) = if bytes_eq a.id id then is_default v a.defaults && list_all (λ b. not (bytes_eq b.id id)) rest else has_default id v rest

same_text : (a b : Text) → bytes_eq a b ≡ true → a ≡ b
same_text a b e = (bytes_eq-Decides a b).0 e

only_default : (v : Text) (values : List Text) → is_default v values ≡ true → values ≡ v ∷ []
only_default v [] e = absurd (true≢false (sym e))
only_default v (x ∷ []) e = ap (λ y. y ∷ []) (same_text x v e)
only_default v (x ∷ y ∷ values) e = absurd (true≢false (sym e))

others_last : (id : Text) (rules : List Rule) → list_all (λ b. not (bytes_eq b.id id)) rules ≡ true → (rows : List Row) → look id (fold with_default rows rules) ≡ look id rows
others_last id [] e rows = refl
others_last id (a ∷ rest) e rows =
    let parts = both (not (bytes_eq a.id id)) (list_all (λ b. not (bytes_eq b.id id)) rest) e in
    others_last id rest parts.1 (with_default rows a) ∙ other_default id rows a (not-true (bytes_eq a.id id) parts.0)

empty_is : (values : List Text) → is_empty values ≡ true → values ≡ []
empty_is [] e = refl
empty_is (v ∷ values) e = let none = eqb-true (length (v ∷ values)) 0 e in absurd (omega (arith, none))

pub none_last : (id : Text) (rules : List Rule) → has_none id rules ≡ true → (rows : List Row) → look id (fold with_default rows rules) ≡ look id rows
none_last id [] e rows = refl
none_last id (a ∷ rest) e rows =
    let parts = both (not (bytes_eq a.id id) || is_empty a.defaults) (has_none id rest) e in
    none_last id rest parts.1 (with_default rows a) ∙ go (bytes_eq a.id id) refl parts.0
  where
    go : (b : Bool) → bytes_eq a.id id ≡ b → (not b || is_empty a.defaults) ≡ true → look id (with_default rows a) ≡ look id rows
    go true is e = no_default id rows a (empty_is a.defaults e)
    go false is e = other_default id rows a is

pub default_last : (id v : Text) (rules : List Rule) → has_default id v rules ≡ true → (rows : List Row) → first_of id (fold with_default rows rules) ≡ given_or v (look id rows)
default_last id v [] e rows = absurd (true≢false (sym e))
default_last id v (a ∷ rest) e rows = go (bytes_eq a.id id) refl e (λ later. default_last id v rest later (with_default rows a))
  where
    go : (b : Bool) → bytes_eq a.id id ≡ b → (if b then is_default v a.defaults && list_all (λ b. not (bytes_eq b.id id)) rest else has_default id v rest) ≡ true
        → (has_default id v rest ≡ true → first_of id (fold with_default (with_default rows a) rest) ≡ given_or v (look id (with_default rows a)))
        → first_of id (fold with_default (with_default rows a) rest) ≡ given_or v (look id rows)
    go true is e later =
        let parts = both (is_default v a.defaults) (list_all (λ b. not (bytes_eq b.id id)) rest) e in
        let same = same_text a.id id is in
        ap (λ p. p.1) (others_last id rest parts.1 (with_default rows a))
        ∙ subst (λ i. first_of i (with_default rows a) ≡ given_or v (look i rows)) same (own_default rows a v (only_default v a.defaults parts.0) (subst (λ i. bytes_eq a.id i ≡ true) (sym same) is))
    go false is e later = later e ∙ ap (given_or v) (other_default id rows a is)

-- ---- the values of options

same_most : (o p : HalfOption) → bytes_eq (name_of p) (name_of o) ≡ true → most_of p ≡ most_of o
same_most turns turns e = refl
same_most turns start e = cc
same_most turns inaccuracy e = cc
same_most turns workers e = cc
same_most start turns e = cc
same_most start start e = refl
same_most start inaccuracy e = cc
same_most start workers e = cc
same_most inaccuracy turns e = cc
same_most inaccuracy start e = cc
same_most inaccuracy inaccuracy e = refl
same_most inaccuracy workers e = cc
same_most workers turns e = cc
same_most workers start e = cc
same_most workers inaccuracy e = cc
same_most workers workers e = refl

abbrev pub AreInRange : List Given → Type 0
AreInRange [] = Unit {0}
AreInRange (g ∷ given) = IsInItsRange g × AreInRange given

given_number : (o : HalfOption) (g : Given) → IsInItsRange g → is_of o g ≡ true → number_in (most_of o) g.text ≡ Some (digits_value 10 g.text)
given_number o g right e = number_in_range (most_of o) g.text right.plain (subst (λ most. digits_value 10 g.text ≤ most) (same_most o g.option e) right.most)

-- with a default
pub value_found : (o : HalfOption) (v : Text) (n : ℕ) (given : List Given) → number_in (most_of o) v ≡ Some n → AreInRange given
    → option_and_then (number_in (most_of o)) (given_or v (look (name_of o) (map row_for given))) ≡ Some (unwrap_or (value_of o given) n)
value_found o v n [] e right = e
value_found o v n (g ∷ given) e (now, right) = go (is_of o g) refl (value_found o v n given e right)
  where
    rest : Bool × Option Text
    rest = look (name_of o) (map row_for given)

    go : (b : Bool) → is_of o g ≡ b → option_and_then (number_in (most_of o)) (given_or v (look (name_of o) (map row_for given))) ≡ Some (unwrap_or (value_of o given) n)
        → option_and_then (number_in (most_of o)) (if b || has_row (name_of o) (map row_for given) then option_and_then (λ (r : Row). slice_get r.values 0) (cond b (Some (row_for g)) (find (λ (r : Row). bytes_eq r.id (name_of o)) (map row_for given))) else Some v)
        ≡ Some (unwrap_or (if b then Some (digits_value 10 g.text) else value_of o given) n)
    go true is later = given_number o g now is
    go false is later = later

-- without one
pub value_given : (o : HalfOption) (given : List Given) → AreInRange given
    → option_map_or (λ text. option_map (λ n. Some n) (number_in (most_of o) text)) (first_of (name_of o) (map row_for given)) (Some None) ≡ Some (value_of o given)
value_given o [] right = refl
value_given o (g ∷ given) (now, right) = go (is_of o g) refl (value_given o given right)
  where
    go : (b : Bool) → is_of o g ≡ b → option_map_or (λ text. option_map (λ n. Some n) (number_in (most_of o) text)) (first_of (name_of o) (map row_for given)) (Some None) ≡ Some (value_of o given)
        → option_map_or (λ text. option_map (λ n. Some n) (number_in (most_of o) text)) (option_and_then (λ (r : Row). slice_get r.values 0) (cond b (Some (row_for g)) (find (λ (r : Row). bytes_eq r.id (name_of o)) (map row_for given)))) (Some None)
        ≡ Some (if b then Some (digits_value 10 g.text) else value_of o given)
    go true is later = ap (λ x. option_map (λ n. Some n) x) (given_number o g now is)
    go false is later = later
