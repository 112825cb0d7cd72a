-- The fields of a line, as they are taken one after the other.
use Rattle.std.proofs.Common.{◌≡◌, ℕ, ◌-◌, List, [], length, drop, ap, ◌∙◌, arith}
use Rattle.std.specs.Prelude.{slice_index_or}
use Rattle.std.proofs.lemmas.Grind.{get_or_after_one}
use Rattle.std.proofs.lemmas.List.{length-drop}
use Rattle.line_reader.specs.Fields.{fields_of, Cut}
use Rattle.utc_order.specs.Lines.{field}

module _ (octets : List ℕ) (new second third : Cut) (is : new ≡ record { line = octets; left = fields_of octets; column = 1 }) where
  pub first_field : (text : List ℕ) → text ≡ slice_index_or new.left 0 [] → text ≡ field octets 0
  first_field text e = e ∙ ap (λ (c : Cut). slice_index_or c.left 0 []) is

  module _ (behind : second.left ≡ drop 1 new.left) where
    left_second : second.left ≡ drop 1 (fields_of octets)
    left_second = behind ∙ ap (λ (c : Cut). drop 1 c.left) is

    pub second_field : (text : List ℕ) → text ≡ slice_index_or second.left 0 [] → text ≡ field octets 1
    second_field text e = e ∙ ap (λ fs. slice_index_or fs 0 []) left_second ∙ get_or_after_one (fields_of octets) 0 []

    pub third_length : third.left ≡ drop 1 second.left → length third.left ≡ length (fields_of octets) - 2
    third_length e = ap length (e ∙ ap (drop 1) left_second) ∙ length-drop 1 (drop 1 (fields_of octets)) ∙ ap (λ n. n - 1) (length-drop 1 (fields_of octets)) ∙ omega arith
