use Rattle.std.proofs.Common.{◌≡◌, ℕ, List, [], ◌∷◌, ◌&&◌, refl, ap, ◌∙◌, rules, tests}
use Rattle.std.specs.Char.{is_ascii_digit}
use Rattle.std.specs.List.{list_all}
use Rattle.std.specs.Str.{all_ascii_digits}
use Rattle.std.proofs.lemmas.Iterator.{YieldsList-from_slice}
use Rattle.std.proofs.lemmas.Iterator.Search.{all_from_yields_List}
use Rattle.line_reader.proofs.number.are_digits.Goals as goal

same : (xs : List ℕ) → list_all is_ascii_digit xs ≡ all_ascii_digits xs
same [] = refl
same (x ∷ xs) = ap (λ b. is_ascii_digit x && b) (same xs)

pub returns : goal.returns
returns c =
    let octets = c.args.octets.now in
    all_from_yields_List is_ascii_digit _ _ c.all.result c.all.ensures.ran (YieldsList-from_slice octets cc) (λ x b q k. search (rules, tests)) ∙ same octets
