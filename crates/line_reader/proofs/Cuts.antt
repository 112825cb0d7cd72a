-- Where a text is cut into fields.
use Rattle.std.proofs.Common.{◌≡◌, ℕ, ◌+◌, ◌-◌, ◌<◌, ◌≤◌, List, [], ◌∷◌, length, take, drop, Bool, true, false, cond, Some, None, refl, arith, rules}
use Rattle.std.specs.List.{position, position_or_len}
use Rattle.std.specs.Prelude.{◌==◌}
use Rattle.std.proofs.lemmas.List.Splits.{slice_split_first, slice_split_none}
use Rattle.std.proofs.lemmas.List.Sums.{fails_before_first}
use Rattle.std.proofs.lemmas.Option.{cond_some}
use Rattle.std.proofs.lemmas.Grind.{common_steps}
use Rattle.line_reader.specs.Fields.{fields_of}

-- the first field ends at the first space
pub space_found : (text : List ℕ) (i : ℕ) → position (λ octet. octet == 32) text ≡ Some i → fields_of text ≡ take i text ∷ fields_of (take (length text - (i + 1)) (drop (i + 1) text))
unfolding fields_of
space_found text i found =
    let p = cond_some _ _ _ found in
    let e : position_or_len (λ octet. octet == 32) text ≡ i = p.1 in
    let small : position_or_len (λ octet. octet == 32) text < length text = search rules in
    let cut = slice_split_first (λ octet. octet == 32) text 0 small in
    let whole : take (length text - (i + 1)) (drop (i + 1) text) ≡ drop (i + 1) text = grind (arith, common_steps) in
    rw (whole, ← e) cut

some-none : {A : Type 0} (b : Bool) (x : A) → cond b (Some x) None ≡ None → b ≡ false
some-none true x h = cc
some-none false x h = refl

-- a text without a space is one field
pub space_missing : (text : List ℕ) → position (λ octet. octet == 32) text ≡ None → fields_of text ≡ text ∷ []
unfolding fields_of
space_missing text missing =
    let n = some-none _ _ missing in
    let all : length text ≤ position_or_len (λ octet. octet == 32) text = search rules in
    slice_split_none (λ octet. octet == 32) text (λ k d h. fails_before_first (λ octet. octet == 32) text k d (omega arith))
